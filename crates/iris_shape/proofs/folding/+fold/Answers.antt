use Rattle.std.proofs.Common.{◌≡◌, ◌<◌, ◌/◌, ◌^◌, length, ap, sym, ◌∙◌, arith}
use Rattle.iris_shape.specs.Folds.{IsEven}
use Rattle.iris_shape.specs.Made.{made_fold}
use Rattle.iris_shape.proofs.Lists.{even_fold, halves, built}
use Rattle.iris_shape.proofs.folding.+fold.Goals as goal
use Rattle.std.proofs.lemmas.Bool.{both_ways}

pub returns-then-is_even : goal.returns-then-is_even
returns-then-is_even t c = λ level e. ap made_fold (sym (even_fold c.args.versions.now level e (c.is_even.ensures.0 c.if-is_even.true)))

pub fold-requires : goal.fold-requires
fold-requires t c =
    let n : IsEven c.args.versions.now → ⊥ = λ h. both_ways c.is_even.result c.if-is_even.false (c.is_even.ensures.1 h) in
    let h = halves c.args.versions.now c.requires n in
    let e = c.split_at.ensures.front_len in
    let lt : length c.args.versions.now / 2 < length c.args.versions.now = h.0 in
    (omega (arith, e, lt), (h.1.0, e ∙ h.1.1))

pub fold-requires-2 : goal.fold-requires-2
fold-requires-2 t c =
    let n : IsEven c.args.versions.now → ⊥ = λ h. both_ways c.is_even.result c.if-is_even.false (c.is_even.ensures.1 h) in
    let h = halves c.args.versions.now c.requires n in
    let lt : length c.args.versions.now / 2 < length c.args.versions.now = h.0 in
    let i = h.1.1 in
    let j = h.1.2 in
    let e : length c.split_at.result.1.now ≡ 2 ^ h.1.0 = omega (arith, i, j, c.split_at.ensures.back_len) in
    (omega (arith, e, i, lt), (h.1.0, e))

pub returns : goal.returns
returns t c =
    let n : IsEven c.args.versions.now → ⊥ = λ h. both_ways c.is_even.result c.if-is_even.false (c.is_even.ensures.1 h) in
    λ level e. built c.args.versions.now c.split_at.result.0.now c.split_at.result.1.now level c.in_ok-fold.field-0 c.in_ok-fold-2.field-0 c.in_ok-low.low c.in_ok-high.high e n
    c.split_at.ensures.front c.split_at.ensures.back c.in_ok-fold.ensures c.in_ok-fold-2.ensures c.in_ok-low.ensures c.in_ok-high.ensures
