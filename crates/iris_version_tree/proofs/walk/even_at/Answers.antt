use Rattle.std.proofs.Common.{◌≡◌, ◌+◌, ◌-◌, ◌/◌, ◌^◌, ◌%◌, ◌≤◌, ℕ, suc, sym, ap, ◌∙◌, subst, arith}
use Rattle.std.proofs.lemmas.Result.{err_from_is_err_and}
use Rattle.iris_name.specs.declared.name.Name.TheVariants as name
use Rattle.iris_name.specs.declared.note.Expect.TheVariants.{Hash}
use Rattle.iris_node.specs.declared.node.Side.{Side}
use Rattle.iris_node.specs.declared.node.Side.TheVariants.{Below}
use Rattle.iris_shape.specs.Folds.{One, folded}
use Rattle.iris_version_tree.specs.Sides.{side_toward}
use Rattle.iris_version_tree.specs.Reached.{IsSideOf, Reached}
use Rattle.iris_version_tree.proofs.Levels.{fits_at}
use Rattle.iris_version_tree.proofs.Tables.{same_one, below_two}
use Rattle.iris_version_tree.proofs.Walks.{reached_top, lacks_at, lack_is, step_down, no_part, no_floor}
use Rattle.iris_version_tree.proofs.walk.even_at.Goals as goal

pub loop-step-init : goal.loop-step-init
loop-step-init c = λ old new v pic.
    let z : 0 ≡ c.args.place / 65536 = omega (arith, c.requires.within) in
    subst (λ i. Reached c.args.draft.now c.args.cache.now c.args.file v 16 i c.top_side-side.result) z
    (reached_top old new c.args.draft.now c.args.cache.now c.args.file v c.top_side-side.result pic c.top_side-side.ensures.side)

pub returns-in-Fold-clause-even : goal.returns-in-Fold-clause-even
returns-in-Fold-clause-even c = λ old new v pic.
    let n = 16 - c.loop-step.step in
    let g = folded v n (c.args.place / 2 ^ n) in
    same_one g c.in-Fold.version (subst (IsSideOf g) c.in-Fold.is (c.loop-step.invariant old new v pic).like)

pub returns-in_err-part-clause-short : goal.returns-in_err-part-clause-short
returns-in_err-part-clause-short c =
    let p = err_from_is_err_and c.from_residual.result c.from_residual.ensures.1 in
    let n = 16 - c.loop-step.step in
    let le : n ≤ 16 = omega arith in
    let d = c.args.draft.now in
    let w = c.args.cache.now in
    rw (p.1, p.2) (lack_is d w c.args.file c.args.place (c.args.place + 1) c.in_err-part.field-0.0 (name.Part c.args.file n (c.args.place / 2 ^ n)) (Hash c.in-Below.hash) c.in_err-part.ensures.need
    (lacks_at d w c.args.file c.args.place n c.in-Below.hash le (fits_at n c.args.place le c.requires.within) c.in_err-part.ensures.missing
    (λ old new v pic. subst (λ s. Reached d w c.args.file v n (c.args.place / 2 ^ n) s) c.in-Below.is (c.loop-step.invariant old new v pic))))

pub returns-in_default-clause-even : goal.returns-in_default-clause-even
returns-in_default-clause-even c = λ old new v pic.
    let n = 16 - c.loop-step.step in
    let le : n ≤ 16 = omega arith in
    let g = folded v n (c.args.place / 2 ^ n) in
    let two = below_two g c.in-Below.hash (subst (IsSideOf g) c.in-Below.is (c.loop-step.invariant old new v pic).like) in
    absurd (no_part old new c.args.draft.now c.args.cache.now c.args.file v n (c.args.place / 2 ^ n) pic (fits_at n c.args.place le c.requires.within) two c.in_ok-part.ensures.known (sym c.in_default.is ∙ c.in_ok-part.ensures.part))

pub loop-step-preserved : goal.loop-step-preserved
loop-step-preserved c = λ old new v pic.
    let n = 16 - c.loop-step.step in
    let k = 16 - (c.loop-step.step + 1) in
    let e : n ≡ suc k = omega arith in
    let le : n ≤ 16 = omega arith in
    let d = c.args.draft.now in
    let w = c.args.cache.now in
    let z : n - 1 ≡ k = omega arith in
    let s = step_down old new d w c.args.file v c.args.place k n c.in-Some.part e pic (omega arith) (fits_at n c.args.place le c.requires.within) (sym c.in-Some.is ∙ c.in_ok-part.ensures.part) in
    subst (λ s. Reached d w c.args.file v k (c.args.place / 2 ^ k) s) (ap (λ k. side_toward ((c.args.place / 2 ^ k) % 2) c.in-Some.part) (sym z) ∙ sym c.half_toward-side.ensures) s

pub returns-in-Fold-side-clause-even : goal.returns-in-Fold-side-clause-even
returns-in-Fold-side-clause-even c = λ old new v pic.
    let n = 16 - c.loop-step.step in
    let z : n ≡ 0 = omega arith in
    let g = folded v n (c.args.place / 2 ^ n) in
    let at = same_one g c.in-Fold-side.version (subst (IsSideOf g) c.in-Fold-side.is (c.loop-step.invariant old new v pic).like) in
    subst (λ n. folded v n (c.args.place / 2 ^ n) ≡ One c.in-Fold-side.version) z at

pub returns-in-Below-side-clause-even : goal.returns-in-Below-side-clause-even
returns-in-Below-side-clause-even c = λ old new v pic.
    let n = 16 - c.loop-step.step in
    let z : n ≡ 0 = omega arith in
    let Q : ℕ → Side → Type 0 = λ n s. IsSideOf (folded v n (c.args.place / 2 ^ n)) s in
    absurd (no_floor v (c.args.place / 2 ^ 0) c.in-Below-side.field-0 (subst (λ n. Q n (Below c.in-Below-side.field-0)) z (subst (Q n) c.in-Below-side.is (c.loop-step.invariant old new v pic).like)))
