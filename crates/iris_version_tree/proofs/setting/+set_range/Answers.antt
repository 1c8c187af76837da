use Rattle.std.specs.Prelude.{Result, Ok, Err, IfOk, OnOk}
use Rattle.std.proofs.lemmas.Result.{on_ok_weaker, IfErr-weaker}
use Rattle.iris_name.specs.Names.{same_name}
use Rattle.iris_name.specs.declared.name.Name.{Name}
use Rattle.iris_name.specs.declared.name.Name.TheVariants as name
use Rattle.iris_cache.specs.declared.held.Short.{Short}
use Rattle.iris_cache.specs.declared.held.Short.TheVariants.{NoMemory}
use Rattle.iris_cache.specs.Drafted.{drafted}
use Rattle.iris_node.specs.Trees.{Shown}
use Rattle.std.proofs.Common.{ℕ, false, ◌≡◌, ◌≤◌, ◌<◌, ◌+◌, ◌-◌, ◌*◌, ◌^◌, ◌⊎◌, inl, inr, suc, subst, sym, arith}
use Rattle.std.proofs.lemmas.Result.{err_from_is_err_and}
use Rattle.iris_node.specs.declared.node.Side.{Side}
use Rattle.iris_shape.specs.Folds.{folded}
use Rattle.iris_shape.specs.FoldLaws.{with_range_set}
use Rattle.iris_shape.proofs.FoldProofs.{folded_even}
use Rattle.iris_version_tree.specs.Reached.{IsSideOf}
use Rattle.iris_version_tree.specs.Ranges.{Joins, Turns, IsMissing}
use Rattle.iris_version_tree.proofs.Levels.{low_fits, high_fits, at_zero}
use Rattle.iris_version_tree.proofs.Tables.{same_one}
use Rattle.iris_version_tree.proofs.Joins.{even_side}
use Rattle.iris_version_tree.proofs.Spans.{changed-out, changed-in}
use Rattle.iris_version_tree.proofs.Sets.{under_same, side_same, under_even, under_place}
use Rattle.iris_version_tree.proofs.Steps.{set_level, frame_level, covering, missing_here, missing_low, missing_high}
use Rattle.iris_version_tree.proofs.setting.+set_range.Goals as goal
use Rattle.iris_version_tree.proofs.setting.+set_range.Goals.{then-past-span-via-then-past-span, then-past-span-via-else-past-span+then-span-first}

pub returns-then-past-span-clause-made : goal.returns-then-past-span-clause-made
returns-then-past-span-clause-made t c = λ old v pic had u at.
    let l = c.args.level in
    let i = c.args.index in
    let w = with_range_set v c.args.span.low c.args.span.high c.args.span.version in
    let o : ((i + 1) * 2 ^ l ≤ c.args.span.low) ⊎ (c.args.span.high ≤ i * 2 ^ l) =
    elim c.then-past-span.branch [
      | then-past-span-via-then-past-span w ↦ inl (omega (arith, w.if-past-span.true))
      | then-past-span-via-else-past-span+then-span-first w ↦ inr (omega (arith, w.if-span-first.true))
    ] in
    let same = changed-out v c.args.span.low c.args.span.high c.args.span.version l i o in
    (under_same old v w c.args.draft.now c.args.cache.now c.args.file l i same u, side_same old v w c.args.cache.now c.args.file l i c.args.side same at)

pub returns-then-level-eq0-clause-made : goal.returns-then-level-eq0-clause-made
returns-then-level-eq0-clause-made t c = λ old v pic had u at.
    let l = c.args.level in
    let i = c.args.index in
    let w = with_range_set v c.args.span.low c.args.span.high c.args.span.version in
    let z = at_zero l c.if-level-eq0.true in
    let a : c.args.span.low ≤ i * 2 ^ l = omega (arith, z, c.if-past-span.false, c.if-span-first.false) in
    let b : (i + 1) * 2 ^ l ≤ c.args.span.high = omega (arith, z, c.if-past-span.false, c.if-span-first.false) in (
      under_place old w c.args.draft.now c.args.cache.now c.args.file l i c.if-level-eq0.true,
      even_side old c.args.cache.now c.args.file w l i c.args.span.version (folded_even w l i c.args.span.version (changed-in v c.args.span.low c.args.span.high c.args.span.version l i a b)),
    )

pub returns-in-Fold-clause-made : goal.returns-in-Fold-clause-made
returns-in-Fold-clause-made t c = λ old v pic had u at.
    let l = c.args.level in
    let i = c.args.index in
    let w = with_range_set v c.args.span.low c.args.span.high c.args.span.version in
    let a : c.args.span.low ≤ i * 2 ^ l = omega (arith, c.if-span-first-2.true) in
    let b : (i + 1) * 2 ^ l ≤ c.args.span.high = omega (arith, c.if-past-span-2.true) in
    let all = changed-in v c.args.span.low c.args.span.high c.args.span.version l i a b in
    let e = same_one (folded v l i) c.in-Fold.field-0 (subst (IsSideOf (folded v l i)) c.in-Fold.is at.like) in (
      under_even old v w c.args.draft.now c.args.cache.now c.args.file l i c.in-Fold.field-0 c.args.span.version e all u,
      even_side old c.args.cache.now c.args.file w l i c.args.span.version (folded_even w l i c.args.span.version all),
    )

pub returns-in_err-was-clause-short : goal.returns-in_err-was-clause-short
returns-in_err-was-clause-short t c =
    let p = err_from_is_err_and c.from_residual.result c.from_residual.ensures.1 in
    let l = c.args.level in
    let i = c.args.index in
    let a : c.args.span.low < (i + 1) * 2 ^ l = omega (arith, c.if-past-span.false) in
    let b : i * 2 ^ l < c.args.span.high = omega (arith, c.if-span-first.false) in
    let some : 1 ≤ l = omega (arith, c.if-level-eq0.false) in
    rw (p.1, p.2) (missing_here c.args.draft.now c.args.cache.now c.args.file l i c.args.side c.args.span.low c.args.span.high c.in_err-was.field-0.0 some
    (covering l i c.args.span.low c.args.span.high a b c.requires.some) c.in_err-was.ensures.short c.in_err-was.ensures.missing)

pub set_range-requires : goal.set_range-requires
set_range-requires t c =
    let e : c.args.level ≡ suc (c.args.level - 1) = omega (arith, c.if-level-eq0.false) in (
      omega (arith, c.if-level-eq0.false),
      (
        c.requires.file,
        (
          omega (arith, c.requires.level),
          (
            low_fits c.args.level (c.args.level - 1) c.args.index 65536 e c.requires.fits,
            (c.requires.some, λ z. (c.in_ok-was.ensures.floor (omega (arith, e, z))).0),
          ),
        ),
      ),
    )

pub returns-in_err-low-clause-short : goal.returns-in_err-low-clause-short
returns-in_err-low-clause-short t c =
    let p = err_from_is_err_and c.from_residual-in_err-low.result c.from_residual-in_err-low.ensures.1 in
    let e : c.args.level ≡ suc (c.args.level - 1) = omega (arith, c.if-level-eq0.false) in
    let lt : c.args.level - 1 < 16 = omega (arith, c.requires.level, c.if-level-eq0.false) in
    rw (p.1, p.2) (missing_low c.args.draft.now c.args.cache.now c.args.file c.args.level (c.args.level - 1) c.args.index c.args.side c.in_ok-was.was'.low c.in_ok-was.was'.high c.args.span.low c.args.span.high c.in_err-low.field-0.0
    e lt c.in_ok-was.ensures.halves c.in_ok-was.ensures.known c.in_err-low.ensures.short)

pub set_range-requires-2 : goal.set_range-requires-2
set_range-requires-2 t c =
    let e : c.args.level ≡ suc (c.args.level - 1) = omega (arith, c.if-level-eq0.false) in (
      omega (arith, c.if-level-eq0.false),
      (
        c.requires.file,
        (
          omega (arith, c.requires.level),
          (
            high_fits c.args.level (c.args.level - 1) c.args.index 65536 e c.requires.fits,
            (c.requires.some, λ z. (c.in_ok-was.ensures.floor (omega (arith, e, z))).1),
          ),
        ),
      ),
    )

pub returns-in_err-high-clause-short : goal.returns-in_err-high-clause-short
returns-in_err-high-clause-short t c =
    let p = err_from_is_err_and c.from_residual-in_err-high.result c.from_residual-in_err-high.ensures.1 in
    let e : c.args.level ≡ suc (c.args.level - 1) = omega (arith, c.if-level-eq0.false) in
    let lt : c.args.level - 1 < 16 = omega (arith, c.requires.level, c.if-level-eq0.false) in
    rw (p.1, p.2) (missing_high c.args.draft.now c.set_range.new.draft c.args.cache.now c.args.file c.args.level (c.args.level - 1) c.args.index c.args.side c.in_ok-was.was'.low c.in_ok-was.was'.high c.args.span.low c.args.span.high c.in_err-high.field-0.0
    e lt c.in_ok-low.ensures.frame c.in_ok-was.ensures.halves c.in_ok-was.ensures.known c.in_err-high.ensures.short)

pub returns-clause-frame : goal.returns-clause-frame
returns-clause-frame t c =
    let e : c.args.level ≡ suc (c.args.level - 1) = omega (arith, c.if-level-eq0.false) in
    on_ok_weaker c.join.result (frame_level c.args.draft.now c.set_range.new.draft c.set_range-2.new.draft c.join.new.draft c.args.file c.args.level (c.args.level - 1) c.args.index e c.in_ok-low.ensures.frame c.in_ok-high.ensures.frame) c.join.ensures.frame

pub returns-clause-made : goal.returns-clause-made
returns-clause-made t c =
    let l = c.args.level in
    let k = l - 1 in
    let e : l ≡ suc k = omega (arith, c.if-level-eq0.false) in
    let d = c.args.draft.now in
    let d1 = c.set_range.new.draft in
    let d2 = c.set_range-2.new.draft in
    let d3 = c.join.new.draft in
    let q = c.args.cache.now in
    let f = c.args.file in
    let i = c.args.index in
    let s = c.args.span in
    let was = c.in_ok-was.was' in
    let J : Side → Type 0 = λ made. (old : Shown) (v w : ℕ → ℕ) → Joins old d2 d3 q f v w l i c.args.side c.in_ok-low.low c.in_ok-high.high made in
    let R : Side → Type 0 = λ made. (old : Shown) (v : ℕ → ℕ) → Turns old d d3 q f v (with_range_set v s.low s.high s.version) l i c.args.side made in
    let F : Type 0 = (n : Name) → same_name (name.Part f l i) n ≡ false → drafted d3 n ≡ drafted d2 n in
    both c.join.result J F R
    (λ made j frame old v. set_level old d d1 d2 d3 q f v (with_range_set v s.low s.high s.version) l k i c.args.side was.low was.high c.in_ok-low.low c.in_ok-high.high made e c.in_ok-was.ensures.halves c.in_ok-was.ensures.known
    (c.in_ok-low.ensures.made old v) c.in_ok-low.ensures.frame (c.in_ok-high.ensures.made old v) c.in_ok-high.ensures.frame (j old v (with_range_set v s.low s.high s.version)) frame)
    c.join.ensures.made c.join.ensures.frame
  where
    both : (r : Result Side Short) (J : Side → Type 0) (F : Type 0) (R : Side → Type 0) → ((x : Side) → J x → F → R x) → IfOk r J → OnOk r F → IfOk r R
    both (Ok x) J F R f j h = f x j h
    both (Err e) J F R f j h = tt

pub returns-clause-short : goal.returns-clause-short
returns-clause-short t c =
    let M : Short → Type 0 = IsMissing c.args.draft.now c.args.cache.now c.args.file c.args.level c.args.index c.args.side c.args.span.low c.args.span.high in
    IfErr-weaker c.join.result (λ e. e ≡ NoMemory) M (λ e is. subst M (sym is) tt) c.join.ensures.err
