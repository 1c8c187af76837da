use Rattle.std.proofs.Common.{◌/◌, ◌^◌, ◌<◌, inl, inr, sym, ◌∙◌, subst, arith}
use Rattle.std.proofs.lemmas.Bool.{cases_lt}
use Rattle.std.proofs.lemmas.Result.{err_from_is_err_and}
use Rattle.iris_shape.proofs.FoldProofs.{folded_at}
use Rattle.iris_version_tree.proofs.Levels.{over, under_rest}
use Rattle.iris_version_tree.proofs.Walks.{first_lack}
use Rattle.iris_version_tree.proofs.reading.first_written.Goals as goal

pub returns-in_err-even-clause-short : goal.returns-in_err-even-clause-short
returns-in_err-even-clause-short c =
    let p = err_from_is_err_and c.from_residual.result c.from_residual.ensures.1 in
    let i = c.loop-place.invariant in
    rw (p.1, p.2) (first_lack c.args.draft.now c.args.cache.now c.args.file c.args.from c.loop-place.place c.in_err-even.field-0.0 i.after c.loop-place-test.true i.holes c.in_err-even.ensures.short)

pub returns-then-even-ne0-clause-first : goal.returns-then-even-ne0-clause-first
returns-then-even-ne0-clause-first c = λ old new v pic.
    let i = c.loop-place.invariant in
    let e = c.in_ok-even.even in
    let p = c.loop-place.place in
    let at = folded_at v e.level (p / 2 ^ e.level) e.version p (c.in_ok-even.ensures.even old new v pic) (over e.level p) in
    (i.after, c.loop-place-test.true, λ z. c.if-even-ne0.true (sym at ∙ z), i.holes old new v pic)

pub loop-place-preserved : goal.loop-place-preserved
loop-place-preserved c =
    let i = c.loop-place.invariant in
    let e = c.in_ok-even.even in
    let p = c.loop-place.place in
    record {
      after = omega (arith, i.after, c.past-place.ensures.more);
      within = c.past-place.ensures.within;
      holes = λ old new v pic q from to.
          elim (cases_lt q p) [
            | inl lt ↦ i.holes old new v pic q from lt
            | inr le ↦ folded_at v e.level (p / 2 ^ e.level) e.version q (c.in_ok-even.ensures.even old new v pic)
                (under_rest e.level p q le (subst (λ x. q < x) c.past-place.ensures.value to)) ∙ c.if-even-ne0.false
          ];
    }

pub returns-clause-first : goal.returns-clause-first
returns-clause-first c = λ old new v pic q from to. c.loop-place.invariant.holes old new v pic q from (omega (arith, to, c.loop-place-test.false))
