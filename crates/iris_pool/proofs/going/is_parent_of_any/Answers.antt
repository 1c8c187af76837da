use Rattle.std.proofs.Common.{refl, sym, ◌∙◌, true≢false, length}
use Rattle.std.proofs.lemmas.Option.{slice_get_read}
use Rattle.iris_pool.specs.Going.{IsParentOf}
use Rattle.iris_pool.proofs.UsedNames.{no_parent, none_more, some_parent}
use Rattle.iris_pool.proofs.going.is_parent_of_any.Goals as goal

pub returns-then-is_parent_of : goal.returns-then-is_parent_of
returns-then-is_parent_of c = (λ _. some_parent c.args.node.now c.args.outs.now c.loop-out.out-index c.out-item.result c.loop-out-test.true c.out-item.is (c.is_parent_of.ensures.0 c.if-is_parent_of.true), λ _. refl)

pub loop-out-preserved : goal.loop-out-preserved
loop-out-preserved c = none_more (IsParentOf c.args.node.now) c.args.outs.now c.loop-out.out-index c.out-item.result
    (slice_get_read c.args.outs.now (length c.args.outs.now) c.loop-out.out-index c.out-item.result refl c.loop-out-test.true c.out-item.is) c.loop-out.invariant
    (λ p. true≢false (sym (c.is_parent_of.ensures.1 p) ∙ c.if-is_parent_of.false))

pub returns : goal.returns
returns c = (λ t. absurd (true≢false (sym t)), λ p. absurd (no_parent c.args.node.now c.args.outs.now c.loop-out.out-index c.loop-out-test.false c.loop-out.invariant p))
