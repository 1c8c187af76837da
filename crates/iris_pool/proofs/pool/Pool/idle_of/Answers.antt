use Rattle.std.proofs.Common.{sym, ◌∙◌, true≢false}
use Rattle.std.proofs.lemmas.Option.{slice_get-get_or}
use Rattle.iris_pool.specs.Going.{CanLeave}
use Rattle.iris_pool.proofs.UsedNames.{none_more, none_named}
use Rattle.iris_pool.proofs.pool.Pool.idle_of.Goals as goal

pub loop-name-preserved : goal.loop-name-preserved
loop-name-preserved c = none_more (CanLeave c.args.self.now) c.args.names.now c.loop-name.name-index _ (slice_get-get_or c.args.names.now c.loop-name.name-index _ c.loop-name-test.true) c.loop-name.invariant
    (λ p. true≢false (sym (c.can_leave.ensures.1 p) ∙ c.if-can_leave.false))

pub returns-clause-none : goal.returns-clause-none
returns-clause-none c = none_named c.args.self.now c.args.names.now c.loop-name.name-index c.requires c.loop-name-test.false c.loop-name.invariant
