use Rattle.std.proofs.Common.{◌∙◌, ap}
use Rattle.iris_table.specs.Served.{State}
use Rattle.iris_table.proofs.ServedStep.{counter_in}
use Rattle.iris_table.proofs.state.State.resize.Goals as goal

pub resize_at-requires-clause-counter : goal.resize_at-requires-clause-counter
resize_at-requires-clause-counter c = counter_in c.args.self.now c.as_mut_slice.result.now c.names-2.result.now c.requires.sound (c.as_mut_slice.ensures.value ∙ ap (λ (s : State). s.visible) c.self.view_is)
