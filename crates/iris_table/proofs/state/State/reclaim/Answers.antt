use Rattle.std.proofs.Common.{◌∙◌, ap}
use Rattle.std.specs.Prelude.{not}
use Rattle.iris_name.specs.declared.request.Reply.TheVariants.{Reclaimed}
use Rattle.iris_table.proofs.ServedStep.{left_is}
use Rattle.iris_table.proofs.state.State.reclaim.Goals as goal

pub returns-clause-reply : goal.returns-clause-reply
returns-clause-reply c = ap Reclaimed (ap not c.is_empty.ensures ∙ left_is c.reclaim.new.trash.items c.reclaim.new.trash.len c.reclaim.new.trash.ok.0 c.in_ok-reclaim.ensures.forest)
