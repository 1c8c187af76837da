use Rattle.iris_history.proofs.NoteStatus.{call_leaves}
use Rattle.iris_history.proofs.status_law.idle_calls_keep_status.Goals as goal

pub returns : goal.returns
returns g c = call_leaves g.P.Portal.kept
