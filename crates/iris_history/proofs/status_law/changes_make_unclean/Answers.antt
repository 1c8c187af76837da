use Rattle.iris_history.proofs.NoteStatus.{call_changes}
use Rattle.iris_history.proofs.status_law.changes_make_unclean.Goals as goal

pub returns : goal.returns
returns g c = call_changes g.P.Portal.kept
