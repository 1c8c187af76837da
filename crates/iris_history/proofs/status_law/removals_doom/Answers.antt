use Rattle.iris_history.proofs.NoteStatus.{call_takes}
use Rattle.iris_history.proofs.status_law.removals_doom.Goals as goal

pub returns : goal.returns
returns g c = call_takes g.P.Portal.kept
