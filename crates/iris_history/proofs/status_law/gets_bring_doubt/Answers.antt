use Rattle.iris_history.proofs.NoteStatus.{got_law}
use Rattle.iris_history.proofs.status_law.gets_bring_doubt.Goals as goal

pub returns : goal.returns
returns g c = got_law g.P.Portal.kept
