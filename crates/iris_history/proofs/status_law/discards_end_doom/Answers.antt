use Rattle.iris_history.proofs.NoteStatus.{drop_gone}
use Rattle.iris_history.proofs.status_law.discards_end_doom.Goals as goal

pub returns : goal.returns
returns g c = drop_gone g.P.Portal.kept
