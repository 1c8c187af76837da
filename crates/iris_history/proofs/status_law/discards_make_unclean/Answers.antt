use Rattle.iris_history.proofs.NoteStatus.{drop_live}
use Rattle.iris_history.proofs.status_law.discards_make_unclean.Goals as goal

pub returns : goal.returns
returns g c = drop_live g.P.Portal.kept
