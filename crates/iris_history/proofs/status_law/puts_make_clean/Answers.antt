use Rattle.iris_history.proofs.NoteStatus.{put_law}
use Rattle.iris_history.proofs.status_law.puts_make_clean.Goals as goal

pub returns : goal.returns
returns g c = put_law g.P.Portal.kept
