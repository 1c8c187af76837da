use Rattle.iris_history.proofs.NoteStatus.{put_gone}
use Rattle.iris_history.proofs.status_law.puts_of_gone_keep_status.Goals as goal

pub returns : goal.returns
returns g c = put_gone g.P.Portal.kept
