use Rattle.iris_history.proofs.NoteStatus.{passes_by}
use Rattle.iris_history.proofs.status_law.other_notes_keep_status.Goals as goal

pub returns : goal.returns
returns g c = passes_by g.P.Portal.kept
