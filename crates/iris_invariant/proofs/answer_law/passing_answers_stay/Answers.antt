use Rattle.iris_invariant.proofs.Answering.{passing_answers_stay}
use Rattle.iris_invariant.proofs.answer_law.passing_answers_stay.Goals as goal

pub returns : goal.returns
returns g c = passing_answers_stay g.P.Portal.kept g.P.Portal.rules g.P.Spelled.fits
