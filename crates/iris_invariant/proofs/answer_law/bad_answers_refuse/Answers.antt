use Rattle.iris_invariant.proofs.Answering.{bad_answers_refuse}
use Rattle.iris_invariant.proofs.answer_law.bad_answers_refuse.Goals as goal

pub returns : goal.returns
returns g c = bad_answers_refuse g.P.Portal.kept g.P.Portal.rules g.P.Spelled.fits
