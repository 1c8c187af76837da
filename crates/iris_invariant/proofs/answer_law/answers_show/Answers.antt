use Rattle.iris_invariant.proofs.Answering.{answers_show}
use Rattle.iris_invariant.proofs.answer_law.answers_show.Goals as goal

pub returns : goal.returns
returns g c = answers_show g.P.Portal.kept g.P.Portal.rules g.P.Spelled.fits
