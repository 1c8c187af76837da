use Rattle.iris_history.proofs.Growth.{legal_before as before}
use Rattle.iris_history.proofs.law.legal_before.Goals as goal

pub returns : goal.returns
returns g c = λ past m legal. before g.P.Portal.kept g.P.Portal.rules m past legal
