use Rattle.iris_history.proofs.Growth.{bad_at}
use Rattle.iris_history.proofs.law.bad_on_legal.Goals as goal

pub returns : goal.returns
returns g c = λ past bad. bad_at g.P.Portal.kept g.P.Portal.rules past bad
