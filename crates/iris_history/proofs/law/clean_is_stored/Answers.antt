use Rattle.iris_history.proofs.Records.{clean_put}
use Rattle.iris_history.proofs.law.clean_is_stored.Goals as goal

pub returns : goal.returns
returns g c = λ n past legal clean. clean_put g.P.Portal.kept g.P.Portal.rules n past legal clean
