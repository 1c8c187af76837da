use Rattle.iris_history.proofs.Records.{last_record}
use Rattle.iris_history.proofs.law.last_put_is_true.Goals as goal

pub returns : goal.returns
returns g c = λ n past start bytes ok legal e. last_record g.P.Portal.kept g.P.Portal.rules n past legal start bytes ok e
