use Rattle.std.proofs.Common.{inr}
use Rattle.iris_history.proofs.law.bad_stays.Goals as goal

pub returns : goal.returns
returns g c = λ past x bad. inr bad
