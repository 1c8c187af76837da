use Rattle.iris_invariant.proofs.EventLaws.{withdrawals_keep}
use Rattle.iris_invariant.proofs.event_law.withdrawals_keep.Goals as goal

pub returns : goal.returns
returns g c = withdrawals_keep g.P.Portal.kept g.P.Portal.rules
