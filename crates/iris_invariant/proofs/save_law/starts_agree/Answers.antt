use Rattle.iris_invariant.proofs.Saves.{start_agrees}
use Rattle.iris_invariant.proofs.save_law.starts_agree.Goals as goal

pub returns : goal.returns
returns g c = start_agrees g.P.Portal.kept g.P.Portal.rules
