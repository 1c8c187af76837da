use Rattle.iris_invariant.proofs.Saves.{save_saves}
use Rattle.iris_invariant.proofs.save_law.agreed_is_saved.Goals as goal

pub returns : goal.returns
returns g c = save_saves g.P.Portal.kept g.P.Portal.rules
