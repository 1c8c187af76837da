use Rattle.std.proofs.Common.{refl}
use Rattle.iris_history.proofs.law.refused_leaves.Goals as goal

pub returns : goal.returns
returns g c = λ t who request. (λ cause. refl, λ error. refl)
