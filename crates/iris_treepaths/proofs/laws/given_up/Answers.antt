use Rattle.std.proofs.Common.{Some, None}
use Rattle.iris_treepaths.specs.Hands.{detached_row}
use Rattle.iris_treepaths.proofs.Handed.{beside_other, bare_below, none_below}
use Rattle.iris_treepaths.proofs.laws.given_up.Goals as goal

pub returns : goal.returns
returns c = λ old new x d e p bare. beside_other old new (Some (detached_row x)) None d e p (bare_below x bare) none_below tt
