use Rattle.std.proofs.Common.{Some, None}
use Rattle.iris_treepaths.specs.Hands.{detached_row}
use Rattle.iris_treepaths.proofs.Handed.{beside_other, bare_below, none_below}
use Rattle.iris_treepaths.proofs.laws.new_row_in_hand.Goals as goal

pub returns : goal.returns
returns c = λ old new x d e p free bare. beside_other old new None (Some (detached_row x)) d e p none_below (bare_below x bare) free
