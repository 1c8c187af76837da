use Rattle.std.proofs.Common.{◌≡◌, ◌<◌, ℕ, Some}
use Rattle.iris_desk.specs.AtDesk.{DeskState}
use Rattle.iris_desk.specs.AtDesks.{desk_at}
use Rattle.iris_pool.specs.Going.{IsParentOfAny}
use Rattle.iris_pool.proofs.pool.Pool.is_in_use.Given as goal

-- at the first desks no name is fetched of which the node holds a hash
abbrev pub invariant-loop-who : goal.invariant-loop-who
invariant-loop-who l = (w : ℕ) (desk : DeskState) → w < l.who → desk_at l.self.desks w ≡ Some desk → IsParentOfAny l.node desk.out → ⊥
