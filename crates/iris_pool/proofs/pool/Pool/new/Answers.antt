use Rattle.std.proofs.Common.{ap, List, []}
use Rattle.iris_desk.specs.AtDesk.{DeskState}
use Rattle.iris_desk.specs.AtDesks.{out_of}
use Rattle.iris_pool.proofs.Empty.{empty_pool}
use Rattle.iris_pool.proofs.pool.Pool.new.Goals as goal

pub invariant_of-result : goal.invariant_of-result
invariant_of-result c = empty_pool (record { nodes = c.new.result; pages = c.new-2.result; desks = c.in_ok-new.field-0 }) c.new.ensures.nodes c.new-2.ensures.pages
    (λ n. ap (λ (l : List DeskState). out_of (record { desks = l; doomed = []; room = 0 }) n) c.in_ok-new.ensures.desks)
