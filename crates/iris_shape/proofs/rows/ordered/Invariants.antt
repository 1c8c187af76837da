use Rattle.std.proofs.Common.{◌≡◌}
use Rattle.iris_shape.specs.Rows.{in_order}
use Rattle.iris_shape.proofs.rows.ordered.Given as goal

abbrev pub invariant-loop-place : goal.invariant-loop-place
invariant-loop-place l = l.order.items ≡ in_order l.rows l.place
