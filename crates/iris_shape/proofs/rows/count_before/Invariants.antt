use Rattle.std.proofs.Common.{◌≡◌, ◌++◌, take, drop}
use Rattle.iris_shape.specs.Treap.{keep, skip}
use Rattle.iris_shape.specs.Order.{less_name}
use Rattle.iris_shape.specs.Rows.{name_at}
use Rattle.iris_shape.proofs.rows.count_before.Given as goal

abbrev pub invariant-loop-i : goal.invariant-loop-i
invariant-loop-i l =
    (keep (λ j. less_name (name_at l.rows j) (name_at l.rows l.place)) l.order ≡ take l.i l.order ++ keep (λ j. less_name (name_at l.rows j) (name_at l.rows l.place)) (drop l.i l.order))
    × (skip (λ j. less_name (name_at l.rows j) (name_at l.rows l.place)) l.order ≡ skip (λ j. less_name (name_at l.rows j) (name_at l.rows l.place)) (drop l.i l.order))
