use Rattle.std.proofs.Common.{◌≡◌, ◌++◌, ℕ, List, length, map, vec_len}
use Rattle.iris_shape.specs.Treap.{treap}
use Rattle.iris_shape.specs.Rows.{has_priority_over, in_order}
use Rattle.iris_shape.specs.Shaped.{made_half, spine}
use Rattle.iris_shape.proofs.Spines.{Spine}
use Rattle.iris_shape.proofs.heaping.treap.Given as goal

abbrev pub invariant-loop-place : goal.invariant-loop-place
invariant-loop-place l =
    (done : List ℕ) × (s : Spine) × (in_order l.rows (length l.rows) ≡ l.order.items ++ done) × (l.opened.items ≡ map made_half s) × (spine s ≡ treap (has_priority_over l.keys.order l.rows) done)

abbrev pub decreases-loop-place : goal.decreases-loop-place
decreases-loop-place l = vec_len l.order
