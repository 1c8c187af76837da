use Rattle.std.proofs.Common.{◌≡◌, map, vec_len}
use Rattle.iris_shape.specs.Rows.{has_priority_over}
use Rattle.iris_shape.specs.Shaped.{made_half}
use Rattle.iris_shape.proofs.Spines.{Spine, Below}
use Rattle.iris_shape.proofs.heaping.close_below.Given as goal

abbrev pub invariant-loop-half : goal.invariant-loop-half
invariant-loop-half l = (s : Spine) → l.initial.opened.items ≡ map made_half s → Below (has_priority_over l.keys.order l.rows) l.place s l.opened.items l.below

abbrev pub decreases-loop-half : goal.decreases-loop-half
decreases-loop-half l = vec_len l.opened
