use Rattle.std.proofs.Common.{◌≡◌, map, vec_len}
use Rattle.iris_shape.specs.Shaped.{made_half, Parted}
use Rattle.iris_shape.proofs.Spines.{Spine}
use Rattle.iris_shape.proofs.heaping.close_all.Given as goal

abbrev pub invariant-loop-half : goal.invariant-loop-half
invariant-loop-half l = (s : Spine) → l.initial.opened.items ≡ map made_half s → Parted s l.opened.items l.shape

abbrev pub decreases-loop-half : goal.decreases-loop-half
decreases-loop-half l = vec_len l.opened
