use Rattle.std.proofs.Common.{subst}
use Rattle.iris_shape.specs.Shaped.{Parted}
use Rattle.iris_shape.proofs.Spines.{steps}
use Rattle.iris_shape.proofs.heaping.close_all.Goals as goal

pub loop-half-preserved : goal.loop-half-preserved
loop-half-preserved c = λ s h.
    steps s c.pop.new.self.items c.in-Some.half c.loop-half.shape c.in_ok-shape.shape
    (subst (λ w. Parted s w c.loop-half.shape) c.in-Some.ensures.items (c.loop-half.invariant s h)) c.in_ok-shape.ensures
