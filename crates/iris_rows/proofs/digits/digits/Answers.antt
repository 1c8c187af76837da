use Rattle.std.proofs.Common.{◌∙◌, arith, ℕ, length-set}
use Rattle.iris_rows.proofs.DigitsOfIds.{digits_step, small_step}
use Rattle.iris_rows.proofs.digits.digits.Goals as goal

pub loop-k-preserved : goal.loop-k-preserved
loop-k-preserved c = (
  c.loop-k.invariant.0 ∙ digits_step c.loop-k.k c.loop-k.left c.loop-k.digits c.digit.result (omega arith) c.loop-k.invariant.1 c.digit.ensures.value,
  omega (arith, length-set {A = ℕ}),
  small_step c.loop-k.k c.loop-k.digits c.digit.result (omega arith) c.loop-k.invariant.1 c.digit.ensures.ascii c.loop-k.invariant.2,
)
