use Rattle.std.proofs.Common.{arith}
use Rattle.hex.specs.Hex.{lower_digits}
use Rattle.iris_script.proofs.Growth.{Grows-refl, Grows-trans, hex_none, hex_more}
use Rattle.iris_script.proofs.grow.push_hex.Goals as goal

pub loop-byte-init : goal.loop-byte-init
loop-byte-init c = record { written = hex_none lower_digits _; grows = Grows-refl _ }

pub loop-byte-preserved : goal.loop-byte-preserved
loop-byte-preserved c = record {
  written = hex_more lower_digits _ _ _ _ _ (omega arith) c.loop-byte.invariant.written c.in_ok-push_hex_byte.ensures.ok;
  grows = Grows-trans _ _ _ c.loop-byte.invariant.grows c.push_hex_byte.ensures.grows;
}
