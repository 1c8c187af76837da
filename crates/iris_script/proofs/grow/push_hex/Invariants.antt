use Rattle.std.proofs.Common.{◌≡◌, ◌++◌, take}
use Rattle.hex.specs.Hex.{encode_lower}
use Rattle.iris_script.specs.Growing.{Grows}
use Rattle.iris_script.proofs.grow.push_hex.Given as goal

abbrev pub invariant-loop-byte : goal.invariant-loop-byte
invariant-loop-byte l = record {
  written : l.text.items ≡ l.fn.text.items ++ encode_lower (take l.byte-index l.bytes);
  grows : Grows l.fn.text.items l.text.items;
}
