use Rattle.std.proofs.Common.{◌≡◌, ◌++◌, take}
use Rattle.iris_script.specs.Growing.{Grows}
use Rattle.iris_script.specs.Printing.{escaped}
use Rattle.iris_script.proofs.reply.push_escaped.Given as goal

abbrev pub invariant-loop-byte : goal.invariant-loop-byte
invariant-loop-byte l = record {
  written : l.text.items ≡ l.fn.text.items ++ escaped (take l.byte-index l.name);
  grows : Grows l.fn.text.items l.text.items;
}
