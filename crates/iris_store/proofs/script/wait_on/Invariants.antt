use Rattle.std.proofs.Common.{◌≡◌}
use Rattle.iris_store.proofs.Deeds.{mapped}
use Rattle.iris_store.specs.Script.{waiting}
use Rattle.iris_store.proofs.script.wait_on.Given as goal

abbrev pub invariant-loop-deed : goal.invariant-loop-deed
invariant-loop-deed l = l.deeds ≡ mapped (waiting l.call l.name) l.fn.deeds l.deed-index
