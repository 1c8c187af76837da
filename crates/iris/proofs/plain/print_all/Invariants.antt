use Rattle.std.proofs.Common.{◌≡◌}
use Rattle.iris.specs.Plain.{printed_to}
use Rattle.iris.proofs.plain.print_all.Given as goal

abbrev pub invariant-loop-client : goal.invariant-loop-client
invariant-loop-client l = l.text.items ≡ printed_to l.client l.replies
