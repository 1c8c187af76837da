use Rattle.std.proofs.Common.{◌≡◌, ◌++◌, ◌+◌, ◌≤◌, drop}
use Rattle.iris.specs.Notes.{printed, printed_from}
use Rattle.iris.specs.Plain.{said_to}
use Rattle.iris.proofs.plain.print_client.Given as goal

abbrev pub invariant-loop-reply : goal.invariant-loop-reply
invariant-loop-reply l =
    (l.number ≤ l.reply-index)
    × (l.fn.text.items ++ printed l.client (said_to l.client l.replies) ≡ l.text.items ++ printed_from l.client (l.number + 1) (said_to l.client (drop l.reply-index l.replies)))
