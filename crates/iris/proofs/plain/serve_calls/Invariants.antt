use Rattle.std.proofs.Common.{◌≡◌, ◌++◌, ℕ, List, drop}
use Rattle.iris_name.specs.declared.request.Reply.{Reply}
use Rattle.iris_rows.specs.Rows.{empty_table}
use Rattle.iris_table.specs.Served.{served_table}
use Rattle.iris.specs.Plain.{AreRight}
use Rattle.iris.proofs.plain.serve_calls.Given as goal

abbrev pub invariant-loop-call : goal.invariant-loop-call
invariant-loop-call l =
    (l.table.keys ≡ l.keys)
    × ((rest : List (ℕ × Reply)) → AreRight l.keys.order (served_table l.table) (drop l.call-index l.calls) rest → AreRight l.keys.order empty_table l.calls (l.replies.items ++ rest))
