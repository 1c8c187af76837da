use Rattle.std.proofs.Common.{◌++◌, ◌-◌, ℕ, List}
use Rattle.iris_plain.specs.Pages.{IsPage}
use Rattle.iris_plain.specs.Steps.{has_entry_named}
use Rattle.iris_plain.specs.Entries.{kind_at}
use Rattle.iris_plain.proofs.files.page.Given as goal

abbrev pub invariant-loop-i : goal.invariant-loop-i
invariant-loop-i l = (tail : List (List ℕ)) → IsPage (has_entry_named (kind_at l.entries) l.names) (64 - l._i) l.last tail → IsPage (has_entry_named (kind_at l.entries) l.names) 64 l.after (l.page ++ tail)
