use Rattle.std.proofs.Common.{take, MatchOption}
use Rattle.iris_plain.specs.Pages.{NoneLater, IsNext}
use Rattle.iris_plain.specs.Steps.{has_entry_named}
use Rattle.iris_plain.specs.Entries.{kind_at}
use Rattle.iris_plain.proofs.files.next_name.Given as goal

abbrev pub invariant-loop-entry : goal.invariant-loop-entry
invariant-loop-entry l = MatchOption l.best (NoneLater (has_entry_named (kind_at (take l.entry-index l.entries)) l.names) l.after) (λ b. IsNext (has_entry_named (kind_at (take l.entry-index l.entries)) l.names) l.after b.now)
