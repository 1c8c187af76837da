use Rattle.std.proofs.Common.{take}
use Rattle.iris_plain.proofs.EntryLaws.{Moves}
use Rattle.iris_plain.proofs.files.moved.Given as goal

abbrev pub invariant-loop-entry : goal.invariant-loop-entry
invariant-loop-entry l = Moves l.olds l.news (take l.entry-index l.entries) l.fresh.items
