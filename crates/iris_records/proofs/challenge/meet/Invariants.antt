use Rattle.std.proofs.Common.{drop}
use Rattle.iris_records.specs.declared.challenge.Met.{Met}
use Rattle.iris_records.specs.Strides.{WalkMeets, files_of}
use Rattle.iris_records.proofs.challenge.meet.Given as goal

abbrev pub invariant-loop-item : goal.invariant-loop-item
invariant-loop-item l = (r : Met) → WalkMeets (files_of (drop l.item-index l.items)) l.left r → WalkMeets (files_of l.items) l.at r
