use Rattle.iris_rows.specs.Places.{file_of}
use Rattle.iris_records.specs.Pieces.{Adds, blocks_below}
use Rattle.iris_records.proofs.parts.put_blocks.Given as goal

abbrev pub invariant-loop-i : goal.invariant-loop-i
invariant-loop-i l = Adds l.keys.block (λ n. blocks_below l.i n l.file.0 (file_of l.row)) l.initial.shelf l.shelf
