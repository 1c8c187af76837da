-- Files worked out by hand, which the definitions compute.
use Rattle.std.proofs.Common.{◌≡◌, ◌==◌, if◌then◌else◌, ℕ, [], true, false, Some, None, refl}
use Rattle.iris_name.specs.declared.name.FileId.{FileId}
use Rattle.iris_name.specs.declared.name.Name.TheVariants.{Entry, Block}
use Rattle.iris_node.specs.Unfolded.{Absent, Leaf, Even}
use Rattle.iris_shape.specs.FoldLaws.{with_range_set}
use Rattle.iris_rows.specs.Rows.{File}
use Rattle.iris_blocks.specs.Changes.{from_to}
use Rattle.iris_files.specs.Pages.{page_in, is_block_in, read_end}
use Rattle.iris_files.specs.Cuts.{renumbered, page_cut, versions_cut}
use Rattle.iris_files.specs.Lengths.{with_length}
use Rattle.iris_files.specs.Refiles.{refiled}

abbrev file : ℕ → FileId
file n = record { 0 = n }

-- a file of 8,500 bytes whose second place alone was written: its first and its third are holes
abbrev gap : File
gap = record { size = 8500; counter = 4; version = λ p. if p == 1 then 3 else 0; block = λ p. [] }

pages : (page_in 0 gap ≡ None) × (page_in 1 gap ≡ Some []) × (page_in 2 gap ≡ None)
pages = (refl, refl, refl)

-- the range of places has its first and not its last, and is of one file
blocks : (is_block_in (file 2) 1 3 (Block (file 2) 1) ≡ true) × (is_block_in (file 2) 1 3 (Block (file 2) 2) ≡ true) × (is_block_in (file 2) 1 3 (Block (file 2) 3) ≡ false) × (is_block_in (file 2) 1 3 (Block (file 2) 0) ≡ false) × (is_block_in (file 2) 1 3 (Block (file 3) 1) ≡ false) × (is_block_in (file 2) 0 3 (Entry (file 2)) ≡ false)
blocks = (refl, refl, refl, refl, refl, refl)

-- a cut at the block's first byte makes it a hole, and one a byte further cuts its page; a hole stays out of the draft
cuts : (page_cut 4096 gap 1 None ≡ Some (from_to (Some []) None)) × (page_cut 4096 gap 0 None ≡ None) × (page_cut 100 gap 0 None ≡ None)
cuts = (refl, refl, refl)

-- a place gets another number, but not where it is a hole
numbers : (renumbered 1 9 gap.version 1 ≡ 9) × (renumbered 0 9 gap.version 0 ≡ 0) × (renumbered 0 9 gap.version 1 ≡ 3)
numbers = (refl, refl, refl)

-- a cut leaves the place in which it ends to be numbered, and makes those past it holes
versions : (versions_cut 4097 gap 1 ≡ 3) × (versions_cut 4096 gap 1 ≡ 0) × (versions_cut 8000 gap 1 ≡ 3)
unfolding with_range_set
versions = (refl, refl, refl)

-- a read ends with its range or with the file
ends : (read_end 0 1 gap ≡ 1) × (read_end 0 4096 gap ≡ 1) × (read_end 0 4097 gap ≡ 2) × (read_end 8192 4096 gap ≡ 3) × (read_end 4095 2 gap ≡ 2)
ends = (refl, refl, refl, refl, refl)

-- a file's entry with another length, and one of another file beside it
sized : (with_length 2 10 1 (Leaf 2 [] Absent Absent 0 0 (Even 0)) ≡ Leaf 2 [] Absent Absent 10 1 (Even 0)) × (with_length 3 10 1 (Leaf 2 [] Absent Absent 0 0 (Even 0)) ≡ Leaf 2 [] Absent Absent 0 0 (Even 0))
sized = (refl, refl)

-- and with other versions
again : (refiled 2 10 1 (Even 1) (Leaf 2 [] Absent Absent 0 0 (Even 0)) ≡ Leaf 2 [] Absent Absent 10 1 (Even 1)) × (refiled 3 10 1 (Even 1) (Leaf 2 [] Absent Absent 0 0 (Even 0)) ≡ Leaf 2 [] Absent Absent 0 0 (Even 0))
again = (refl, refl)
