-- The walk over the blocks at and below an entry, holes included.
use Rattle.std.specs.Prelude.{ℕ, ◌+◌, ◌/◌, List, [], ◌++◌, map}
use Rattle.std.specs.List.{range_with_len}
use Rattle.iris_node.specs.Unfolded.{Unfolded, Absent, Folder, Leaf, Even, Split, Stored}

-- a block by its file and its place
pub record BlockAt : Type 0 where
  pub file : ℕ
  pub place : ℕ

-- how many blocks a file of a length has
abbrev pub block_count : ℕ → ℕ
block_count size = (size + 4095) / 4096

-- the blocks of a file of a length, in order of their places
abbrev pub file_blocks : ℕ → ℕ → List BlockAt
file_blocks id size = map (λ place. record { file = id; place = place }) (range_with_len 0 (block_count size))

-- the blocks at and below an entry: those of lesser names, its own or those inside it, those of greater names
abbrev pub walk : Unfolded → List BlockAt
walk (Folder id name less more inside) = walk less ++ (walk inside ++ walk more)
walk (Leaf id name less more size counter versions) = walk less ++ (file_blocks id size ++ walk more)
walk Absent = []
walk (Even version) = []
walk (Split file level index low high) = []
walk (Stored version bytes) = []
