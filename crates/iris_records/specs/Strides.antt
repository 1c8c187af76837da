-- The files among rows in preorder, and what a walk over their blocks, one file after another, meets.
use Rattle.std.specs.Prelude.{◌≡◌, ◌+◌, ℕ, List, [], ◌∷◌, ◌++◌, length, Option, Some, None, Contains, slice_get}
use Rattle.iris_node.specs.Walk.{BlockAt, file_blocks}
use Rattle.iris_records.specs.declared.challenge.Met.{Met}
use Rattle.iris_records.specs.declared.challenge.Met.TheVariants.{Block, Past}
use Rattle.iris_rows.specs.declared.item.Item.{Item}
use Rattle.iris_rows.specs.Items.{kept_file}
use Rattle.iris_rows.specs.Rows.{File}

-- a file by its id, where there is one
abbrev pub own_file : ℕ → Option File → List (ℕ × File)
own_file id None = []
own_file id (Some f) = (id, f) ∷ []

-- the files among items, each by its id
abbrev pub files_of : List Item → List (ℕ × File)
files_of [] = []
files_of (item ∷ items) = own_file item.id.0 (kept_file item.file) ++ files_of items

-- the blocks of files, one file after another
abbrev pub blocks_of_all : List (ℕ × File) → List BlockAt
blocks_of_all [] = []
blocks_of_all (x ∷ xs) = file_blocks x.0 x.1.size ++ blocks_of_all xs

-- what the walk meets at a place: a block with its version in its file, or nothing, so far past the last block
abbrev pub WalkMeets : List (ℕ × File) → ℕ → Met → Type 0
WalkMeets files at (Block file place version) =
    (f : File) × Contains files (file.0, f) × (slice_get (blocks_of_all files) at ≡ Some (record { file = file.0; place = place })) × (version ≡ f.version place)
WalkMeets files at (Past more) = at ≡ length (blocks_of_all files) + more
