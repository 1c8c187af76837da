-- Which blocks a request changes.
use Rattle.std.specs.Prelude.{◌≡◌, ◌≢◌, ◌==◌, ◌&&◌, ◌||◌, ◌+◌, ◌≤◌, ◌<◌, ℕ, Bool, true, false, not, List, length, None, nat_le}
use Rattle.iris_name.specs.declared.name.FileId.{FileId}
use Rattle.iris_name.specs.declared.name.Name.TheVariants.{Block}
use Rattle.iris_name.specs.declared.request.Request.{Request}
use Rattle.iris_name.specs.declared.request.Request.TheVariants.{Mkdir, Create, Write, Read, Resize, Stat, List as ListNames, Rename, Remove, Sync, Root, Reclaim, Probe}
use Rattle.iris_node.specs.Trees.{Shown}
use Rattle.iris_node.specs.Unfolded.{id_of}
use Rattle.iris_plain.specs.Checks.{blocks_of}
use Rattle.iris_rows.specs.Rows.{File, Table}
use Rattle.iris_rows.specs.Changes.{stepped, table_verdict}
use Rattle.iris_rows.specs.FileChanges.{is_touched, is_split}
use Rattle.iris_records.specs.Shown.{shown}
use Rattle.iris_rows.specs.Sound.{IsSound}
use Rattle.iris_plan_laws.specs.Begun.{IsAtFile}

-- both tables show the same blocks
abbrev pub SameBlocks : Shown → Shown → Type 0
SameBlocks t u = (file : FileId) (place : ℕ) → u (Block file place) ≡ t (Block file place)

-- Of all blocks exactly those of a file differ whose places a test picks.
pub record ChangesBlocks (t u : Shown) (file : FileId) (picks : ℕ → Bool) : Type 0 where
  pub others : (other : FileId) (place : ℕ) → other ≢ file → u (Block other place) ≡ t (Block other place)
  pub kept : (place : ℕ) → picks place ≡ false → u (Block file place) ≡ t (Block file place)
  pub changed : (place : ℕ) → picks place ≡ true → u (Block file place) ≢ t (Block file place)

-- the places that a test picks lie among so many in a row
abbrev pub AreAmong : ℕ → (ℕ → Bool) → Type 0
AreAmong most picks = (first : ℕ) × ((place : ℕ) → picks place ≡ true → (first ≤ place) × (place < first + most))

-- a new length makes the block of a place another, or a hole: it is no hole, and stands past the new end or is split by it
abbrev pub is_cut_at : ℕ → File → ℕ → Bool
is_cut_at size f place = not (f.version place == 0) && (nat_le (blocks_of size) place || is_split size f.size place)

-- a request that makes or moves rows, and changes no file
abbrev pub IsOfRows : Request → Type 0
IsOfRows (Mkdir path) = Unit {0}
IsOfRows (Create path) = Unit {0}
IsOfRows (Rename from to) = Unit {0}
IsOfRows (Write path offset bytes) = ⊥
IsOfRows (Read path offset count) = ⊥
IsOfRows (Resize path size) = ⊥
IsOfRows (Stat path) = ⊥
IsOfRows (ListNames path after) = ⊥
IsOfRows (Remove path) = ⊥
IsOfRows Sync = ⊥
IsOfRows Root = ⊥
IsOfRows Reclaim = ⊥
IsOfRows (Probe at) = ⊥

-- it changes no block
abbrev pub RowsKeepBlocks : Type 0
RowsKeepBlocks = (order : List ℕ) (t : Table) (request : Request) → IsSound t → IsOfRows request → SameBlocks (shown order t) (shown order (stepped t request))

-- a write changes the blocks of the places that it touches, 65 at most
abbrev pub WritesChangeBlocks : Type 0
WritesChangeBlocks = (order : List ℕ) (t : Table) (path : List ℕ) (offset : ℕ) (bytes : List ℕ) (i : ℕ) (f : File)
    → IsSound t → table_verdict t (Write path offset bytes) ≡ None → IsAtFile t path i f → 0 < length bytes
    → ChangesBlocks (shown order t) (shown order (stepped t (Write path offset bytes))) (id_of i) (is_touched offset (length bytes)) × AreAmong 65 (is_touched offset (length bytes))

-- a new length above 0 changes the blocks of the places that it cuts: at most 64 are lost, and one is split
abbrev pub ResizesChangeBlocks : Type 0
ResizesChangeBlocks = (order : List ℕ) (t : Table) (path : List ℕ) (size i : ℕ) (f : File)
    → IsSound t → table_verdict t (Resize path size) ≡ None → IsAtFile t path i f → 0 < size
    → ChangesBlocks (shown order t) (shown order (stepped t (Resize path size))) (id_of i) (is_cut_at size f) × AreAmong 65 (is_cut_at size f)
