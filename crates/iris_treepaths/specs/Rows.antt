-- The rows of a directory in a table, and a table in which they are others.
use Rattle.std.specs.Prelude.{◌≡◌, ◌≢◌, ◌⊎◌, ◌==◌, ◌≤◌, ◌<◌, ◌^◌, ℕ, Bool, true, false, List, Option, Some, None, if◌then◌else◌}
use Rattle.std.specs.Option.{option_map}
use Rattle.std.specs.List.{list_any}
use Rattle.iris_name.specs.Hmac.{priority}
use Rattle.iris_name.specs.declared.name.FileId.{FileId}
use Rattle.iris_name.specs.declared.name.Name.{Name}
use Rattle.iris_name.specs.declared.name.Name.TheVariants as name
use Rattle.iris_node.specs.Trees.{Shown, node_name, IsNodeName, IsParent, IsRootName}
use Rattle.iris_node.specs.Unfolded.{Unfolded, Absent, Folder, Leaf, Even, Split, Stored, id_of, blocks}
use Rattle.iris_shape.specs.Order.{beside, Rising, Distinct}
use Rattle.iris_shape.specs.Treap.{Treap, Empty, Over, treap, Each}

-- what a row is by itself: a directory with the treap inside it, or a file
pub data Content : Type 0 where
  Directory : (inside : Unfolded) → Content
  File : (size counter : ℕ) (versions : Unfolded) → Content

-- what lies directly below a row by itself
abbrev pub below_row : Content → Unfolded
below_row (Directory inside) = inside
below_row (File size counter versions) = versions

-- a row of a directory
pub record Row : Type 0 where
  pub id : ℕ
  pub name : List ℕ
  pub content : Content

abbrev pub row_id : Row → ℕ
row_id r = r.id

abbrev pub row_name : Row → List ℕ
row_name r = r.name

-- an entry of this id, name and content above the entries of lesser and of greater names
abbrev pub entry_of : ℕ → List ℕ → Content → Unfolded → Unfolded → Unfolded
entry_of id name (Directory inside) less more = Folder id name less more inside
entry_of id name (File size counter versions) less more = Leaf id name less more size counter versions

-- a row above the entries of lesser and of greater names
abbrev pub row_entry : Row → Unfolded → Unfolded → Unfolded
row_entry r less more = entry_of r.id r.name r.content less more

-- a treap of rows as its topmost entry with those below it
abbrev pub unfolded_rows : Treap Row → Unfolded
unfolded_rows Empty = Absent
unfolded_rows (Over y l m) = row_entry y (unfolded_rows l) (unfolded_rows m)

-- a row stands above another: by their priorities under an order key, and of equal ones the smaller id
abbrev pub up : List ℕ → Row → Row → Bool
up key = beside (priority key) row_id

-- what lies inside a directory of these rows
unfoldable pub treap_of_rows : List ℕ → List Row → Unfolded
treap_of_rows key rows = unfolded_rows (treap (up key) rows)

-- the entry of a directory, with this inside it
abbrev pub IsFolderOf : ℕ → Unfolded → Option Unfolded → Type 0
IsFolderOf dir inside None = ⊥
IsFolderOf dir inside (Some (Folder id label less more kept)) = (id ≡ dir) × (kept ≡ inside)
IsFolderOf dir inside (Some (Leaf id label less more size counter versions)) = ⊥
IsFolderOf dir inside (Some Absent) = ⊥
IsFolderOf dir inside (Some (Even version)) = ⊥
IsFolderOf dir inside (Some (Split g level index low high)) = ⊥
IsFolderOf dir inside (Some (Stored version bytes)) = ⊥

-- A directory has these rows in a table, in order of their names: its entry is over their treap.
pub record HasRows (t : Shown) (key : List ℕ) (dir : FileId) (rows : List Row) : Type 0 where
  pub entry : IsFolderOf dir.0 (treap_of_rows key rows) (t (name.Entry dir))
  pub rising : Rising row_name rows
  pub distinct : Distinct row_id rows
  -- ids 0 and 1 are those of the roots, which stand in no directory
  pub named : Each (λ r. 2 ≤ r.id) rows
  -- what lies directly below a row by itself is no row of the same directory
  pub apart : Each (λ x. Each (λ y. node_name (below_row x.content) ≢ Some (name.Entry (id_of y.id))) rows) rows

-- an entry or a part, in which the directory of an id has this inside it
abbrev pub refilled : ℕ → Unfolded → Unfolded → Unfolded
refilled dir inside (Folder id label less more kept) = Folder id label (refilled dir inside less) (refilled dir inside more) (if id == dir then inside else refilled dir inside kept)
refilled dir inside (Leaf id label less more size counter versions) = Leaf id label (refilled dir inside less) (refilled dir inside more) size counter versions
refilled dir inside Absent = Absent
refilled dir inside (Even version) = Even version
refilled dir inside (Split g level index low high) = Split g level index low high
refilled dir inside (Stored version bytes) = Stored version bytes

-- whether one of the rows has this id
abbrev pub has_id : ℕ → List Row → Bool
has_id i rows = list_any (λ (r : Row). r.id == i) rows

-- a name of a part, or of an entry that is none of these rows
abbrev pub IsElsewhere : List Row → List Row → Name → Type 0
IsElsewhere before after (name.Entry id) = (has_id id.0 before ≡ false) × (has_id id.0 after ≡ false)
IsElsewhere before after (name.Part file level index) = Unit {0}
IsElsewhere before after (name.Block file place) = ⊥

-- The second table is the first with other rows in a directory. Of blocks nothing is said.
pub record Rearranges (t u : Shown) (key : List ℕ) (dir : FileId) (before after : List Row) : Type 0 where
  pub rows : HasRows u key dir after
  -- a row that went is no node
  pub gone : (i : FileId) → has_id i.0 before ≡ true → has_id i.0 after ≡ false → u (name.Entry i) ≡ None
  pub others : (n : Name) → IsElsewhere before after n → u n ≡ option_map (refilled dir.0 (treap_of_rows key after)) (t n)

-- counts of blocks have 64 bits
abbrev pub IsCountable : Shown → Type 0
IsCountable t = (n : Name) (u : Unfolded) → t n ≡ Some u → blocks u < 2 ^ 64

-- a live node that is no root has a parent
abbrev pub IsRooted : Shown → Type 0
IsRooted t = (n : Name) (u : Unfolded) → t n ≡ Some u → IsNodeName n → IsRootName n ⊎ ((p : Name) × IsParent t p n)
