-- What each name stands for in a table: entries by the treaps of their directories, parts and blocks by their files.
use Rattle.std.specs.Prelude.{ℕ, ◌==◌, ◌&&◌, List, [], ◌∷◌, Option, Some, None, if◌then◌else◌}
use Rattle.iris_name.specs.Hmac.{priority}
use Rattle.iris_name.specs.declared.name.Name.{Name}
use Rattle.iris_name.specs.declared.name.Name.TheVariants.{Entry, Part, Block}
use Rattle.iris_node.specs.Rules.{most_level}
use Rattle.iris_node.specs.Unfolded.{Unfolded, Absent, Folder, Leaf, Even, Split, Stored}
use Rattle.iris_shape.specs.Folds.{folded}
use Rattle.iris_shape.specs.Treap.{Treap, Empty, Over, treap}
use Rattle.iris_shape.specs.Order.{beside}
use Rattle.iris_shape.specs.Sides.{unfolded_side}
use Rattle.iris_shape.specs.Local.{either}
use Rattle.iris_rows.specs.Rows.{File, Rows, End, Row, Table}

-- an entry by itself, with the entries inside it
pub record Own : Type 0 where
  pub id : ℕ
  pub name : List ℕ
  pub file : Option File
  pub inside : Unfolded

abbrev pub own_id : Own → ℕ
own_id own = own.id

-- the side of all versions of a file
abbrev pub versions : ℕ → File → Unfolded
versions id f = unfolded_side id most_level 0 (folded f.version most_level 0)

-- an entry above the entries of lesser and of greater names
abbrev pub entry_above : Own → Option File → Unfolded → Unfolded → Unfolded
entry_above own None less more = Folder own.id own.name less more own.inside
entry_above own (Some f) less more = Leaf own.id own.name less more f.size f.counter (versions own.id f)

-- a treap of entries as the topmost with those below it
abbrev pub unfolded_entries : Treap Own → Unfolded
unfolded_entries Empty = Absent
unfolded_entries (Over own less more) = entry_above own own.file (unfolded_entries less) (unfolded_entries more)

-- the treap of entries in order of names, by their priorities under an order key
abbrev pub treap_of_entries : List ℕ → List Own → Unfolded
treap_of_entries order owns = unfolded_entries (treap (beside (priority order) own_id) owns)

-- the rows of a directory as entries by themselves
abbrev pub owns : List ℕ → Rows → List Own
owns order End = []
owns order (Row id name file inside next) = record { id = id; name = name; file = file; inside = treap_of_entries order (owns order inside) } ∷ owns order next

-- the entries of a directory
unfoldable pub directory : List ℕ → Rows → Unfolded
directory order rows = treap_of_entries order (owns order rows)

-- the entry of an id in the treap of one directory
abbrev pub entry_in : ℕ → Unfolded → Option Unfolded
entry_in i (Folder id name less more inside) = if i == id then Some (Folder id name less more inside) else either (entry_in i less) (entry_in i more)
entry_in i (Leaf id name less more size counter versions) = if i == id then Some (Leaf id name less more size counter versions) else either (entry_in i less) (entry_in i more)
entry_in i Absent = None
entry_in i (Even version) = None
entry_in i (Split file level index low high) = None
entry_in i (Stored version bytes) = None

-- the part of a level and an index at or below a side
abbrev pub part_in : ℕ → ℕ → Unfolded → Option Unfolded
part_in l i (Split file level index low high) = if (l == level) && (i == index) then Some (Split file level index low high) else either (part_in l i low) (part_in l i high)
part_in l i (Even version) = None
part_in l i Absent = None
part_in l i (Folder id name less more inside) = None
part_in l i (Leaf id name less more size counter versions) = None
part_in l i (Stored version bytes) = None

-- the block of a place, none where it is a hole
abbrev pub block_of_place : ℕ → File → Option Unfolded
block_of_place p f = if f.version p == 0 then None else Some (Stored (f.version p) (f.block p))

-- what a name stands for among the entries of one directory
abbrev pub in_directory : Name → Unfolded → Option Unfolded
in_directory (Entry i) unfolded_entries = entry_in i.0 unfolded_entries
in_directory (Part f l i) unfolded_entries = None
in_directory (Block f p) unfolded_entries = None

-- what a name stands for among the parts at and below a side of a file
abbrev pub in_parts : Name → ℕ → Unfolded → Option Unfolded
in_parts (Part g l i) file unfolded_side = if g.0 == file then part_in l i unfolded_side else None
in_parts (Entry i) file unfolded_side = None
in_parts (Block g p) file unfolded_side = None

-- what a name stands for among the blocks of a file
abbrev pub in_blocks : Name → ℕ → File → Option Unfolded
in_blocks (Block g p) file f = if g.0 == file then block_of_place p f else None
in_blocks (Entry i) file f = None
in_blocks (Part g l i) file f = None

-- what a name stands for among the parts and blocks of a file
abbrev pub in_file : Name → ℕ → File → Option Unfolded
in_file n id f = either (in_parts n id (versions id f)) (in_blocks n id f)

-- what a name stands for inside rows: in a directory and inside its rows, or in a file
abbrev pub inside_rows : List ℕ → Name → Rows → Option Unfolded
inside_rows order n End = None
inside_rows order n (Row id name None inside next) = either (either (in_directory n (directory order inside)) (inside_rows order n inside)) (inside_rows order n next)
inside_rows order n (Row id name (Some f) inside next) = either (in_file n id f) (inside_rows order n next)

-- the entry of the visible root
abbrev pub root_entry : List ℕ → Table → Unfolded
root_entry order t = Folder 0 [] Absent Absent (directory order t.visible)

-- the entry of the trash
abbrev pub trash_entry : List ℕ → Table → Unfolded
trash_entry order t = Folder 1 [] Absent Absent (directory order t.trash)

-- the visible root and the trash as rows, and behind them a row in hand, which is no entry itself
abbrev pub roots : Table → Rows
roots t = Row 0 [] None t.visible (Row 1 [] None t.trash t.hand)

-- what a name stands for in a table under an order key, none where it isn't live
unfoldable pub shown : List ℕ → Table → Name → Option Unfolded
shown order t n = either (in_directory n (root_entry order t)) (either (in_directory n (trash_entry order t)) (inside_rows order n (roots t)))
