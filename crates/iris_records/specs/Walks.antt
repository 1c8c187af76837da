-- How the records of a table's entries are gathered, from its last row to its first.
use Rattle.std.specs.Prelude.{◌≡◌, ◌≤◌, ◌<◌, ◌+◌, ℕ, List, [], ◌∷◌, map, length, All, true, Option, Some, None, slice_get, ◌==◌, if◌then◌else◌}
use Rattle.iris_name.specs.declared.name.Name.{Name}
use Rattle.iris_name.specs.declared.name.Name.TheVariants.{Entry}
use Rattle.iris_node.specs.Rules.{IsBody}
use Rattle.iris_node.specs.Unfolded.{Unfolded, Absent, Folder, Leaf, id_of, link_to, node_of, blocks}
use Rattle.iris_node.specs.declared.node.Body.TheVariants.{Dir}
use Rattle.iris_shape.specs.Local.{either}
use Rattle.iris_shape.specs.Treap.{Treap, Empty, Over}
use Rattle.iris_shape.specs.declared.rows.Row.{Row}
use Rattle.iris_rows.specs.declared.item.Item.{Item}
use Rattle.iris_records.specs.declared.entries.Told.{Told}
use Rattle.iris_records.specs.declared.entries.Level.{Level}
use Rattle.iris_rows.specs.Items.{grown, kept_file}
use Rattle.iris_rows.specs.Places.{StoredPlaces, file_of}
use Rattle.iris_rows.specs.Rows.{File, Rows, End, Row as TableRow}
use Rattle.iris_records.specs.Shown.{Own, entry_above, owns, versions, directory, in_directory, in_file}
use Rattle.iris_records.specs.Pieces.{file_told}
use Rattle.iris_rows.specs.Sound.{is_step, times_given, PrecedesFirst}

-- an entry as a row
abbrev pub row_of : Own → Row
row_of own = record { id = id_of own.id; name = own.name }

abbrev pub told_by : Own → Option File → Told
told_by own None = record { body = Dir (link_to own.inside (node_of own.inside)); blocks = blocks own.inside }
told_by own (Some f) = file_told own.id f

-- what an entry says, apart from the entries beside it
abbrev pub told : Own → Told
told own = told_by own own.file

-- the entry of an item, with what lies inside it among the items that follow
abbrev pub own_of : List ℕ → Item → List Item → Own
own_of order item items = record { id = item.id.0; name = item.name; file = kept_file item.file; inside = directory order (grown (item.depth + 1) items) }

-- the entries of all items
abbrev pub all_owns : List ℕ → List Item → List Own
all_owns order [] = []
all_owns order (item ∷ items) = own_of order item items ∷ all_owns order items

abbrev pub owned : Option Own → Own
owned None = record { id = 0; name = []; file = None; inside = Absent }
owned (Some own) = own

-- the entry at a place
abbrev pub own_at : List Own → ℕ → Own
own_at owns k = owned (slice_get owns k)

-- the entry at a place above the entries of lesser and of greater names
abbrev pub placed_entry : List Own → ℕ → Unfolded → Unfolded → Unfolded
placed_entry owns k less more = entry_above (own_at owns k) (own_at owns k).file less more

-- a treap of places as the entries of a directory's rows
abbrev pub placed : List Own → Treap ℕ → Unfolded
placed owns Empty = Absent
placed owns (Over row less more) = placed_entry owns row (placed owns less) (placed owns more)

-- the places of a treap are those of so many rows
abbrev pub ArePlacesOf : ℕ → Treap ℕ → Type 0
ArePlacesOf n Empty = Unit {0}
ArePlacesOf n (Over row less more) = (row < n) × ArePlacesOf n less × ArePlacesOf n more

-- how many places a treap has
abbrev pub nodes : Treap ℕ → ℕ
nodes Empty = 0
nodes (Over row less more) = 1 + (nodes less + nodes more)

-- what the topmost entry's name stands for
abbrev pub at_top : Name → Unfolded → Option Unfolded
at_top (Entry i) (Folder id name less more inside) = if i.0 == id then Some (Folder id name less more inside) else None
at_top (Entry i) (Leaf id name less more size counter versions) = if i.0 == id then Some (Leaf id name less more size counter versions) else None
at_top n u = None

-- rows and what is told of them are those of entries
pub record IsLevelOf (owns : List Own) (level : Level) : Type 0 where
  pub rows : level.rows.items ≡ map row_of owns
  pub told : level.told.items ≡ map told owns

-- a row that has an entry
pub record IsRow (row : Row) : Type 0 where
  pub id : 2 ≤ row.id.0
  pub name : is_step row.name ≡ true

-- an item as a row
abbrev pub item_row : Item → Row
item_row item = record { id = item.id; name = item.name }

-- rows with entries, and what is told of each
pub record IsLevel (level : Level) : Type 0 where
  pub same : length level.rows.items ≡ length level.told.items
  pub rows : All IsRow level.rows.items
  pub told : All (λ t. IsBody t.body) level.told.items

-- an item that has an entry
pub record IsItem (item : Item) : Type 0 where
  pub id : 2 ≤ item.id.0
  pub name : is_step item.name ≡ true

abbrev pub inside_item : List ℕ → Name → Item → Option StoredPlaces → List Item → Option Unfolded
inside_item order n item None items = in_directory n (directory order (grown (item.depth + 1) items))
inside_item order n item (Some f) items = in_file n item.id.0 (file_of f)

-- what a name stands for inside items, each by itself
abbrev pub inside_items : List ℕ → Name → List Item → Option Unfolded
inside_items order n [] = None
inside_items order n (item ∷ items) = either (inside_item order n item item.file items) (inside_items order n items)

-- the names of rows rise, not regarding what is inside them
abbrev pub IsRising : Rows → Type 0
IsRising End = Unit {0}
IsRising (TableRow id name file inside next) = PrecedesFirst name next × IsRising next

-- an item, and what lies inside it among the items that follow: ids once, names rising
pub record IsFit (item : Item) (items : List Item) : Type 0 where
  pub own : IsItem item
  pub once : (i : ℕ) → times_given i (grown (item.depth + 1) items) ≤ 1
  pub rising : IsRising (grown (item.depth + 1) items)

-- each item is so
abbrev pub AreFit : List Item → Type 0
AreFit [] = Unit {0}
AreFit (item ∷ items) = IsFit item items × AreFit items

-- items whose ids stand once and whose names rise, each with what lies inside it
pub record AreStored (items : List Item) : Type 0 where
  pub fit : AreFit items
  pub once : (i : ℕ) → times_given i (grown 0 items) ≤ 1
  pub rising : IsRising (grown 0 items)

-- what a name stands for among items: in the topmost directory, or inside an item
abbrev pub among_items : List ℕ → Name → List Item → Option Unfolded
among_items order n items = either (in_directory n (directory order (grown 0 items))) (inside_items order n items)

-- the entry of a root above items
abbrev pub root_of_items : List ℕ → ℕ → List Item → Unfolded
root_of_items order id items = Folder id [] Absent Absent (directory order (grown 0 items))

-- what a name stands for in the visible items and those of the trash
abbrev pub shown_items : List ℕ → Name → List Item → List Item → Option Unfolded
shown_items order n visible trash =
    either (in_directory n (root_of_items order 0 visible)) (either (in_directory n (root_of_items order 1 trash)) (either (among_items order n visible) (among_items order n trash)))
