-- A row taken out of a directory, and put into another, in the words of the plans.
use Rattle.std.specs.Prelude.{◌≡◌, ℕ, List, Some, None}
use Rattle.iris_node.specs.Unfolded.{id_of}
use Rattle.iris_shape.specs.Treap.{rows_with as tree_put, rows_without as tree_without}
use Rattle.iris_treepaths.specs.Rows.{Rearranges}
use Rattle.iris_treepaths.specs.Rows as tree
use Rattle.iris_treepaths.specs.Ways.{Any, is_row_before, has_name}
use Rattle.iris_paths.specs.Moving.{renamed_row}
use Rattle.iris_rows.specs.Rows.{Rows, End, Row, Table, Taken, find, with_row, without_row, at}
use Rattle.iris_records.specs.Shown.{treap_of_entries, owns, shown}
use Rattle.iris_forest.specs.Hands.{IsHeld}
use Rattle.iris_forest.specs.Places.{row_of_own, rows_of, LeadsToDirectory}

-- a row of this name with what is inside it, as a row of a treap
abbrev pub tree_row : List ℕ → List ℕ → Taken → tree.Row
tree_row order name row = row_of_own (record { id = row.id; name = name; file = row.file; inside = treap_of_entries order (owns order row.inside) })

-- The second table is the first with the row of a name taken from the directory at a path into the hand.
pub record TakesOut (t u : Table) (names : List (List ℕ)) (name : List ℕ) (i : ℕ) (rows : Rows) (row : Taken) : Type 0 where
  pub was : IsHeld t
  pub empty : t.hand ≡ End
  pub is : IsHeld u
  pub leads : LeadsToDirectory t names i rows
  pub named : find name rows ≡ Some row
  pub visible : u.visible ≡ at names (without_row name) t.visible
  pub trash : u.trash ≡ t.trash
  pub hand : u.hand ≡ Row row.id name row.file row.inside End

-- The second table is the first with the row in hand put into the directory at a path under a new name.
pub record PutsIn (t u : Table) (names : List (List ℕ)) (name label : List ℕ) (i : ℕ) (rows : Rows) (row : Taken) : Type 0 where
  pub was : IsHeld t
  pub hand : t.hand ≡ Row row.id name row.file row.inside End
  pub is : IsHeld u
  pub empty : u.hand ≡ End
  pub leads : LeadsToDirectory t names i rows
  pub free : find label rows ≡ None
  pub visible : u.visible ≡ at names (with_row label row) t.visible
  pub trash : u.trash ≡ t.trash

-- what is taken out is one of the rows, and the others are left
abbrev pub TakesAreRows : Type 0
TakesAreRows = (order : List ℕ) (t u : Table) (names : List (List ℕ)) (name : List ℕ) (i : ℕ) (rows : Rows) (row : Taken) → TakesOut t u names name i rows row
    → Any (λ r. r ≡ tree_row order name row) (rows_of order rows) × Rearranges (shown order t) (shown order u) order (id_of i) (rows_of order rows) (tree_without (has_name name) (rows_of order rows))

-- what is put in is one row more
abbrev pub PutsAreRows : Type 0
PutsAreRows = (order : List ℕ) (t u : Table) (names : List (List ℕ)) (name label : List ℕ) (i : ℕ) (rows : Rows) (row : Taken) → PutsIn t u names name label i rows row
    → Rearranges (shown order t) (shown order u) order (id_of i) (rows_of order rows) (tree_put (is_row_before label) (renamed_row label (tree_row order name row)) (rows_of order rows))
