-- Rows in preorder, each with its depth: the forest that they make.
use Rattle.std.specs.Prelude.{◌≤◌, ◌+◌, ℕ, List, [], ◌∷◌, Option, Some, None, nat_lt, if◌then◌else◌}
use Rattle.iris_rows.specs.declared.item.Item.{Item}
use Rattle.iris_rows.specs.Places.{StoredPlaces, file_of}
use Rattle.iris_rows.specs.Rows.{File, Rows, End, Row, Table}

-- a file where one is kept
abbrev pub kept_file : Option StoredPlaces → Option File
kept_file None = None
kept_file (Some f) = Some (file_of f)

-- the rows at a depth, from the first item on up to one that lies higher
abbrev pub grown : ℕ → List Item → Rows
grown d [] = End
grown d (item ∷ items) =
    if nat_lt item.depth d then End else if nat_lt d item.depth then grown d items
    else Row item.id.0 item.name (kept_file item.file) (grown (d + 1) items) (grown d items)

-- how deep the next item may lie: beside a file, or inside a directory
abbrev pub most_depth : Item → Option StoredPlaces → ℕ
most_depth item None = item.depth + 1
most_depth item (Some f) = item.depth

-- each item lies at most this deep, and the next at most one deeper, beside a file and not inside it
abbrev pub IsForestTo : ℕ → List Item → Type 0
IsForestTo most [] = Unit {0}
IsForestTo most (item ∷ items) = (item.depth ≤ most) × IsForestTo (most_depth item item.file) items

-- items in preorder: the first lies at depth 0
abbrev pub IsForest : List Item → Type 0
IsForest items = IsForestTo 0 items

-- the table of these items
abbrev pub table_over : List Item → List Item → ℕ → ℕ → Table
table_over visible trash next age = record { visible = grown 0 visible; trash = grown 0 trash; hand = End; next = next; age = age }
