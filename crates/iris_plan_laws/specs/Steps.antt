-- What a request's step makes of what a table shows, in the words of the plans.
use Rattle.std.specs.Prelude.{◌≡◌, ℕ, List, Option, Some, None, is_none}
use Rattle.iris_node.specs.Unfolded.{id_of}
use Rattle.iris_plain.specs.Routes.{parent, last}
use Rattle.iris_shape.specs.Treap.{rows_with}
use Rattle.iris_files.specs.Refiles.{Refiles}
use Rattle.iris_treepaths.specs.Rows.{Rearranges}
use Rattle.iris_treepaths.specs.Ways.{is_row_before}
use Rattle.iris_paths.specs.Making.{new_row}
use Rattle.iris_rows.specs.Rows.{File, Rows, Table, Here, root_row, resolved, find, empty_file}
use Rattle.iris_rows.specs.Changes.{filed, made}
use Rattle.iris_records.specs.Shown.{shown}
use Rattle.iris_rows.specs.Sound.{IsSound}
use Rattle.iris_forest.specs.Places.{rows_of, LeadsToDirectory}

-- a change of the file at a path is one of its length, its counter and its versions
abbrev pub FilesAreRefiled : Type 0
FilesAreRefiled = (order : List ℕ) (t : Table) (change : File → File) (names : List (List ℕ)) (i : ℕ) (f : File) (inside : Rows)
    → IsSound t → IsSound (filed change names t) → resolved names (root_row t) ≡ Here (record { id = i; file = Some f; inside = inside })
    → Refiles (shown order t) (shown order (filed change names t)) (id_of i) (change f).size (change f).counter (change f).version

-- a new directory, or a new file of no bytes
abbrev pub IsEmptyContent : Option File → Type 0
IsEmptyContent None = Unit {0}
IsEmptyContent (Some f) = f ≡ empty_file

-- a file or directory that is made is one row more
abbrev pub MakesAreRows : Type 0
MakesAreRows = (order : List ℕ) (t : Table) (kind : Option File) → IsEmptyContent kind → (names : List (List ℕ)) (i : ℕ) (inner : Rows)
    → IsSound t → IsSound (made kind names t) → LeadsToDirectory t (parent names) i inner → find (last names) inner ≡ None
    → Rearranges (shown order t) (shown order (made kind names t)) order (id_of i) (rows_of order inner) (rows_with (is_row_before (last names)) (new_row t.next (last names) (is_none kind)) (rows_of order inner))
