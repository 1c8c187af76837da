-- The table: the rows of each directory in order of names, the trash, a row in hand, the next id and the age.
use Rattle.std.specs.Prelude.{ℕ, List, [], ◌∷◌, replicate, Option, Some, None, if◌then◌else◌}
use Rattle.std.specs.Str.{bytes_eq}
use Rattle.iris_plain.specs.Routes.{is_name_before}

-- a file: its length, its counter of writes, and the version and the block of each place
pub record File : Type 0 where
  pub size : ℕ
  pub counter : ℕ
  pub version : ℕ → ℕ
  pub block : ℕ → List ℕ

-- the rows of a directory: a row is a file, or a directory with the rows inside it
pub data Rows : Type 0 where
  End : Rows
  Row : (id : ℕ) (name : List ℕ) (file : Option File) (inside : Rows) (next : Rows) → Rows

-- the rows below the visible root and in the trash, a row taken from its directory and not yet put into another, the next id and the age
pub record Table : Type 0 where
  pub visible : Rows
  pub trash : Rows
  pub hand : Rows
  pub next : ℕ
  pub age : ℕ

-- the table of the beginning
abbrev pub empty_table : Table
empty_table = record { visible = End; trash = End; hand = End; next = 2; age = 0 }

-- a row by itself
pub record Taken : Type 0 where
  pub id : ℕ
  pub file : Option File
  pub inside : Rows

-- the visible root as a row
abbrev pub root_row : Table → Taken
root_row t = record { id = 0; file = None; inside = t.visible }

-- the row of a name
abbrev pub find : List ℕ → Rows → Option Taken
find n End = None
find n (Row id name file inside next) = if bytes_eq n name then Some (record { id = id; file = file; inside = inside }) else find n next

-- the rows with one more, before the first whose name is greater
abbrev pub with_row : List ℕ → Taken → Rows → Rows
with_row n row End = Row row.id n row.file row.inside End
with_row n row (Row id name file inside next) =
    if is_name_before n name then Row row.id n row.file row.inside (Row id name file inside next) else Row id name file inside (with_row n row next)

-- the rows without that of a name
abbrev pub without_row : List ℕ → Rows → Rows
without_row n End = End
without_row n (Row id name file inside next) = if bytes_eq n name then next else Row id name file inside (without_row n next)

-- the rows with those of the directory at a path changed
abbrev pub at : List (List ℕ) → (Rows → Rows) → Rows → Rows
at [] change rows = change rows
at (n ∷ ns) change End = End
at (n ∷ ns) change (Row id name file inside next) =
    if bytes_eq n name then Row id name file (at ns change inside) next else Row id name file inside (at (n ∷ ns) change next)

-- a file changed
abbrev pub on_file : (File → File) → Option File → Option File
on_file change None = None
on_file change (Some file) = Some (change file)

-- the rows with the file of a name changed
abbrev pub file_at : List ℕ → (File → File) → Rows → Rows
file_at n change End = End
file_at n change (Row id name file inside next) =
    if bytes_eq n name then Row id name (on_file change file) inside next else Row id name file inside (file_at n change next)

-- where resolving ends: at a row, at a name that isn't there, or at a file on the way
pub data Found : Type 0 where
  Here : Taken → Found
  Missing : Found
  Through : Found

-- on to the row of the next name
abbrev pub followed : Option Taken → (Taken → Found) → Found
followed None onward = Missing
followed (Some below) onward = onward below

-- only a directory leads on
abbrev pub entered : Option File → Found → Found
entered (Some file) onward = Through
entered None onward = onward

-- resolving goes from a row by the names from the left
abbrev pub resolved : List (List ℕ) → Taken → Found
resolved [] row = Here row
resolved (n ∷ ns) row = entered row.file (followed (find n row.inside) (λ below. resolved ns below))

-- what resolving a path meets in the table
abbrev pub met : Table → List (List ℕ) → Found
met t names = resolved names (root_row t)

-- a block of zeros
unfoldable pub zeros : List ℕ
zeros = replicate 4096 0

-- a file of no bytes
abbrev pub empty_file : File
empty_file = record { size = 0; counter = 0; version = λ p. 0; block = λ p. zeros }
