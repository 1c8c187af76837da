-- The step of the table by a request.
use Rattle.std.specs.Prelude.{ℕ, zero, suc, ◌+◌, ◌-◌, ◌/◌, ◌%◌, ◌==◌, List, [], ◌∷◌, ◌++◌, length, Option, Some, None, if◌then◌else◌, nat_lt, is_none}
use Rattle.iris_name.specs.declared.request.PlainError.{PlainError}
use Rattle.iris_name.specs.declared.request.Request.{Request}
use Rattle.iris_name.specs.declared.request.Request.TheVariants.{Mkdir, Create, Write, Read, Resize, Stat, List as ListNames, Rename, Remove, Sync, Root, Reclaim, Probe}
use Rattle.iris_name.specs.Paths.{names_of}
use Rattle.iris_plain.specs.Routes.{parent, last}
use Rattle.iris_plain.specs.Steps.{by_names}
use Rattle.iris_plain.specs.Checks.{blocks_of, verdict, is_full, size_of}
use Rattle.iris_plain.specs.declared.checks.Seen.{Seen}
use Rattle.iris_plain.specs.declared.checks.Seen.TheVariants.{ADirectory, AFile, Nothing, AFileBefore}
use Rattle.iris_rows.specs.Rows.{File, Rows, End, Row, Table, Taken, with_row, without_row, at, file_at, Found, Here, Missing, Through, met, empty_file}
use Rattle.iris_rows.specs.FileChanges.{file_written, cut, count_written, freed}

-- the digit of a number below 16
abbrev pub hex_digit : ℕ → ℕ
hex_digit d = if nat_lt d 10 then 48 + d else 87 + d

-- the last so many hexadecimal digits of a number
abbrev pub hex_digits : ℕ → ℕ → List ℕ
hex_digits zero n = []
hex_digits (suc count) n = hex_digits count (n / 16) ++ hex_digit (n % 16) ∷ []

-- the name of an entry in the trash: the 16 digits of its id
abbrev pub trash_name : ℕ → List ℕ
trash_name id = hex_digits 16 id

-- the visible rows changed, at the next age
abbrev pub older : Rows → Table → Table
older rows t = record { visible = rows; trash = t.trash; hand = t.hand; next = t.next; age = t.age + 1 }

-- a new file or directory at a path
abbrev pub made : Option File → List (List ℕ) → Table → Table
made file names t = record {
  visible = at (parent names) (with_row (last names) (record { id = t.next; file = file; inside = End })) t.visible;
  trash = t.trash;
  hand = t.hand;
  next = t.next + 1;
  age = t.age + 1;
}

-- the file at a path changed
abbrev pub filed : (File → File) → List (List ℕ) → Table → Table
filed change names t = older (at (parent names) (file_at (last names) change) t.visible) t

-- the visible rows without those at and below a path
abbrev pub gone : List (List ℕ) → Table → Rows
gone names t = at (parent names) (without_row (last names)) t.visible

-- the trash with a row under its own name
abbrev pub thrown : Taken → Rows → Rows
thrown row trash = with_row (trash_name row.id) row trash

-- the row at a path moves into the trash
abbrev pub removed : List (List ℕ) → Table → Found → Table
removed names t (Here row) = record { visible = gone names t; trash = thrown row t.trash; hand = t.hand; next = t.next; age = t.age + 1 }
removed names t Missing = t
removed names t Through = t

-- the row at a path moves to another
abbrev pub row_moved : List (List ℕ) → List (List ℕ) → Table → Found → Table
row_moved olds news t (Here row) = older (at (parent news) (with_row (last news) row) (gone olds t)) t
row_moved olds news t Missing = t
row_moved olds news t Through = t

-- the row at a path moves into the trash, and a new empty file stands at the path
abbrev pub emptied : List (List ℕ) → Table → Found → Table
emptied names t (Here row) = record {
  visible = at (parent names) (with_row (last names) (record { id = t.next; file = Some empty_file; inside = End })) (gone names t);
  trash = thrown row t.trash;
  hand = t.hand;
  next = t.next + 1;
  age = t.age + 1;
}
emptied names t Missing = t
emptied names t Through = t

-- the table with another trash
abbrev pub retrashed : Rows → Table → Table
retrashed rows t = record { visible = t.visible; trash = rows; hand = t.hand; next = t.next; age = t.age }

-- one step on the trash, by its first row
abbrev pub reclaimed : Table → Rows → Table
reclaimed t End = t
reclaimed t (Row id name None End next) = retrashed next t
reclaimed t (Row id name None (Row i n file inside others) next) =
    retrashed (thrown (record { id = i; file = file; inside = inside }) (Row id name None others next)) t
reclaimed t (Row id name (Some file) inside next) =
    if count_written file.version (blocks_of file.size) == 0 then retrashed next t else retrashed (Row id name (Some (freed file)) inside next) t

-- what a row is seen as
abbrev pub seen_file : Option File → Seen
seen_file None = ADirectory
seen_file (Some file) = AFile file.size

-- what the end of resolving is seen as
abbrev pub seen_row : Found → Seen
seen_row (Here row) = seen_file row.file
seen_row Missing = Nothing
seen_row Through = AFileBefore

-- what resolving a path meets, as the checks see it
abbrev pub seen_in : Table → List (List ℕ) → Seen
seen_in t names = seen_row (met t names)

-- what an accepted request changes
abbrev pub accepted_change : Table → Request → Table
accepted_change t (Mkdir path) = by_names t (names_of path) (λ names. made None names t)
accepted_change t (Create path) = by_names t (names_of path) (λ names. made (Some empty_file) names t)
accepted_change t (Write path offset bytes) = by_names t (names_of path) (λ names. if length bytes == 0 then t else filed (file_written offset bytes) names t)
accepted_change t (Read path offset count) = t
accepted_change t (Resize path size) = by_names t (names_of path) (λ names.
    if size == size_of (seen_in t names) then t else if size == 0 then emptied names t (met t names) else filed (cut size) names t)
accepted_change t (Stat path) = t
accepted_change t (ListNames path after) = t
accepted_change t (Rename from to) = by_names t (names_of from) (λ olds. by_names t (names_of to) (λ news. row_moved olds news t (met t olds)))
accepted_change t (Remove path) = by_names t (names_of path) (λ names. removed names t (met t names))
accepted_change t Sync = t
accepted_change t Root = t
accepted_change t Reclaim = reclaimed t t.trash
accepted_change t (Probe at) = t

-- the first check that applies to a request
abbrev pub table_verdict : Table → Request → Option PlainError
table_verdict t request = verdict (seen_in t) (is_full t.age) request

-- the next table: a plain error changes nothing
abbrev pub stepped : Table → Request → Table
stepped t request = if is_none (table_verdict t request) then accepted_change t request else t

-- the table after requests, one after another
abbrev pub after_requests : Table → List Request → Table
after_requests t [] = t
after_requests t (request ∷ requests) = after_requests (stepped t request) requests
