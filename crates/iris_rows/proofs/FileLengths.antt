-- The step keeps each file within the greatest length.
use Rattle.std.proofs.Common.{◌≡◌, ℕ, ◌+◌, ◌≤◌, List, length, Bool, true, false, cond, Option, Some, None, refl, arith}
use Rattle.std.specs.Prelude.{is_none, nat_lt, ◌==◌}
use Rattle.std.proofs.lemmas.Bool.Decides.{nat_tests}
use Rattle.iris_name.specs.declared.request.PlainError.{PlainError}
use Rattle.iris_name.specs.declared.request.PlainError.TheVariants.{IsDir, TooLong, TooMuch, Full}
use Rattle.iris_name.specs.declared.request.Request.{Request}
use Rattle.iris_name.specs.declared.request.Request.TheVariants.{Mkdir, Create, Write, Read, Resize, Stat, List as ListNames, Rename, Remove, Sync, Root, Reclaim, Probe}
use Rattle.iris_name.specs.Paths.{names_of}
use Rattle.iris_node.specs.Rules.{most_length}
use Rattle.iris_plain.specs.Routes.{parent, last}
use Rattle.iris_plain.specs.Checks.{is_full, on_names, write_checks, resize_checks, size_of, is_directory_seen, unresolved, then_error, error_if, blocks_of}
use Rattle.iris_plain.specs.declared.checks.Seen.{Seen}
use Rattle.iris_plain.specs.declared.checks.Seen.TheVariants.{ADirectory, AFile, Nothing, AFileBefore}
use Rattle.iris_rows.specs.Rows.{File, Rows, End, Row, Table, Taken, root_row, with_row, without_row, at, file_at, Found, Here, Missing, Through, met, empty_file}
use Rattle.iris_rows.specs.Changes.{trash_name, made, filed, gone, removed, row_moved, emptied, retrashed, reclaimed, seen_in, accepted_change, stepped, table_verdict}
use Rattle.iris_plain.specs.Steps.{by_names}
use Rattle.iris_rows.specs.FileChanges.{file_written, cut, freed, count_written}
use Rattle.iris_rows.specs.Sound.{FitsRecord, OnFile, AllFiles}
use Rattle.iris_rows.proofs.FilesAmongRows.{all_put, all_without, all_at, all_file_at, all_here}

-- all files of a table are so
abbrev pub Short : Table → Type 0
Short t = AllFiles FitsRecord t.visible × AllFiles FitsRecord t.trash

short_written : (offset : ℕ) (bytes : List ℕ) (f : File) → offset + length bytes ≤ most_length → FitsRecord f → FitsRecord (file_written offset bytes f)
short_written offset bytes f h k = by (nat_lt f.size (offset + length bytes)) where
  by : (b : Bool) → cond b (offset + length bytes) f.size ≤ most_length
  by true = h
  by false = k

short_put : (t : Table) (names : List (List ℕ)) (row : Taken) (rows : Rows) → OnFile FitsRecord row.file → AllFiles FitsRecord row.inside → AllFiles FitsRecord rows → AllFiles FitsRecord (at (parent names) (with_row (last names) row) rows)
short_put t names row rows g h d = all_at FitsRecord (parent names) (with_row (last names) row) rows (λ inner k. all_put FitsRecord (last names) row inner g h k) d

short_filed : (t : Table) (names : List (List ℕ)) (change : File → File) → ((f : File) → FitsRecord f → FitsRecord (change f)) → Short t → Short (filed change names t)
short_filed t names change k d = (all_at FitsRecord (parent names) (file_at (last names) change) t.visible (λ inner h. all_file_at FitsRecord (last names) change inner k h) d.0, d.1)

short_gone : (t : Table) (names : List (List ℕ)) → Short t → AllFiles FitsRecord (gone names t)
short_gone t names d = all_at FitsRecord (parent names) (without_row (last names)) t.visible (λ inner h. all_without FitsRecord (last names) inner h) d.0

short_removed : (t : Table) (names : List (List ℕ)) (f : Found) → met t names ≡ f → Short t → Short (removed names t f)
short_removed t names (Here row) e d = let h = all_here FitsRecord names (root_row t) row e tt d.0 in (short_gone t names d, all_put FitsRecord (trash_name row.id) row t.trash h.0 h.1 d.1)
short_removed t names Missing e d = d
short_removed t names Through e d = d

short_emptied : (t : Table) (names : List (List ℕ)) (f : Found) → met t names ≡ f → Short t → Short (emptied names t f)
short_emptied t names (Here row) e d =
    let h = all_here FitsRecord names (root_row t) row e tt d.0 in
    let new : Taken = record { id = t.next; file = Some empty_file; inside = End } in
    (short_put t names new (gone names t) (omega arith) tt (short_gone t names d), all_put FitsRecord (trash_name row.id) row t.trash h.0 h.1 d.1)
short_emptied t names Missing e d = d
short_emptied t names Through e d = d

short_moved : (t : Table) (olds news : List (List ℕ)) (f : Found) → met t olds ≡ f → Short t → Short (row_moved olds news t f)
short_moved t olds news (Here row) e d = let h = all_here FitsRecord olds (root_row t) row e tt d.0 in (short_put t news row (gone olds t) h.0 h.1 (short_gone t olds d), d.1)
short_moved t olds news Missing e d = d
short_moved t olds news Through e d = d

short_reclaimed : (t : Table) (rows : Rows) → Short t → AllFiles FitsRecord rows → Short (reclaimed t rows)
short_reclaimed t End d k = d
short_reclaimed t (Row id name None End next) d k = (d.0, k.2)
short_reclaimed t (Row id name None (Row i n file inside others) next) d k =
    (d.0, all_put FitsRecord (trash_name i) (record { id = i; file = file; inside = inside }) (Row id name None others next) k.1.0 k.1.1 (tt, k.1.2, k.2))
short_reclaimed t (Row id name (Some file) inside next) d k = by (count_written file.version (blocks_of file.size) == 0) where
  by : (b : Bool) → Short (cond b (retrashed next t) (retrashed (Row id name (Some (freed file)) inside next) t))
  by true = (d.0, k.2)
  by false = (d.0, k)

-- an accepted write or resize ends within it
write_long : (here : Seen) (much long full none : Bool) → then_error (error_if much TooMuch) (then_error (unresolved here) (then_error (error_if (is_directory_seen here) IsDir) (cond none None (then_error (error_if long TooLong) (error_if full Full))))) ≡ None
    → none ≡ false → long ≡ false
write_long here much false full none e z = refl
write_long here true true full none e z = absurd (cc)
write_long here much true full true e z = absurd (cc)
write_long ADirectory false true full false e z = absurd (cc)
write_long (AFile n) false true full false e z = absurd (cc)
write_long Nothing false true full false e z = absurd (cc)
write_long AFileBefore false true full false e z = absurd (cc)

resize_long : (here : Seen) (long : Bool) (rest : Option PlainError) → then_error (unresolved here) (then_error (error_if (is_directory_seen here) IsDir) (then_error (error_if long TooLong) rest)) ≡ None → long ≡ false
resize_long here false rest e = refl
resize_long ADirectory true rest e = absurd (cc)
resize_long (AFile n) true rest e = absurd (cc)
resize_long Nothing true rest e = absurd (cc)
resize_long AFileBefore true rest e = absurd (cc)

within : (n : ℕ) → nat_lt most_length n ≡ false → n ≤ most_length
within n e = grind (arith, nat_tests)

short_if : (b : Bool) (t u : Table) → Short t → (b ≡ false → Short u) → Short (cond b t u)
short_if true t u h k = h
short_if false t u h k = k refl

on_made : (t : Table) (o : Option (List (List ℕ))) (file : Option File) → OnFile FitsRecord file → Short t → Short (by_names t o (λ names. made file names t))
on_made t None file g d = d
on_made t (Some names) file g d = (short_put t names (record { id = t.next; file = file; inside = End }) t.visible g tt d.0, d.1)

on_written : (t : Table) (o : Option (List (List ℕ))) (offset : ℕ) (bytes : List ℕ) → Short t → on_names o (λ names. write_checks (seen_in t names) offset (length bytes) (is_full t.age)) ≡ None
    → Short (by_names t o (λ names. cond (length bytes == 0) t (filed (file_written offset bytes) names t)))
on_written t None offset bytes d e = d
on_written t (Some names) offset bytes d e = short_if (length bytes == 0) t (filed (file_written offset bytes) names t) d (λ z.
    short_filed t names (file_written offset bytes) (λ f k. short_written offset bytes f (within (offset + length bytes) (write_long (seen_in t names) _ _ (is_full t.age) _ e z)) k) d)

on_resized : (t : Table) (o : Option (List (List ℕ))) (size : ℕ) → Short t → on_names o (λ names. resize_checks (seen_in t names) size (is_full t.age)) ≡ None
    → Short (by_names t o (λ names. cond (size == size_of (seen_in t names)) t (cond (size == 0) (emptied names t (met t names)) (filed (cut size) names t))))
on_resized t None size d e = d
on_resized t (Some names) size d e = short_if (size == size_of (seen_in t names)) t _ d (λ z. short_if (size == 0) (emptied names t (met t names)) (filed (cut size) names t)
    (short_emptied t names (met t names) refl d) (λ y. short_filed t names (cut size) (λ f k. within size (resize_long (seen_in t names) _ _ e)) d))

on_moved : (t : Table) (o k : Option (List (List ℕ))) → Short t → Short (by_names t o (λ olds. by_names t k (λ news. row_moved olds news t (met t olds))))
on_moved t None k d = d
on_moved t (Some olds) None d = d
on_moved t (Some olds) (Some news) d = short_moved t olds news (met t olds) refl d

on_removed : (t : Table) (o : Option (List (List ℕ))) → Short t → Short (by_names t o (λ names. removed names t (met t names)))
on_removed t None d = d
on_removed t (Some names) d = short_removed t names (met t names) refl d

changed_short : (t : Table) (r : Request) → Short t → table_verdict t r ≡ None → Short (accepted_change t r)
changed_short t (Mkdir path) d e = on_made t (names_of path) None tt d
changed_short t (Create path) d e = on_made t (names_of path) (Some empty_file) (omega arith) d
changed_short t (Write path offset bytes) d e = on_written t (names_of path) offset bytes d e
changed_short t (Read path offset count) d e = d
changed_short t (Resize path size) d e = on_resized t (names_of path) size d e
changed_short t (Stat path) d e = d
changed_short t (ListNames path after) d e = d
changed_short t (Rename from to) d e = on_moved t (names_of from) (names_of to) d
changed_short t (Remove path) d e = on_removed t (names_of path) d
changed_short t Sync d e = d
changed_short t Root d e = d
changed_short t Reclaim d e = short_reclaimed t t.trash d d.1
changed_short t (Probe at) d e = d

-- the files of the next table are so
pub short_kept : (t : Table) (r : Request) → Short t → Short (stepped t r)
short_kept t r d = by (table_verdict t r) refl where
  by : (o : Option PlainError) → table_verdict t r ≡ o → Short (cond (is_none o) (accepted_change t r) t)
  by None e = changed_short t r d e
  by (Some x) e = d
