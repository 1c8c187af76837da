-- What the checks of an accepted request leave, and the table after it.
use Rattle.std.proofs.Common.{◌≡◌, ◌≢◌, ℕ, ◌+◌, ◌<◌, ◌≤◌, List, [], ◌∷◌, length, Bool, true, false, ◌&&◌, cond, Option, Some, None, refl, sym, ◌∙◌, ap, arith}
use Rattle.std.specs.Prelude.{◌==◌, is_none, nat_lt}
use Rattle.std.proofs.lemmas.Bool.Decides.{nat_tests}
use Rattle.std.proofs.lemmas.Bool.{eqb-true, eq-eqb, ne_eqb}
use Rattle.iris_name.specs.declared.request.PlainError.{PlainError}
use Rattle.iris_name.specs.declared.request.PlainError.TheVariants.{TooLong, TooMuch, Full}
use Rattle.iris_name.specs.declared.request.Request.{Request}
use Rattle.iris_name.specs.declared.request.Request.TheVariants.{Mkdir, Create, Write, Resize, Rename}
use Rattle.iris_name.specs.Paths.{names_of}
use Rattle.iris_plain.specs.Checks.{blocks_of, is_full, is_there, size_of, on_names, then_error, error_if, no_place, write_checks, resize_checks, move_checks}
use Rattle.iris_plain.specs.Routes.{parent, last, is_top, is_front, is_at_or_under}
use Rattle.iris_plain.specs.Steps.{by_names}
use Rattle.iris_plain.specs.declared.checks.Seen.TheVariants.{ADirectory, AFile}
use Rattle.iris_rows.specs.Changes.{seen_in, seen_row, seen_file, made, filed, emptied, row_moved, accepted_change, stepped, table_verdict}
use Rattle.iris_rows.specs.FileChanges.{file_written, cut}
use Rattle.iris_rows.specs.Rows.{File, Rows, Table, Taken, Found, Here, Missing, Through, root_row, met, resolved, followed, entered, find, empty_file}
use Rattle.iris_rows.proofs.ViewOfStep.{places, moves, front, not_under}
use Rattle.iris_forest.proofs.Ids.{taken_eq, missing_here, through_here}
use Rattle.iris_plan_laws.specs.Begun.{IsAtFile}
use Rattle.iris_plan_laws.specs.Makes.{making}
use Rattle.iris_forest.specs.Places.{LeadsToDirectory}

-- ---- a directory in which a new name may stand

-- where the checks of a new name let it pass
pub record IsFree (t : Table) (names : List (List ℕ)) : Type 0 where
  pub id : ℕ
  pub rows : Rows
  pub leads : LeadsToDirectory t (parent names) id rows
  pub absent : find (last names) rows ≡ None

-- one name further than its directory
resolved_last : (n : List ℕ) (ns : List (List ℕ)) (from row : Taken) → resolved (parent (n ∷ ns)) from ≡ Here row → row.file ≡ None → resolved (n ∷ ns) from ≡ followed (find (last (n ∷ ns)) row.inside) (λ below. Here below)
resolved_last n [] from row e d = by from.file (ap (λ (z : Taken). z.file) same ∙ d) ∙ ap (λ (z : Taken). followed (find n z.inside) (λ below. Here below)) same where
  same : from ≡ row
  same = taken_eq from row e

  by : (file : Option File) → file ≡ None → entered file (followed (find n from.inside) (λ below. Here below)) ≡ followed (find n from.inside) (λ below. Here below)
  by None e = refl
  by (Some f) e = absurd (cc)
resolved_last n (m ∷ ms) from row e d = by from.file (find n from.inside) e (λ below h. resolved_last m ms below row h d) where
  by : (file : Option File) (o : Option Taken) → entered file (followed o (λ below. resolved (parent (m ∷ ms)) below)) ≡ Here row
      → ((below : Taken) → resolved (parent (m ∷ ms)) below ≡ Here row → resolved (m ∷ ms) below ≡ followed (find (last (m ∷ ms)) row.inside) (λ below. Here below))
      → entered file (followed o (λ below. resolved (m ∷ ms) below)) ≡ followed (find (last (m ∷ ms)) row.inside) (λ below. Here below)
  by None None e ih = absurd (missing_here row e)
  by None (Some below) e ih = ih below e
  by (Some f) o e ih = absurd (through_here row e)

not_met : (o : Option Taken) → is_there (seen_row (followed o (λ below. Here below))) ≡ false → o ≡ None
not_met None e = refl
not_met (Some below) e = by below.file e where
  by : (file : Option File) → is_there (seen_file file) ≡ false → Some below ≡ None
  by None e = absurd (cc)
  by (Some f) e = absurd (cc)

pub directory_met : (f : Found) → seen_row f ≡ ADirectory → (row : Taken) × (f ≡ Here row) × (row.file ≡ None)
directory_met (Here row) e = (row, refl, by row.file e) where
  by : (file : Option File) → seen_file file ≡ ADirectory → file ≡ None
  by None e = refl
  by (Some f) e = absurd (cc)
directory_met Missing e = absurd (cc)
directory_met Through e = absurd (cc)

as_directory : (row : Taken) → row.file ≡ None → row ≡ record { id = row.id; file = None; inside = row.inside }
as_directory row e = ap (λ z. record { id = row.id; file = z; inside = row.inside }) e

pub directory_leads : (t : Table) (names : List (List ℕ)) → seen_in t names ≡ ADirectory → (i : ℕ) × (rows : Rows) × LeadsToDirectory t names i rows
directory_leads t names e = let d = directory_met (met t names) e in (d.0.id, d.0.inside, d.1 ∙ ap Here (as_directory d.0 d.2))

pub free : (t : Table) (full : Bool) (names : List (List ℕ)) → no_place (seen_in t) full names ≡ None → IsFree t names
free t full [] e = absurd (cc)
free t full (n ∷ ns) e =
    let p = places (seen_in t (parent (n ∷ ns))) (seen_in t (n ∷ ns)) (is_top (n ∷ ns)) full e in
    let d = directory_met (met t (parent (n ∷ ns))) p.1 in
    let l = resolved_last n ns (root_row t) d.0 d.1 d.2 in
    record { id = d.0.id; rows = d.0.inside; leads = d.1 ∙ ap Here (as_directory d.0 d.2); absent = not_met (find (last (n ∷ ns)) d.0.inside) (sym (ap (λ z. is_there (seen_row z)) l) ∙ p.2) }

-- ---- the directory in which the row at a path stands

pub record IsInDirectory (names : List (List ℕ)) (from x : Taken) : Type 0 where
  pub dir : Taken
  pub leads : resolved (parent names) from ≡ Here dir
  pub directory : dir.file ≡ None
  pub named : find (last names) dir.inside ≡ Some x

pub in_directory_of : (n : List ℕ) (ns : List (List ℕ)) (from x : Taken) → resolved (n ∷ ns) from ≡ Here x → IsInDirectory (n ∷ ns) from x
in_directory_of n [] from x e = by from.file refl (find n from.inside) refl e where
  by : (file : Option File) → from.file ≡ file → (o : Option Taken) → find n from.inside ≡ o → entered file (followed o (λ below. Here below)) ≡ Here x → IsInDirectory (n ∷ []) from x
  by None d None f e = absurd (missing_here x e)
  by None d (Some below) f e = record { dir = from; leads = refl; directory = d; named = f ∙ ap Some (taken_eq below x e) }
  by (Some g) d o f e = absurd (through_here x e)
in_directory_of n (m ∷ ms) from x e = by from.file refl (find n from.inside) refl e (λ below q. in_directory_of m ms below x q) where
  by : (file : Option File) → from.file ≡ file → (o : Option Taken) → find n from.inside ≡ o → entered file (followed o (λ below. resolved (m ∷ ms) below)) ≡ Here x
      → ((below : Taken) → resolved (m ∷ ms) below ≡ Here x → IsInDirectory (m ∷ ms) below x) → IsInDirectory (n ∷ m ∷ ms) from x
  by None d None f e ih = absurd (missing_here x e)
  by None d (Some below) f e ih =
      let s = ih below e in
      record {
        dir = s.dir;
        leads = ap (λ z. entered z (followed (find n from.inside) (λ below. resolved (parent (m ∷ ms)) below))) d ∙ ap (λ z. followed z (λ below. resolved (parent (m ∷ ms)) below)) f ∙ s.leads;
        directory = s.directory;
        named = s.named;
      }
  by (Some g) d o f e ih = absurd (through_here x e)

-- ---- the table after an accepted request

step_is : (t : Table) (request : Request) → table_verdict t request ≡ None → stepped t request ≡ accepted_change t request
step_is t request e = ap (λ v. cond (is_none v) (accepted_change t request) t) e

pub refused_step : (t : Table) (request : Request) (x : PlainError) → table_verdict t request ≡ Some x → stepped t request ≡ t
refused_step t request x e = ap (λ v. cond (is_none v) (accepted_change t request) t) e

-- the checks of the names of a path
named_checks : (o : Option (List (List ℕ))) (names : List (List ℕ)) (checks : List (List ℕ) → Option PlainError) → o ≡ Some names → on_names o checks ≡ None → checks names ≡ None
named_checks o names checks n e = sym (ap (λ z. on_names z checks) n) ∙ e

-- a path that is accepted has names
pub has_names : (o : Option (List (List ℕ))) (checks : List (List ℕ) → Option PlainError) → on_names o checks ≡ None → (names : List (List ℕ)) × (o ≡ Some names)
has_names None checks e = absurd (cc)
has_names (Some names) checks e = (names, refl)

-- what is made
abbrev pub made_kind : Bool → Option File
made_kind true = None
made_kind false = Some empty_file

pub made_free : (t : Table) (dir : Bool) (path : List ℕ) (names : List (List ℕ)) → table_verdict t (making dir path) ≡ None → names_of path ≡ Some names → IsFree t names
made_free t true path names e n = free t (is_full t.age) names (named_checks (names_of path) names (no_place (seen_in t) (is_full t.age)) n e)
made_free t false path names e n = free t (is_full t.age) names (named_checks (names_of path) names (no_place (seen_in t) (is_full t.age)) n e)

pub made_step : (t : Table) (dir : Bool) (path : List ℕ) (names : List (List ℕ)) → table_verdict t (making dir path) ≡ None → names_of path ≡ Some names → stepped t (making dir path) ≡ made (made_kind dir) names t
made_step t true path names e n = step_is t (Mkdir path) e ∙ ap (λ o. by_names t o (λ names. made None names t)) n
made_step t false path names e n = step_is t (Create path) e ∙ ap (λ o. by_names t o (λ names. made (Some empty_file) names t)) n

-- what the checks of a move leave
pub record IsMove (t : Table) (olds news : List (List ℕ)) : Type 0 where
  pub row : Taken
  pub here : met t olds ≡ Here row
  pub some : is_top olds ≡ false
  pub apart : is_at_or_under olds (parent news) ≡ false
  pub free : IsFree t news

row_met : (f : Found) → is_there (seen_row f) ≡ true → (row : Taken) × (f ≡ Here row)
row_met (Here row) e = (row, refl)
row_met Missing e = absurd (cc)
row_met Through e = absurd (cc)

pub accepted_move : (t : Table) (from to : List ℕ) (olds news : List (List ℕ)) → table_verdict t (Rename from to) ≡ None → names_of from ≡ Some olds → names_of to ≡ Some news → IsMove t olds news
accepted_move t from to olds news e a b =
    let checks = named_checks (names_of to) news (λ news. move_checks (is_top olds) (seen_in t olds) (is_front olds news) (no_place (seen_in t) (is_full t.age) news)) b
    (named_checks (names_of from) olds (λ olds. on_names (names_of to) (λ news. move_checks (is_top olds) (seen_in t olds) (is_front olds news) (no_place (seen_in t) (is_full t.age) news))) a e) in
    let m = moves (seen_in t olds) (is_top olds) (is_front olds news) (no_place (seen_in t) (is_full t.age) news) checks in
    let r = row_met (met t olds) m.1 in
    let p = places (seen_in t (parent news)) (seen_in t news) (is_top news) (is_full t.age) m.3 in
    record {
      row = r.0;
      here = r.1;
      some = m.0;
      apart = not_under (is_at_or_under olds (parent news)) (λ u. absurd (let x = front olds news p.0 u in let y = m.2 in cc));
      free = free t (is_full t.age) news m.3;
    }

pub moved_step : (t : Table) (from to : List ℕ) (olds news : List (List ℕ)) (row : Taken) → table_verdict t (Rename from to) ≡ None → names_of from ≡ Some olds → names_of to ≡ Some news → met t olds ≡ Here row
    → stepped t (Rename from to) ≡ row_moved olds news t (Here row)
moved_step t from to olds news row e a b h =
    step_is t (Rename from to) e ∙ ap (λ o. by_names t o (λ olds. by_names t (names_of to) (λ news. row_moved olds news t (met t olds)))) a
    ∙ ap (λ o. by_names t o (λ news. row_moved olds news t (met t olds))) b ∙ ap (row_moved olds news t) h

-- ---- a file that is written, or gets another length

not_zero : (n : ℕ) → 0 < n → (n == 0) ≡ false
not_zero n h = ne_eqb n 0 (λ e. omega (arith, h, e))

module _ (t : Table) (path : List ℕ) (i : ℕ) (f : File) (a : IsAtFile t path i f) where
  seen_there : seen_in t a.names ≡ AFile f.size
  seen_there = ap seen_row a.leads

  pub written_step : (offset : ℕ) (bytes : List ℕ) → table_verdict t (Write path offset bytes) ≡ None → 0 < length bytes → stepped t (Write path offset bytes) ≡ filed (file_written offset bytes) a.names t
  written_step offset bytes e some =
      step_is t (Write path offset bytes) e ∙ ap (λ o. by_names t o (λ names. cond (length bytes == 0) t (filed (file_written offset bytes) names t))) a.spelled
      ∙ ap (λ b. cond b t (filed (file_written offset bytes) a.names t)) (not_zero (length bytes) some)

  pub written_limit : (offset : ℕ) (bytes : List ℕ) → table_verdict t (Write path offset bytes) ≡ None → length bytes ≤ 262144
  written_limit offset bytes e =
      by (nat_lt 262144 (length bytes)) refl _ (named_checks (names_of path) a.names (λ names. write_checks (seen_in t names) offset (length bytes) (is_full t.age)) a.spelled e) where
        by : (b : Bool) → nat_lt 262144 (length bytes) ≡ b → (rest : Option PlainError) → then_error (error_if b TooMuch) rest ≡ None → length bytes ≤ 262144
        by true q rest e = absurd (cc)
        by false q rest e = grind (arith, nat_tests)

  resized_by : (size : ℕ) → table_verdict t (Resize path size) ≡ None
      → stepped t (Resize path size) ≡ cond (size == f.size) t (cond (size == 0) (emptied a.names t (met t a.names)) (filed (cut size) a.names t))
  resized_by size e =
      step_is t (Resize path size) e
      ∙ ap (λ o. by_names t o (λ names. cond (size == size_of (seen_in t names)) t (cond (size == 0) (emptied names t (met t names)) (filed (cut size) names t)))) a.spelled
      ∙ ap (λ s. cond (size == size_of s) t (cond (size == 0) (emptied a.names t (met t a.names)) (filed (cut size) a.names t))) seen_there

  pub resized_step : (size : ℕ) → table_verdict t (Resize path size) ≡ None → 0 < size → f.size ≢ size → stepped t (Resize path size) ≡ filed (cut size) a.names t
  resized_step size e some other =
      resized_by size e ∙ ap (λ b. cond b t (cond (size == 0) (emptied a.names t (met t a.names)) (filed (cut size) a.names t))) (ne_eqb size f.size (λ e. other (sym e)))
      ∙ ap (λ b. cond b (emptied a.names t (met t a.names)) (filed (cut size) a.names t)) (not_zero size some)

  pub same_step : (size : ℕ) → table_verdict t (Resize path size) ≡ None → f.size ≡ size → stepped t (Resize path size) ≡ t
  same_step size e same =
      resized_by size e ∙ ap (λ b. cond b t (cond (size == 0) (emptied a.names t (met t a.names)) (filed (cut size) a.names t))) (eq-eqb size f.size (sym same))

  -- at most 64 blocks are lost
  pub resized_limit : (size : ℕ) → table_verdict t (Resize path size) ≡ None → 0 < size → blocks_of f.size ≤ blocks_of size + 64
  resized_limit size e some =
      by (nat_lt 268435456 size) (size == f.size) refl (nat_lt 0 size && nat_lt (blocks_of size + 64) (blocks_of f.size)) refl
      (sym (ap (λ s. resize_checks s size (is_full t.age)) seen_there) ∙ named_checks (names_of path) a.names (λ names. resize_checks (seen_in t names) size (is_full t.age)) a.spelled e) where
        both : (x y : Bool) → x ≡ true → x && y ≡ false → y ≡ false
        both true y h g = g
        both false y h g = absurd (cc)

        by : (long same : Bool) → (size == f.size) ≡ same → (much : Bool) → (nat_lt 0 size && nat_lt (blocks_of size + 64) (blocks_of f.size)) ≡ much
            → then_error (error_if long TooLong) (cond same None (then_error (error_if much TooMuch) (error_if (is_full t.age) Full))) ≡ None → blocks_of f.size ≤ blocks_of size + 64
        by true same q much r e = absurd (cc)
        by false true q much r e = let k : blocks_of size ≡ blocks_of f.size = ap blocks_of (eqb-true size f.size q) in omega (arith, k)
        by false false q true r e = absurd (cc)
        by false false q false r e =
            let z : nat_lt 0 size ≡ true = grind (arith, nat_tests) in let w = both (nat_lt 0 size) (nat_lt (blocks_of size + 64) (blocks_of f.size)) z r in grind (arith, nat_tests)
