-- Each change of rows keeps what holds of every file among them.
use Rattle.std.proofs.Common.{◌≡◌, ℕ, List, [], ◌∷◌, Bool, true, false, cond, Option, Some, None, refl, subst}
use Rattle.std.specs.Str.{bytes_eq}
use Rattle.iris_plain.specs.Routes.{is_name_before}
use Rattle.iris_rows.specs.Rows.{File, Rows, End, Row, Taken, find, with_row, without_row, at, file_at, on_file, Here, resolved, followed, entered}
use Rattle.iris_rows.specs.Sound.{IsGood, AreGood, OnFile, AllFiles}

module _ (P : File → Type 0) where
  pub all_put : (n : List ℕ) (new : Taken) (rows : Rows) → OnFile P new.file → AllFiles P new.inside → AllFiles P rows → AllFiles P (with_row n new rows)
  all_put n new End g h d = (g, h, tt)
  all_put n new (Row id name file inside next) g h d = by (is_name_before n name) (all_put n new next g h d.2) where
    by : (b : Bool) → AllFiles P (with_row n new next) → AllFiles P (cond b (Row new.id n new.file new.inside (Row id name file inside next)) (Row id name file inside (with_row n new next)))
    by true k = (g, h, d)
    by false k = (d.0, d.1, k)

  pub all_without : (n : List ℕ) (rows : Rows) → AllFiles P rows → AllFiles P (without_row n rows)
  all_without n End d = tt
  all_without n (Row id name file inside next) d = by (bytes_eq n name) (all_without n next d.2) where
    by : (b : Bool) → AllFiles P (without_row n next) → AllFiles P (cond b next (Row id name file inside (without_row n next)))
    by true k = d.2
    by false k = (d.0, d.1, k)

  pub all_at : (ns : List (List ℕ)) (f : Rows → Rows) (rows : Rows) → ((inner : Rows) → AllFiles P inner → AllFiles P (f inner)) → AllFiles P rows → AllFiles P (at ns f rows)
  all_at [] f rows k d = k rows d
  all_at (n ∷ ns) f End k d = tt
  all_at (n ∷ ns) f (Row id name file inside next) k d = by (bytes_eq n name) (all_at ns f inside k d.1) (all_at (n ∷ ns) f next k d.2) where
    by : (b : Bool) → AllFiles P (at ns f inside) → AllFiles P (at (n ∷ ns) f next) → AllFiles P (cond b (Row id name file (at ns f inside) next) (Row id name file inside (at (n ∷ ns) f next)))
    by true a b = (d.0, a, d.2)
    by false a b = (d.0, d.1, b)

  on_one : (change : File → File) (file : Option File) → ((f : File) → P f → P (change f)) → OnFile P file → OnFile P (on_file change file)
  on_one change None k d = tt
  on_one change (Some f) k d = k f d

  pub all_file_at : (n : List ℕ) (change : File → File) (rows : Rows) → ((f : File) → P f → P (change f)) → AllFiles P rows → AllFiles P (file_at n change rows)
  all_file_at n change End k d = tt
  all_file_at n change (Row id name file inside next) k d = by (bytes_eq n name) (all_file_at n change next k d.2) where
    by : (b : Bool) → AllFiles P (file_at n change next) → AllFiles P (cond b (Row id name (on_file change file) inside next) (Row id name file inside (file_at n change next)))
    by true a = (on_one change file k d.0, d.1, d.2)
    by false a = (d.0, d.1, a)

  pub all_found : (n : List ℕ) (rows : Rows) (row : Taken) → find n rows ≡ Some row → AllFiles P rows → OnFile P row.file × AllFiles P row.inside
  all_found n End row e d = absurd (cc)
  all_found n (Row id name file inside next) row e d = by (bytes_eq n name) e (λ e. all_found n next row e d.2) where
    by : (b : Bool) → cond b (Some (record { id = id; file = file; inside = inside })) (find n next) ≡ Some row → (find n next ≡ Some row → OnFile P row.file × AllFiles P row.inside) → OnFile P row.file × AllFiles P row.inside
    by true e f = let h : file ≡ row.file = cc in let k : inside ≡ row.inside = cc in (subst (OnFile P) h d.0, subst (AllFiles P) k d.1)
    by false e f = f e

  pub all_here : (ns : List (List ℕ)) (from row : Taken) → resolved ns from ≡ Here row → OnFile P from.file → AllFiles P from.inside → OnFile P row.file × AllFiles P row.inside
  all_here [] from row e g h = let k : from ≡ row = cc in subst (λ r. OnFile P r.file × AllFiles P r.inside) k (g, h)
  all_here (n ∷ ns) from row e g h = by from.file (find n from.inside) refl e (all_here ns) where
    by : (file : Option File) (o : Option Taken) → find n from.inside ≡ o → entered file (followed o (λ below. resolved ns below)) ≡ Here row
        → ((below row : Taken) → resolved ns below ≡ Here row → OnFile P below.file → AllFiles P below.inside → OnFile P row.file × AllFiles P row.inside) → OnFile P row.file × AllFiles P row.inside
    by None None f e ih = absurd (cc)
    by None (Some below) f e ih = let g = all_found n from.inside below f h in ih below row e g.0 g.1
    by (Some file) o f e ih = absurd (cc)

-- a fact that follows from another
pub all_map : (P Q : File → Type 0) (rows : Rows) → ((f : File) → P f → Q f) → AllFiles P rows → AllFiles Q rows
all_map P Q End k d = tt
all_map P Q (Row id name file inside next) k d = (by file d.0, all_map P Q inside k d.1, all_map P Q next k d.2) where
  by : (file : Option File) → OnFile P file → OnFile Q file
  by None d = tt
  by (Some f) d = k f d

module _ (P Q : File → Type 0) (more : (f : File) → P f → Q f) where
  mapped_at : (ns : List (List ℕ)) (f : Rows → Rows) (rows : Rows) → ((inner : Rows) → AllFiles P inner → AllFiles Q (f inner)) → AllFiles P rows → AllFiles Q (at ns f rows)
  mapped_at [] f rows k d = k rows d
  mapped_at (n ∷ ns) f End k d = tt
  mapped_at (n ∷ ns) f (Row id name file inside next) k d =
      by (bytes_eq n name) (mapped_at ns f inside k d.1) (mapped_at (n ∷ ns) f next k d.2) (all_map P Q (Row id name file inside next) more d) where
        by : (b : Bool) → AllFiles Q (at ns f inside) → AllFiles Q (at (n ∷ ns) f next) → AllFiles Q (Row id name file inside next) → AllFiles Q (cond b (Row id name file (at ns f inside) next) (Row id name file inside (at (n ∷ ns) f next)))
        by true a b q = (q.0, a, q.2)
        by false a b q = (q.0, q.1, b)

  mapped_file : (change : File → File) (file : Option File) → ((f : File) → P f → Q (change f)) → OnFile P file → OnFile Q (on_file change file)
  mapped_file change None k d = tt
  mapped_file change (Some f) k d = k f d

  mapped_file_at : (n : List ℕ) (change : File → File) (rows : Rows) → ((f : File) → P f → Q (change f)) → AllFiles P rows → AllFiles Q (file_at n change rows)
  mapped_file_at n change End k d = tt
  mapped_file_at n change (Row id name file inside next) k d = by (bytes_eq n name) (mapped_file_at n change next k d.2) (all_map P Q (Row id name file inside next) more d) where
    by : (b : Bool) → AllFiles Q (file_at n change next) → AllFiles Q (Row id name file inside next) → AllFiles Q (cond b (Row id name (on_file change file) inside next) (Row id name file inside (file_at n change next)))
    by true a q = (mapped_file change file k d.0, q.1, q.2)
    by false a q = (q.0, q.1, a)

  -- one file changed, and the others under the weaker fact
  pub all_filed : (ns : List (List ℕ)) (n : List ℕ) (change : File → File) (rows : Rows) → ((f : File) → P f → Q (change f)) → AllFiles P rows → AllFiles Q (at ns (file_at n change) rows)
  all_filed ns n change rows k d = mapped_at ns (file_at n change) rows (λ inner. mapped_file_at n change inner k) d

good_one : (change : File → File) (file : Option File) → ((f : File) → IsGood (Some f) → IsGood (Some (change f))) → IsGood file → IsGood (on_file change file)
good_one change None k d = tt
good_one change (Some f) k d = k f d

pub good_file_at : (n : List ℕ) (change : File → File) (rows : Rows) → ((f : File) → IsGood (Some f) → IsGood (Some (change f))) → AreGood rows → AreGood (file_at n change rows)
good_file_at n change End k d = tt
good_file_at n change (Row id name file inside next) k d = by (bytes_eq n name) (good_file_at n change next k d.2) where
  by : (b : Bool) → AreGood (file_at n change next) → AreGood (cond b (Row id name (on_file change file) inside next) (Row id name file inside (file_at n change next)))
  by true a = (good_one change file k d.0, d.1, d.2)
  by false a = (d.0, d.1, a)
