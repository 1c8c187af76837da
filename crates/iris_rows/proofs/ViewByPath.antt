-- Both resolve alike.
use Rattle.std.proofs.Common.{◌≡◌, ◌≢◌, ◌⊎◌, inl, inr, ℕ, List, [], ◌∷◌, Bool, true, false, ◌&&◌, cond, Option, Some, None, refl, sym, ◌∙◌, ap, subst}
use Rattle.iris_rows.specs.Rows.{File, Rows, End, Row, Table, Taken, find, Found, Here, Missing, Through, resolved, followed, entered, root_row, met}
use Rattle.std.specs.Str.{bytes_eq as same}
use Rattle.iris_plain.specs.Routes.{is_at_or_under, rest, is_path}
use Rattle.iris_plain.specs.declared.files.Kind.{Kind}
use Rattle.iris_plain.specs.declared.files.Kind.TheVariants.{Dir}
use Rattle.iris_plain.specs.Files.{seen_at}
use Rattle.iris_rows.specs.View.{kind_below, into, bound, kind_of, view}
use Rattle.iris_rows.proofs.PlainWalk.{reached, seen, seen_walk}
use Rattle.iris_plain.specs.declared.checks.Seen.TheVariants.{ADirectory as ADir, AFile}
use Rattle.iris_plain.specs.Checks.{is_there}
use Rattle.iris_rows.specs.Changes.{seen_file, seen_row, seen_in}
use Rattle.iris_rows.specs.Sound.{IsGood, AreGood}
use Rattle.iris_rows.proofs.WalkOfView.{walk_look}
use Rattle.iris_rows.proofs.RowsByName.{same_tells}
use Rattle.iris_rows.proofs.WrittenContent.{length-content}

pub good_found : (n : List ℕ) (rows : Rows) (row : Taken) → find n rows ≡ Some row → AreGood rows → IsGood row.file × AreGood row.inside
good_found n End row e g = absurd (cc)
good_found n (Row id name file inside next) row e g = by (same n name) e (λ e. good_found n next row e g.2) where
  by : (b : Bool) → cond b (Some (record { id = id; file = file; inside = inside })) (find n next) ≡ Some row → (find n next ≡ Some row → IsGood row.file × AreGood row.inside) → IsGood row.file × AreGood row.inside
  by true e f = let h : file ≡ row.file = cc in let k : inside ≡ row.inside = cc in (subst IsGood h g.0, subst AreGood k g.1)
  by false e f = f e

pub good_at : (ns : List (List ℕ)) (root row : Taken) → resolved ns root ≡ Here row → IsGood root.file → AreGood root.inside → IsGood row.file × AreGood row.inside
good_at [] root row e g h = let k : root ≡ row = cc in subst (λ r. IsGood r.file × AreGood r.inside) k (g, h)
good_at (n ∷ ns) root row e g h = by root.file (find n root.inside) refl e (good_at ns) where
  by : (file : Option File) (o : Option Taken) → find n root.inside ≡ o → entered file (followed o (λ below. resolved ns below)) ≡ Here row
      → ((below row : Taken) → resolved ns below ≡ Here row → IsGood below.file → AreGood below.inside → IsGood row.file × AreGood row.inside) → IsGood row.file × AreGood row.inside
  by None None f e ih = absurd (cc)
  by None (Some below) f e ih = let g = good_found n root.inside below f h in ih below row e g.0 g.1
  by (Some file) o f e ih = absurd (cc)

seen_same : (found : Found) → ((row : Taken) → found ≡ Here row → IsGood row.file) → seen (reached found) ≡ seen_row found
seen_same (Here row) h = by row.file (h row refl) where
  by : (file : Option File) → IsGood file → seen (reached (Here (record { id = row.id; file = file; inside = row.inside }))) ≡ seen_file file
  by None g = refl
  by (Some f) g = ap AFile (length-content f g.0)
seen_same Missing h = refl
seen_same Through h = refl

pub met_same : (t : Table) → AreGood t.visible → seen_at (view t).files ≡ seen_in t
met_same t g = λ i ns. (seen_walk ns (λ q. kind_below q (root_row t)) ∙ ap seen (walk_look ns (root_row t)) ∙ seen_same (met t ns) (λ row e. (good_at ns (root_row t) row e tt g).0)) i

abbrev pub kind_found : Found → Option Kind
kind_found (Here row) = Some (kind_of row.file)
kind_found Missing = None
kind_found Through = None

pub look_resolved : (ns : List (List ℕ)) (row : Taken) → kind_below ns row ≡ kind_found (resolved ns row)
look_resolved [] row = refl
look_resolved (n ∷ ns) row = by row.file (find n row.inside) (look_resolved ns) where
  by : (file : Option File) (o : Option Taken) → ((below : Taken) → kind_below ns below ≡ kind_found (resolved ns below))
      → into file (bound o (λ below. kind_below ns below)) ≡ kind_found (entered file (followed o (λ below. resolved ns below)))
  by None None h = refl
  by None (Some below) h = h below
  by (Some f) o h = refl

dir_kind : (found : Found) → seen_row found ≡ ADir → kind_found found ≡ Some Dir
dir_kind (Here row) e = by row.file e where
  by : (file : Option File) → seen_file file ≡ ADir → Some (kind_of file) ≡ Some Dir
  by None e = refl
  by (Some f) e = absurd (cc)
dir_kind Missing e = absurd (cc)
dir_kind Through e = absurd (cc)

no_kind : (found : Found) → is_there (seen_row found) ≡ false → kind_found found ≡ None
no_kind (Here row) e = by row.file e where
  by : (file : Option File) → is_there (seen_file file) ≡ false → Some (kind_of file) ≡ None
  by None e = absurd (cc)
  by (Some f) e = absurd (cc)
no_kind Missing e = refl
no_kind Through e = refl

pub look_dir : (t : Table) (ns : List (List ℕ)) → seen_row (met t ns) ≡ ADir → kind_below ns (root_row t) ≡ Some Dir
look_dir t ns e = look_resolved ns (root_row t) ∙ dir_kind (met t ns) e

pub look_none : (t : Table) (ns : List (List ℕ)) → is_there (seen_row (met t ns)) ≡ false → kind_below ns (root_row t) ≡ None
look_none t ns e = look_resolved ns (root_row t) ∙ no_kind (met t ns) e

-- below a path that isn't there is nothing
pub nothing_below : (names q : List (List ℕ)) (row : Taken) → kind_below names row ≡ None → is_at_or_under names q ≡ true → kind_below q row ≡ None
nothing_below [] q row e u = absurd (cc)
nothing_below (n ∷ ns) [] row e u = absurd (cc)
nothing_below (n ∷ ns) (m ∷ q) row e u = by (same_tells m n) row.file e u (nothing_below ns q) where
  Ih : Option Taken → Type 0
  Ih o = bound o (λ below. kind_below ns below) ≡ None → is_at_or_under ns q ≡ true → bound o (λ below. kind_below q below) ≡ None

  deep : (o : Option Taken) → ((below : Taken) → kind_below ns below ≡ None → is_at_or_under ns q ≡ true → kind_below q below ≡ None)
      → bound o (λ below. kind_below ns below) ≡ None → is_at_or_under ns q ≡ true → bound o (λ below. kind_below q below) ≡ None
  deep None ih e u = refl
  deep (Some below) ih e u = ih below e u

  by : ((same m n ≡ true) × (m ≡ n)) ⊎ ((same m n ≡ false) × (m ≢ n)) → (file : Option File) → into file (bound (find n row.inside) (λ below. kind_below ns below)) ≡ None → same m n && is_at_or_under ns q ≡ true
      → ((below : Taken) → kind_below ns below ≡ None → is_at_or_under ns q ≡ true → kind_below q below ≡ None) → into file (bound (find m row.inside) (λ below. kind_below q below)) ≡ None
  by t (Some f) e u ih = refl
  by (inr t) None e u ih = let x = t.0 in let y = rw x at u in absurd (cc)
  by (inl t) None e u ih = let y = rw t.0 at u in rw t.1 (deep (find n row.inside) ih e y)

-- a row with nothing inside, put under a path
pub makes : (names q : List (List ℕ)) (id : ℕ) (file : Option File) (x : Option Kind) → (is_at_or_under names q ≡ true → x ≡ None)
    → cond (is_at_or_under names q) (kind_below (rest names q) (record { id = id; file = file; inside = End })) x ≡ cond (is_path names q) (Some (kind_of file)) x
makes [] [] id file x h = refl
makes [] (m ∷ q) id file x h = by file ∙ sym (h refl) where
  by : (file : Option File) → into file None ≡ None
  by None = refl
  by (Some f) = refl
makes (n ∷ ns) [] id file x h = refl
makes (n ∷ ns) (m ∷ q) id file x h = by (same m n) h (makes ns q id file x) where
  by : (b : Bool) → (b && is_at_or_under ns q ≡ true → x ≡ None)
      → ((is_at_or_under ns q ≡ true → x ≡ None) → cond (is_at_or_under ns q) (kind_below (rest ns q) (record { id = id; file = file; inside = End })) x ≡ cond (is_path ns q) (Some (kind_of file)) x)
      → cond (b && is_at_or_under ns q) (kind_below (rest ns q) (record { id = id; file = file; inside = End })) x ≡ cond (b && is_path ns q) (Some (kind_of file)) x
  by true h f = f h
  by false h f = refl
