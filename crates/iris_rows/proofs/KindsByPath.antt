use Rattle.std.proofs.Common.{◌≡◌, ◌≢◌, ◌⊎◌, inl, inr, ℕ, List, [], ◌∷◌, ◌++◌, Bool, true, false, ◌&&◌, cond, Option, Some, None, refl, ap, subst}
use Rattle.iris_rows.specs.Rows.{File, Rows, End, Row, Taken, find, with_row, without_row, at, Here, resolved, followed, entered}
use Rattle.std.specs.Str.{bytes_eq as same}
use Rattle.iris_plain.specs.Routes.{parent, last, is_at_or_under, rest}
use Rattle.iris_plain.specs.declared.files.Kind.{Kind}
use Rattle.iris_plain.specs.declared.files.Kind.TheVariants.{Dir}
use Rattle.iris_rows.specs.Sound.{IsDistinct}
use Rattle.iris_rows.proofs.RowHolding.{holding, mapped}
use Rattle.iris_rows.specs.View.{kind_below, into, bound, kind_of}
use Rattle.iris_rows.proofs.RowsByName.{same_tells, find_put, find_without, find_at}

abbrev pub Path : Type 0
Path = List (List ℕ)

-- the first name leads on, so this is a directory
abbrev pub go : Option File → Option Taken → Path → Option Kind
go file o q = into file (bound o (λ below. kind_below q below))

pub none_of : (o : Option Taken) → bound o (λ below. Some (kind_of below.file)) ≡ None → o ≡ None
none_of None e = refl
none_of (Some row) e = absurd (cc)

abbrev within : Path → (Rows → Rows) → Taken → Taken
within ns f row = holding (at ns f row.inside) row

abbrev Puts : Path → Taken → Path → Option Taken → Type 0
Puts names new q o = bound o (λ below. kind_below (parent names) below) ≡ Some Dir → bound o (λ below. kind_below names below) ≡ None
    → bound (mapped (λ below. holding (at (parent names) (with_row (last names) new) below.inside) below) o) (λ below. kind_below q below) ≡ cond (is_at_or_under names q) (kind_below (rest names q) new) (bound o (λ below. kind_below q below))

-- a row put under a path whose parent is a directory
pub put_at : (names : Path) (new row : Taken) (q : Path) → kind_below (parent names) row ≡ Some Dir → kind_below names row ≡ None
    → kind_below q (holding (at (parent names) (with_row (last names) new) row.inside) row) ≡ cond (is_at_or_under names q) (kind_below (rest names q) new) (kind_below q row)
put_at [] new row q d e = absurd (cc)
put_at (n ∷ []) new row [] d e = refl
put_at (n ∷ []) new row (m ∷ q) d e = by row.file d e where
  here : (b : Bool) (o : Option Taken) → go None (cond b (Some new) o) q ≡ cond (b && true) (kind_below q new) (go None o q)
  here true o = refl
  here false o = refl

  by : (file : Option File) → Some (kind_of file) ≡ Some Dir → into file (bound (find n row.inside) (λ below. Some (kind_of below.file))) ≡ None
      → go file (find m (with_row n new row.inside)) q ≡ cond (same m n && true) (kind_below q new) (go file (find m row.inside) q)
  by None d e = rw (find_put m n new row.inside (none_of _ e)) (here (same m n) (find m row.inside))
  by (Some f) d e = absurd (cc)
put_at (n ∷ k ∷ ns) new row [] d e = refl
put_at (n ∷ k ∷ ns) new row (m ∷ q) d e = by row.file (same_tells m n) (deep (find n row.inside) (put_at (k ∷ ns) new)) d e where
  deep : (o : Option Taken) → ((below : Taken) (q : Path) → kind_below (parent (k ∷ ns)) below ≡ Some Dir → kind_below (k ∷ ns) below ≡ None
      → kind_below q (holding (at (parent (k ∷ ns)) (with_row (last (k ∷ ns)) new) below.inside) below) ≡ cond (is_at_or_under (k ∷ ns) q) (kind_below (rest (k ∷ ns) q) new) (kind_below q below)) → Puts (k ∷ ns) new q o
  deep None ih = λ d e. absurd (cc)
  deep (Some below) ih = ih below q

  by : (file : Option File) → ((same m n ≡ true) × (m ≡ n)) ⊎ ((same m n ≡ false) × (m ≢ n)) → Puts (k ∷ ns) new q (find n row.inside)
      → into file (bound (find n row.inside) (λ below. kind_below (parent (k ∷ ns)) below)) ≡ Some Dir → into file (bound (find n row.inside) (λ below. kind_below (k ∷ ns) below)) ≡ None
      → go file (find m (at (n ∷ parent (k ∷ ns)) (with_row (last (k ∷ ns)) new) row.inside)) q ≡ cond (same m n && is_at_or_under (k ∷ ns) q) (kind_below (rest (k ∷ ns) q) new) (go file (find m row.inside) q)
  by (Some f) t p d e = absurd (cc)
  by None (inr t) p d e = rw (find_at m n (parent (k ∷ ns)) (with_row (last (k ∷ ns)) new) row.inside, t.0) refl
  by None (inl t) p d e = rw (find_at m n (parent (k ∷ ns)) (with_row (last (k ∷ ns)) new) row.inside, t.0, t.1) (p d e)

-- the rows of a found row are distinct too
pub distinct_in : (n : List ℕ) (rows : Rows) (row : Taken) → find n rows ≡ Some row → IsDistinct rows → IsDistinct row.inside
distinct_in n End row e d = absurd (cc)
distinct_in n (Row id name file inside next) row e d = by (same n name) e (λ e. distinct_in n next row e d.2) where
  by : (b : Bool) → cond b (Some (record { id = id; file = file; inside = inside })) (find n next) ≡ Some row → (find n next ≡ Some row → IsDistinct row.inside) → IsDistinct row.inside
  by true e f = let h : inside ≡ row.inside = cc in subst IsDistinct h d.1
  by false e f = f e

abbrev Goes : Path → Path → Option Taken → Type 0
Goes names q o = bound (mapped (λ below. holding (at (parent names) (without_row (last names)) below.inside) below) o) (λ below. kind_below q below) ≡ cond (is_at_or_under names q) None (bound o (λ below. kind_below q below))

pub without_at : (n : List ℕ) (ns : Path) (row : Taken) (q : Path) → IsDistinct row.inside
    → kind_below q (holding (at (parent (n ∷ ns)) (without_row (last (n ∷ ns))) row.inside) row) ≡ cond (is_at_or_under (n ∷ ns) q) None (kind_below q row)
without_at n [] row [] d = refl
without_at n [] row (m ∷ q) d = by row.file where
  here : (b : Bool) (o : Option Taken) → go None (cond b None o) q ≡ cond (b && true) None (go None o q)
  here true o = refl
  here false o = refl

  gone : (b : Bool) → None ≡ cond b None (go (Some (record { size = 0; counter = 0; version = λ p. 0; block = λ p. [] })) None q)
  gone true = refl
  gone false = refl

  by : (file : Option File) → go file (find m (without_row n row.inside)) q ≡ cond (same m n && true) None (go file (find m row.inside) q)
  by None = rw (find_without m n row.inside d) (here (same m n) (find m row.inside))
  by (Some f) = gone (same m n && true)
without_at n (k ∷ ns) row [] d = refl
without_at n (k ∷ ns) row (m ∷ q) d = by row.file (same_tells m n) (deep (find n row.inside) refl (without_at k ns)) where
  gone : (b : Bool) → None ≡ cond b None (go (Some (record { size = 0; counter = 0; version = λ p. 0; block = λ p. [] })) None q)
  gone true = refl
  gone false = refl

  deep : (o : Option Taken) → find n row.inside ≡ o → ((below : Taken) (q : Path) → IsDistinct below.inside
      → kind_below q (holding (at (parent (k ∷ ns)) (without_row (last (k ∷ ns))) below.inside) below) ≡ cond (is_at_or_under (k ∷ ns) q) None (kind_below q below)) → Goes (k ∷ ns) q o
  deep None e ih = gone (is_at_or_under (k ∷ ns) q)
  deep (Some below) e ih = ih below q (distinct_in n row.inside below e d)

  by : (file : Option File) → ((same m n ≡ true) × (m ≡ n)) ⊎ ((same m n ≡ false) × (m ≢ n)) → Goes (k ∷ ns) q (find n row.inside)
      → go file (find m (at (n ∷ parent (k ∷ ns)) (without_row (last (k ∷ ns))) row.inside)) q ≡ cond (same m n && is_at_or_under (k ∷ ns) q) None (go file (find m row.inside) q)
  by (Some f) t p = gone (same m n && is_at_or_under (k ∷ ns) q)
  by None (inr t) p = rw (find_at m n (parent (k ∷ ns)) (without_row (last (k ∷ ns))) row.inside, t.0) refl
  by None (inl t) p = rw (find_at m n (parent (k ∷ ns)) (without_row (last (k ∷ ns))) row.inside, t.0, t.1) p

-- what stands below a found row
pub look_below : (names r : Path) (root row : Taken) → resolved names root ≡ Here row → kind_below (names ++ r) root ≡ kind_below r row
look_below [] r root row e = let h : root ≡ row = cc in ap (kind_below r) h
look_below (n ∷ ns) r root row e = by root.file (find n root.inside) e (λ below. look_below ns r below row) where
  by : (file : Option File) (o : Option Taken) → entered file (followed o (λ below. resolved ns below)) ≡ Here row
      → ((below : Taken) → resolved ns below ≡ Here row → kind_below (ns ++ r) below ≡ kind_below r row) → go file o (ns ++ r) ≡ kind_below r row
  by None None e ih = absurd (cc)
  by None (Some below) e ih = ih below e
  by (Some f) o e ih = absurd (cc)
