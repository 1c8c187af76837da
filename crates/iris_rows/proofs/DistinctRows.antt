-- The step keeps what the law asks.
use Rattle.std.proofs.Common.{◌≡◌, inl, inr, ℕ, List, [], ◌∷◌, Bool, true, false, cond, Option, Some, None, refl, sym, ◌∙◌, ap, subst}
use Rattle.iris_rows.specs.Rows.{File, Rows, End, Row, Taken, find, with_row, without_row, at, file_at, on_file}
use Rattle.std.specs.Str.{bytes_eq as same}
use Rattle.iris_plain.specs.Routes.{is_name_before, parent, last}
use Rattle.iris_rows.specs.Sound.{IsDistinct, IsGood, AreGood}
use Rattle.iris_rows.proofs.RowHolding.{mapped}
use Rattle.iris_rows.specs.View.{kind_below, into, bound, kind_of}
use Rattle.iris_plain.specs.declared.files.Kind.TheVariants.{Dir}
use Rattle.iris_rows.proofs.KindsByPath.{none_of, distinct_in}
use Rattle.iris_rows.proofs.RowsByName.{same_tells, find_put, find_without, find_at, past}
use Rattle.iris_rows.proofs.ViewOfFiled.{find_file_at}

none_cond : (b : Bool) (o : Option Taken) → o ≡ None → cond b None o ≡ None
none_cond true o e = refl
none_cond false o e = e

other : (m n : List ℕ) → same m n ≡ false → same n m ≡ false
other m n e = elim (same_tells m n) [ inl t ↦ absurd (let x = t.0 in cc) | inr t ↦ (elim (same_tells n m) [ inl k ↦ absurd (t.1 (sym k.1)) | inr k ↦ k.0 ]) ]

pub distinct_put : (n : List ℕ) (new : Taken) (rows : Rows) → find n rows ≡ None → IsDistinct new.inside → IsDistinct rows → IsDistinct (with_row n new rows)
distinct_put n new End f h d = (refl, h, tt)
distinct_put n new (Row id name file inside next) f h d =
    let p = past (same n name) _ _ f in by (is_name_before n name) (distinct_put n new next p.1 h d.2) (find_put name n new next p.1 ∙ ap (λ b. cond b (Some new) (find name next)) (other n name p.0) ∙ d.0) where
      by : (b : Bool) → IsDistinct (with_row n new next) → find name (with_row n new next) ≡ None → IsDistinct (cond b (Row new.id n new.file new.inside (Row id name file inside next)) (Row id name file inside (with_row n new next)))
      by true k e = (f, h, d)
      by false k e = (e, d.1, k)

pub distinct_without : (n : List ℕ) (rows : Rows) → IsDistinct rows → IsDistinct (without_row n rows)
distinct_without n End d = tt
distinct_without n (Row id name file inside next) d = by (same n name) (distinct_without n next d.2) (find_without name n next d.2 ∙ none_cond (same name n) (find name next) d.0) where
  by : (b : Bool) → IsDistinct (without_row n next) → find name (without_row n next) ≡ None → IsDistinct (cond b next (Row id name file inside (without_row n next)))
  by true k e = d.2
  by false k e = (e, d.1, k)

mapped_none : (b : Bool) (f : Taken → Taken) (o : Option Taken) → o ≡ None → cond b (mapped f o) o ≡ None
mapped_none true f None e = refl
mapped_none false f None e = refl
mapped_none b f (Some row) e = absurd (cc)

-- a change of one directory's rows; the directory at the path is handed to what it must keep
pub distinct_at : (ns : List (List ℕ)) (f : Rows → Rows) (rows : Rows) → ((inner : Rows) → IsDistinct inner → IsDistinct (f inner)) → IsDistinct rows → IsDistinct (at ns f rows)
distinct_at [] f rows k d = k rows d
distinct_at (n ∷ ns) f End k d = tt
distinct_at (n ∷ ns) f (Row id name file inside next) k d =
    by (same n name) (distinct_at ns f inside k d.1) (distinct_at (n ∷ ns) f next k d.2) (find_at name n ns f next ∙ mapped_none (same name n) _ (find name next) d.0) where
      by : (b : Bool) → IsDistinct (at ns f inside) → IsDistinct (at (n ∷ ns) f next) → find name (at (n ∷ ns) f next) ≡ None → IsDistinct (cond b (Row id name file (at ns f inside) next) (Row id name file inside (at (n ∷ ns) f next)))
      by true a b e = (d.0, a, d.2)
      by false a b e = (e, d.1, b)

pub distinct_file_at : (n : List ℕ) (f : File → File) (rows : Rows) → IsDistinct rows → IsDistinct (file_at n f rows)
distinct_file_at n f End d = tt
distinct_file_at n f (Row id name file inside next) d = by (same n name) (distinct_file_at n f next d.2) (find_file_at name n f next ∙ mapped_none (same name n) _ (find name next) d.0) where
  by : (b : Bool) → IsDistinct (file_at n f next) → find name (file_at n f next) ≡ None → IsDistinct (cond b (Row id name (on_file f file) inside next) (Row id name file inside (file_at n f next)))
  by true k e = d
  by false k e = (e, d.1, k)

pub good_put : (n : List ℕ) (new : Taken) (rows : Rows) → IsGood new.file → AreGood new.inside → AreGood rows → AreGood (with_row n new rows)
good_put n new End g h d = (g, h, tt)
good_put n new (Row id name file inside next) g h d = by (is_name_before n name) (good_put n new next g h d.2) where
  by : (b : Bool) → AreGood (with_row n new next) → AreGood (cond b (Row new.id n new.file new.inside (Row id name file inside next)) (Row id name file inside (with_row n new next)))
  by true k = (g, h, d)
  by false k = (d.0, d.1, k)

pub good_without : (n : List ℕ) (rows : Rows) → AreGood rows → AreGood (without_row n rows)
good_without n End d = tt
good_without n (Row id name file inside next) d = by (same n name) (good_without n next d.2) where
  by : (b : Bool) → AreGood (without_row n next) → AreGood (cond b next (Row id name file inside (without_row n next)))
  by true k = d.2
  by false k = (d.0, d.1, k)

pub good_at_path : (ns : List (List ℕ)) (f : Rows → Rows) (rows : Rows) → ((inner : Rows) → AreGood inner → AreGood (f inner)) → AreGood rows → AreGood (at ns f rows)
good_at_path [] f rows k d = k rows d
good_at_path (n ∷ ns) f End k d = tt
good_at_path (n ∷ ns) f (Row id name file inside next) k d = by (same n name) (good_at_path ns f inside k d.1) (good_at_path (n ∷ ns) f next k d.2) where
  by : (b : Bool) → AreGood (at ns f inside) → AreGood (at (n ∷ ns) f next) → AreGood (cond b (Row id name file (at ns f inside) next) (Row id name file inside (at (n ∷ ns) f next)))
  by true a b = (d.0, a, d.2)
  by false a b = (d.0, d.1, b)

-- where only the directory that is changed needs to be looked at
distinct_one : (n : List ℕ) (ns : List (List ℕ)) (f : Rows → Rows) (rows : Rows) (below : Taken) → find n rows ≡ Some below → IsDistinct (at ns f below.inside) → IsDistinct rows → IsDistinct (at (n ∷ ns) f rows)
distinct_one n ns f End below e k d = tt
distinct_one n ns f (Row id name file inside next) below e k d =
    by (same n name) e (λ e. distinct_one n ns f next below e k d.2) (find_at name n ns f next ∙ mapped_none (same name n) _ (find name next) d.0) where
      by : (b : Bool) → cond b (Some (record { id = id; file = file; inside = inside })) (find n next) ≡ Some below → (find n next ≡ Some below → IsDistinct (at (n ∷ ns) f next)) → find name (at (n ∷ ns) f next) ≡ None
          → IsDistinct (cond b (Row id name file (at ns f inside) next) (Row id name file inside (at (n ∷ ns) f next)))
      by true e g h = let a : below.inside ≡ inside = cc in (d.0, subst (λ x. IsDistinct (at ns f x)) a k, d.2)
      by false e g h = (h, d.1, g e)

pub distinct_put_at : (names : List (List ℕ)) (new row : Taken) → kind_below (parent names) row ≡ Some Dir → kind_below names row ≡ None → IsDistinct new.inside → IsDistinct row.inside
    → IsDistinct (at (parent names) (with_row (last names) new) row.inside)
distinct_put_at [] new row d e h k = absurd (cc)
distinct_put_at (n ∷ []) new row d e h k = by row.file d e where
  by : (file : Option File) → Some (kind_of file) ≡ Some Dir → into file (bound (find n row.inside) (λ below. Some (kind_of below.file))) ≡ None → IsDistinct (with_row n new row.inside)
  by None d e = distinct_put n new row.inside (none_of _ e) h k
  by (Some f) d e = absurd (cc)
distinct_put_at (n ∷ m ∷ ns) new row d e h k = by row.file (find n row.inside) refl d e (distinct_put_at (m ∷ ns) new) where
  by : (file : Option File) (o : Option Taken) → find n row.inside ≡ o → into file (bound o (λ below. kind_below (parent (m ∷ ns)) below)) ≡ Some Dir → into file (bound o (λ below. kind_below (m ∷ ns) below)) ≡ None
      → ((below : Taken) → kind_below (parent (m ∷ ns)) below ≡ Some Dir → kind_below (m ∷ ns) below ≡ None → IsDistinct new.inside → IsDistinct below.inside → IsDistinct (at (parent (m ∷ ns)) (with_row (last (m ∷ ns)) new) below.inside))
      → IsDistinct (at (n ∷ parent (m ∷ ns)) (with_row (last (m ∷ ns)) new) row.inside)
  by (Some f) o x d e ih = absurd (cc)
  by None None x d e ih = absurd (cc)
  by None (Some below) x d e ih = distinct_one n (parent (m ∷ ns)) _ row.inside below x (ih below d e h (distinct_in n row.inside below x k)) k
