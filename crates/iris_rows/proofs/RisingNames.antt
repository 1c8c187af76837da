-- Each change of rows keeps the names of a directory rising.
use Rattle.std.proofs.Common.{◌≡◌, ℕ, List, [], ◌∷◌, Bool, true, false, ◌&&◌, cond, Option, Some, None, refl, sym, ◌∙◌, ap, subst}
use Rattle.std.specs.List.{list_all, slice_split, onto_first}
use Rattle.std.proofs.lemmas.Bool.{and_parts}
use Rattle.std.specs.Prelude.{nat_lt, not, codes, ◌==◌, length}
use Rattle.std.specs.Str.{bytes_eq}
use Rattle.std.specs.Ordering.{nat_cmp, is_lt, is_eq, ordering_reverse}
use Rattle.std.specs.declared.cmp.Ordering.{Ordering}
use Rattle.std.specs.declared.cmp.Ordering.TheVariants.{Less, Equal, Greater}
use Rattle.std.specs.Cmp.Lexicographic.{slice_cmp, nat_list_cmp_total, texts_ties}
use Rattle.iris_name.specs.Paths.{is_name, names_of, slashed_names}
use Rattle.iris_plain.specs.Routes.{is_name_before, parent, last}
use Rattle.iris_plain.proofs.PageLaws.{before_trans}
use Rattle.iris_plain.specs.declared.files.Kind.TheVariants.{Dir}
use Rattle.iris_rows.specs.Rows.{File, Rows, End, Row, Taken, find, with_row, without_row, at, file_at, on_file}
use Rattle.iris_rows.specs.View.{kind_below, into, bound, kind_of}
use Rattle.iris_rows.specs.Sound.{is_step, has_no_slash, PrecedesFirst, IsOrdered}
use Rattle.iris_rows.proofs.KindsByPath.{none_of}
use Rattle.iris_rows.proofs.RowsByName.{past}

-- of two names that differ, one comes before the other
other_way : (o p : Ordering) → is_lt o ≡ false → (o ≡ Equal → ⊥) → o ≡ ordering_reverse p → is_lt p ≡ true
other_way Less p e n r = absurd (cc)
other_way Equal p e n r = absurd (n refl)
other_way Greater Less e n r = refl
other_way Greater Equal e n r = absurd (cc)
other_way Greater Greater e n r = absurd (cc)

pub before_other : (a b : List ℕ) → is_name_before a b ≡ false → bytes_eq a b ≡ false → is_name_before b a ≡ true
before_other a b e d = other_way (slice_cmp nat_cmp a b) (slice_cmp nat_cmp b a) e (λ x. let k = texts_ties a b in let h : bytes_eq a b ≡ true = k ∙ ap is_eq x in absurd (let y = sym d ∙ h in cc)) (nat_list_cmp_total.antisymm a b)

above_from : (a b : List ℕ) (rows : Rows) → is_name_before a b ≡ true → PrecedesFirst b rows → PrecedesFirst a rows
above_from a b End e h = tt
above_from a b (Row id name file inside next) e h = before_trans a b name e h

pub above_put : (a n : List ℕ) (new : Taken) (rows : Rows) → is_name_before a n ≡ true → PrecedesFirst a rows → PrecedesFirst a (with_row n new rows)
above_put a n new End e h = e
above_put a n new (Row id name file inside next) e h = by (is_name_before n name) where
  by : (b : Bool) → PrecedesFirst a (cond b (Row new.id n new.file new.inside (Row id name file inside next)) (Row id name file inside (with_row n new next)))
  by true = e
  by false = h

pub ordered_put : (n : List ℕ) (new : Taken) (rows : Rows) → find n rows ≡ None → is_step n ≡ true → IsOrdered new.inside → IsOrdered rows → IsOrdered (with_row n new rows)
ordered_put n new End f g h d = (g, tt, h, tt)
ordered_put n new (Row id name file inside next) f g h d = let p = past (bytes_eq n name) _ _ f in by (is_name_before n name) refl p.0 (ordered_put n new next p.1 g h d.3) where
  by : (b : Bool) → is_name_before n name ≡ b → bytes_eq n name ≡ false → IsOrdered (with_row n new next) → IsOrdered (cond b (Row new.id n new.file new.inside (Row id name file inside next)) (Row id name file inside (with_row n new next)))
  by true e x k = (g, e, h, d)
  by false e x k = (d.0, above_put name n new next (before_other n name e x) d.1, d.2, k)

above_without : (a n : List ℕ) (rows : Rows) → PrecedesFirst a rows → IsOrdered rows → PrecedesFirst a (without_row n rows)
above_without a n End h d = tt
above_without a n (Row id name file inside next) h d = by (bytes_eq n name) where
  by : (b : Bool) → PrecedesFirst a (cond b next (Row id name file inside (without_row n next)))
  by true = above_from a name next h d.1
  by false = h

pub ordered_without : (n : List ℕ) (rows : Rows) → IsOrdered rows → IsOrdered (without_row n rows)
ordered_without n End d = tt
ordered_without n (Row id name file inside next) d = by (bytes_eq n name) (ordered_without n next d.3) where
  by : (b : Bool) → IsOrdered (without_row n next) → IsOrdered (cond b next (Row id name file inside (without_row n next)))
  by true k = d.3
  by false k = (d.0, above_without name n next d.1 d.3, d.2, k)

above_at : (a n : List ℕ) (ns : List (List ℕ)) (f : Rows → Rows) (rows : Rows) → PrecedesFirst a rows → PrecedesFirst a (at (n ∷ ns) f rows)
above_at a n ns f End h = tt
above_at a n ns f (Row id name file inside next) h = by (bytes_eq n name) where
  by : (b : Bool) → PrecedesFirst a (cond b (Row id name file (at ns f inside) next) (Row id name file inside (at (n ∷ ns) f next)))
  by true = h
  by false = h

pub ordered_at : (ns : List (List ℕ)) (f : Rows → Rows) (rows : Rows) → ((inner : Rows) → IsOrdered inner → IsOrdered (f inner)) → IsOrdered rows → IsOrdered (at ns f rows)
ordered_at [] f rows k d = k rows d
ordered_at (n ∷ ns) f End k d = tt
ordered_at (n ∷ ns) f (Row id name file inside next) k d = by (bytes_eq n name) (ordered_at ns f inside k d.2) (ordered_at (n ∷ ns) f next k d.3) where
  by : (b : Bool) → IsOrdered (at ns f inside) → IsOrdered (at (n ∷ ns) f next) → IsOrdered (cond b (Row id name file (at ns f inside) next) (Row id name file inside (at (n ∷ ns) f next)))
  by true a b = (d.0, d.1, a, d.3)
  by false a b = (d.0, above_at name n ns f next d.1, d.2, b)

above_file_at : (a n : List ℕ) (f : File → File) (rows : Rows) → PrecedesFirst a rows → PrecedesFirst a (file_at n f rows)
above_file_at a n f End h = tt
above_file_at a n f (Row id name file inside next) h = by (bytes_eq n name) where
  by : (b : Bool) → PrecedesFirst a (cond b (Row id name (on_file f file) inside next) (Row id name file inside (file_at n f next)))
  by true = h
  by false = h

pub ordered_file_at : (n : List ℕ) (f : File → File) (rows : Rows) → IsOrdered rows → IsOrdered (file_at n f rows)
ordered_file_at n f End d = tt
ordered_file_at n f (Row id name file inside next) d = by (bytes_eq n name) (ordered_file_at n f next d.3) where
  by : (b : Bool) → IsOrdered (file_at n f next) → IsOrdered (cond b (Row id name (on_file f file) inside next) (Row id name file inside (file_at n f next)))
  by true k = d
  by false k = (d.0, above_file_at name n f next d.1, d.2, k)

pub ordered_in : (n : List ℕ) (rows : Rows) (row : Taken) → find n rows ≡ Some row → IsOrdered rows → IsOrdered row.inside
ordered_in n End row e d = absurd (cc)
ordered_in n (Row id name file inside next) row e d = by (bytes_eq n name) e (λ e. ordered_in n next row e d.3) where
  by : (b : Bool) → cond b (Some (record { id = id; file = file; inside = inside })) (find n next) ≡ Some row → (find n next ≡ Some row → IsOrdered row.inside) → IsOrdered row.inside
  by true e f = let h : inside ≡ row.inside = cc in subst IsOrdered h d.2
  by false e f = f e

ordered_one : (n : List ℕ) (ns : List (List ℕ)) (f : Rows → Rows) (rows : Rows) (below : Taken) → find n rows ≡ Some below → IsOrdered (at ns f below.inside) → IsOrdered rows → IsOrdered (at (n ∷ ns) f rows)
ordered_one n ns f End below e k d = tt
ordered_one n ns f (Row id name file inside next) below e k d = by (bytes_eq n name) e (λ e. ordered_one n ns f next below e k d.3) where
  by : (b : Bool) → cond b (Some (record { id = id; file = file; inside = inside })) (find n next) ≡ Some below → (find n next ≡ Some below → IsOrdered (at (n ∷ ns) f next))
      → IsOrdered (cond b (Row id name file (at ns f inside) next) (Row id name file inside (at (n ∷ ns) f next)))
  by true e g = let a : below.inside ≡ inside = cc in (d.0, d.1, subst (λ x. IsOrdered (at ns f x)) a k, d.3)
  by false e g = (d.0, above_at name n ns f next d.1, d.2, g e)

-- a row put under a path that is free, in a directory that is there
pub ordered_put_at : (names : List (List ℕ)) (new row : Taken) → kind_below (parent names) row ≡ Some Dir → kind_below names row ≡ None → list_all is_step names ≡ true → IsOrdered new.inside → IsOrdered row.inside
    → IsOrdered (at (parent names) (with_row (last names) new) row.inside)
ordered_put_at [] new row d e g h k = absurd (cc)
ordered_put_at (n ∷ []) new row d e g h k = by row.file d e where
  named : (b : Bool) → b && true ≡ true → b ≡ true
  named true e = refl
  named false e = absurd (cc)

  by : (file : Option File) → Some (kind_of file) ≡ Some Dir → into file (bound (find n row.inside) (λ below. Some (kind_of below.file))) ≡ None → IsOrdered (with_row n new row.inside)
  by None d e = ordered_put n new row.inside (none_of _ e) (named (is_step n) g) h k
  by (Some f) d e = absurd (cc)
ordered_put_at (n ∷ m ∷ ns) new row d e g h k = by row.file (find n row.inside) refl d e (λ below d e. ordered_put_at (m ∷ ns) new below d e (rest (is_step n) g)) where
  rest : (b : Bool) → b && list_all is_step (m ∷ ns) ≡ true → list_all is_step (m ∷ ns) ≡ true
  rest true e = e
  rest false e = absurd (cc)

  by : (file : Option File) (o : Option Taken) → find n row.inside ≡ o → into file (bound o (λ below. kind_below (parent (m ∷ ns)) below)) ≡ Some Dir → into file (bound o (λ below. kind_below (m ∷ ns) below)) ≡ None
      → ((below : Taken) → kind_below (parent (m ∷ ns)) below ≡ Some Dir → kind_below (m ∷ ns) below ≡ None → IsOrdered new.inside → IsOrdered below.inside → IsOrdered (at (parent (m ∷ ns)) (with_row (last (m ∷ ns)) new) below.inside))
      → IsOrdered (at (n ∷ parent (m ∷ ns)) (with_row (last (m ∷ ns)) new) row.inside)
  by (Some f) o x d e ih = absurd (cc)
  by None None x d e ih = absurd (cc)
  by None (Some below) x d e ih = ordered_one n (parent (m ∷ ns)) _ row.inside below x (ih below d e h (ordered_in n row.inside below x k)) k

-- the pieces between slashes have no slash
pieces_free : (text : List ℕ) → list_all has_no_slash (slice_split (λ b. b == 47) text) ≡ true
pieces_free [] = refl
pieces_free (x ∷ xs) = by (x == 47) refl (slice_split (λ b. b == 47) xs) (pieces_free xs) where
  front : (b : Bool) (p : List ℕ) (ps : List (List ℕ)) → not b ≡ true → has_no_slash p && list_all has_no_slash ps ≡ true → (not b && has_no_slash p) && list_all has_no_slash ps ≡ true
  front false p ps e h = h
  front true p ps e h = absurd (cc)

  by : (b : Bool) → (x == 47) ≡ b → (pieces : List (List ℕ)) → list_all has_no_slash pieces ≡ true → list_all has_no_slash (cond b ([] ∷ pieces) (onto_first x pieces)) ≡ true
  by true e pieces h = h
  by false e [] h = rw e refl
  by false e (p ∷ ps) h = front (x == 47) p ps (rw e refl) h

both_tests : (names : List (List ℕ)) → list_all is_name names ≡ true → list_all has_no_slash names ≡ true → list_all is_step names ≡ true
both_tests [] h k = refl
both_tests (n ∷ names) h k =
    let a = and_parts (is_name n) (list_all is_name names) h in
    let b = and_parts (has_no_slash n) (list_all has_no_slash names) k in
    rw (a.0, b.0) (both_tests names a.1 b.1)

-- the names of a path text keep the grammar
slashed_are : (pieces names : List (List ℕ)) → list_all has_no_slash pieces ≡ true → slashed_names pieces ≡ Some names → list_all is_step names ≡ true
slashed_are [] names f e = absurd (cc)
slashed_are (front ∷ []) names f e = absurd (cc)
slashed_are (front ∷ name ∷ more) names f e = by (length front == 0) (list_all is_name (name ∷ more)) refl e where
  inside : (a b : List (List ℕ)) → Some a ≡ Some b → a ≡ b
  inside a b e = cc

  by : (a b : Bool) → list_all is_name (name ∷ more) ≡ b → cond (a && b) (Some (name ∷ more)) None ≡ Some names → list_all is_step names ≡ true
  by true true x e = subst (λ z. list_all is_step z ≡ true) (inside (name ∷ more) names e) (both_tests (name ∷ more) x (and_parts (has_no_slash front) (list_all has_no_slash (name ∷ more)) f).1)
  by true false x e = absurd (cc)
  by false b x e = absurd (cc)

pub names_are : (text : List ℕ) (names : List (List ℕ)) → names_of text ≡ Some names → list_all is_step names ≡ true
unfolding names_of
names_are text names e = by (nat_lt 4096 (length text)) (bytes_eq text (codes "/")) e where
  none : (a b : List (List ℕ)) → Some a ≡ Some b → a ≡ b
  none a b e = cc

  by : (a b : Bool) → cond a None (cond b (Some []) (slashed_names (slice_split (λ b. b == 47) text))) ≡ Some names → list_all is_step names ≡ true
  by true b e = absurd (cc)
  by false true e = subst (λ z. list_all is_step z ≡ true) (none [] names e) refl
  by false false e = slashed_are (slice_split (λ b. b == 47) text) names (pieces_free text) e
