-- A row put into the list of a directory's rows, and into their treap.
use Rattle.std.proofs.Common.{◌≡◌, ◌≢◌, ◌⊎◌, ◌++◌, inl, inr, ℕ, Bool, true, false, cond, List, [], ◌∷◌, refl, ap, sym, subst}
use Rattle.iris_name.specs.Hmac.{priority}
use Rattle.iris_name.specs.declared.name.Name.{Name}
use Rattle.iris_name.specs.declared.name.Name.TheVariants as name
use Rattle.iris_node.specs.Unfolded.{id_of}
use Rattle.iris_shape.specs.Order.{Rising, Distinct}
use Rattle.iris_shape.specs.Treap.{treap, insert, rows_with, keep, skip, Each, AllApart}
use Rattle.iris_shape.proofs.LawProofs.{treap_put, priorities_rank, names_part}
use Rattle.iris_treepaths.specs.Rows.{Row, row_id, row_name, up}
use Rattle.iris_treepaths.specs.Ways.{is_row_before}
use Rattle.iris_treepaths.specs.Planted.{IsRowName}
use Rattle.iris_treepaths.specs.Paths.{entry_name}
use Rattle.iris_treepaths.proofs.Downs.{any_left, any_right, any_split}
use Rattle.iris_treepaths.proofs.RowsWithout.{same_id}

-- ---- lists of rows

pub each_parts : {A : Type 0} (P : A → Type 0) (a : List A) (y : A) (b : List A) → Each P (a ++ y ∷ b) → Each P a × P y × Each P b
each_parts P [] y b h = (tt, h.0, h.1)
each_parts P (z ∷ a) y b h = let r = each_parts P a y b h.1 in ((h.0, r.0), r.1, r.2)

none_named : (z : Row) (xs : List Row) → Each (λ w. z.id ≢ w.id) xs → IsRowName xs (entry_name z) → ⊥
none_named z [] h i = i
none_named z (w ∷ xs) h (inl e) = h.0 (same_id z w e)
none_named z (w ∷ xs) h (inr i) = none_named z xs h.1 i

pub named_none : (z : Row) (xs : List Row) → (IsRowName xs (entry_name z) → ⊥) → Each (λ w. z.id ≢ w.id) xs
named_none z [] out = tt
named_none z (w ∷ xs) out = ((λ e. out (inl (ap (λ i. name.Entry (id_of i)) e))), named_none z xs (λ i. out (inr i)))

-- a row between two parts of a list whose ids are distinct
record Between (a : List Row) (y : Row) (b : List Row) : Type 0 where
  not_before : IsRowName a (entry_name y) → ⊥
  not_after : IsRowName b (entry_name y) → ⊥
  apart : (q : Name) → IsRowName a q → IsRowName b q → ⊥
  front : Distinct row_id a
  back : Distinct row_id b

distinct_parts : (a : List Row) (y : Row) (b : List Row) → Distinct row_id (a ++ y ∷ b) → Between a y b
distinct_parts [] y b h = record { not_before = λ i. i; not_after = none_named y b h.0; apart = λ q i j. i; front = tt; back = h.1 }
distinct_parts (z ∷ a) y b h =
    let r = distinct_parts a y b h.1 in
    let e = each_parts (λ w. z.id ≢ w.id) a y b h.0 in
    record {
      not_before = λ i. elim i [ inl s ↦ e.1 (sym (same_id y z s)) | inr j ↦ r.not_before j ];
      not_after = r.not_after;
      apart = λ q i j. elim i [ inl s ↦ none_named z b e.2 (subst (IsRowName b) s j) | inr k ↦ r.apart q k j ];
      front = (e.0, r.front);
      back = r.back;
    }

pub keep_skip : (p : Row → Bool) (xs : List Row) → keep p xs ++ skip p xs ≡ xs
keep_skip p [] = refl
keep_skip p (y ∷ ys) = by (p y) (keep_skip p ys)
  where
    by : (b : Bool) → keep p ys ++ skip p ys ≡ ys → cond b (y ∷ keep p ys) [] ++ cond b (skip p ys) (y ∷ ys) ≡ y ∷ ys
    by true h = ap (λ v. y ∷ v) h
    by false h = refl

-- a row that is put in is none of the others
pub put_fresh : (p : Row → Bool) (x : Row) (xs : List Row) → Distinct row_id (rows_with p x xs) → IsRowName xs (entry_name x) → ⊥
put_fresh p x xs h i =
    let b = distinct_parts (keep p xs) x (skip p xs) h in
    elim (any_split (λ r. entry_name x ≡ entry_name r) (keep p xs) (skip p xs) (subst (λ v. IsRowName v (entry_name x)) (sym (keep_skip p xs)) i)) [
      | inl j ↦ b.not_before j
      | inr j ↦ b.not_after j
    ]

pub put_has : (p : Row → Bool) (x : Row) (xs : List Row) (q : Name) → IsRowName xs q → IsRowName (rows_with p x xs) q
put_has p x xs q i =
    let P = λ (r : Row). q ≡ entry_name r in
    elim (any_split P (keep p xs) (skip p xs) (subst (λ v. IsRowName v q) (sym (keep_skip p xs)) i)) [
      | inl j ↦ any_left P (keep p xs) (x ∷ skip p xs) j
      | inr j ↦ any_right P (keep p xs) (x ∷ skip p xs) (inr j)
    ]

pub put_row : (p : Row → Bool) (x : Row) (xs : List Row) → IsRowName (rows_with p x xs) (entry_name x)
put_row p x xs = any_right (λ (r : Row). entry_name x ≡ entry_name r) (keep p xs) (x ∷ skip p xs) (inl refl)

pub put_none : (p : Row → Bool) (x : Row) (xs : List Row) (q : Name) → IsRowName (rows_with p x xs) q → (q ≡ entry_name x) ⊎ IsRowName xs q
put_none p x xs q i =
    let P = λ (r : Row). q ≡ entry_name r in
    elim (any_split P (keep p xs) (x ∷ skip p xs) i) [
      | inl j ↦ inr (subst (λ v. IsRowName v q) (keep_skip p xs) (any_left P (keep p xs) (skip p xs) j))
      | inr (inl j) ↦ inl j
      | inr (inr j) ↦ inr (subst (λ v. IsRowName v q) (keep_skip p xs) (any_right P (keep p xs) (skip p xs) j))
    ]

-- putting a row into the list is putting it into the treap
pub put_is : (key : List ℕ) (x : Row) (xs : List Row) → Rising row_name xs → Distinct row_id xs → Distinct row_id (rows_with (is_row_before x.name) x xs) → treap (up key) (rows_with (is_row_before x.name) x xs) ≡ insert (up key) (is_row_before x.name) x (treap (up key) xs)
put_is key x xs rising distinct all =
    let r = priorities_rank (priority key) row_id in
    let apart : AllApart (up key) (x ∷ xs) = r.1 (x ∷ xs) (named_none x xs (put_fresh (is_row_before x.name) x xs all), distinct) in
    treap_put (up key) (is_row_before x.name) x xs r.0 apart.1 apart.0 (names_part row_name x.name xs rising).0
