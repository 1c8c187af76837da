-- The rows of a list with one put in, and of a list without those of a name.
use Rattle.std.proofs.Common.{◌≡◌, ◌≢◌, ◌⊎◌, ◌&&◌, ◌++◌, inl, inr, Bool, true, false, not, cond, List, [], ◌∷◌, refl, ap, sym, ◌∙◌, subst, true≢false}
use Rattle.iris_shape.specs.Order.{less_name, Rising, Distinct}
use Rattle.iris_shape.specs.Treap.{Each, rows_with, keep, skip, rows_without}
use Rattle.iris_shape.proofs.Orders.{less_not}
use Rattle.iris_treepaths.specs.Rows.{Row, row_id, row_name}
use Rattle.iris_treepaths.specs.Ways.{has_name}
use Rattle.iris_treepaths.proofs.Rowed.{IsIn}

pub each_in : (P : Row → Type 0) (xs : List Row) (y : Row) → IsIn y xs → Each P xs → P y
each_in P [] y h a = absurd h
each_in P (x ∷ xs) y (inl h) a = subst P h a.0
each_in P (x ∷ xs) y (inr h) a = each_in P xs y h a.1

-- rows of a list with one id are one row
pub distinct_same : (xs : List Row) (a b : Row) → Distinct row_id xs → IsIn a xs → IsIn b xs → a.id ≡ b.id → a ≡ b
distinct_same [] a b d h k e = absurd h
distinct_same (x ∷ xs) a b d (inl h) (inl k) e = sym h ∙ k
distinct_same (x ∷ xs) a b d (inl h) (inr k) e = absurd (each_in (λ y. x.id ≢ y.id) xs b k d.0 (ap row_id h ∙ e))
distinct_same (x ∷ xs) a b d (inr h) (inl k) e = absurd (each_in (λ y. x.id ≢ y.id) xs a h d.0 (ap row_id k ∙ sym e))
distinct_same (x ∷ xs) a b d (inr h) (inr k) e = distinct_same xs a b d.1 h k e

in-left : (xs ys : List Row) (a : Row) → IsIn a xs → IsIn a (xs ++ ys)
in-left [] ys a h = absurd h
in-left (x ∷ xs) ys a (inl h) = inl h
in-left (x ∷ xs) ys a (inr h) = inr (in-left xs ys a h)

in-right : (xs ys : List Row) (a : Row) → IsIn a ys → IsIn a (xs ++ ys)
in-right [] ys a h = h
in-right (x ∷ xs) ys a h = inr (in-right xs ys a h)

in-split : (xs ys : List Row) (a : Row) → IsIn a (xs ++ ys) → IsIn a xs ⊎ IsIn a ys
in-split [] ys a h = inr h
in-split (x ∷ xs) ys a (inl h) = inl (inl h)
in-split (x ∷ xs) ys a (inr h) = elim (in-split xs ys a h) [ inl k ↦ inl (inr k) | inr k ↦ inr k ]

keep-in : (p : Row → Bool) (ys : List Row) (a : Row) → IsIn a (keep p ys) → IsIn a ys
keep-in p [] a h = h
keep-in p (y ∷ ys) a h = by (λ k. keep-in p ys a k) (p y) h
  where
    by : (IsIn a (keep p ys) → IsIn a ys) → (b : Bool) → IsIn a (cond b (y ∷ keep p ys) []) → IsIn a (y ∷ ys)
    by rest true (inl k) = inl k
    by rest true (inr k) = inr (rest k)
    by rest false k = absurd k

skip-in : (p : Row → Bool) (ys : List Row) (a : Row) → IsIn a (skip p ys) → IsIn a ys
skip-in p [] a h = h
skip-in p (y ∷ ys) a h = by (λ k. skip-in p ys a k) (p y) h
  where
    by : (IsIn a (skip p ys) → IsIn a ys) → (b : Bool) → IsIn a (cond b (skip p ys) (y ∷ ys)) → IsIn a (y ∷ ys)
    by rest true k = inr (rest k)
    by rest false k = k

parts-in : (p : Row → Bool) (ys : List Row) (a : Row) → IsIn a ys → IsIn a (keep p ys) ⊎ IsIn a (skip p ys)
parts-in p [] a h = absurd h
parts-in p (y ∷ ys) a h = by (λ k. parts-in p ys a k) (p y) h
  where
    by : (IsIn a ys → IsIn a (keep p ys) ⊎ IsIn a (skip p ys)) → (b : Bool) → IsIn a (y ∷ ys) → IsIn a (cond b (y ∷ keep p ys) []) ⊎ IsIn a (cond b (skip p ys) (y ∷ ys))
    by rest true (inl k) = inl (inl k)
    by rest true (inr k) = elim (rest k) [ inl l ↦ inl (inr l) | inr l ↦ inr l ]
    by rest false k = inr k

pub in_put : (p : Row → Bool) (x : Row) (ys : List Row) (a : Row) → IsIn a (rows_with p x ys) → (x ≡ a) ⊎ IsIn a ys
in_put p x ys a h = elim (in-split (keep p ys) (x ∷ skip p ys) a h) [
  | inl k ↦ inr (keep-in p ys a k)
  | inr k ↦ elim k [ inl e ↦ inl e | inr l ↦ inr (skip-in p ys a l) ]
]

pub put_in : (p : Row → Bool) (x : Row) (ys : List Row) (a : Row) → IsIn a ys → IsIn a (rows_with p x ys)
put_in p x ys a h = elim (parts-in p ys a h) [ inl k ↦ in-left (keep p ys) (x ∷ skip p ys) a k | inr k ↦ in-right (keep p ys) (x ∷ skip p ys) a (inr k) ]

pub put_here : (p : Row → Bool) (x : Row) (ys : List Row) → IsIn x (rows_with p x ys)
put_here p x ys = in-right (keep p ys) (x ∷ skip p ys) x (inl refl)

pub in_without : (e : Row → Bool) (ys : List Row) (a : Row) → IsIn a (rows_without e ys) → IsIn a ys × (e a ≡ false)
in_without e [] a h = absurd h
in_without e (y ∷ ys) a h = by (λ k. in_without e ys a k) (e y) refl h
  where
    by : (IsIn a (rows_without e ys) → IsIn a ys × (e a ≡ false)) → (b : Bool) → e y ≡ b → IsIn a (cond b (rows_without e ys) (y ∷ rows_without e ys)) → IsIn a (y ∷ ys) × (e a ≡ false)
    by rest true f k = let r = rest k in (inr r.0, r.1)
    by rest false f (inl k) = (inl k, ap e (sym k) ∙ f)
    by rest false f (inr k) = let r = rest k in (inr r.0, r.1)

pub without_in : (e : Row → Bool) (ys : List Row) (a : Row) → IsIn a ys → e a ≡ false → IsIn a (rows_without e ys)
without_in e [] a h f = h
without_in e (y ∷ ys) a h f = by (λ k. without_in e ys a k f) (e y) refl h
  where
    by : (IsIn a ys → IsIn a (rows_without e ys)) → (b : Bool) → e y ≡ b → IsIn a (y ∷ ys) → IsIn a (cond b (rows_without e ys) (y ∷ rows_without e ys))
    by rest true g (inl k) = absurd (true≢false (sym g ∙ ap e k ∙ f))
    by rest true g (inr k) = rest k
    by rest false g (inl k) = inl k
    by rest false g (inr k) = inr (rest k)

-- a row has its own name
pub named_self : (x : Row) → has_name x.name x ≡ true
named_self x = ap (λ b. not b && not (less_name x.name x.name)) (less_not x.name) ∙ ap (λ b. not b) (less_not x.name)

pub not_before : (a b : Bool) → (not a && not b) ≡ true → (a ≡ false) × (b ≡ false)
not_before true b h = absurd (true≢false (sym h))
not_before false true h = absurd (true≢false (sym h))
not_before false false h = (refl, refl)

-- rows of a directory with one name are one row
pub named_same : (xs : List Row) (a b : Row) → Rising row_name xs → IsIn a xs → IsIn b xs → has_name a.name b ≡ true → a ≡ b
named_same [] a b r h k n = absurd h
named_same (x ∷ xs) a b r (inl h) (inl k) n = sym h ∙ k
named_same (x ∷ xs) a b r (inl h) (inr k) n =
    let lt : less_name x.name b.name ≡ true = each_in (λ y. less_name x.name y.name ≡ true) xs b k r.0 in
    absurd (true≢false (sym lt ∙ ap (λ (y : Row). less_name y.name b.name) h ∙ (not_before (less_name b.name a.name) (less_name a.name b.name) n).1))
named_same (x ∷ xs) a b r (inr h) (inl k) n =
    let lt : less_name x.name a.name ≡ true = each_in (λ y. less_name x.name y.name ≡ true) xs a h r.0 in
    absurd (true≢false (sym lt ∙ ap (λ (y : Row). less_name y.name a.name) k ∙ (not_before (less_name b.name a.name) (less_name a.name b.name) n).0))
named_same (x ∷ xs) a b r (inr h) (inr k) n = named_same xs a b r.1 h k n
