-- The order of one row more, and what holds of the rows in order.
use Rattle.std.proofs.Common.{◌≡◌, ◌≢◌, ◌+◌, ◌<◌, ◌≤◌, ◌⊎◌, inl, inr, ℕ, zero, suc, List, [], ◌∷◌, ◌++◌, length, Bool, true, false, cond, refl, sym, ◌∙◌, ap, subst, add-one, arith}
use Rattle.std.proofs.lemmas.Bool.{cond_both, cases_lt}
use Rattle.iris_name.specs.Hmac.{priority}
use Rattle.iris_shape.specs.declared.rows.Row.{Row}
use Rattle.iris_shape.specs.Treap.{rows_with, keep, skip, Each, Apart, AllApart}
use Rattle.iris_shape.specs.Order.{less_name, Rising}
use Rattle.iris_shape.specs.Rows.{name_at, id_at, DistinctIds, DistinctNames, in_order, has_priority_over, Among, RowsInOrder}
use Rattle.iris_shape.proofs.Orders.{apart, less_total, less_through}

pub in_order-next : (rows : List Row) (n : ℕ) → in_order rows (n + 1) ≡ rows_with (λ j. less_name (name_at rows j) (name_at rows n)) n (in_order rows n)
unfolding in_order
in_order-next rows n = rw add-one refl

pub in_order-none : (rows : List Row) → in_order rows 0 ≡ []
unfolding in_order
in_order-none rows = refl

-- putting a row in, by cases on the first row of the list
put_past : {A : Type 0} (p : A → Bool) (x y : A) (ys : List A) → rows_with p x (y ∷ ys) ≡ cond (p y) (y ∷ rows_with p x ys) (x ∷ y ∷ ys)
put_past p x y ys = elim (p y) as (λ b. cond b (y ∷ keep p ys) [] ++ x ∷ cond b (skip p ys) (y ∷ ys) ≡ cond b (y ∷ rows_with p x ys) (x ∷ y ∷ ys)) [ true ↦ refl | false ↦ refl ]

pub each_put : {A : Type 0} (P : A → Type 0) (p : A → Bool) (x : A) (xs : List A) → P x → Each P xs → Each P (rows_with p x xs)
each_put P p x [] h k = (h, tt)
each_put P p x (y ∷ ys) h k =
    let Q : List _ → Type 0 = Each P in
    subst Q (sym (put_past p x y ys)) (elim (p y) as (λ b. Each P (cond b (y ∷ rows_with p x ys) (x ∷ y ∷ ys))) [ true ↦ (k.0, each_put P p x ys h k.1) | false ↦ (h, k) ])

pub apart_put : {A : Type 0} (up : A → A → Bool) (p : A → Bool) (x : A) (xs : List A) → Each (Apart up x) xs → AllApart up xs → AllApart up (rows_with p x xs)
apart_put up p x [] h k = (tt, tt)
apart_put up p x (y ∷ ys) h k =
    let Q : List _ → Type 0 = AllApart up in
    let back : Apart up y x = (h.0.1, h.0.0) in
    subst Q (sym (put_past p x y ys)) (elim (p y) as (λ b. AllApart up (cond b (y ∷ rows_with p x ys) (x ∷ y ∷ ys))) [ true ↦ (each_put (Apart up y) p x ys back k.0, apart_put up p x ys h.1 k.1) | false ↦ (h, k) ])

each_map : {A : Type 0} (P Q : A → Type 0) (xs : List A) → ((z : A) → P z → Q z) → Each P xs → Each Q xs
each_map P Q [] f h = tt
each_map P Q (x ∷ xs) f h = (f x h.0, each_map P Q xs f h.1)

pub places_below : (rows : List Row) (n : ℕ) → Each (λ j. j < n) (in_order rows n)
unfolding in_order
places_below rows zero = tt
places_below rows (suc n) =
    each_put (λ j. j < suc n) (λ j. less_name (name_at rows j) (name_at rows n)) n (in_order rows n) (omega arith)
    (each_map (λ j. j < n) (λ j. j < suc n) (in_order rows n) (λ z h. omega arith) (places_below rows n))

-- of each two rows in order one stands above the other
pub rows_apart : (key : List ℕ) (rows : List Row) (n : ℕ) → n ≤ length rows → DistinctIds rows → AllApart (has_priority_over key rows) (in_order rows n)
unfolding in_order
rows_apart key rows zero le d = tt
rows_apart key rows (suc n) le d =
    apart_put (has_priority_over key rows) (λ j. less_name (name_at rows j) (name_at rows n)) n (in_order rows n)
    (each_map (λ j. j < n) (Apart (has_priority_over key rows) n) (in_order rows n) (λ z h. apart (priority key) (id_at rows) n z (λ e. d z n h (omega arith) (sym e))) (places_below rows n))
    (rows_apart key rows n (omega arith) d)

-- ---- the order is one

abbrev before : (A : Type 0) → (A → List ℕ) → A → A → Bool
before A name x y = less_name (name y) (name x)

rising_put : {A : Type 0} (name : A → List ℕ) (x : A) (xs : List A) → Each (λ y. name y ≢ name x) xs → Rising name xs → Rising name (rows_with (before A name x) x xs)
rising_put name x [] n h = (tt, tt)
rising_put {A} name x (y ∷ ys) n h =
    let p = before A name x in
    let Q : List A → Type 0 = Rising name in
    subst Q (sym (put_past p x y ys))
    (cond_both (p y) (y ∷ rows_with p x ys) (x ∷ y ∷ ys) (Rising name)
    (λ t. (each_put (λ z. less_name (name y) (name z) ≡ true) p x ys t h.0, rising_put name x ys n.1 h.1))
    (λ f. let lt = less_total (name y) (name x) n.0 f in
    ((lt, each_map (λ z. less_name (name y) (name z) ≡ true) (λ z. less_name (name x) (name z) ≡ true) ys (λ z k. less_through (name x) (name y) (name z) lt k) h.0), h)))

pub rising_order : (rows : List Row) (n : ℕ) → n ≤ length rows → DistinctNames rows → Rising (name_at rows) (in_order rows n)
unfolding in_order
rising_order rows zero le d = tt
rising_order rows (suc n) le d =
    rising_put (name_at rows) n (in_order rows n)
    (each_map (λ j. j < n) (λ j. name_at rows j ≢ name_at rows n) (in_order rows n) (λ z h. d z n h (omega arith)) (places_below rows n))
    (rising_order rows n (omega arith) d)

among_put : (p : ℕ → Bool) (x k : ℕ) (xs : List ℕ) → (k ≡ x) ⊎ Among k xs → Among k (rows_with p x xs)
among_put p x k [] (inl e) = inl e
among_put p x k [] (inr h) = absurd h
among_put p x k (y ∷ ys) h =
    subst (Among k) (sym (put_past p x y ys))
    (elim (p y) as (λ b. Among k (cond b (y ∷ rows_with p x ys) (x ∷ y ∷ ys))) [ true ↦ past (λ g. among_put p x k ys g) h | false ↦ h ])
  where
    past : ((k ≡ x) ⊎ Among k ys → Among k (rows_with p x ys)) → (k ≡ x) ⊎ ((k ≡ y) ⊎ Among k ys) → (k ≡ y) ⊎ Among k (rows_with p x ys)
    past r (inl e) = inr (r (inl e))
    past r (inr (inl e)) = inl e
    past r (inr (inr h)) = inr (r (inr h))

pub among_order : (rows : List Row) (n k : ℕ) → k < n → Among k (in_order rows n)
unfolding in_order
among_order rows zero k lt = absurd (omega arith)
among_order rows (suc n) k lt = among_put (λ j. less_name (name_at rows j) (name_at rows n)) n k (in_order rows n) (by (λ a. among_order rows n k a) (cases_lt k n))
  where
    by : (k < n → Among k (in_order rows n)) → (k < n) ⊎ (n ≤ k) → (k ≡ n) ⊎ Among k (in_order rows n)
    by r (inl a) = inr (r a)
    by r (inr b) = inl (omega arith)

length_put : {A : Type 0} (p : A → Bool) (x : A) (xs : List A) → length (rows_with p x xs) ≡ suc (length xs)
length_put p x [] = refl
length_put p x (y ∷ ys) =
    ap length (put_past p x y ys) ∙ (elim (p y) as (λ b. length (cond b (y ∷ rows_with p x ys) (x ∷ y ∷ ys)) ≡ suc (suc (length ys))) [ true ↦ ap suc (length_put p x ys) | false ↦ refl ])

pub length_order : (rows : List Row) (n : ℕ) → length (in_order rows n) ≡ n
unfolding in_order
length_order rows zero = refl
length_order rows (suc n) = length_put (λ j. less_name (name_at rows j) (name_at rows n)) n (in_order rows n) ∙ ap suc (length_order rows n)

pub rows_in_order : RowsInOrder
rows_in_order rows d = (rising_order rows (length rows) (omega arith) d, length_order rows (length rows), (λ k lt. among_order rows (length rows) k lt), places_below rows (length rows))
