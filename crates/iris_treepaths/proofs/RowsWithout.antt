-- Lists of rows without the one of a name.
use Rattle.std.proofs.Common.{◌≡◌, ◌≢◌, ◌⊎◌, inl, inr, ◌++◌, ◌&&◌, not, ℕ, Bool, true, false, cond, List, [], ◌∷◌, refl, ap, sym, ◌∙◌, subst}
use Rattle.std.proofs.lemmas.Bool.{cond-true, cond-false, both_ways}
use Rattle.iris_name.specs.declared.name.Name.{Name}
use Rattle.iris_name.specs.declared.name.Name.TheVariants as name
use Rattle.iris_shape.specs.Order.{less_name, Rising, Distinct}
use Rattle.iris_shape.specs.Treap.{Treap, Empty, Over, treap, remove, rows, rows_without, Each, Parts}
use Rattle.iris_shape.proofs.Orders.{less_not, parts, falls, ranks, all_apart}
use Rattle.iris_shape.proofs.Treaps.{every_of, each_left, each_right, treap_without, each_map}
use Rattle.iris_name.specs.Hmac.{priority}
use Rattle.iris_treepaths.specs.Planted.{IsRowName}
use Rattle.iris_treepaths.specs.Rows.{Row, row_id, row_name, up}
use Rattle.iris_treepaths.specs.Paths.{entry_name, IsAmong, Outside, Once}
use Rattle.iris_treepaths.specs.Ways.{Any, is_row_before, has_name}
use Rattle.iris_treepaths.proofs.Downs.{less_same, any_split}
use Rattle.iris_treepaths.proofs.Moved.{each_in, not_before}

-- ---- rows of a list

pub among_each : (P : Row → Type 0) (xs : List Row) → ((z : Row) → IsAmong z xs → P z) → Each P xs
among_each P [] f = tt
among_each P (y ∷ ys) f = (f y (inl refl), among_each P ys (λ z k. f z (inr k)))

pub any_each : (P Q : Row → Type 0) (xs : List Row) → Each Q xs → Any P xs → ((z : Row) → Q z → P z → ⊥) → ⊥
any_each P Q [] h k f = k
any_each P Q (y ∷ ys) h (inl k) f = f y h.0 k
any_each P Q (y ∷ ys) h (inr k) f = any_each P Q ys h.1 k f

-- ---- without some

each_without : (P : Row → Type 0) (e : Row → Bool) (xs : List Row) → Each P xs → Each P (rows_without e xs)
each_without P e [] h = tt
each_without P e (y ∷ ys) h = elim (e y) as (λ b. Each P (cond b (rows_without e ys) (y ∷ rows_without e ys))) [ true ↦ each_without P e ys h.1 | false ↦ (h.0, each_without P e ys h.1) ]

pub distinct_without : (e : Row → Bool) (xs : List Row) → Distinct row_id xs → Distinct row_id (rows_without e xs)
distinct_without e [] h = tt
distinct_without e (y ∷ ys) h =
    elim (e y) as (λ b. Distinct row_id (cond b (rows_without e ys) (y ∷ rows_without e ys))) [ true ↦ distinct_without e ys h.1 | false ↦ (each_without (λ z. y.id ≢ z.id) e ys h.0, distinct_without e ys h.1) ]

pub any_without : (P : Row → Type 0) (e : Row → Bool) (xs : List Row) → Any P (rows_without e xs) → Any P xs
any_without P e [] h = h
any_without P e (y ∷ ys) h = (elim (e y) as (λ b. Any P (cond b (rows_without e ys) (y ∷ rows_without e ys)) → Any P (y ∷ ys)) [ true ↦ (λ k. inr (any_without P e ys k)) | false ↦ (λ k. first (λ g. any_without P e ys g) k) ]) h
  where
    first : (Any P (rows_without e ys) → Any P ys) → Any P (y ∷ rows_without e ys) → Any P (y ∷ ys)
    first f (inl k) = inl k
    first f (inr k) = inr (f k)

-- what is so of a row, and of none without those of the test, is so of one of these
pub gone_one : (P : Row → Type 0) (e : Row → Bool) (xs : List Row) → Any P xs → (Any P (rows_without e xs) → ⊥) → Any (λ r. (e r ≡ true) × P r) xs
gone_one P e [] h g = h
gone_one P e (y ∷ ys) (inl a) g = by (e y) refl
  where
    by : (b : Bool) → e y ≡ b → Any (λ r. (e r ≡ true) × P r) (y ∷ ys)
    by true q = inl (q, a)
    by false q = let A : List Row → Type 0 = Any P in absurd (g (subst A (sym (cond-false (e y) (rows_without e ys) (y ∷ rows_without e ys) q)) (inl a)))
gone_one P e (y ∷ ys) (inr a) g = inr (gone_one P e ys a (λ k. g ((elim (e y) as (λ b. Any P (cond b (rows_without e ys) (y ∷ rows_without e ys))) [ true ↦ k | false ↦ inr k ]))))

-- the row of a name is the only one
pub only : (P : Row → Type 0) (p e : Row → Bool) (xs : List Row) (x : Row) → Parts p e xs → Any (λ r. (e r ≡ true) × P r) xs → IsAmong x xs → e x ≡ true → P x
only P p e [] x h a k t = absurd k
only P p e (y ∷ ys) x h (inl a) (inl i) t = subst P i a.1
only P p e (y ∷ ys) x h (inl a) (inr k) t = by (p y) refl
  where
    by : (b : Bool) → p y ≡ b → P x
    by true q = absurd (both_ways (e y) (h.0 q) a.0)
    by false q = absurd (both_ways (e x) (each_in (λ z. e z ≡ false) ys x k (h.1 q)) t)
only P p e (y ∷ ys) x h (inr a) (inl i) t = by (p y) refl
  where
    by : (b : Bool) → p y ≡ b → P x
    by true q = absurd (both_ways (e y) (h.0 q) (ap e i ∙ t))
    by false q = absurd (any_each (λ r. (e r ≡ true) × P r) (λ z. e z ≡ false) ys (h.1 q) a (λ z f g. both_ways (e z) f g.0))
only P p e (y ∷ ys) x h (inr a) (inr k) t = only P p e ys x h.2 a k t

-- no row has the id of one that went
pub apart_without : (e : Row → Bool) (xs : List Row) (x : Row) → Distinct row_id xs → IsAmong x xs → e x ≡ true → Any (λ r. r.id ≡ x.id) (rows_without e xs) → ⊥
apart_without e [] x h k t a = k
apart_without e (y ∷ ys) x h (inl i) t a =
    let A : List Row → Type 0 = Any (λ (r : Row). r.id ≡ x.id) in
    let b = any_without (λ r. r.id ≡ x.id) e ys (subst A (cond-true (e y) (rows_without e ys) (y ∷ rows_without e ys) (ap e i ∙ t)) a) in
    any_each (λ r. r.id ≡ x.id) (λ z. y.id ≢ z.id) ys h.0 b (λ z f g. f (ap row_id i ∙ sym g))
apart_without e (y ∷ ys) x h (inr k) t a = (elim (e y) as (λ b. Any (λ (r : Row). r.id ≡ x.id) (cond b (rows_without e ys) (y ∷ rows_without e ys)) → ⊥) [ true ↦ (λ g. apart_without e ys x h.1 k t g) | false ↦ (λ g. first (λ j. apart_without e ys x h.1 k t j) g) ]) a
  where
    first : (Any (λ (r : Row). r.id ≡ x.id) (rows_without e ys) → ⊥) → Any (λ (r : Row). r.id ≡ x.id) (y ∷ rows_without e ys) → ⊥
    first f (inl g) = each_in (λ z. y.id ≢ z.id) ys x k h.0 g
    first f (inr g) = f g

-- ---- names

pub named_is : (n : List ℕ) (r : Row) → has_name n r ≡ true → r.name ≡ n
named_is n r h = let k = not_before (less_name r.name n) (less_name n r.name) h in less_same r.name n k.0 k.1

pub is_it : (n : List ℕ) (r : Row) → r.name ≡ n → has_name n r ≡ true
is_it n r e = ap (λ (a : List ℕ). not (less_name a n) && not (less_name n a)) e ∙ ap (λ b. not b && not b) (less_not n)

pub named_parts : (n : List ℕ) (xs : List Row) → Rising row_name xs → Parts (is_row_before n) (has_name n) xs
named_parts n xs h = parts row_name n (has_name n) xs (named_is n) h

-- a treap without the row of a name
abbrev pub taken : (Row → Row → Bool) → List ℕ → Treap Row → Treap Row
taken up n t = remove up (is_row_before n) (has_name n) t

pub taken_without : (key n : List ℕ) (xs : List Row) → Rising row_name xs → Distinct row_id xs → taken (up key) n (treap (up key) xs) ≡ treap (up key) (rows_without (has_name n) xs)
taken_without key n xs rising distinct = sym (treap_without (up key) (ranks (priority key) row_id) (is_row_before n) (has_name n) xs (all_apart (priority key) row_id xs distinct) (falls row_name n xs rising) (named_parts n xs rising))

row_number : Name → ℕ
row_number (name.Entry i) = i.0
row_number (name.Part f l i) = 0
row_number (name.Block f p) = 0

pub same_id : (y z : Row) → entry_name y ≡ entry_name z → y.id ≡ z.id
unfolding row_number
same_id y z e = ap row_number e

-- ---- names of a treap's rows

distinct_left : (a b : List Row) → Distinct row_id (a ++ b) → Distinct row_id a
distinct_left [] b h = tt
distinct_left (x ∷ a) b h = (each_left (λ z. x.id ≢ z.id) a b h.0, distinct_left a b h.1)

distinct_right : (a b : List Row) → Distinct row_id (a ++ b) → Distinct row_id b
distinct_right [] b h = h
distinct_right (x ∷ a) b h = distinct_right a b h.1

distinct_cross : (a b : List Row) → Distinct row_id (a ++ b) → Each (λ (x : Row). Each (λ (z : Row). x.id ≢ z.id) b) a
distinct_cross [] b h = tt
distinct_cross (x ∷ a) b h = (each_right (λ z. x.id ≢ z.id) a b h.0, distinct_cross a b h.1)

pub once_of : (w : Treap Row) → Distinct row_id (rows w) → Once w
once_of Empty h = tt
once_of (Over y l m) h =
    let cross = distinct_cross (rows l) (y ∷ rows m) h in
    let right = distinct_right (rows l) (y ∷ rows m) h in (
      every_of (λ z. entry_name y ≢ entry_name z) l (each_map (λ (x : Row). Each (λ (z : Row). x.id ≢ z.id) (y ∷ rows m)) (λ z. entry_name y ≢ entry_name z) (rows l) (λ z k e. k.0 (same_id z y (sym e))) cross),
      every_of (λ z. entry_name y ≢ entry_name z) m (each_map (λ (z : Row). y.id ≢ z.id) (λ z. entry_name y ≢ entry_name z) (rows m) (λ z k e. k (same_id y z e)) right.0),
      every_of (λ x. Outside (entry_name x) m) l (each_map (λ (x : Row). Each (λ (z : Row). x.id ≢ z.id) (y ∷ rows m)) (λ x. Outside (entry_name x) m) (rows l)
          (λ x k. every_of (λ z. entry_name x ≢ entry_name z) m (each_map (λ (z : Row). x.id ≢ z.id) (λ z. entry_name x ≢ entry_name z) (rows m) (λ z j e. j (same_id x z e)) k.1)) cross),
      once_of l (distinct_left (rows l) (y ∷ rows m) h),
      once_of m right.1,
    )

each_none : (n : Name) (xs : List Row) → (Any (λ (r : Row). n ≡ entry_name r) xs → ⊥) → Each (λ z. n ≢ entry_name z) xs
each_none n [] h = tt
each_none n (y ∷ ys) h = ((λ e. h (inl e)), each_none n ys (λ k. h (inr k)))

pub outside_none : (n : Name) (w : Treap Row) → (IsRowName (rows w) n → ⊥) → Outside n w
outside_none n w h = every_of (λ z. n ≢ entry_name z) w (each_none n (rows w) h)

pub outside_not : (n : Name) (w : Treap Row) → Outside n w → IsRowName (rows w) n → ⊥
outside_not n Empty h k = k
outside_not n (Over y l m) h k = by (λ g. outside_not n l h.1 g) (λ g. outside_not n m h.2 g) (any_split (λ (r : Row). n ≡ entry_name r) (rows l) (y ∷ rows m) k)
  where
    by : (Any (λ (r : Row). n ≡ entry_name r) (rows l) → ⊥) → (Any (λ (r : Row). n ≡ entry_name r) (rows m) → ⊥) → Any (λ (r : Row). n ≡ entry_name r) (rows l) ⊎ Any (λ (r : Row). n ≡ entry_name r) (y ∷ rows m) → ⊥
    by f j (inl g) = f g
    by f j (inr (inl g)) = h.0 g
    by f j (inr (inr g)) = j g

pub any_named : (n : Name) (xs : List Row) → Any (λ (r : Row). n ≡ entry_name r) xs → (y : Row) → n ≡ entry_name y → Any (λ (r : Row). r.id ≡ y.id) xs
any_named n [] h y e = h
any_named n (x ∷ xs) (inl g) y e = inl (same_id x y (sym g ∙ e))
any_named n (x ∷ xs) (inr g) y e = inr (any_named n xs g y e)
