-- Ways down a treap towards a name.
use Rattle.std.proofs.lemmas.Bool.Decides.{nat_tests}
use Rattle.std.proofs.Common.{◌≡◌, ◌&&◌, ◌||◌, ◌==◌, nat_lt, arith, not, ◌++◌, ◌⊎◌, inl, inr, ℕ, List, [], ◌∷◌, Bool, true, false, cond, refl, ap, sym, ◌∙◌, subst, true≢false}
use Rattle.std.proofs.lemmas.Bool.{both_ways, cond-true, cond-false}
use Rattle.iris_shape.specs.Treap.{Treap, Over, rows, Each}
use Rattle.iris_shape.specs.Order.{less_name, Rising}
use Rattle.iris_shape.proofs.Orders.{less_not, less_through}
use Rattle.iris_shape.proofs.Treaps.{each_left, each_right, each_map, each_both}
use Rattle.iris_treepaths.specs.Rows.{Row, row_name}
use Rattle.iris_treepaths.specs.Ways.{Any, along, is_row_before, has_name}

pub any_map : {A : Type 0} (P Q : A → Type 0) (xs : List A) → ((z : A) → P z → Q z) → Any P xs → Any Q xs
any_map P Q [] f h = absurd h
any_map P Q (x ∷ xs) f (inl h) = inl (f x h)
any_map P Q (x ∷ xs) f (inr h) = inr (any_map P Q xs f h)

pub any_left : {A : Type 0} (P : A → Type 0) (a b : List A) → Any P a → Any P (a ++ b)
any_left P [] b h = absurd h
any_left P (x ∷ a) b (inl h) = inl h
any_left P (x ∷ a) b (inr h) = inr (any_left P a b h)

pub any_right : {A : Type 0} (P : A → Type 0) (a b : List A) → Any P b → Any P (a ++ b)
any_right P [] b h = h
any_right P (x ∷ a) b h = inr (any_right P a b h)

pub any_split : {A : Type 0} (P : A → Type 0) (a b : List A) → Any P (a ++ b) → Any P a ⊎ Any P b
any_split P [] b h = inr h
any_split P (y ∷ a) b (inl h) = inl (inl h)
any_split P (y ∷ a) b (inr h) = elim (any_split P a b h) [ inl k ↦ inl (inr k) | inr k ↦ inr k ]

pub rising_left : {A : Type 0} (name : A → List ℕ) (a b : List A) → Rising name (a ++ b) → Rising name a
rising_left name [] b h = tt
rising_left name (x ∷ a) b h = (each_left (λ y. less_name (name x) (name y) ≡ true) a b h.0, rising_left name a b h.1)

pub rising_right : {A : Type 0} (name : A → List ℕ) (a b : List A) → Rising name (a ++ b) → Rising name b
rising_right name [] b h = h
rising_right name (x ∷ a) b h = rising_right name a b h.1

-- all before a row have lesser names
pub rising_before : {A : Type 0} (name : A → List ℕ) (a : List A) (y : A) (b : List A) → Rising name (a ++ y ∷ b) → Each (λ z. less_name (name z) (name y) ≡ true) a
rising_before name [] y b h = tt
rising_before name (x ∷ a) y b h = ((each_right (λ z. less_name (name x) (name z) ≡ true) a (y ∷ b) h.0).0, rising_before name a y b h.1)

-- a part of a treap that is reached on going down
pub data Down {A : Type 0} (p e : A → Bool) (t : Treap A) : Treap A → Type 0 where
  here : Down p e t t
  less : (y : A) (l m : Treap A) → Down p e t (Over y l m) → e y ≡ false → p y ≡ false → Down p e t l
  more : (y : A) (l m : Treap A) → Down p e t (Over y l m) → e y ≡ false → p y ≡ true → Down p e t m

pub down_along : {A : Type 0} (P : A → Type 0) (p e : A → Bool) (t w : Treap A) → Down p e t w → Any P (along p e w) → Any P (along p e t)
down_along P p e t w here h = h
down_along P p e t w (less y l m d a b) h =
    down_along P p e t (Over y l m) d (inr (subst (Any P) (sym (cond-false (e y) [] (cond (p y) (along p e m) (along p e l)) a ∙ cond-false (p y) (along p e m) (along p e l) b)) h))
down_along P p e t w (more y l m d a b) h =
    down_along P p e t (Over y l m) d (inr (subst (Any P) (sym (cond-false (e y) [] (cond (p y) (along p e m) (along p e l)) a ∙ cond-true (p y) (along p e m) (along p e l) b)) h))

pub down_rows : {A : Type 0} (P : A → Type 0) (p e : A → Bool) (t w : Treap A) → Down p e t w → Any P (rows w) → Any P (rows t)
down_rows P p e t w here h = h
down_rows P p e t w (less y l m d a b) h = down_rows P p e t (Over y l m) d (any_left P (rows l) (y ∷ rows m) h)
down_rows P p e t w (more y l m d a b) h = down_rows P p e t (Over y l m) d (any_right P (rows l) (y ∷ rows m) (inr h))

pub down_rising : {A : Type 0} (name : A → List ℕ) (p e : A → Bool) (t w : Treap A) → Down p e t w → Rising name (rows t) → Rising name (rows w)
down_rising name p e t w here h = h
down_rising name p e t w (less y l m d a b) h = rising_left name (rows l) (y ∷ rows m) (down_rising name p e t (Over y l m) d h)
down_rising name p e t w (more y l m d a b) h = (rising_right name (rows l) (y ∷ rows m) (down_rising name p e t (Over y l m) d h)).1

-- ---- names

-- two names of which neither stands before the other are one
pub less_same : (a b : List ℕ) → less_name a b ≡ false → less_name b a ≡ false → a ≡ b
less_same [] [] h k = refl
less_same [] (y ∷ b) h k = absurd (both_ways true h refl)
less_same (x ∷ a) [] h k = absurd (both_ways true k refl)
less_same (x ∷ a) (y ∷ b) h k = let r = step x y (less_name a b) (less_name b a) h k in λ i. r.0 i ∷ less_same a b r.1 r.2 i
  where
    step : (x y : ℕ) (p q : Bool) → (nat_lt x y || ((x == y) && p)) ≡ false → (nat_lt y x || ((y == x) && q)) ≡ false → (x ≡ y) × (p ≡ false) × (q ≡ false)
    step x y p q h k = (grind (arith, nat_tests), grind (arith, nat_tests), grind (arith, nat_tests))

pub less_apart : (a b : List ℕ) → less_name a b ≡ true → a ≡ b → ⊥
less_apart a b h e = both_ways (less_name b b) (less_not b) (ap (λ x. less_name x b) (sym e) ∙ h)

-- a lesser name isn't the greater one
pub less_back : (a b : List ℕ) → less_name a b ≡ true → less_name b a ≡ false
less_back a b h = by (less_name b a) refl
  where
    by : (t : Bool) → less_name b a ≡ t → t ≡ false
    by false e = refl
    by true e = absurd (both_ways (less_name a a) (less_not a) (less_through a b a h e))

-- where the name isn't below, it is nowhere
pub down_none : (n : List ℕ) (t w : Treap Row) → Down (is_row_before n) (has_name n) t w → Rising row_name (rows t) → Each (λ r. r.name ≡ n → ⊥) (rows w) → Each (λ r. r.name ≡ n → ⊥) (rows t)
down_none n t w here rise h = h
down_none n t w (less y l m d a b) rise h =
    let R = down_rising row_name (is_row_before n) (has_name n) t (Over y l m) d rise in
    let after = rising_right row_name (rows l) (y ∷ rows m) R in
    let lt : less_name n y.name ≡ true = other (less_name y.name n) (less_name n y.name) b a in
    down_none n t (Over y l m) d rise
    (each_both (λ r. r.name ≡ n → ⊥) (rows l) (y ∷ rows m) h
    (λ e. less_apart n y.name lt (sym e), each_map (λ (z : Row). less_name y.name z.name ≡ true) (λ r. r.name ≡ n → ⊥) (rows m) (λ z k e. less_apart n z.name (less_through n y.name z.name lt k) (sym e)) after.0))
  where
    other : (p q : Bool) → p ≡ false → (not p && not q) ≡ false → q ≡ true
    other true q h k = absurd (true≢false h)
    other false true h k = refl
    other false false h k = absurd (true≢false k)
down_none n t w (more y l m d a b) rise h =
    let R = down_rising row_name (is_row_before n) (has_name n) t (Over y l m) d rise in
    let before_y = rising_before row_name (rows l) y (rows m) R in
    down_none n t (Over y l m) d rise
    (each_both (λ r. r.name ≡ n → ⊥) (rows l) (y ∷ rows m)
    (each_map (λ (z : Row). less_name z.name y.name ≡ true) (λ r. r.name ≡ n → ⊥) (rows l) (λ z k e. less_apart z.name n (less_through z.name y.name n k b) e) before_y)
    (λ e. less_apart y.name n b e, h))
