-- Priorities rank, and rising names part the rows.
use Rattle.std.proofs.Common.{◌≡◌, ◌==◌, ◌||◌, ◌&&◌, nat_lt, ℕ, List, [], ◌∷◌, Bool, true, false, refl, sym, ◌∙◌, ap, arith}
use Rattle.std.proofs.lemmas.Bool.Decides.{nat_tests}
use Rattle.std.proofs.lemmas.Bool.{both_ways}
use Rattle.iris_shape.specs.Treap.{Ranks, Each, Falls, Parts, Apart, AllApart}
use Rattle.iris_shape.specs.Order.{beats, beside, less_name, Rising, Distinct}

through : (prio : ℕ → ℕ) (x y z : ℕ) → beats prio x y ≡ true → beats prio y z ≡ true → beats prio x z ≡ true
through prio x y z h k = grind (arith, nat_tests)

one_way : (prio : ℕ → ℕ) (x y : ℕ) → beats prio x y ≡ true → beats prio y x ≡ false
one_way prio x y h = grind (arith, nat_tests)

either_way : (prio : ℕ → ℕ) (x y : ℕ) → (x ≡ y → ⊥) → beats prio x y ≡ false → beats prio y x ≡ true
either_way prio x y n h = grind (arith, nat_tests)

pub ranks : {A : Type 0} (prio : ℕ → ℕ) (id : A → ℕ) → Ranks (beside prio id)
ranks prio id = record { through = λ x y z h k. through prio (id x) (id y) (id z) h k; one_way = λ x y h. one_way prio (id x) (id y) h }

pub apart : {A : Type 0} (prio : ℕ → ℕ) (id : A → ℕ) (x y : A) → (id x ≡ id y → ⊥) → Apart (beside prio id) x y
apart prio id x y n = (either_way prio (id x) (id y) n, either_way prio (id y) (id x) (λ e. n (sym e)))

pub less_through : (a b c : List ℕ) → less_name a b ≡ true → less_name b c ≡ true → less_name a c ≡ true
less_through [] [] c h k = k
less_through [] (y ∷ b) [] h k = k
less_through [] (y ∷ b) (z ∷ c) h k = refl
less_through (x ∷ a) [] c h k = absurd (both_ways false refl h)
less_through (x ∷ a) (y ∷ b) [] h k = k
less_through (x ∷ a) (y ∷ b) (z ∷ c) h k = step x y z _ _ _ (less_through a b c) h k
  where
    step : (x y z : ℕ) (p q r : Bool) → (p ≡ true → q ≡ true → r ≡ true) → (nat_lt x y || ((x == y) && p)) ≡ true → (nat_lt y z || ((y == z) && q)) ≡ true → (nat_lt x z || ((x == z) && r)) ≡ true
    step x y z p q r i h k = grind (arith, nat_tests)

pub less_not : (a : List ℕ) → less_name a a ≡ false
less_not [] = refl
less_not (x ∷ a) = step x (less_name a a) (less_not a)
  where
    step : (x : ℕ) (p : Bool) → p ≡ false → (nat_lt x x || ((x == x) && p)) ≡ false
    step x p h = grind (arith, nat_tests)

each_map : {A : Type 0} (P Q : A → Type 0) (xs : List A) → ((z : A) → P z → Q z) → Each P xs → Each Q xs
each_map P Q [] f h = tt
each_map P Q (x ∷ xs) f h = (f x h.0, each_map P Q xs f h.1)

not_before : (a b n : List ℕ) → less_name a n ≡ false → less_name a b ≡ true → less_name b n ≡ false
not_before a b n h k = by (less_name b n) (λ t. less_through a b n k t)
  where
    by : (c : Bool) → (c ≡ true → less_name a n ≡ true) → c ≡ false
    by true f = absurd (both_ways (less_name a n) h (f refl))
    by false f = refl

pub falls : {A : Type 0} (name : A → List ℕ) (n : List ℕ) (xs : List A) → Rising name xs → Falls (λ r. less_name (name r) n) xs
falls name n [] h = tt
falls name n (x ∷ xs) h = ((λ f. each_map (λ y. less_name (name x) (name y) ≡ true) (λ z. less_name (name z) n ≡ false) xs (λ z k. not_before (name x) (name z) n f k) h.0), falls name n xs h.1)

falls_of : (b c : Bool) → (c ≡ true → b ≡ true) → b ≡ false → c ≡ false
falls_of b true f h = absurd (both_ways b h (f refl))
falls_of b false f h = refl

pub parts : {A : Type 0} (name : A → List ℕ) (n : List ℕ) (e : A → Bool) (xs : List A) → ((r : A) → e r ≡ true → name r ≡ n) → Rising name xs → Parts (λ r. less_name (name r) n) e xs
parts name n e [] named h = tt
parts name n e (x ∷ xs) named h = (own (e x) (named x), (λ f. each_map (λ y. less_name (name x) (name y) ≡ true) (λ z. e z ≡ false) xs (λ z k. later (e z) (name z) (named z) f k) h.0), parts name n e xs named h.1)
  where
    own : (b : Bool) → (b ≡ true → name x ≡ n) → less_name (name x) n ≡ true → b ≡ false
    own true g k = absurd (both_ways (less_name (name x) n) (ap (λ m. less_name m n) (g refl) ∙ less_not n) k)
    own false g k = refl

    later : (b : Bool) (m : List ℕ) → (b ≡ true → m ≡ n) → less_name (name x) n ≡ false → less_name (name x) m ≡ true → b ≡ false
    later true m g f k = absurd (both_ways (less_name (name x) n) f (ap (less_name (name x)) (sym (g refl)) ∙ k))
    later false m g f k = refl

pub all_apart : {A : Type 0} (prio : ℕ → ℕ) (id : A → ℕ) (xs : List A) → Distinct id xs → AllApart (beside prio id) xs
all_apart prio id [] h = tt
all_apart prio id (x ∷ xs) h = (each_map (λ y. id x ≡ id y → ⊥) (λ y. Apart (beside prio id) x y) xs (λ z k. apart prio id x z k) h.0, all_apart prio id xs h.1)

-- of two different names one stands before the other
pub less_total : (a b : List ℕ) → (a ≡ b → ⊥) → less_name a b ≡ false → less_name b a ≡ true
less_total [] [] n h = absurd (n refl)
less_total [] (y ∷ b) n h = absurd (both_ways true h refl)
less_total (x ∷ a) [] n h = refl
less_total (x ∷ a) (y ∷ b) n h = step x y (less_name a b) (less_name b a) (λ e k. less_total a b (λ s. n (let p : x ≡ y = e in let q : a ≡ b = s in cc)) k) h
  where
    step : (x y : ℕ) (p q : Bool) → (x ≡ y → p ≡ false → q ≡ true) → (nat_lt x y || ((x == y) && p)) ≡ false → (nat_lt y x || ((y == x) && q)) ≡ true
    step x y p q i h = grind (arith, nat_tests)
