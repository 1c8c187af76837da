-- The order of a directory's rows: by names in the order of bytes from left to right, by priorities from above.
use Rattle.std.specs.Prelude.{◌≡◌, ◌≢◌, ℕ, Bool, true, false, List, [], ◌∷◌, ◌&&◌, ◌||◌, ◌==◌, nat_lt}
use Rattle.iris_shape.specs.Treap.{Each}

-- The greater priority stands above, and of equal priorities the smaller id: priority p of id a beats priority q of id b.
abbrev pub outranks : ℕ → ℕ → ℕ → ℕ → Bool
outranks p a q b = nat_lt q p || ((p == q) && nat_lt a b)

-- the same of two ids by their priorities
abbrev pub beats : (ℕ → ℕ) → ℕ → ℕ → Bool
beats prio a b = outranks (prio a) a (prio b) b

-- the same of two rows
abbrev pub beside : {A : Type 0} → (ℕ → ℕ) → (A → ℕ) → A → A → Bool
beside prio id x y = beats prio (id x) (id y)

-- a name stands before another in the order of bytes
abbrev pub less_name : List ℕ → List ℕ → Bool
less_name [] [] = false
less_name [] (y ∷ ys) = true
less_name (x ∷ xs) [] = false
less_name (x ∷ xs) (y ∷ ys) = nat_lt x y || ((x == y) && less_name xs ys)

-- names rise strictly
abbrev pub Rising : {A : Type 0} → (A → List ℕ) → List A → Type 0
Rising name [] = Unit {0}
Rising name (x ∷ xs) = Each (λ y. less_name (name x) (name y) ≡ true) xs × Rising name xs

-- each number stands once
abbrev pub Distinct : {A : Type 0} → (A → ℕ) → List A → Type 0
Distinct id [] = Unit {0}
Distinct id (x ∷ xs) = Each (λ y. id x ≢ id y) xs × Distinct id xs
