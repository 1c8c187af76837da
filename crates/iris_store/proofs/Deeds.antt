-- Lists that are mapped from the front.
use Rattle.std.proofs.Common.{◌≡◌, ◌∙◌, ap, refl, add-one, arith, ℕ, zero, suc, ◌+◌, ◌<◌, List, [], ◌∷◌, ◌++◌, map, length, take, drop, slice_index_or, slice_set}

-- a list whose first elements are mapped
abbrev pub mapped : {A : Type 0} → (A → A) → List A → ℕ → List A
mapped f old i = map f (take i old) ++ drop i old

-- one element more is mapped where it is set
next_set : {A : Type 0} (f : A → A) (old : List A) (i : ℕ) (d : A) → i < length old
    → slice_set (mapped f old i) i (f (slice_index_or (mapped f old i) i d)) ≡ mapped f old (suc i)
next_set f [] i d in_list = grind arith
next_set f (x ∷ old) zero d in_list = refl
next_set f (x ∷ old) (suc i) d in_list = ap (λ rest. f x ∷ rest) (next_set f old i d (grind arith))

-- one element more is mapped by setting it to its value
pub mapped_set : {A : Type 0} (f : A → A) (old new : List A) (i : ℕ) (x v : A) → i < length old → new ≡ mapped f old i
    → x ≡ slice_index_or new i x → v ≡ f x → slice_set new i v ≡ mapped f old (i + 1)
mapped_set f old new i x v in_list so_far at value =
    rw value (rw add-one (ap (λ y. slice_set new i (f y)) at ∙ (ap (λ l. slice_set l i (f (slice_index_or l i x))) so_far ∙ next_set f old i x in_list)))
