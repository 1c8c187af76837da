-- Names, choices and lists that are one or not.
use Rattle.std.proofs.Common.{◌≡◌, ◌≢◌, ◌⊎◌, inl, inr, ℕ, List, [], ◌∷◌, Bool, true, false, cond, refl, sym}
use Rattle.std.proofs.lemmas.Bool.Decides.{eqb_tells}
use Rattle.iris_name.specs.declared.name.Name.{Name}
use Rattle.iris_name.specs.NameLaws.{same_name-true}
use Rattle.iris_name.specs.Names.{same_name}

-- which of two a choice took
pub chosen : {A : Type 0} (b : Bool) (x y z : A) → cond b x y ≡ z → ((b ≡ true) × (x ≡ z)) ⊎ ((b ≡ false) × (y ≡ z))
chosen true x y z e = inl (refl, e)
chosen false x y z e = inr (refl, e)

-- a name that tests as another is that
pub named : (n m : Name) → same_name n m ≡ true → m ≡ n
named n m h = sym (same_name-true n m h)

-- lists of numbers are one or not
pub same_list : (xs ys : List ℕ) → (xs ≡ ys) ⊎ (xs ≢ ys)
same_list [] [] = inl refl
same_list [] (y ∷ ys) = inr (λ h. cc)
same_list (x ∷ xs) [] = inr (λ h. cc)
same_list (x ∷ xs) (y ∷ ys) = elim (eqb_tells x y) [
  | inl h ↦ elim (same_list xs ys) [ inl t ↦ inl (let e = h.1 in cc) | inr ne ↦ inr (λ h'. ne (cc)) ]
  | inr h ↦ inr (λ h'. h.1 (cc))
]
