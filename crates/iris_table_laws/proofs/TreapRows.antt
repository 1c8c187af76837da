-- A treap has the rows of its list: what is so of some row, and how often.
use Rattle.std.proofs.Common.{◌≡◌, ◌⊎◌, inl, inr, ℕ, ◌+◌, List, [], ◌∷◌, Bool, true, false, cond, refl, ◌∙◌, ap, arith}
use Rattle.iris_shape.specs.Treap.{Treap, Empty, Over, with_first, treap}
use Rattle.iris_records.specs.Shown.{Own}

-- some row of a list is so
abbrev pub Some_row : (Own → Type 0) → List Own → Type 0
Some_row P [] = ⊥
Some_row P (o ∷ os) = P o ⊎ Some_row P os

-- some row of a treap is so
abbrev pub Some_in : (Own → Type 0) → Treap Own → Type 0
Some_in P Empty = ⊥
Some_in P (Over o l m) = P o ⊎ (Some_in P l ⊎ Some_in P m)

module _ (P : Own → Type 0) (up : Own → Own → Bool) where
  in_first : (x : Own) (t : Treap Own) → P x ⊎ Some_in P t → Some_in P (with_first up x t)
  in_first x Empty h = elim h [ inl s ↦ inl s | inr s ↦ absurd s ]
  in_first x (Over y l m) h =
      elim (up x y) as (λ b. Some_in P (cond b (Over x Empty (Over y l m)) (Over y (with_first up x l) m))) [
        | true ↦ elim h [ inl s ↦ inl s | inr s ↦ inr (inr s) ]
        | false ↦ elim h [
          | inl s ↦ inr (inl (in_first x l (inl s)))
          | inr s ↦ elim s [ inl a ↦ inl a | inr a ↦ elim a [ inl b ↦ inr (inl (in_first x l (inr b))) | inr b ↦ inr (inr b) ] ]
        ]
      ]

  pub in_treap : (xs : List Own) → Some_row P xs → Some_in P (treap up xs)
  in_treap [] h = absurd h
  in_treap (x ∷ xs) h = in_first x (treap up xs) (elim h [ inl s ↦ inl s | inr s ↦ inr (in_treap xs s) ])

  of_first : (x : Own) (t : Treap Own) → Some_in P (with_first up x t) → P x ⊎ Some_in P t
  of_first x Empty = λ h. elim h [ inl s ↦ inl s | inr s ↦ elim s [ inl a ↦ absurd a | inr a ↦ absurd a ] ]
  of_first x (Over y l m) =
      elim (up x y) as (λ b. Some_in P (cond b (Over x Empty (Over y l m)) (Over y (with_first up x l) m)) → P x ⊎ Some_in P (Over y l m)) [
        | true ↦ λ h. elim h [ inl s ↦ inl s | inr s ↦ elim s [ inl a ↦ absurd a | inr a ↦ inr a ] ]
        | false ↦ λ h. elim h [
          | inl s ↦ inr (inl s)
          | inr s ↦ elim s [ inl a ↦ elim (of_first x l a) [ inl b ↦ inl b | inr b ↦ inr (inr (inl b)) ] | inr a ↦ inr (inr (inr a)) ]
        ]
      ]

  pub of_treap : (xs : List Own) → Some_in P (treap up xs) → Some_row P xs
  of_treap [] h = absurd h
  of_treap (x ∷ xs) h = elim (of_first x (treap up xs) h) [ inl s ↦ inl s | inr s ↦ inr (of_treap xs s) ]

-- numbers of rows, added up
abbrev pub sum_row : (Own → ℕ) → List Own → ℕ
sum_row f [] = 0
sum_row f (o ∷ os) = f o + sum_row f os

abbrev pub sum_in : (Own → ℕ) → Treap Own → ℕ
sum_in f Empty = 0
sum_in f (Over o l m) = f o + (sum_in f l + sum_in f m)

module _ (f : Own → ℕ) (up : Own → Own → Bool) where
  sum_first : (x : Own) (t : Treap Own) → sum_in f (with_first up x t) ≡ f x + sum_in f t
  sum_first x Empty = refl
  sum_first x (Over y l m) = by (up x y) (sum_first x l) where
    by : (b : Bool) → sum_in f (with_first up x l) ≡ f x + sum_in f l → sum_in f (cond b (Over x Empty (Over y l m)) (Over y (with_first up x l) m)) ≡ f x + sum_in f (Over y l m)
    by true h = omega arith
    by false h = omega (arith, h)

  pub sum_treap : (xs : List Own) → sum_in f (treap up xs) ≡ sum_row f xs
  sum_treap [] = refl
  sum_treap (x ∷ xs) = sum_first x (treap up xs) ∙ ap (λ z. f x + z) (sum_treap xs)
