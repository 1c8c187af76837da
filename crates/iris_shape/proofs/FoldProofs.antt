-- The laws of folds.
use Rattle.std.proofs.Common.{◌≡◌, ◌≢◌, ◌==◌, ◌&&◌, ◌+◌, ◌*◌, ◌<◌, ◌≤◌, ◌^◌, ◌⊎◌, inl, inr, ℕ, zero, suc, Bool, true, false, not, cond, nat_lt, refl, ap, sym, ◌∙◌, subst, arith}
use Rattle.std.proofs.lemmas.Bool.{eqb-true, eq-eqb, cases_lt, both_ways}
use Rattle.std.proofs.lemmas.Bool.Decides.{nat_tests}
use Rattle.std.proofs.Math.Nat.{pow-succ'}
use Rattle.iris_shape.specs.Folds.{Fold, One, Two, join, folded}
use Rattle.iris_shape.specs.FoldLaws.{IsUnder, Differ, IsFoldOf, OneFold, FoldedHalves, FoldedAt, FoldedSame, with_range_set, FoldedOutside, FoldedInside}

pub folded-suc : (v : ℕ → ℕ) (l i : ℕ) → folded v (suc l) i ≡ join (folded v l (2 * i)) (folded v l (2 * i + 1))
unfolding folded
folded-suc v l i = refl

pub folded-zero : (v : ℕ → ℕ) (i : ℕ) → folded v 0 i ≡ One (v i)
unfolding folded
folded-zero v i = refl

join_by : (a b w : ℕ) (t : Bool) → (a == b) ≡ t → cond t (One a) (Two (One a) (One b)) ≡ One w → (One a ≡ One w) × (One b ≡ One w)
join_by a b w true e h = (h, ap One (sym (eqb-true a b e)) ∙ h)
join_by a b w false e h = cc

-- one version is joined of two folds of it
pub join_one : (x y : Fold) (w : ℕ) → join x y ≡ One w → (x ≡ One w) × (y ≡ One w)
join_one (One a) (One b) w h = join_by a b w _ refl h
join_one (One a) (Two x y) w h = cc
join_one (Two x y) z w h = cc

one-is : (a b : ℕ) → One a ≡ One b → a ≡ b
one-is a b h = cc

half_by : (k i p : ℕ) → i * (2 * k) ≤ p → p < (i + 1) * (2 * k) → (((2 * i) * k ≤ p) × (p < (2 * i + 1) * k)) ⊎ (((2 * i + 1) * k ≤ p) × (p < (2 * i + 1 + 1) * k))
half_by k i p a b = elim (cases_lt p ((2 * i + 1) * k)) [ inl h ↦ inl (omega arith, h) | inr h ↦ inr (h, omega arith) ]

-- a place under a part is under one of its halves
pub half : (l i p : ℕ) → IsUnder (suc l) i p → IsUnder l (2 * i) p ⊎ IsUnder l (2 * i + 1) p
half l i p u =
    let e = pow-succ' 2 l in
    elim (half_by (2 ^ l) i p (rw e at u.from) (rw e at u.to)) [ inl h ↦ inl (record { from = h.0; to = h.1 }) | inr h ↦ inr (record { from = h.0; to = h.1 }) ]

is_first : (i p : ℕ) → IsUnder 0 i p → p ≡ i
is_first i p u = let a : i * 1 ≤ p = u.from in let b : p < (i + 1) * 1 = u.to in omega arith

pub folded_at : FoldedAt
folded_at v zero i w p h u = ap v (is_first i p u) ∙ one-is _ _ (sym (folded-zero v i) ∙ h)
folded_at v (suc l) i w p h u =
    let b = join_one (folded v l (2 * i)) (folded v l (2 * i + 1)) w (sym (folded-suc v l i) ∙ h) in
    elim (half l i p u) [ inl a ↦ folded_at v l (2 * i) w p b.0 a | inr a ↦ folded_at v l (2 * i + 1) w p b.1 a ]

of_half_by : (k i p : ℕ) → (2 * i) * k ≤ p → p < (2 * i + 1 + 1) * k → (i * (2 * k) ≤ p) × (p < (i + 1) * (2 * k))
of_half_by k i p a b = (omega arith, omega arith)

pub of_low : (l i p : ℕ) → IsUnder l (2 * i) p → IsUnder (suc l) i p
of_low l i p u =
    let e = pow-succ' 2 l in
    let b = of_half_by (2 ^ l) i p u.from (omega (arith, u.to)) in
    record { from = rw e b.0; to = rw e b.1 }

pub of_high : (l i p : ℕ) → IsUnder l (2 * i + 1) p → IsUnder (suc l) i p
of_high l i p u =
    let e = pow-succ' 2 l in
    let b = of_half_by (2 ^ l) i p (omega (arith, u.from)) u.to in
    record { from = rw e b.0; to = rw e b.1 }

own : (i : ℕ) → IsUnder 0 i i
own i = record { from = one_le i; to = one_lt i }
  where
    one_le : (i : ℕ) → i * 2 ^ 0 ≤ i
    one_le i = let e : i * 1 ≤ i = omega arith in e

    one_lt : (i : ℕ) → i < (i + 1) * 2 ^ 0
    one_lt i = let e : i < (i + 1) * 1 = omega arith in e

pub folded_same : FoldedSame
folded_same v w zero i h = folded-zero v i ∙ ap One (h i (own i)) ∙ sym (folded-zero w i)
folded_same v w (suc l) i h =
    folded-suc v l i
    ∙ ap (λ s. join s (folded v l (2 * i + 1))) (folded_same v w l (2 * i) (λ p u. h p (of_low l i p u)))
    ∙ ap (λ s. join (folded w l (2 * i)) s) (folded_same v w l (2 * i + 1) (λ p u. h p (of_high l i p u)))
    ∙ sym (folded-suc w l i)

pub join_same : (w : ℕ) → join (One w) (One w) ≡ One w
join_same w = ap (λ t. cond t (One w) (Two (One w) (One w))) (eq-eqb w w refl)

constant : (l i w : ℕ) → folded (λ _. w) l i ≡ One w
constant zero i w = folded-zero (λ _. w) i
constant (suc l) i w = folded-suc (λ _. w) l i ∙ ap (λ s. join s (folded (λ _. w) l (2 * i + 1))) (constant l (2 * i) w) ∙ ap (λ s. join (One w) s) (constant l (2 * i + 1) w) ∙ join_same w

-- one version all over a range folds to it
pub folded_even : (v : ℕ → ℕ) (l i w : ℕ) → ((p : ℕ) → IsUnder l i p → v p ≡ w) → folded v l i ≡ One w
folded_even v l i w h = folded_same v (λ _. w) l i h ∙ constant l i w

-- ---- two halves that differ

apart_by : (a b : ℕ) (t : Bool) → (a == b) ≡ t → a ≢ b → cond t (One a) (Two (One a) (One b)) ≡ Two (One a) (One b)
apart_by a b true e n = absurd (n (eqb-true a b e))
apart_by a b false e n = refl

pub join_two : (x y : Fold) → Differ x y → join x y ≡ Two x y
join_two (One a) (One b) d = apart_by a b _ refl d
join_two (One a) (Two x y) d = refl
join_two (Two x y) z d = refl

-- two folds differ, or are of one version
pub told : (x y : Fold) → Differ x y ⊎ ((w : ℕ) × (x ≡ One w) × (y ≡ One w))
told (One a) (One b) = by _ refl
  where
    by : (t : Bool) → (a == b) ≡ t → (a ≢ b) ⊎ ((w : ℕ) × (One a ≡ One w) × (One b ≡ One w))
    by true e = inr (a, refl, ap One (sym (eqb-true a b e)))
    by false e = inl (λ k. both_ways (a == b) e (eq-eqb a b k))
told (One a) (Two x y) = inl tt
told (Two x y) z = inl tt

pub folded_halves : FoldedHalves
folded_halves v l i =
    elim (told (folded v l (2 * i)) (folded v l (2 * i + 1))) [
      | inl d ↦ inl (d, folded-suc v l i ∙ join_two (folded v l (2 * i)) (folded v l (2 * i + 1)) d)
      | inr w ↦ inr (w.0, w.1, w.2, folded-suc v l i ∙ ap (λ s. join s (folded v l (2 * i + 1))) w.1 ∙ ap (λ s. join (One w.0) s) w.2 ∙ join_same w.0)
    ]

-- ---- one fold each

pub is_fold : (v : ℕ → ℕ) (l i : ℕ) → IsFoldOf v l i (folded v l i)
is_fold v zero i = let P : Fold → Type 0 = IsFoldOf v 0 i in subst P (sym (folded-zero v i)) (λ p u. ap v (is_first i p u))
is_fold v (suc l) i =
    let P : Fold → Type 0 = IsFoldOf v (suc l) i in
    elim (folded_halves v l i) [
      | inl d ↦ subst P (sym d.1) (d.0, is_fold v l (2 * i), is_fold v l (2 * i + 1))
      | inr w ↦ subst P (sym w.3) (λ p u. folded_at v (suc l) i w.0 p w.3 u)
    ]

pub only_fold : (v : ℕ → ℕ) (l i : ℕ) (f : Fold) → IsFoldOf v l i f → f ≡ folded v l i
only_fold v l i (One w) h = sym (folded_even v l i w h)
only_fold v zero i (Two x y) h = absurd h
only_fold v (suc l) i (Two x y) h =
    let a = only_fold v l (2 * i) x h.1 in
    let b = only_fold v l (2 * i + 1) y h.2 in
    sym (join_two x y h.0) ∙ ap (λ s. join s y) a ∙ ap (λ s. join (folded v l (2 * i)) s) b ∙ sym (folded-suc v l i)

pub one_fold : OneFold
one_fold v l i = (is_fold v l i, only_fold v l i)

-- ---- a change of a range

outside : (v : ℕ → ℕ) (low high w p : ℕ) → (low ≤ p → p < high → ⊥) → with_range_set v low high w p ≡ v p
unfolding with_range_set
outside v low high w p n = by (cases_lt p low) (cases_lt p high)
  where
    skip : (t : Bool) → t ≡ false → cond t w (v p) ≡ v p
    skip t e = rw e refl

    by : (p < low) ⊎ (low ≤ p) → (p < high) ⊎ (high ≤ p) → cond (not (nat_lt p low) && nat_lt p high) w (v p) ≡ v p
    by (inl a) b = skip (not (nat_lt p low) && nat_lt p high) (grind (arith, nat_tests))
    by (inr a) (inl b) = absurd (n a b)
    by (inr a) (inr b) = skip (not (nat_lt p low) && nat_lt p high) (grind (arith, nat_tests))

inside : (v : ℕ → ℕ) (low high w p : ℕ) → low ≤ p → p < high → with_range_set v low high w p ≡ w
unfolding with_range_set
inside v low high w p a b = take (not (nat_lt p low) && nat_lt p high) (grind (arith, nat_tests))
  where
    take : (t : Bool) → t ≡ true → cond t w (v p) ≡ w
    take t e = rw e refl

pub folded_outside : FoldedOutside
folded_outside v low high w l i h = folded_same (with_range_set v low high w) v l i (λ p u. outside v low high w p (h p u))

pub folded_inside : FoldedInside
folded_inside v low high w l i h = folded_even (with_range_set v low high w) l i w (λ p u. inside v low high w p (h p u).0 (h p u).1)
