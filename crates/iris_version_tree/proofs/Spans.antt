-- Ranges of parts, and what a change of versions does to them.
use Rattle.std.proofs.Common.{◌≡◌, ◌+◌, ◌*◌, ◌<◌, ◌≤◌, ◌^◌, ◌⊎◌, inl, inr, ℕ, suc, Bool, true, false, refl, sym, subst, arith}
use Rattle.std.proofs.lemmas.Grind.{common_steps}
use Rattle.std.proofs.lemmas.Bool.{cases_lt}
use Rattle.std.proofs.Math.Nat.{pow-succ', mul-le-mul_right}
use Rattle.iris_name.specs.Names.{same_name}
use Rattle.iris_name.specs.NameLaws.{same_name-true}
use Rattle.iris_name.specs.declared.name.Name.{Name}
use Rattle.iris_shape.specs.FoldLaws.{IsUnder, with_range_set}
use Rattle.iris_version_tree.specs.Ranges.{Within}
use Rattle.iris_version_tree.proofs.Levels.{pow-pos, step}

-- a place under a part within another is under that one
pub sub : (l i k j p : ℕ) → Within l i k j → IsUnder k j p → IsUnder l i p
sub l i k j p w u = record { from = omega (arith, w.from, u.from); to = omega (arith, w.to, u.to) }

pub not_same : (n m : Name) → (n ≡ m → ⊥) → same_name n m ≡ false
not_same n m h = go (same_name n m) refl
  where
    go : (b : Bool) → same_name n m ≡ b → b ≡ false
    go true e = absurd (h (same_name-true n m e))
    go false e = refl

-- outside of the range the versions stay
pub changed-out : (v : ℕ → ℕ) (low high w l i : ℕ) → ((i + 1) * 2 ^ l ≤ low) ⊎ (high ≤ i * 2 ^ l) → (p : ℕ) → IsUnder l i p → v p ≡ with_range_set v low high w p
unfolding with_range_set
changed-out v low high w l i (inl h) p u = let a : p < low = omega (arith, u.to) in grind (arith, common_steps)
changed-out v low high w l i (inr h) p u = let a : high ≤ p = omega (arith, u.from) in grind (arith, common_steps)

-- inside they are the new one
pub changed-in : (v : ℕ → ℕ) (low high w l i : ℕ) → low ≤ i * 2 ^ l → (i + 1) * 2 ^ l ≤ high → (p : ℕ) → IsUnder l i p → with_range_set v low high w p ≡ w
unfolding with_range_set
changed-in v low high w l i a b p u = let x : low ≤ p = omega (arith, u.from) in let y : p < high = omega (arith, u.to) in grind (arith, common_steps)

same_by : (k i j : ℕ) → 0 < k → i * k ≤ j * k → (j + 1) * k ≤ (i + 1) * k → j ≡ i
same_by k i j pos a b = elim (cases_lt j i) [
  | inl x ↦ absurd (let y : (j + 1) * k ≤ i * k = mul-le-mul_right k (let z : j + 1 ≤ i = omega (arith, x) in z) in omega (arith, y, a, pos))
  | inr x ↦ elim (cases_lt i j) [
    | inl z ↦ absurd (let y : (i + 1) * k ≤ j * k = mul-le-mul_right k (let q : i + 1 ≤ j = omega (arith, z) in q) in omega (arith, y, b, pos))
    | inr z ↦ omega (arith, x, z)
  ]
]

half_up : (h i a b : ℕ) → (2 * i) * h ≤ a → b ≤ (2 * i + 1) * h → (i * (2 * h) ≤ a) × (b ≤ (i + 1) * (2 * h))
half_up h i a b x y = (omega (arith, x), omega (arith, y))

half_up-2 : (h i a b : ℕ) → (2 * i + 1) * h ≤ a → b ≤ (2 * i + 1 + 1) * h → (i * (2 * h) ≤ a) × (b ≤ (i + 1) * (2 * h))
half_up-2 h i a b x y = (omega (arith, x), omega (arith, y))

pub up_low : (l i k j : ℕ) → Within l (2 * i) k j → Within (suc l) i k j
up_low l i k j w =
    let e = pow-succ' 2 l in
    let h = half_up (2 ^ l) i (j * 2 ^ k) ((j + 1) * 2 ^ k) w.from w.to in
    record { level = omega (arith, w.level); from = rw e h.0; to = rw e h.1 }

pub up_high : (l i k j : ℕ) → Within l (2 * i + 1) k j → Within (suc l) i k j
up_high l i k j w =
    let e = pow-succ' 2 l in
    let h = half_up-2 (2 ^ l) i (j * 2 ^ k) ((j + 1) * 2 ^ k) w.from w.to in
    record { level = omega (arith, w.level); from = rw e h.0; to = rw e h.1 }

pub self : (l i : ℕ) → Within l i l i
self l i = record { level = omega arith; from = omega arith; to = omega arith }

split_by : (h i a b : ℕ) → i * (2 * h) ≤ a → b ≤ (i + 1) * (2 * h) → (a < (2 * i + 1) * h → b ≤ (2 * i + 1) * h)
    → (((2 * i) * h ≤ a) × (b ≤ (2 * i + 1) * h)) ⊎ (((2 * i + 1) * h ≤ a) × (b ≤ (2 * i + 1 + 1) * h))
split_by h i a b x y s = elim (cases_lt a ((2 * i + 1) * h)) [ inl z ↦ inl (omega (arith, x), s z) | inr z ↦ inr (z, omega (arith, y)) ]

-- what lies within a part lies within a half of it, or is the part
pub split : (l i k j : ℕ) → Within (suc l) i k j → ((k ≡ suc l) × (j ≡ i)) ⊎ (Within l (2 * i) k j ⊎ Within l (2 * i + 1) k j)
split l i k j w = elim (cases_lt l k) [
  | inl a ↦ (let e : k ≡ suc l = omega (arith, a, w.level) in
      inl (e, same_by (2 ^ suc l) i j (pow-pos (suc l)) (subst (λ n. i * 2 ^ suc l ≤ j * 2 ^ n) e w.from) (subst (λ n. (j + 1) * 2 ^ n ≤ (i + 1) * 2 ^ suc l) e w.to)))
  | inr a ↦ (let e = pow-succ' 2 l in
      elim (split_by (2 ^ l) i (j * 2 ^ k) ((j + 1) * 2 ^ k) (rw e at w.from) (rw e at w.to) (step k l j (2 * i + 1) a)) [
        | inl h ↦ inr (inl (record { level = a; from = h.0; to = h.1 }))
        | inr h ↦ inr (inr (record { level = a; from = h.0; to = h.1 }))
      ])
]

-- nothing lies within both halves
apart_by : (h i a b k : ℕ) → 0 < k → b ≡ a + k → b ≤ (2 * i + 1) * h → (2 * i + 1) * h ≤ a → ⊥
apart_by h i a b k pos e x y = omega (arith, pos, e, x, y)

pub apart : (l i k j : ℕ) → Within l (2 * i) k j → Within l (2 * i + 1) k j → ⊥
apart l i k j w u = apart_by (2 ^ l) i (j * 2 ^ k) ((j + 1) * 2 ^ k) (2 ^ k) (pow-pos k) (let e : (j + 1) * 2 ^ k ≡ j * 2 ^ k + 2 ^ k = omega arith in e) w.to u.from

within_by : (h i j a b : ℕ) → (i ≡ 2 * j) ⊎ (i ≡ 2 * j + 1) → a ≤ j * (2 * h) → (j + 1) * (2 * h) ≤ b → (a ≤ i * h) × ((i + 1) * h ≤ b)
within_by h i j a b (inl e) x y =
    let P : ℕ → Type 0 = λ i. (a ≤ i * h) × ((i + 1) * h ≤ b) in
    subst P (sym e) (omega (arith, x), omega (arith, y))
within_by h i j a b (inr e) x y =
    let P : ℕ → Type 0 = λ i. (a ≤ i * h) × ((i + 1) * h ≤ b) in
    subst P (sym e) (omega (arith, x), omega (arith, y))

-- where a part lies within another, so do its halves
pub down : (l i k j n : ℕ) → Within l i (suc k) j → (n ≡ 2 * j) ⊎ (n ≡ 2 * j + 1) → Within l i k n
down l i k j n w at =
    let e = pow-succ' 2 k in
    let h = within_by (2 ^ k) n j (i * 2 ^ l) ((i + 1) * 2 ^ l) at (subst (λ x. i * 2 ^ l ≤ j * x) e w.from) (subst (λ x. (j + 1) * x ≤ (i + 1) * 2 ^ l) e w.to) in
    record { level = omega (arith, w.level); from = h.0; to = h.1 }
