-- Parts of a level, and the places under them.
use Rattle.std.proofs.Common.{◌≡◌, ◌+◌, ◌-◌, ◌*◌, ◌/◌, ◌<◌, ◌≤◌, ◌^◌, inl, inr, ℕ, zero, suc, ap, sym, ◌∙◌, subst, arith, add-one}
use Rattle.std.proofs.lemmas.Bool.{cases_lt}
use Rattle.std.proofs.Math.Nat.{pow-succ', mul-le-mul_right}
use Rattle.std.proofs.Math.Pow.{shr-shr}
use Rattle.std.proofs.lemmas.Nat.{pow-add}
use Rattle.iris_shape.specs.FoldLaws.{IsUnder}

pub pow-pos : (l : ℕ) → 0 < 2 ^ l
pow-pos zero = omega arith
pow-pos (suc l) = omega (arith, pow-pos l, pow-succ' 2 l)

under-div : (k p : ℕ) → 0 < k → ((p / k) * k ≤ p) × (p < (p / k + 1) * k)
under-div k p h = (omega arith, omega arith)

-- a place lies under the part of each level over it
pub over : (l p : ℕ) → IsUnder l (p / 2 ^ l) p
over l p = let h = under-div (2 ^ l) p (pow-pos l) in record { from = h.0; to = h.1 }

pub div_step : (l p : ℕ) → p / 2 ^ suc l ≡ (p / 2 ^ l) / 2
div_step l p = sym (shr-shr p l 1 ∙ ap (λ k. p / 2 ^ k) (add-one l))

-- a multiple that starts below another ends there or before
step_by : (k m j n : ℕ) → 0 < k → j * k < n * (m * k) → (j + 1) * k ≤ n * (m * k)
step_by k m j n pos h = elim (cases_lt j (n * m)) [
  | inl a ↦ (let b : (j + 1) * k ≤ (n * m) * k = mul-le-mul_right k (let x : j + 1 ≤ n * m = omega (arith, a) in x) in omega (arith, b))
  | inr a ↦ (let b : (n * m) * k ≤ j * k = mul-le-mul_right k a in absurd (omega (arith, b, h)))
]

pow-split : (k l : ℕ) → k ≤ l → 2 ^ l ≡ 2 ^ (l - k) * 2 ^ k
pow-split k l h = let e : l ≡ (l - k) + k = omega arith in ap (λ n. 2 ^ n) e ∙ pow-add 2 (l - k) k

pub step : (k l j n : ℕ) → k ≤ l → j * 2 ^ k < n * 2 ^ l → (j + 1) * 2 ^ k ≤ n * 2 ^ l
step k l j n le h =
    let e = pow-split k l le in
    let P : ℕ → Type 0 = λ x. j * 2 ^ k < n * x in
    let Q : ℕ → Type 0 = λ x. (j + 1) * 2 ^ k ≤ n * x in
    subst Q (sym e) (step_by (2 ^ k) (2 ^ (l - k)) j n (pow-pos k) (subst P e h))

-- a part that starts among the places of a file ends there
pub fits_from : (l i : ℕ) → l ≤ 16 → i * 2 ^ l < 65536 → (i + 1) * 2 ^ l ≤ 65536
fits_from l i le lt = let h : (i + 1) * 2 ^ l ≤ 1 * 2 ^ 16 = step l 16 i 1 le lt in h

pub fits_at : (l p : ℕ) → l ≤ 16 → p < 65536 → (p / 2 ^ l + 1) * 2 ^ l ≤ 65536
fits_at l p le lt = fits_from l (p / 2 ^ l) le (omega (arith, (over l p).from))

half_start : (k i j n : ℕ) → i * k < n → 2 * j ≤ i → j * (2 * k) < n
half_start k i j n h le = let m : (2 * j) * k ≤ i * k = mul-le-mul_right k le in omega (arith, m, h)

-- the part above one is among the places too
pub fits_up : (l i j : ℕ) → l < 16 → 2 * j ≤ i → (i + 1) * 2 ^ l ≤ 65536 → (j + 1) * 2 ^ suc l ≤ 65536
fits_up l i j lt le h =
    let s : i * 2 ^ l < 65536 = omega (arith, h, pow-pos l) in
    fits_from (suc l) j (omega (arith, lt)) (let P : ℕ → Type 0 = λ x. j * x < 65536 in subst P (sym (pow-succ' 2 l)) (half_start (2 ^ l) i j 65536 s le))

fits_by : (h i n : ℕ) → (i + 1) * (2 * h) ≤ n → ((2 * i + 1) * h ≤ n) × ((2 * i + 1 + 1) * h ≤ n)
fits_by h i n a = (omega (arith, a), omega (arith, a))

-- the halves of a part are among the places
pub fits_low : (l i n : ℕ) → (i + 1) * 2 ^ suc l ≤ n → (2 * i + 1) * 2 ^ l ≤ n
fits_low l i n h = (fits_by (2 ^ l) i n (subst (λ x. (i + 1) * x ≤ n) (pow-succ' 2 l) h)).0

pub fits_high : (l i n : ℕ) → (i + 1) * 2 ^ suc l ≤ n → (2 * i + 1 + 1) * 2 ^ l ≤ n
fits_high l i n h = (fits_by (2 ^ l) i n (subst (λ x. (i + 1) * x ≤ n) (pow-succ' 2 l) h)).1

top_index : (i : ℕ) → (i + 1) * 65536 ≤ 65536 → i ≡ 0
top_index i h = omega arith

pub only_top : (l i : ℕ) → l ≡ 16 → (i + 1) * 2 ^ l ≤ 65536 → i ≡ 0
only_top l i e h = top_index i (let P : ℕ → Type 0 = λ k. (i + 1) * 2 ^ k ≤ 65536 in subst P e h)

-- all places of a part up to its end lie under it from a place of it on
pub under_rest : (l p q : ℕ) → p ≤ q → q < (p / 2 ^ l + 1) * 2 ^ l → IsUnder l (p / 2 ^ l) q
under_rest l p q le lt = record { from = omega (arith, (over l p).from); to = lt }

-- the parts of a level that are among the places
pub index_fits : (l i : ℕ) → l ≤ 16 → (i + 1) * 2 ^ l ≤ 65536 → i < 2 ^ (16 - l)
index_fits l i le h = elim (cases_lt i (2 ^ (16 - l))) [
  | inl a ↦ a
  | inr a ↦ (let b : 2 ^ (16 - l) * 2 ^ l ≤ i * 2 ^ l = mul-le-mul_right (2 ^ l) a in
      let e : 65536 ≡ 2 ^ (16 - l) * 2 ^ l = pow-split l 16 le in absurd (omega (arith, b, e, h, pow-pos l)))
]

pub at_zero : (l : ℕ) → l ≡ 0 → 2 ^ l ≡ 1
at_zero l e = ap (λ n. 2 ^ n) e

-- at a level that is one more than another
pub low_fits : (l k i n : ℕ) → l ≡ suc k → (i + 1) * 2 ^ l ≤ n → (2 * i + 1) * 2 ^ k ≤ n
low_fits l k i n e h = fits_low k i n (subst (λ l. (i + 1) * 2 ^ l ≤ n) e h)

pub high_fits : (l k i n : ℕ) → l ≡ suc k → (i + 1) * 2 ^ l ≤ n → (2 * i + 1 + 1) * 2 ^ k ≤ n
high_fits l k i n e h = fits_high k i n (subst (λ l. (i + 1) * 2 ^ l ≤ n) e h)
