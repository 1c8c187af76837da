-- Rows that stand once are no more than the ids that were given.
use Rattle.std.proofs.Common.{◌≡◌, ℕ, zero, suc, ◌+◌, ◌-◌, ◌≤◌, ◌<◌, Bool, true, false, ◌&&◌, cond, refl, arith}
use Rattle.std.specs.Prelude.{nat_le, nat_lt, ◌==◌}
use Rattle.std.proofs.lemmas.Bool.Decides.{nat_tests}
use Rattle.iris_rows.specs.Rows.{Rows, End, Row, Table}
use Rattle.iris_rows.specs.Sound.{times_given, rows_in, IsSound}

-- how often the ids below a number stand
abbrev standing : ℕ → Rows → ℕ
standing zero rows = 0
standing (suc n) rows = standing n rows + times_given n rows

abbrev ones : ℕ → ℕ → ℕ
ones zero i = 0
ones (suc n) i = ones n i + cond (n == i) 1 0

standing_end : (n : ℕ) → standing n End ≡ 0
standing_end zero = refl
standing_end (suc n) = let h = standing_end n in omega (arith, h)

standing_row : (n id : ℕ) (rows inside next : Rows) → ((i : ℕ) → times_given i rows ≡ cond (i == id) 1 0 + (times_given i inside + times_given i next)) → standing n rows ≡ ones n id + (standing n inside + standing n next)
standing_row zero id rows inside next e = refl
standing_row (suc n) id rows inside next e = let h = standing_row n id rows inside next e in let k = e n in omega (arith, h, k)

other : (n i : ℕ) → suc n ≤ i → cond (n == i) 1 0 ≤ 0
other n i h = grind (arith, nat_tests)

ones_past : (n i : ℕ) → n ≤ i → ones n i ≡ 0
ones_past zero i h = refl
ones_past (suc n) i h = let k = ones_past n i (omega arith) in let e = other n i h in omega (arith, k, e)

ones_in : (n i : ℕ) → i < n → 1 ≤ ones n i
ones_in zero i h = absurd (omega arith)
ones_in (suc n) i h = by (n == i) refl (λ l. ones_in n i l) where
  by : (b : Bool) → (n == i) ≡ b → (i < n → 1 ≤ ones n i) → 1 ≤ ones n i + cond b 1 0
  by true e f = omega arith
  by false e f = let l : i < n = grind (arith, nat_tests) in let k = f l in omega (arith, k)

-- rows whose ids are below a number are counted by these
rows_standing : (n : ℕ) (rows : Rows) → ((i : ℕ) → 1 ≤ times_given i rows → i < n) → rows_in rows ≤ standing n rows
rows_standing n End k = omega arith
rows_standing n (Row id name file inside next) k =
    let self : 1 ≤ times_given id (Row id name file inside next) = grind (arith, nat_tests) in
    let o = ones_in n id (k id self) in
    let e = standing_row n id (Row id name file inside next) inside next (λ i. refl) in
    let a = rows_standing n inside (λ i h. k i (omega (arith, h))) in
    let b = rows_standing n next (λ i h. k i (omega (arith, h))) in
    omega (arith, o, e, a, b)

given_sum : (n next : ℕ) (a b : Rows) → ((i : ℕ) → times_given i a + times_given i b ≤ cond (nat_le 2 i && nat_lt i next) 1 0) → standing n a + standing n b ≤ n - 2
given_sum zero next a b k = omega arith
given_sum (suc n) next a b k = let h = given_sum n next a b k in by (nat_le 2 n) refl (k n) h where
  by : (c : Bool) → nat_le 2 n ≡ c → times_given n a + times_given n b ≤ cond (c && nat_lt n next) 1 0 → standing n a + standing n b ≤ n - 2 → standing n a + times_given n a + (standing n b + times_given n b) ≤ suc n - 2
  by true e g h = let l : 2 ≤ n = grind (arith, nat_tests) in let o : times_given n a + times_given n b ≤ 1 = one (nat_lt n next) g in omega (arith, l, o, h) where
    one : (c : Bool) → times_given n a + times_given n b ≤ cond c 1 0 → times_given n a + times_given n b ≤ 1
    one true g = g
    one false g = omega arith
  by false e g h = omega (arith, g, h)

given_low : (i next n : ℕ) → 1 ≤ n → n ≤ cond (nat_le 2 i && nat_lt i next) 1 0 → i < next
given_low i next n l h = grind (arith, nat_tests)

-- no more rows stand than ids were given
pub few_rows : (t : Table) → IsSound t → rows_in t.visible + rows_in t.trash + 2 ≤ t.next
few_rows t s =
    let a = rows_standing t.next t.visible (λ i h. given_low i t.next (times_given i t.visible + times_given i t.trash) (omega (arith, h)) (s.once i)) in
    let b = rows_standing t.next t.trash (λ i h. given_low i t.next (times_given i t.visible + times_given i t.trash) (omega (arith, h)) (s.once i)) in
    let c = given_sum t.next t.next t.visible t.trash s.once in
    let f = s.first in
    omega (arith, a, b, c, f)
