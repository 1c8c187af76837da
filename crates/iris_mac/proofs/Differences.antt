-- Differences of bytes, folded into one.
use Rattle.std.proofs.Common.{◌≡◌, ℕ, ◌+◌, ◌<◌, List, get_or, bit_or, bit_xor, arith, below_more}
use Rattle.std.proofs.lemmas.Nat.{le_or_l, le_or_r, and_le_l, and_le_r}
use Rattle.std.specs.Int.Bits.{xor_add_and, xor_self, or_zero_r}

-- two lists are the same below an index
abbrev pub AreSameBelow : List ℕ → List ℕ → ℕ → Type 0
AreSameBelow xs ys n = (k : ℕ) → k < n → get_or xs k 0 ≡ get_or ys k 0

nothing_before : (seen d : ℕ) → bit_or seen d ≡ 0 → seen ≡ 0
nothing_before seen d none = omega (arith, le_or_l seen d)

nothing_here : (seen a b : ℕ) → bit_or seen (bit_xor a b) ≡ 0 → b ≡ a
nothing_here seen a b none =
    omega (arith, le_or_r seen (bit_xor a b), xor_add_and a b, and_le_l a b, and_le_r a b)

-- where nothing differs once a pair is folded in, the lists are the same below the next index
pub same_below_more : (xs ys : List ℕ) (seen i : ℕ) → (seen ≡ 0 → AreSameBelow xs ys i)
    → bit_or seen (bit_xor (get_or ys i 0) (get_or xs i 0)) ≡ 0 → AreSameBelow xs ys (i + 1)
same_below_more xs ys seen i before none =
    below_more _ _
    (before (nothing_before seen _ none))
    (nothing_here seen (get_or ys i 0) (get_or xs i 0) none)

-- where two bytes are the same, folding them in leaves nothing as it is
pub nothing_more : (seen a b : ℕ) → seen ≡ 0 → b ≡ a → bit_or seen (bit_xor a b) ≡ 0
nothing_more seen a b none same = rw (none, same, xor_self) (or_zero_r 0)
