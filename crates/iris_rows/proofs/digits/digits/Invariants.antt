use Rattle.std.proofs.Common.{◌≡◌, ◌++◌, ◌-◌, ◌<◌, ◌≤◌, ℕ, drop, length, get_or}
use Rattle.iris_rows.specs.Changes.{hex_digits}
use Rattle.iris_rows.proofs.digits.digits.Given as goal

abbrev pub invariant-loop-k : goal.invariant-loop-k
invariant-loop-k l = (hex_digits 16 l.number ≡ hex_digits (16 - l.k) l.left ++ drop (16 - l.k) l.digits) × (length l.digits ≡ 16) × ((j : ℕ) → 16 - l.k ≤ j → j < 16 → get_or l.digits j 0 < 128)
