-- Pins as bits: what inserting, pinning and unpinning set and clear.
use Rattle.std.proofs.Common.{◌≡◌, ◌≢◌, ◌⊎◌, inl, inr, ◌<◌, ◌≤◌, ◌-◌, ◌*◌, ◌^◌, ◌==◌, ℕ, min, max, true, false, not, cond, sym, ◌∙◌, ap, arith}
use Rattle.std.proofs.lemmas.Bool.Decides.{eqb_tells}
use Rattle.std.proofs.lemmas.Grind.{common_steps}
use Rattle.std.proofs.lemmas.Nat.{pow_pos}
use Rattle.std.proofs.Math.Pow.{pow-lt}
use Rattle.std.proofs.lemmas.Nat.Bits.{and_pow, bit_at_and, bit_at_or, bit_at-pow_same, bit_at-pow_other, bit_at_not, bit_at-lt}
use Rattle.std.specs.Prelude.{bit_and, bit_or}
use Rattle.std.specs.Int.{bit_at, w32}
use Rattle.iris_invariant.specs.Cells.{has_pin}

-- the pin is the bit
pub pin_is : (who pins : ℕ) → has_pin who pins ≡ (bit_at pins who == 1)
pin_is who pins = ap (λ z. not (z == 0)) (and_pow pins who) ∙ by (bit_at pins who) (bit_at-lt pins who) where
  by : (b : ℕ) → b < 2 → not (b * 2 ^ who == 0) ≡ (b == 1)
  by b h = let pos = pow_pos who in grind (arith, common_steps)

pub pinned_own : (who : ℕ) → has_pin who (2 ^ who) ≡ true
pinned_own who = pin_is who (2 ^ who) ∙ ap (λ b. b == 1) (bit_at-pow_same who)

pub pinned_here : (who pins : ℕ) → has_pin who (bit_or pins (2 ^ who)) ≡ true
pinned_here who pins = pin_is who (bit_or pins (2 ^ who)) ∙ ap (λ b. b == 1) (bit_at_or pins (2 ^ who) who ∙ (ap (max (bit_at pins who)) (bit_at-pow_same who) ∙ by (bit_at pins who) (bit_at-lt pins who))) where
  by : (b : ℕ) → b < 2 → max b 1 ≡ 1
  by b h = omega (arith, h)

pub pinned_elsewhere : (who w pins : ℕ) → w ≢ who → has_pin w (bit_or pins (2 ^ who)) ≡ has_pin w pins
pinned_elsewhere who w pins ne = pin_is w (bit_or pins (2 ^ who)) ∙ (ap (λ b. b == 1) (bit_at_or pins (2 ^ who) w ∙ (ap (max (bit_at pins w)) (bit_at-pow_other who w ne) ∙ by (bit_at pins w))) ∙ sym (pin_is w pins)) where
  by : (b : ℕ) → max b 0 ≡ b
  by b = omega arith

none : (b : ℕ) → min b (1 - 1) ≡ 0
none b = omega arith

all : (b : ℕ) → b < 2 → min b (1 - 0) ≡ b
all b h = omega (arith, h)

pub unpinned_is : (who w pins : ℕ) → who ≤ 16 → w ≤ 16 → has_pin w (bit_and pins (2 ^ 32 - 1 - 2 ^ who)) ≡ cond (w == who) false (has_pin w pins)
unpinned_is who w pins lw le = pin_is w (bit_and pins (2 ^ 32 - 1 - 2 ^ who)) ∙ (ap (λ b. b == 1) (bit_at_and pins (2 ^ 32 - 1 - 2 ^ who) w ∙ ap (min (bit_at pins w)) (bit_at_not w32 (2 ^ who) w (pow-lt {i = who} {j = 32} (omega (arith, lw))) (omega (arith, le)))) ∙ by (eqb_tells w who)) where
  by : (((w == who) ≡ true) × (w ≡ who)) ⊎ (((w == who) ≡ false) × (w ≢ who)) → (min (bit_at pins w) (1 - bit_at (2 ^ who) w) == 1) ≡ cond (w == who) false (has_pin w pins)
  by (inl h) = let e : bit_at (2 ^ who) w ≡ 1 = ap (bit_at (2 ^ who)) h.1 ∙ bit_at-pow_same who in
      ap (λ z. min (bit_at pins w) (1 - z) == 1) e ∙ (ap (λ z. z == 1) (none (bit_at pins w)) ∙ sym (ap (λ z. cond z false (has_pin w pins)) h.0))
  by (inr h) = ap (λ z. min (bit_at pins w) (1 - z) == 1) (bit_at-pow_other who w h.1) ∙ (ap (λ z. z == 1) (all (bit_at pins w) (bit_at-lt pins w)) ∙ (sym (pin_is w pins) ∙ sym (ap (λ z. cond z false (has_pin w pins)) h.0)))
