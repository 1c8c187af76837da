-- Small facts of ids, of looking in one place and then in another, and of where resolving ends.
use Rattle.std.proofs.Common.{◌≡◌, ℕ, ◌≤◌, ◌<◌, Bool, true, false, ◌&&◌, cond, Option, None, refl, ◌∙◌, ap, arith}
use Rattle.std.specs.Prelude.{◌==◌, nat_le, nat_lt}
use Rattle.std.proofs.lemmas.Bool.Decides.{nat_tests}
use Rattle.iris_node.specs.Unfolded.{Unfolded}
use Rattle.iris_shape.specs.Local.{either}
use Rattle.iris_rows.specs.Rows.{Taken, Here, Missing, Through}
use Rattle.iris_records.proofs.PartRecords.{either_none}

pub one_of : (i id : ℕ) → i ≡ id → 1 ≤ cond (i == id) 1 0
one_of i id e = grind (arith, nat_tests)

pub other_id : (i id : ℕ) → cond (i == id) 1 0 ≤ 0 → (i == id) ≡ false
other_id i id e = by (i == id) e where
  by : (b : Bool) → cond b 1 0 ≤ 0 → b ≡ false
  by true e = absurd (omega (arith, e))
  by false e = refl

pub turned : (i id : ℕ) → (i == id) ≡ false → (id == i) ≡ false
turned i id e = grind (arith, nat_tests)

pub smaller_id : (a b : ℕ) → a < 2 → 2 ≤ b → (a == b) ≡ false
smaller_id a b l h = grind (arith, nat_tests)

-- what stands as often as an id was given stands once at most, and the id is 2 at least
pub at_most : (a : ℕ) (b : Bool) → a ≤ cond b 1 0 → a ≤ 1
at_most a true h = h
at_most a false h = omega (arith, h)

pub given : (i next n : ℕ) → 1 ≤ n → n ≤ cond (nat_le 2 i && nat_lt i next) 1 0 → 2 ≤ i
given i next n l h = by (nat_le 2 i) refl (nat_lt i next) h where
  by : (a : Bool) → nat_le 2 i ≡ a → (b : Bool) → n ≤ cond (a && b) 1 0 → 2 ≤ i
  by true e b h = grind (arith, nat_tests)
  by false e b h = absurd (omega (arith, l, h))

pub either_first : (a b : Option Unfolded) → a ≡ None → either a b ≡ b
either_first a b e = ap (λ z. either z b) e

pub either_last : (a b : Option Unfolded) → b ≡ None → either a b ≡ a
either_last a b e = ap (either a) e ∙ either_none a

pub either_both : (a b : Option Unfolded) → a ≡ None → b ≡ None → either a b ≡ None
either_both a b e f = either_first a b e ∙ f

pub taken_eq : (a b : Taken) → Here a ≡ Here b → a ≡ b
taken_eq a b e = cc

pub missing_here : (a : Taken) → Missing ≡ Here a → ⊥
missing_here a e = cc

pub through_here : (a : Taken) → Through ≡ Here a → ⊥
through_here a e = cc
