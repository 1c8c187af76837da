use Rattle.std.proofs.Common.{◌≡◌, arith, sym, ◌∙◌, ◌≤◌, nat_lt, false, ℕ}
use Rattle.std.proofs.lemmas.Bool.Decides.{nat_tests}
use Rattle.iris_plain.proofs.RouteLaws.{front_under, no_front}
use Rattle.iris_plain.proofs.files.is_below.Goals as goal

lt_false : (a b : ℕ) → b ≤ a → nat_lt a b ≡ false
lt_false a b h = grind (arith, nat_tests)

pub returns-then-above-path : goal.returns-then-above-path
returns-then-above-path c = c.is_under.ensures ∙ front_under c.args.above.now c.args.path.now (omega arith)

pub returns-else-above-path : goal.returns-else-above-path
returns-else-above-path c = lt_false _ _ (omega arith) ∙ sym (no_front c.args.above.now c.args.path.now (omega arith))
