use Rattle.std.proofs.Common.{◌≡◌, ◌≢◌, arith, sym, ◌∙◌, nat_eq, false, ℕ}
use Rattle.std.proofs.lemmas.Bool.Decides.{nat_tests}
use Rattle.iris_plain.proofs.RouteLaws.{same_under, differ_under}
use Rattle.iris_plain.proofs.files.is_same.Goals as goal

eq_false : (a b : ℕ) → a ≢ b → nat_eq a b ≡ false
eq_false a b h = grind (arith, nat_tests)

pub returns-then-a-b : goal.returns-then-a-b
returns-then-a-b c = c.is_under.ensures ∙ same_under c.args.a.now c.args.b.now (omega arith)

pub returns-else-a-b : goal.returns-else-a-b
returns-else-a-b c = eq_false _ _ (omega arith) ∙ sym (differ_under c.args.a.now c.args.b.now (omega arith))
