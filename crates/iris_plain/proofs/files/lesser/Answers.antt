use Rattle.std.proofs.Common.{◌≡◌, sym, subst, List, ℕ, Bool, MatchOption, Option, Some, None, Bor}
use Rattle.iris_plain.specs.Pages.{NoneLater, IsNext}
use Rattle.iris_plain.proofs.PageLaws.{better_none, better_some}
use Rattle.iris_plain.proofs.files.lesser.Goals as goal
use Rattle.iris_plain.proofs.files.lesser.Goals.{in_default-via-in-Some+else-not-is_before-2, in_default-via-in_default}

some_best : (o : Option (Bor (List ℕ))) (b : Bor (List ℕ)) (there : List ℕ → Bool) (after : List ℕ) → o ≡ Some b → MatchOption o (NoneLater there after) (λ b. IsNext there after b.now) → IsNext there after b.now
some_best o b there after e h = let P : Option (Bor (List ℕ)) → Type 0 = λ o. MatchOption o (NoneLater there after) (λ b. IsNext there after b.now) in subst P e h

none_best : (o : Option (Bor (List ℕ))) (there : List ℕ → Bool) (after : List ℕ) → o ≡ None → MatchOption o (NoneLater there after) (λ b. IsNext there after b.now) → NoneLater there after
none_best o there after e h = let P : Option (Bor (List ℕ)) → Type 0 = λ o. MatchOption o (NoneLater there after) (λ b. IsNext there after b.now) in subst P e h

pub returns-in_default : goal.returns-in_default
returns-in_default c = λ there h. elim c.in_default.branch [
  | in_default-via-in-Some+else-not-is_before-2 w ↦ better_some there c.args.after.now c.args.name.now w.in-Some.old.now (some_best c.args.best w.in-Some.old there c.args.after.now w.in-Some.is h) (sym c.if-not-is_before.ensures) (sym w.if-not-is_before-2.ensures)
  | in_default-via-in_default w ↦ better_none there c.args.after.now c.args.name.now (none_best c.args.best there c.args.after.now w.in_default.is h) (sym c.if-not-is_before.ensures)
]
