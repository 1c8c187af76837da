use Rattle.std.proofs.Common.{◌≡◌, ℕ, length, get_or, None}
use Rattle.iris.proofs.places.absent.Given as goal

abbrev pub invariant-loop-i : goal.invariant-loop-i
invariant-loop-i l = record {
  len : length l.pages.items ≡ l.i;
  same : (p : ℕ) → get_or l.pages.items p None ≡ None;
}
