use Rattle.std.proofs.Common.{◌≡◌, ℕ, length, get_or}
use Rattle.iris.proofs.places.zeros.Given as goal

abbrev pub invariant-loop-i : goal.invariant-loop-i
invariant-loop-i l = record {
  len : length l.versions.items ≡ l.i;
  same : (p : ℕ) → get_or l.versions.items p 0 ≡ 0;
}
