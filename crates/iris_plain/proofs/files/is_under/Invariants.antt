use Rattle.std.proofs.Common.{◌≡◌, ◌≤◌, drop, length}
use Rattle.iris_plain.specs.Routes.{is_at_or_under}
use Rattle.iris_plain.proofs.files.is_under.Given as goal

abbrev pub invariant-loop-i : goal.invariant-loop-i
invariant-loop-i l = (length l.above ≤ length l.path) × (is_at_or_under l.above l.path ≡ is_at_or_under (drop l.i l.above) (drop l.i l.path))
