use Rattle.std.proofs.Common.{◌≡◌, replicate}
use Rattle.iris_rows.specs.Places.{hole}
use Rattle.iris_rows.proofs.places.holes.Given as goal

abbrev pub invariant-loop-k : goal.invariant-loop-k
invariant-loop-k l = l.places.items ≡ replicate l.k hole
