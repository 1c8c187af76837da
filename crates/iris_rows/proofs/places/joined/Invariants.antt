use Rattle.std.proofs.Common.{◌≡◌}
use Rattle.iris_rows.specs.View.{joined}
use Rattle.iris_rows.specs.Places.{block_at}
use Rattle.iris_rows.proofs.places.joined.Given as goal

abbrev pub invariant-loop-k : goal.invariant-loop-k
invariant-loop-k l = l.bytes.items ≡ joined (block_at l.places) l.first l.k
