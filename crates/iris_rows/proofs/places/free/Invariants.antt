use Rattle.iris_rows.proofs.KeptPlaces.{IsFreed}
use Rattle.iris_rows.proofs.places.free.Given as goal

abbrev pub invariant-loop-place : goal.invariant-loop-place
invariant-loop-place l = IsFreed l.initial.places l.freed l.place l.places
