use Rattle.std.specs.Prelude.{vec_len}
use Rattle.iris_rows.proofs.KeptPlaces.{IsPut}
use Rattle.iris_rows.proofs.places.put_pages.Given as goal

abbrev pub invariant-loop-page : goal.invariant-loop-page
invariant-loop-page l = IsPut l.first l.version l.initial.pages.items l.initial.places l.pages.items l.places

abbrev pub decreases-loop-page : goal.decreases-loop-page
decreases-loop-page l = vec_len l.pages
