use Rattle.iris_records.specs.Unmade.{unmade_treap}
use Rattle.iris_records.specs.Walks.{nodes}
use Rattle.iris_records.proofs.entries.+link_of.Given as goal

abbrev pub decreases-link_of : goal.decreases-link_of
decreases-link_of l = nodes (unmade_treap l.shape.now)
