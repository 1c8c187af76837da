use Rattle.iris_standing.proofs.BroughtNodes.{nodes_are_kept}
use Rattle.iris_standing.proofs.BroughtPages.{pages_are_kept}
use Rattle.iris_standing.proofs.transfers.gets_are_kept.Goals as goal

pub returns-clause-nodes : goal.returns-clause-nodes
returns-clause-nodes c = nodes_are_kept

pub returns-clause-pages : goal.returns-clause-pages
returns-clause-pages c = pages_are_kept
