use Rattle.iris_standing.proofs.LeavingNames.{nodes_leave, pages_leave}
use Rattle.iris_standing.proofs.quiet.names_leave.Goals as goal

pub returns-clause-nodes : goal.returns-clause-nodes
returns-clause-nodes c = nodes_leave

pub returns-clause-pages : goal.returns-clause-pages
returns-clause-pages c = pages_leave
