use Rattle.iris_plan_laws.proofs.FetchedNodes as nodes
use Rattle.iris_plan_laws.proofs.laws.fetched_nodes_fit.Goals as goal

pub returns-clause-records : goal.returns-clause-records
returns-clause-records c = nodes.records_fit

pub returns-clause-fetched : goal.returns-clause-fetched
returns-clause-fetched c = nodes.fetches_fit

pub returns-clause-inserted : goal.returns-clause-inserted
returns-clause-inserted c = nodes.fetches_keep
