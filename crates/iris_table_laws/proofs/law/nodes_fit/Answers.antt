use Rattle.iris_table_laws.proofs.Grammar as grammar
use Rattle.iris_table_laws.proofs.law.nodes_fit.Goals as goal

pub returns : goal.returns
returns c = grammar.nodes_fit
