use Rattle.iris_standing.proofs.BegunChores.{node_puts_begin, page_puts_begin}
use Rattle.iris_standing.proofs.transfers.puts_begin.Goals as goal

pub returns-clause-nodes : goal.returns-clause-nodes
returns-clause-nodes c = node_puts_begin

pub returns-clause-pages : goal.returns-clause-pages
returns-clause-pages c = page_puts_begin
