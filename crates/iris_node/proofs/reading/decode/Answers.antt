use Rattle.std.proofs.Common.{arith}
use Rattle.iris_node.proofs.Records.{is_found, is_read}
use Rattle.iris_node.proofs.reading.decode.Goals as goal

pub returns-clause-found : goal.returns-clause-found
returns-clause-found c = is_found c.args.bytes.now c.node_of.result (λ i. omega (arith, c.type_inv.bytes i)) c.node_of.ensures

pub returns-clause-only : goal.returns-clause-only
returns-clause-only c = λ n h e. is_read c.args.bytes.now c.node_of.result n c.node_of.ensures h e
