use Rattle.std.proofs.Common.{arith}
use Rattle.iris_table.specs.Served.{served_table}
use Rattle.iris.proofs.Plains.{served_all}
use Rattle.iris.proofs.plain.serve_calls.Goals as goal

pub returns : goal.returns
returns c = served_all c.args.keys.now.order (served_table c.loop-call.table) c.args.calls.now c.loop-call.call-index c.loop-call.replies.items (omega arith) c.loop-call.invariant.1
