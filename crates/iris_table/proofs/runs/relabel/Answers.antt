use Rattle.std.proofs.Common.{arith}
use Rattle.iris_table.proofs.ItemsInTurn.{relabel_within, relabel_more}
use Rattle.iris_table.proofs.runs.relabel.Goals as goal

pub overflow_sub-run : goal.overflow_sub-run
overflow_sub-run c = (relabel_within c.args.from c.args.to c.loop-k.k c.args.run.now c.loop-k.run c.index-run-k.result c.requires.depths c.loop-k.invariant (omega arith)).0

pub overflow_add-run : goal.overflow_add-run
overflow_add-run c = omega (arith, (relabel_within c.args.from c.args.to c.loop-k.k c.args.run.now c.loop-k.run c.index-run-k.result c.requires.depths c.loop-k.invariant (omega arith)).1)

pub loop-k-preserved : goal.loop-k-preserved
loop-k-preserved c = relabel_more c.args.from c.args.to c.loop-k.k c.args.run.now c.loop-k.run c.index-run-k.result c.index-run-k-in-loop-k.result c.loop-k.invariant (omega arith) c.index-run-k.is
