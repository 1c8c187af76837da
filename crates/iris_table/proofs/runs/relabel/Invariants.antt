use Rattle.std.proofs.Common.{◌≡◌, ◌++◌, take, drop, map}
use Rattle.iris_table.specs.Stops.{relabelled}
use Rattle.iris_table.proofs.runs.relabel.Given as goal

abbrev pub invariant-loop-k : goal.invariant-loop-k
invariant-loop-k l = l.run ≡ map (relabelled l.from l.to) (take l.k l.fn.run) ++ drop l.k l.fn.run
