use Rattle.std.proofs.Common.{◌≡◌, ◌++◌, map, take, drop}
use Rattle.iris_desk.specs.Outs.{touched_where}
use Rattle.iris_desk.proofs.desk.touch_all.Given as goal

-- those before the index are touched where they are out for the name
abbrev pub invariant-loop-out : goal.invariant-loop-out
invariant-loop-out l = l.outs ≡ map (touched_where l.name) (take l.out-index l.initial.outs) ++ drop l.out-index l.initial.outs
