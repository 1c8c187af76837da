use Rattle.std.proofs.Common.{◌≡◌, ◌++◌, map, take, drop}
use Rattle.iris_desk.specs.AtDesk.{touched_desk}
use Rattle.iris_desk.proofs.desks.touch_at_each.Given as goal

-- the desks before the index are touched
abbrev pub invariant-loop-desk : goal.invariant-loop-desk
invariant-loop-desk l = l.desks ≡ map (touched_desk l.name) (take l.desk-index l.initial.desks) ++ drop l.desk-index l.initial.desks
