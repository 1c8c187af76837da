use Rattle.std.proofs.Common.{◌≡◌, replicate}
use Rattle.iris_desk.specs.AtDesk.{empty_desk}
use Rattle.iris_desk.proofs.desks.empty_desks.Given as goal

-- each that is made is empty
abbrev pub invariant-loop-made : goal.invariant-loop-made
invariant-loop-made l = l.desks.items ≡ replicate l.made empty_desk
