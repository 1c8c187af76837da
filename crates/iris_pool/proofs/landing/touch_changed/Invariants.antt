use Rattle.iris_pool.specs.Filing.{is_touched_there}
use Rattle.iris_pool.proofs.FiledNames.{TouchesBelow}
use Rattle.iris_pool.proofs.landing.touch_changed.Given as goal

-- what is out at the first desks is touched
abbrev pub invariant-loop-who : goal.invariant-loop-who
invariant-loop-who l = TouchesBelow (is_touched_there l.cache l.blocks) l.who l.initial.desks l.desks
