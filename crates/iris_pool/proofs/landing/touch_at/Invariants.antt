use Rattle.std.proofs.Common.{◌≡◌}
use Rattle.iris_pool.specs.Filing.{is_touched_there, names_at}
use Rattle.iris_pool.proofs.FiledNames.{TouchesTo}
use Rattle.iris_pool.proofs.landing.touch_at.Given as goal

-- the first names are touched, and the names at the desk stay
abbrev pub invariant-loop-i : goal.invariant-loop-i
invariant-loop-i l = record {
  files : TouchesTo (is_touched_there l.cache l.blocks) (names_at l.initial.desks l.who) l.i l.initial.desks l.desks;
  names : names_at l.desks l.who ≡ names_at l.initial.desks l.who;
}
