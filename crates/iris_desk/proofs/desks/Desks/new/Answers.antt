use Rattle.std.proofs.Common.{List, ap, refl, sym, subst, arith}
use Rattle.std.specs.List.{count_by}
use Rattle.iris_history.specs.Kept.{is_block}
use Rattle.iris_desk.specs.AtDesk.{DeskState}
use Rattle.iris_desk.specs.AtDesks.{AreDesksSound}
use Rattle.iris_desk.proofs.Keeping.{empty_sound}
use Rattle.iris_desk.proofs.desks.Desks.new.Goals as goal

pub invariant_of-result : goal.invariant_of-result
invariant_of-result c = record { sound = subst (λ (l : List DeskState). AreDesksSound (record { desks = l; doomed = c.new.result.keys; room = 0 })) (sym c.in_ok-desks.ensures) (empty_sound 17 c.new.result.keys refl c.new.ensures.unique); room = omega arith; counted = ap (count_by is_block) c.new.ensures.empty }
