use Rattle.std.proofs.Common.{ap, arith, ◌∙◌}
use Rattle.std.specs.List.{count_by}
use Rattle.iris_history.specs.Kept.{is_block}
use Rattle.iris_desk.specs.AtDesks.{DesksState}
use Rattle.iris_desk.proofs.DoomedCounts.{undoomed_left, undoomed_there}
use Rattle.iris_desk.proofs.Keeping.{doomed_sound}
use Rattle.iris_desk.proofs.desks.Desks.undoom.Goals as goal

pub without_undoomed-self-inside-requires : goal.without_undoomed-self-inside-requires
without_undoomed-self-inside-requires c = undoomed_there c.args.name.now c.self.inside.doomed.keys c.self.inside.doomed_blocks c.swap_remove-gone.result c.self.invariant.counted c.swap_remove-gone.ensures.found

pub invariant_of-self : goal.invariant_of-self
invariant_of-self c =
    let d : DesksState = record { desks = c.self.inside.desks.items; doomed = c.self.inside.doomed.keys; room = c.self.inside.room } in
    let gone = c.swap_remove-gone.ensures in
    record {
      sound = doomed_sound d c.swap_remove-gone.new.self.keys c.self.inside.room c.self.invariant.sound gone.unique;
      room = let r = gone.room.0 in let k = c.self.invariant.room in omega (arith, r, k);
      counted = ap (count_by is_block) gone.keys
          ∙ undoomed_left c.args.name.now c.self.inside.doomed.keys c.self.inside.doomed_blocks c.swap_remove-gone.result c.self.invariant.counted gone.found c.without_undoomed-self-inside.result c.without_undoomed-self-inside.ensures;
    }
