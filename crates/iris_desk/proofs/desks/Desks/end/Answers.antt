use Rattle.std.proofs.Common.{ap, sym, ◌∙◌}
use Rattle.iris_desk.specs.AtDesks.{DesksState, out_for}
use Rattle.iris_desk.proofs.Keeping.{out_look, seat, ended_sound_at, ended_changes}
use Rattle.iris_desk.proofs.desks.Desks.end.Goals as goal

pub invariant_of-self : goal.invariant_of-self
invariant_of-self c =
    let d : DesksState = record { desks = c.self.inside.desks.items; doomed = c.self.inside.doomed.keys; room = c.self.inside.room } in
    let is = c.end.ensures in
    record { sound = ended_sound_at d d c.args.who c.index_mut-desk.result.now c.end.new.self c.args.keep c.args.name.now c.self.invariant.sound c.requires c.index_mut-desk.ensures.value c.end.result is.ended is.none is.sound; room = c.self.invariant.room; counted = c.self.invariant.counted }

pub returns-clause-answer : goal.returns-clause-answer
returns-clause-answer c =
    let d : DesksState = record { desks = c.self.inside.desks.items; doomed = c.self.inside.doomed.keys; room = c.self.inside.room } in
    c.end.ensures.answer ∙ (sym (ap (out_look c.args.name.now) (seat d c.args.who c.index_mut-desk.result.now c.self.invariant.sound c.requires c.index_mut-desk.ensures.value)) ∙ ap (λ (v : DesksState). out_for v c.args.who c.args.name.now) c.self.view_is)

pub returns-clause-desks : goal.returns-clause-desks
returns-clause-desks c =
    let d : DesksState = record { desks = c.self.inside.desks.items; doomed = c.self.inside.doomed.keys; room = c.self.inside.room } in
    ended_changes d c.args.self.now c.args.who c.index_mut-desk.result.now c.end.new.self c.args.keep c.args.name.now c.self.invariant.sound c.requires c.index_mut-desk.ensures.value c.end.result c.self.view_is c.end.ensures.ended
