use Rattle.std.proofs.Common.{ap, sym, ◌∙◌}
use Rattle.iris_desk.specs.AtDesk.{entered_desk}
use Rattle.iris_desk.specs.AtDesks.{DesksState, asked_by}
use Rattle.iris_desk.proofs.Keeping.{asked_look, seat, written_sound, written_changes, entered_was}
use Rattle.iris_desk.proofs.desks.Desks.enter.Goals as goal

pub invariant_of-self : goal.invariant_of-self
invariant_of-self c =
    let d : DesksState = record { desks = c.self.inside.desks.items; doomed = c.self.inside.doomed.keys; room = c.self.inside.room } in
    record { sound = written_sound d d c.args.who c.index_mut-desk.result.now c.enter.new.self entered_desk c.self.invariant.sound c.requires c.index_mut-desk.ensures.value c.enter.ensures.entered c.enter.ensures.sound (entered_was d); room = c.self.invariant.room; counted = c.self.invariant.counted }

pub returns-clause-answer : goal.returns-clause-answer
returns-clause-answer c =
    let d : DesksState = record { desks = c.self.inside.desks.items; doomed = c.self.inside.doomed.keys; room = c.self.inside.room } in
    c.enter.ensures.request ∙ (sym (ap asked_look (seat d c.args.who c.index_mut-desk.result.now c.self.invariant.sound c.requires c.index_mut-desk.ensures.value)) ∙ ap (λ (v : DesksState). asked_by v c.args.who) c.self.view_is)

pub returns-clause-desks : goal.returns-clause-desks
returns-clause-desks c =
    let d : DesksState = record { desks = c.self.inside.desks.items; doomed = c.self.inside.doomed.keys; room = c.self.inside.room } in
    written_changes d c.args.self.now c.args.who c.index_mut-desk.result.now c.enter.new.self entered_desk c.self.invariant.sound c.requires c.index_mut-desk.ensures.value c.enter.ensures.entered c.self.view_is
