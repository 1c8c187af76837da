use Rattle.iris_desk.specs.AtDesk.{asked_desk}
use Rattle.iris_desk.specs.AtDesks.{DesksState}
use Rattle.iris_desk.proofs.Keeping.{written_sound, written_changes, asked_was}
use Rattle.iris_desk.proofs.desks.Desks.ask.Goals as goal

pub invariant_of-self : goal.invariant_of-self
invariant_of-self c =
    let d : DesksState = record { desks = c.self.inside.desks.items; doomed = c.self.inside.doomed.keys; room = c.self.inside.room } in
    record { sound = written_sound d d c.args.who c.index_mut-desk.result.now c.ask.new.self (asked_desk c.args.request) c.self.invariant.sound c.requires c.index_mut-desk.ensures.value c.ask.ensures.asked c.ask.ensures.sound (asked_was d c.args.request); room = c.self.invariant.room; counted = c.self.invariant.counted }

pub returns-clause-desks : goal.returns-clause-desks
returns-clause-desks c =
    let d : DesksState = record { desks = c.self.inside.desks.items; doomed = c.self.inside.doomed.keys; room = c.self.inside.room } in
    written_changes d c.args.self.now c.args.who c.index_mut-desk.result.now c.ask.new.self (asked_desk c.args.request) c.self.invariant.sound c.requires c.index_mut-desk.ensures.value c.ask.ensures.asked c.self.view_is
