use Rattle.std.proofs.Common.{◌≡◌, ap, sym, ◌∙◌, None}
use Rattle.iris_desk.specs.AtDesk.{begun_desk}
use Rattle.iris_desk.specs.AtDesks.{DesksState, out_of}
use Rattle.iris_desk.proofs.OutOf.{none_for}
use Rattle.iris_desk.proofs.Keeping.{out_look, seat, written_sound, written_changes, begun_was}
use Rattle.iris_desk.proofs.desks.Desks.begin.Goals as goal

pub begin-requires-clause-free : goal.begin-requires-clause-free
begin-requires-clause-free c =
    let d : DesksState = record { desks = c.self.inside.desks.items; doomed = c.self.inside.doomed.keys; room = c.self.inside.room } in
    let free : out_of d c.args.out.name ≡ None = ap (λ (v : DesksState). out_of v c.args.out.name) c.self.view_is ∙ c.requires.free in
    sym (ap (out_look c.args.out.name) (seat d c.args.who c.index_mut-desk.result.now c.self.invariant.sound c.requires.caller c.index_mut-desk.ensures.value)) ∙ none_for d c.args.out.name c.self.invariant.sound.apart free c.args.who

pub invariant_of-self-2 : goal.invariant_of-self-2
invariant_of-self-2 c =
    let d : DesksState = record { desks = c.self.inside.desks.items; doomed = c.self.inside.doomed.keys; room = c.self.inside.room } in
    let free : out_of d c.args.out.name ≡ None = ap (λ (v : DesksState). out_of v c.args.out.name) c.self.view_is ∙ c.requires.free in
    let is = c.in_ok-begin.ensures in
    record { sound = written_sound d d c.args.who c.index_mut-desk.result.now c.begin.new.self (begun_desk c.args.out) c.self.invariant.sound c.requires.caller c.index_mut-desk.ensures.value is.begun is.sound (begun_was d c.args.out c.self.invariant.sound.apart free); room = c.self.invariant.room; counted = c.self.invariant.counted }

pub returns-clause-desks : goal.returns-clause-desks
returns-clause-desks c =
    let d : DesksState = record { desks = c.self.inside.desks.items; doomed = c.self.inside.doomed.keys; room = c.self.inside.room } in
    written_changes d c.args.self.now c.args.who c.index_mut-desk.result.now c.begin.new.self (begun_desk c.args.out) c.self.invariant.sound c.requires.caller c.index_mut-desk.ensures.value c.in_ok-begin.ensures.begun c.self.view_is
