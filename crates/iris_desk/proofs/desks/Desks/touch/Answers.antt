use Rattle.std.proofs.Common.{◌≡◌, ◌++◌, ap, sym, ◌∙◌, subst, List, length, map, take, drop}
use Rattle.std.specs.Prelude.{slice_get}
use Rattle.std.specs.Option.{option_map}
use Rattle.std.proofs.lemmas.List.{length-map}
use Rattle.std.proofs.lemmas.Option.{slice_get-map}
use Rattle.iris_desk.specs.AtDesk.{DeskState, touched_desk}
use Rattle.iris_desk.specs.AtDesks.{DesksState, desk_at, AreDesksSound}
use Rattle.iris_desk.proofs.OneDesk.{front}
use Rattle.iris_desk.proofs.Keeping.{touched_sound}
use Rattle.iris_desk.proofs.desks.Desks.touch.Goals as goal

-- the desks after it
each : (c : goal.After-self-1)
    → take c.self.inside.desks.len (c.touch_at_each.new.desks ++ drop (length c.touch_at_each.new.desks) c.self.inside.desks.items) ≡ map (touched_desk c.args.name.now) c.self.inside.desks.items
each c =
    let f = touched_desk c.args.name.now in
    let xs = c.touch_at_each.new.desks in
    let len : length xs ≡ c.self.inside.desks.len = ap length c.touch_at_each.ensures ∙ (length-map c.as_mut_slice.result.now f ∙ c.as_mut_slice.ensures.len) in
    front xs (drop (length xs) c.self.inside.desks.items) c.self.inside.desks.len len ∙ (c.touch_at_each.ensures ∙ ap (map f) c.as_mut_slice.ensures.value)

pub invariant_of-self : goal.invariant_of-self
invariant_of-self c =
    let d : DesksState = record { desks = c.self.inside.desks.items; doomed = c.self.inside.doomed.keys; room = c.self.inside.room } in
    record { sound = subst (λ (l : List DeskState). AreDesksSound (record d { desks = l })) (sym (each c)) (touched_sound c.args.name.now d c.self.invariant.sound); room = c.self.invariant.room; counted = c.self.invariant.counted }

pub returns-clause-desks : goal.returns-clause-desks
returns-clause-desks c = λ w.
    let f = touched_desk c.args.name.now in
    ap (λ (l : List DeskState). slice_get l w) (each c) ∙ (slice_get-map f c.self.inside.desks.items w ∙ ap (λ (v : DesksState). option_map f (desk_at v w)) c.self.view_is)
