use Rattle.std.proofs.Common.{◌≡◌, ap, sym, ◌∙◌, arith, length, filter, Some, None, ◌<◌}
use Rattle.std.specs.Prelude.{position}
use Rattle.std.proofs.lemmas.List.Edits.{length-remove}
use Rattle.iris_name.specs.Names.{same_name}
use Rattle.iris_desk.specs.declared.out.Out.{Out}
use Rattle.iris_desk.specs.Outs.{out_in}
use Rattle.iris_desk.specs.AtDesk.{DeskState, ended_desk}
use Rattle.iris_desk.proofs.OutLists.{other, removed_at}
use Rattle.iris_desk.proofs.OneDesk.{found_at, found_nowhere, ended_sound, ended_view}
use Rattle.iris_desk.proofs.desk.Desk.end.Goals as goal

pub returns-in_err-place-clause-answer : goal.returns-in_err-place-clause-answer
returns-in_err-place-clause-answer c =
    let n = c.args.name.now in
    let at : position (λ (o : Out). same_name n o.name) c.self.inside.outs.items ≡ None = ap (position (λ (o : Out). same_name n o.name)) (sym c.as_slice.ensures.value) ∙ (sym c.place_of.ensures ∙ c.in_err-place.was) in
    c.from_residual.ensures ∙ sym (sym (ap (λ (v : DeskState). out_in v.out n) c.self.view_is) ∙ found_nowhere (λ o. same_name n o.name) c.self.inside.outs.items at)

-- what is taken off is the one that is out for the name, and the others are left
taken : (c : goal.After-keep_if) → (c.in_ok-place.place < length c.self.inside.outs.items)
    × (out_in c.self.inside.outs.items c.args.name.now ≡ Some c.remove-out.result)
    × (c.remove-out.new.self.items ≡ filter (other c.args.name.now) c.self.inside.outs.items)
taken c =
    let n = c.args.name.now in
    let xs = c.self.inside.outs.items in
    let at : position (λ (o : Out). same_name n o.name) xs ≡ Some c.in_ok-place.place = ap (position (λ (o : Out). same_name n o.name)) (sym c.as_slice.ensures.value) ∙ (sym c.place_of.ensures ∙ c.in_ok-place.was) in
    let f = found_at (λ (o : Out). same_name n o.name) xs c.in_ok-place.place c.remove-out.result at in
    (f.0, f.2 ∙ ap Some (sym c.remove-out.ensures.value), c.remove-out.ensures.items ∙ removed_at n xs c.in_ok-place.place c.remove-out.result c.self.invariant.sound.once f.0 f.1)

pub returns-clause-answer : goal.returns-clause-answer
returns-clause-answer c = sym (taken c).1 ∙ ap (λ (v : DeskState). out_in v.out c.args.name.now) c.self.view_is

pub invariant_of-self : goal.invariant_of-self
invariant_of-self c =
    let d : DeskState = record { request = c.self.inside.request; out = c.self.inside.outs.items; kept = c.self.inside.kept.keys } in
    record {
      sound = ended_sound d c.args.name.now c.remove-out.new.self.items c.keep_if.new.kept.keys c.self.invariant.sound (taken c).2 (c.keep_if.ensures.once c.self.invariant.sound.kept);
      room =
          let t = (taken c).0 in
          let l = ap length c.remove-out.ensures.items in
          let r = length-remove c.self.inside.outs.items c.in_ok-place.place t in
          let k = c.self.invariant.room in
          let s = c.keep_if.ensures.room in
          omega (arith, l, r, k, s);
    }

pub returns-clause-sound : goal.returns-clause-sound
returns-clause-sound c =
    let d : DeskState = record { request = c.self.inside.request; out = c.self.inside.outs.items; kept = c.self.inside.kept.keys } in
    ended_sound d c.args.name.now c.remove-out.new.self.items c.keep_if.new.kept.keys c.self.invariant.sound (taken c).2 (c.keep_if.ensures.once c.self.invariant.sound.kept)

pub returns-clause-ended : goal.returns-clause-ended
returns-clause-ended c =
    let d : DeskState = record { request = c.self.inside.request; out = c.self.inside.outs.items; kept = c.self.inside.kept.keys } in
    ended_view d c.args.keep c.args.name.now c.remove-out.new.self.items c.keep_if.new.kept.keys (taken c).2 c.keep_if.ensures.names ∙ ap (ended_desk c.args.keep c.args.name.now) c.self.view_is
