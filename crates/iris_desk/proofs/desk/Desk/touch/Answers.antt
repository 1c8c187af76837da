use Rattle.std.proofs.Common.{◌≡◌, ◌++◌, ap, sym, ◌∙◌, subst, arith, List, length, map, take, drop}
use Rattle.std.proofs.lemmas.List.{length-map}
use Rattle.iris_desk.specs.declared.out.Out.{Out}
use Rattle.iris_desk.specs.Outs.{touched_where}
use Rattle.iris_desk.specs.AtDesk.{DeskState, IsDeskSound}
use Rattle.iris_desk.proofs.OneDesk.{touched_desk_sound, front}
use Rattle.iris_desk.proofs.desk.Desk.touch.Goals as goal

pub invariant_of-self : goal.invariant_of-self
invariant_of-self c =
    let n = c.args.name.now in
    let d : DeskState = record { request = c.self.inside.request; out = c.self.inside.outs.items; kept = c.self.inside.kept.keys } in
    let xs = c.touch_all.new.outs in
    let t : xs ≡ map (touched_where n) d.out = c.touch_all.ensures ∙ ap (map (touched_where n)) c.as_mut_slice.ensures.value in
    let len : length xs ≡ c.self.inside.outs.len = ap length c.touch_all.ensures ∙ (length-map c.as_mut_slice.result.now (touched_where n) ∙ c.as_mut_slice.ensures.len) in
    let is : take c.self.inside.outs.len (xs ++ drop (length xs) d.out) ≡ map (touched_where n) d.out = front xs (drop (length xs) d.out) c.self.inside.outs.len len ∙ t in
    record {
      sound = subst (λ (l : List Out). IsDeskSound (record { request = d.request; out = l; kept = d.kept })) (sym is) (touched_desk_sound n d c.self.invariant.sound);
      room = let k = c.self.invariant.room in let a = ap length is in let b = length-map d.out (touched_where n) in omega (arith, k, a, b);
    }
