use Rattle.std.proofs.Common.{ap, ◌∙◌, arith, length, length-append, ◌∷◌, []}
use Rattle.iris_desk.specs.Outs.{out_in}
use Rattle.iris_desk.specs.AtDesk.{DeskState}
use Rattle.iris_desk.proofs.OneDesk.{begun_sound}
use Rattle.iris_desk.proofs.desk.Desk.begin.Goals as goal

pub invariant_of-self-2 : goal.invariant_of-self-2
invariant_of-self-2 c =
    let d : DeskState = record { request = c.self.inside.request; out = c.self.inside.outs.items; kept = c.self.inside.kept.keys } in
    record {
      sound = begun_sound d c.args.out c.push.new.self.items c.reserve.new.self.keys c.self.invariant.sound (ap (λ (v : DeskState). out_in v.out c.args.out.name) c.self.view_is ∙ c.requires.free) c.requires.fits c.in_ok-push.ensures.items c.in_ok-reserve.ensures.keys;
      room = let l = c.len.ensures in let k = c.in_ok-reserve.ensures.ok in let m = ap length c.in_ok-push.ensures.items in let a = length-append d.out (c.args.out ∷ []) in omega (arith, l, k, m, a);
    }

pub returns-clause-sound : goal.returns-clause-sound
returns-clause-sound c =
    let d : DeskState = record { request = c.self.inside.request; out = c.self.inside.outs.items; kept = c.self.inside.kept.keys } in
    begun_sound d c.args.out c.push.new.self.items c.reserve.new.self.keys c.self.invariant.sound (ap (λ (v : DeskState). out_in v.out c.args.out.name) c.self.view_is ∙ c.requires.free) c.requires.fits c.in_ok-push.ensures.items c.in_ok-reserve.ensures.keys
