use Rattle.std.proofs.Common.{◌≡◌, ℕ, ◌<◌, ◌≤◌, arith, length, get_or, refl, ap, sym, ◌∙◌, subst, Some, None, List, below_more}
use Rattle.std.specs.Prelude.{slice_get, All}
use Rattle.std.proofs.lemmas.Option.{slice_get_read}
use Rattle.std.proofs.lemmas.List.Elements.{All-get_or}
use Rattle.iris_desk.specs.AtDesk.{DeskState, IsDeskSound}
use Rattle.iris_desk.specs.AtDesks.{DesksState, out_for, out_of}
use Rattle.iris_desk.proofs.OneDesk.{found_fits}
use Rattle.iris_desk.proofs.OutOf.{for_found, for_none}
use Rattle.iris_desk.proofs.Keeping.{out_look, none_below}
use Rattle.iris_desk.proofs.desks.Desks.found.Goals as goal

pub returns-in-Some-clause-answer : goal.returns-in-Some-clause-answer
returns-in-Some-clause-answer c =
    let d : DesksState = record { desks = c.self.inside.desks.items; doomed = c.self.inside.doomed.keys; room = c.self.inside.room } in
    let n = c.args.name.now in
    let who = c.loop-who.who in
    let x = c.desk-item.result in
    let value = c.deref-desk-items.ensures.value in
    let lt : who < length d.desks = let t = c.loop-who-test.true in let l = ap length value in omega (arith, t, l) in
    let at : slice_get d.desks who ≡ Some x = slice_get_read d.desks (length d.desks) who x refl lt (c.desk-item.is ∙ ap (λ (l : List DeskState). get_or l who x) value) in
    sym (ap (λ (v : DesksState). out_of v n) (sym c.self.view_is) ∙ for_found d n who c.in-Some.out.now c.self.invariant.sound.apart (ap (out_look n) at ∙ sym c.in-Some.ensures))

pub returns-in-Some-clause-caller : goal.returns-in-Some-clause-caller
returns-in-Some-clause-caller c = let t = c.loop-who-test.true in let l = ap length c.deref-desk-items.ensures.value in let s = c.self.invariant.sound.seats in omega (arith, t, l, s)

pub returns-in-Some-clause-fits : goal.returns-in-Some-clause-fits
returns-in-Some-clause-fits c =
    let desks = c.deref-desk-items.result.now in
    let x = c.desk-item.result in
    let all : All IsDeskSound desks = subst (All IsDeskSound) (sym c.deref-desk-items.ensures.value) c.self.invariant.sound.each in
    let sound : IsDeskSound x = subst IsDeskSound (sym c.desk-item.is) (All-get_or IsDeskSound desks c.loop-who.who x c.loop-who-test.true all) in
    found_fits c.args.name.now c.in-Some.out.now x.out sound.fits (sym c.in-Some.ensures)

pub loop-who-preserved : goal.loop-who-preserved
loop-who-preserved c =
    let d : DesksState = record { desks = c.self.inside.desks.items; doomed = c.self.inside.doomed.keys; room = c.self.inside.room } in
    let n = c.args.name.now in
    let who = c.loop-who.who in
    let x = c.desk-item.result in
    let value = c.deref-desk-items.ensures.value in
    let lt : who < length d.desks = let t = c.loop-who-test.true in let l = ap length value in omega (arith, t, l) in
    let at : slice_get d.desks who ≡ Some x = slice_get_read d.desks (length d.desks) who x refl lt (c.desk-item.is ∙ ap (λ (l : List DeskState). get_or l who x) value) in
    below_more (λ k. out_for c.args.self.now k n ≡ None) who c.loop-who.invariant
    (sym (ap (λ (v : DesksState). out_for v who n) c.self.view_is) ∙ (ap (out_look n) at ∙ sym c.in_default.ensures))

pub returns-clause-answer : goal.returns-clause-answer
returns-clause-answer c =
    let d : DesksState = record { desks = c.self.inside.desks.items; doomed = c.self.inside.doomed.keys; room = c.self.inside.room } in
    let n = c.args.name.now in
    let who = c.loop-who.who in
    let le : length d.desks ≤ who = let t = c.loop-who-test.false in let l = ap length c.deref-desk-items.ensures.value in omega (arith, t, l) in
    let below : (k : ℕ) → k < who → out_for d k n ≡ None = λ k lt. ap (λ (v : DesksState). out_for v k n) c.self.view_is ∙ c.loop-who.invariant k lt in
    sym (ap (λ (v : DesksState). out_of v n) (sym c.self.view_is) ∙ for_none d n (none_below d who n le below))
