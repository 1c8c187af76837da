use Rattle.std.proofs.Common.{◌∙◌, [], ◌∷◌, IfSome, refl, sym, ap, subst}
use Rattle.iris_name.specs.declared.note.Note.TheVariants.{Call}
use Rattle.iris_name.specs.Told.{appended}
use Rattle.iris_history.specs.Values.{AreBytes}
use Rattle.iris_name.specs.declared.request.Reply.TheVariants.{Bytes}
use Rattle.iris.specs.Lines.{read_of}
use Rattle.iris.proofs.Results.{on_err}
use Rattle.iris.proofs.Sessions.{ready_judged, had_ready}
use Rattle.iris.proofs.Stretches.{read_serves, stops_none}
use Rattle.iris.proofs.session.read_place.Goals as goal

pub returns-in_err-ready-clause-stops : goal.returns-in_err-ready-clause-stops
returns-in_err-ready-clause-stops g c =
    on_err _ (stops_none c.args.keys.now.block (read_of c.args.place ∷ []) (g.G.Log.notes c.args.log.now) _ _ _ c.ready.ensures.notes refl (ready_judged c.args.keys.now.block c.args.session.now _ c.requires.ready))

pub returns-in_err-request-clause-stops : goal.returns-in_err-request-clause-stops
returns-in_err-request-clause-stops g c =
    on_err _ (stops_none c.args.keys.now.block (read_of c.args.place ∷ []) (g.G.Log.notes c.args.log.now) _ _ _ c.in_ok-ready.ensures.notes refl (ready_judged c.args.keys.now.block c.args.session.now _ c.requires.ready))

pub returns-in_err-block-clause-stops : goal.returns-in_err-block-clause-stops
returns-in_err-block-clause-stops g c =
    on_err _ (stops_none c.args.keys.now.block (read_of c.args.place ∷ []) (g.G.Log.notes c.args.log.now) _ _ _ c.in_ok-ready.ensures.notes refl (ready_judged c.args.keys.now.block c.args.session.now _ c.requires.ready))

pub returns-in_err-enter-clause-stops : goal.returns-in_err-enter-clause-stops
returns-in_err-enter-clause-stops g c =
    on_err _ (stops_none c.args.keys.now.block (read_of c.args.place ∷ []) (g.G.Log.notes c.args.log.now) _ _ _ (c.in_err-enter.ensures.err ∙ c.in_ok-ready.ensures.notes) refl (ready_judged c.args.keys.now.block c.args.session.now _ c.requires.ready))

pub returns-clause-ready : goal.returns-clause-ready
returns-clause-ready g c =
    had_ready c.args.keys.now.block c.args.session.now c.enter.new.self (g.G.Log.notes c.args.log.now) (g.G.Log.notes c.ready.new.self) (g.G.Log.notes c.enter.new.log) c.args.place c.in-Some.block c.in_ok-request.request
    c.requires.ready c.in_ok-ready.ensures.notes c.in_ok-enter.ensures.notes c.in_ok-request.ensures c.requires.place
    c.in_ok-enter.ensures.places c.in_ok-enter.ensures.noted (subst (λ o. IfSome o AreBytes) c.in-Some.is c.in_ok-block.ensures.bytes)
    (sym c.in-Some.is ∙ c.in_ok-block.ensures.found)

pub returns-clause-serves : goal.returns-clause-serves
returns-clause-serves g c =
    read_serves (g.G.Log.notes c.args.log.now) (g.G.Log.notes c.enter.new.log) _ _ c.args.session.now.replies c.enter.new.self.replies (read_of c.args.place) c.in_ok-request.request (Bytes c.in-Some.block)
    (c.in_ok-enter.ensures.notes ∙ ap (λ o. appended o (Call 1 c.in_ok-request.request (Bytes c.in-Some.block))) c.in_ok-ready.ensures.notes) c.in_ok-request.ensures c.in_ok-enter.ensures.replies
