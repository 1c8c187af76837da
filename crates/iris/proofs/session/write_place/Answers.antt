use Rattle.std.proofs.Common.{◌∙◌, ◌+◌, ◌*◌, [], ◌∷◌, codes, None, Some, cond, set, take, refl, sym, ap, subst, arith}
use Rattle.iris_name.specs.declared.note.Note.TheVariants.{Call}
use Rattle.iris_name.specs.declared.request.Request.TheVariants.{Write}
use Rattle.iris_name.specs.declared.request.Reply.TheVariants.{Done}
use Rattle.iris_name.specs.Hmac.{record_of}
use Rattle.iris_name.specs.Told.{appended}
use Rattle.iris_store.specs.declared.Transfer.TheVariants.{Put as PutTo}
use Rattle.iris_history.specs.Values.{AreBytes}
use Rattle.iris.specs.Lines.{write_of}
use Rattle.iris.proofs.Fillings.{bytes_filled}
use Rattle.iris.proofs.Results.{on_err}
use Rattle.iris.proofs.Sessions.{ready_judged, wrote_ready, wrote_judged, called_judged}
use Rattle.iris.proofs.Stretches.{write_serves, put_same, stops_none, stops_called, stops_put}
use Rattle.iris.proofs.session.write_place.Goals as goal

pub returns-in_err-ready-clause-stops : goal.returns-in_err-ready-clause-stops
returns-in_err-ready-clause-stops g c =
    on_err _ (stops_none c.args.keys.now.block (write_of c.args.place c.args.bytes ∷ []) (g.G.Log.notes c.args.log.now) _ _ _ c.ready.ensures.notes refl (ready_judged c.args.keys.now.block c.args.session.now _ c.requires.ready))

pub returns-in_err-block-clause-stops : goal.returns-in_err-block-clause-stops
returns-in_err-block-clause-stops g c =
    on_err _ (stops_none c.args.keys.now.block (write_of c.args.place c.args.bytes ∷ []) (g.G.Log.notes c.args.log.now) _ _ _ c.in_ok-ready.ensures.notes refl (ready_judged c.args.keys.now.block c.args.session.now _ c.requires.ready))

pub returns-in_err-made-clause-stops : goal.returns-in_err-made-clause-stops
returns-in_err-made-clause-stops g c =
    on_err _ (stops_none c.args.keys.now.block (write_of c.args.place c.args.bytes ∷ []) (g.G.Log.notes c.args.log.now) _ _ _ c.in_ok-ready.ensures.notes refl (ready_judged c.args.keys.now.block c.args.session.now _ c.requires.ready))

pub returns-in_err-request-clause-stops : goal.returns-in_err-request-clause-stops
returns-in_err-request-clause-stops g c =
    on_err _ (stops_none c.args.keys.now.block (write_of c.args.place c.args.bytes ∷ []) (g.G.Log.notes c.args.log.now) _ _ _ c.in_ok-ready.ensures.notes refl (ready_judged c.args.keys.now.block c.args.session.now _ c.requires.ready))

pub returns-in_err-enter-clause-stops : goal.returns-in_err-enter-clause-stops
returns-in_err-enter-clause-stops g c =
    on_err _ (stops_none c.args.keys.now.block (write_of c.args.place c.args.bytes ∷ []) (g.G.Log.notes c.args.log.now) _ _ _ (c.in_err-enter.ensures.err ∙ c.in_ok-ready.ensures.notes) refl (ready_judged c.args.keys.now.block c.args.session.now _ c.requires.ready))

pub returns-in_err-ok-clause-stops : goal.returns-in_err-ok-clause-stops
returns-in_err-ok-clause-stops g c =
    on_err _ (stops_called c.args.keys.now.block (g.G.Log.notes c.args.log.now) _ _ _ (write_of c.args.place c.args.bytes) c.in_ok-request.request Done
    (c.in_ok-enter.ensures.notes ∙ ap (λ o. appended o (Call 1 c.in_ok-request.request Done)) c.in_ok-ready.ensures.notes) c.in_err-ok.ensures.err
    (c.in_ok-request.ensures ∙ ap (λ b. Write (codes "/f") (c.args.place * 4096) b) c.in_ok-block.ensures.filled)
    (called_judged c.args.keys.now.block (g.G.Log.notes c.args.log.now) _ c.args.place _ c.in_ok-request.request (ready_judged c.args.keys.now.block c.args.session.now _ c.requires.ready)
    (c.in_ok-enter.ensures.notes ∙ ap (λ o. appended o (Call 1 c.in_ok-request.request Done)) c.in_ok-ready.ensures.notes) c.in_ok-request.ensures
    (subst AreBytes (sym c.in_ok-block.ensures.filled) (bytes_filled c.args.bytes c.requires.bytes))))

pub returns-clause-ready : goal.returns-clause-ready
returns-clause-ready g c =
    wrote_ready c.args.keys.now.block c.args.session.now _ (g.G.Log.notes c.args.log.now) (g.G.Log.notes c.enter.new.log) (g.G.Log.notes c.note.new.self)
    c.args.place c.args.bytes c.in_ok-block.block c.in_ok-made.made.items (c.args.session.now.noted + 1) c.in_ok-ok.ok c.in_ok-kept.field-0 c.in_ok-request.request
    c.requires.ready
    (c.in_ok-enter.ensures.notes ∙ ap (λ o. appended o (Call 1 c.in_ok-request.request Done)) c.in_ok-ready.ensures.notes)
    (c.note.ensures.notes ∙ put_same (g.G.Log.notes c.enter.new.log) _ _ _ _ _ _ c.in_ok-ok.ok c.in_ok-enter.ensures.noted c.block_name-name.ensures c.of.ensures)
    c.in_ok-request.ensures c.in_ok-block.ensures.filled (c.in_ok-made.ensures ∙ ap (record_of c.args.keys.now.block 2 c.args.place (c.args.session.now.places.counter + 1)) c.as_slice.ensures) c.requires.place
    c.in_ok-block.ensures.len c.requires.bytes refl (c.in_ok-kept.ensures ∙ ap (λ z. cond c.in_ok-ok.ok None (Some (take 4096 z))) c.as_slice-3.ensures.value)
    c.set.ensures.counter (c.set.ensures.versions ∙ ap (λ a. set a.versions.items c.args.place (c.args.session.now.places.counter + 1)) c.in_ok-enter.ensures.places)
    (c.set.ensures.kept ∙ ap (λ a. set a.kept.items c.args.place c.in_ok-kept.field-0) c.in_ok-enter.ensures.places) (omega (arith, c.in_ok-enter.ensures.noted))

pub returns-clause-serves : goal.returns-clause-serves
returns-clause-serves g c =
    write_serves (g.G.Log.notes c.args.log.now) (g.G.Log.notes c.enter.new.log) (g.G.Log.notes c.note.new.self) (g.S.Store.traffic c.args.link.now) _ (g.S.Store.faults c.args.link.now) _ c.args.session.now.replies c.enter.new.self.replies
    (write_of c.args.place c.args.bytes) c.in_ok-request.request c.enter.new.self.noted c.block_name-name.result c.in_ok-made.made.items c.in_ok-ok.ok
    (c.in_ok-enter.ensures.notes ∙ ap (λ o. appended o (Call 1 c.in_ok-request.request Done)) c.in_ok-ready.ensures.notes)
    (c.note.ensures.notes ∙ put_same (g.G.Log.notes c.enter.new.log) _ _ _ _ _ _ c.in_ok-ok.ok refl refl c.of.ensures)
    (c.in_ok-ok.ensures.traffic ∙ ap (λ z. appended (g.S.Store.traffic c.args.link.now) (PutTo c.block_name-name.result z c.in_ok-ok.ok)) c.as_slice-2.ensures.value)
    (c.in_ok-request.ensures ∙ ap (λ b. Write (codes "/f") (c.args.place * 4096) b) c.in_ok-block.ensures.filled) c.in_ok-enter.ensures.replies c.in_ok-ok.ensures.later

pub returns-in_err-kept-clause-stops : goal.returns-in_err-kept-clause-stops
returns-in_err-kept-clause-stops g c =
    on_err _ (stops_put c.args.keys.now.block (g.G.Log.notes c.args.log.now) (g.G.Log.notes c.enter.new.log) (g.G.Log.notes c.note.new.self) (g.S.Store.traffic c.args.link.now) _
    (write_of c.args.place c.args.bytes) c.in_ok-request.request c.enter.new.self.noted c.block_name-name.result c.in_ok-made.made.items c.in_ok-ok.ok
    (c.in_ok-enter.ensures.notes ∙ ap (λ o. appended o (Call 1 c.in_ok-request.request Done)) c.in_ok-ready.ensures.notes)
    (c.note.ensures.notes ∙ put_same (g.G.Log.notes c.enter.new.log) _ _ _ _ _ _ c.in_ok-ok.ok refl refl c.of.ensures)
    (c.in_ok-ok.ensures.traffic ∙ ap (λ z. appended (g.S.Store.traffic c.args.link.now) (PutTo c.block_name-name.result z c.in_ok-ok.ok)) c.as_slice-2.ensures.value)
    (c.in_ok-request.ensures ∙ ap (λ b. Write (codes "/f") (c.args.place * 4096) b) c.in_ok-block.ensures.filled)
    (wrote_judged c.args.keys.now.block c.args.session.now (g.G.Log.notes c.args.log.now) (g.G.Log.notes c.enter.new.log) (g.G.Log.notes c.note.new.self)
    c.args.place c.args.bytes c.in_ok-block.block c.in_ok-made.made.items (c.args.session.now.noted + 1) c.in_ok-ok.ok c.in_ok-request.request
    c.requires.ready
    (c.in_ok-enter.ensures.notes ∙ ap (λ o. appended o (Call 1 c.in_ok-request.request Done)) c.in_ok-ready.ensures.notes)
    (c.note.ensures.notes ∙ put_same (g.G.Log.notes c.enter.new.log) _ _ _ _ _ _ c.in_ok-ok.ok c.in_ok-enter.ensures.noted c.block_name-name.ensures c.of.ensures)
    c.in_ok-request.ensures c.in_ok-block.ensures.filled (c.in_ok-made.ensures ∙ ap (record_of c.args.keys.now.block 2 c.args.place (c.args.session.now.places.counter + 1)) c.as_slice.ensures) c.requires.place
    c.in_ok-block.ensures.len c.requires.bytes refl))
