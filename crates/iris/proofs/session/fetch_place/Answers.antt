use Rattle.std.proofs.Common.{◌∙◌, [], ◌∷◌, refl, sym, ap, subst, arith}
use Rattle.std.proofs.lemmas.List.{get_or_default}
use Rattle.iris_name.specs.declared.note.Note.TheVariants.{Got}
use Rattle.iris_name.specs.Told.{appended}
use Rattle.iris.specs.Answers.{IsRightReply}
use Rattle.iris.specs.Lines.{read_of}
use Rattle.iris.proofs.Results.{on_err}
use Rattle.iris.proofs.Sessions.{ready_judged, got_ready, got_judged}
use Rattle.iris.proofs.Stretches.{fetch_serves, stops_none, stops_got}
use Rattle.iris.proofs.session.fetch_place.Goals as goal

pub returns-in_err-answer-clause-stops : goal.returns-in_err-answer-clause-stops
returns-in_err-answer-clause-stops g c =
    on_err _ (stops_none c.args.keys.now.block (read_of c.args.place ∷ []) (g.G.Log.notes c.args.log.now) _ _ _ refl c.in_err-answer.ensures.err (ready_judged c.args.keys.now.block c.args.session.now _ c.requires.ready))

pub returns-in_err-reply-clause-stops : goal.returns-in_err-reply-clause-stops
returns-in_err-reply-clause-stops g c =
    let s = c.args.session.now in
    let n = ap (λ q. appended (g.G.Log.notes c.args.log.now) (Got 1 s.noted q c.in_ok-answer.answer)) c.block_name-name.ensures in
    on_err _ (stops_got c.args.keys.now.block (read_of c.args.place ∷ []) (g.G.Log.notes c.args.log.now) _ _ _ s.noted c.block_name-name.result c.in_ok-answer.answer
    c.note.ensures.notes c.in_ok-answer.ensures.traffic
    (got_judged c.args.keys.now.block s.places.counter s.noted s.places.versions.items s.places.kept.items (g.G.Log.notes c.args.log.now) _ c.args.place s.noted c.in_ok-answer.answer
    c.requires.ready.keeps (c.note.ensures.notes ∙ n) c.requires.place c.requires.written c.requires.absent refl))

pub returns-in_err-enter-clause-stops : goal.returns-in_err-enter-clause-stops
returns-in_err-enter-clause-stops g c =
    let s = c.args.session.now in
    let n = ap (λ q. appended (g.G.Log.notes c.args.log.now) (Got 1 s.noted q c.in_ok-answer.answer)) c.block_name-name.ensures in
    let e = c.in_err-enter.ensures.err ∙ c.note.ensures.notes in
    on_err _ (stops_got c.args.keys.now.block (read_of c.args.place ∷ []) (g.G.Log.notes c.args.log.now) _ _ _ s.noted c.block_name-name.result c.in_ok-answer.answer
    e c.in_ok-answer.ensures.traffic
    (got_judged c.args.keys.now.block s.places.counter s.noted s.places.versions.items s.places.kept.items (g.G.Log.notes c.args.log.now) _ c.args.place s.noted c.in_ok-answer.answer
    c.requires.ready.keeps (e ∙ n) c.requires.place c.requires.written c.requires.absent refl))

pub returns-clause-ready : goal.returns-clause-ready
returns-clause-ready g c =
    let s = c.args.session.now in
    let n = ap (λ q. appended (g.G.Log.notes c.args.log.now) (Got 1 s.noted q c.in_ok-answer.answer)) c.block_name-name.ensures in
    let version = get_or_default s.places.versions.items c.args.place 0 c.index-version.result.now (omega (arith, c.requires.ready.versions, c.requires.place)) ∙ sym c.index-version.ensures in
    got_ready c.args.keys.now.block s c.enter.new.self (g.G.Log.notes c.args.log.now) (g.G.Log.notes c.note.new.self) (g.G.Log.notes c.enter.new.log) c.args.place s.noted c.in_ok-answer.answer c.in_ok-reply.field-0 c.args.request
    c.requires.ready (c.note.ensures.notes ∙ n) c.in_ok-enter.ensures.notes c.requires.asked c.requires.place
    c.in_ok-enter.ensures.places (omega (arith, c.in_ok-enter.ensures.noted)) c.requires.written c.requires.absent refl
    c.in_ok-reply.ensures.value (subst (λ v. IsRightReply c.args.keys.now.block c.args.place v c.in_ok-answer.answer c.in_ok-reply.field-0) (sym version) c.in_ok-reply.ensures.fits)

pub returns-clause-serves : goal.returns-clause-serves
returns-clause-serves g c =
    fetch_serves (g.G.Log.notes c.args.log.now) (g.G.Log.notes c.note.new.self) (g.G.Log.notes c.enter.new.log) (g.S.Store.traffic c.args.link.now) _ (g.S.Store.faults c.args.link.now) _ c.args.session.now.replies c.enter.new.self.replies
    (read_of c.args.place) c.args.request c.args.session.now.noted c.block_name-name.result c.in_ok-answer.answer c.in_ok-reply.field-0
    c.note.ensures.notes c.in_ok-enter.ensures.notes c.in_ok-answer.ensures.traffic c.requires.asked c.in_ok-enter.ensures.replies c.in_ok-answer.ensures.later c.in_ok-answer.ensures.cause
