use Rattle.std.proofs.Common.{refl, sym, subst, arith}
use Rattle.iris.specs.Lines.{IsInRange}
use Rattle.iris.proofs.Loops.{Goes, goes_first, goes_more, goes_few, goes_range, goes_all, goes_stops, empty_by_length, fresh_judged}
use Rattle.iris.proofs.Results.{on_err}
use Rattle.iris.proofs.Sessions.{ready_judged, ready_shaped}
use Rattle.iris.proofs.Stretches.{stops_none}
use Rattle.iris.proofs.session.serve_all.Goals as goal

pub returns-in_err-session-clause-stops : goal.returns-in_err-session-clause-stops
returns-in_err-session-clause-stops g c = on_err _ (stops_none c.args.keys.now.block _ (g.G.Log.notes c.args.log.now) _ _ _ refl refl (fresh_judged c.args.keys.now.block (g.G.Log.notes c.args.log.now) c.requires.fresh))

pub loop-line-init : goal.loop-line-init
loop-line-init g c =
    subst (λ z. Goes c.args.keys.now.block c.args.lines.items z (g.G.Log.notes c.args.log.now) (g.G.Log.notes c.args.log.now) (g.S.Store.traffic c.args.link.now) (g.S.Store.traffic c.args.link.now) (g.S.Store.faults c.args.link.now) (g.S.Store.faults c.args.link.now) c.in_ok-session.session)
    (sym c.into_iter-line-iterator.ensures.into_iter_gives.0)
    (goes_first c.args.keys.now.block c.args.lines.items (g.G.Log.notes c.args.log.now) (g.S.Store.traffic c.args.link.now) (g.S.Store.faults c.args.link.now) c.in_ok-session.session
    c.requires.fresh c.in_ok-session.ensures.sizes c.in_ok-session.ensures.counts c.in_ok-session.ensures.versions c.in_ok-session.ensures.kept c.in_ok-session.ensures.replies)

pub serve-requires-clause-range : goal.serve-requires-clause-range
serve-requires-clause-range g c = goes_range IsInRange _ _ _ _ c.in-Some.line _ _ _ _ _ _ _ c.loop-line.invariant c.in-Some.ensures.steps.0 c.requires.ranges

pub serve-requires-clause-ready : goal.serve-requires-clause-ready
serve-requires-clause-ready g c = c.loop-line.invariant.ready

pub serve-requires-clause-few : goal.serve-requires-clause-few
serve-requires-clause-few g c = goes_few _ _ _ _ _ _ _ _ _ _ c.loop-line.invariant (let e = c.args.lines.ok.0 in omega (arith, c.requires.few, e))

pub loop-line-preserved : goal.loop-line-preserved
loop-line-preserved g c = goes_more _ _ _ _ c.in-Some.line _ _ _ _ _ _ _ _ _ _ _ c.loop-line.invariant c.in-Some.ensures.steps.0 c.in_ok-serve.ensures.ready c.in_ok-serve.ensures.more c.in_ok-serve.ensures.serves

pub returns-in_err-serve-clause-stops : goal.returns-in_err-serve-clause-stops
returns-in_err-serve-clause-stops g c = on_err _ (goes_stops _ _ _ _ c.in-Some.line _ _ _ _ _ _ _ _ _ c.loop-line.invariant c.in-Some.ensures.steps.0 c.in_err-serve.ensures.stops)

pub returns-clause-serves : goal.returns-clause-serves
returns-clause-serves g c = goes_all _ _ _ _ _ _ _ _ _ _ c.loop-line.invariant (let e = c.loop-line.line-iterator.rest.ok.0 in empty_by_length _ (let z = c.in-None.ensures.steps.0 in omega (arith, e, z)))

pub returns-clause-judged : goal.returns-clause-judged
returns-clause-judged g c = ready_judged c.args.keys.now.block _ _ c.loop-line.invariant.ready

pub returns-clause-shaped : goal.returns-clause-shaped
returns-clause-shaped g c = ready_shaped c.args.keys.now.block _ _ c.loop-line.invariant.ready
