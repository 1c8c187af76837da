use Rattle.iris.proofs.Loops.{Goes}
use Rattle.iris.proofs.session.serve_all.Given as goal

abbrev pub invariant-loop-line : goal.invariant-loop-line
invariant-loop-line g l =
    Goes l.keys.block l.fn.lines.items l.line-iterator.rest.items (g.G.Log.notes l.fn.log) (g.G.Log.notes l.log) (g.S.Store.traffic l.fn.link) (g.S.Store.traffic l.link) (g.S.Store.faults l.fn.link) (g.S.Store.faults l.link) l.session
