use Rattle.std.proofs.Common.{arith}
use Rattle.iris.proofs.ReadSoFar.{so_far_bad, so_far_more}
use Rattle.iris.proofs.line.read_lines.Goals as goal

pub returns-in_default-clause-bad : goal.returns-in_default-clause-bad
returns-in_default-clause-bad c =
    let none = rw c.in_default.is at c.in_ok-found.ensures.none in
    so_far_bad c.args.script.now _ _ c.first_line.result.1.now c.loop-rest.lines.items _ c.loop-rest.invariant c.first_line.ensures.lines none (omega (arith, c.len.ensures))

pub loop-rest-preserved : goal.loop-rest-preserved
loop-rest-preserved c =
    let one = rw c.in-Some.is at c.in_ok-found.ensures.some in
    let fits = rw c.in-Some.is at c.in_ok-found.ensures.range in
    rw c.in_ok-push.ensures.items (so_far_more c.args.script.now _ _ _ c.loop-rest.lines.items c.in-Some.found c.loop-rest.invariant c.first_line.ensures.lines c.first_line.ensures.shorter one fits)
