use Rattle.std.proofs.Common.{◌≡◌, ◌<◌, length, arith}
use Rattle.iris_script.proofs.PathWords.{front_all, front_more, front_stuck}
use Rattle.iris_script.proofs.path.unescape.Goals as goal

pub returns-in_default-clause-none : goal.returns-in_default-clause-none
returns-in_default-clause-none c =
    let some : 0 < length c.loop-rest.rest.now = grind arith in
    front_stuck c.args.word.now c.loop-rest.rest.now c.loop-rest.bytes.items c.loop-rest.invariant some c.in_default.ensures.none

pub loop-rest-preserved : goal.loop-rest-preserved
loop-rest-preserved c =
    rw c.in_ok-push.ensures.items (front_more c.args.word.now c.loop-rest.rest.now c.in-Some.next.now c.loop-rest.bytes.items c.in-Some.byte c.loop-rest.invariant c.in-Some.ensures.some)

pub returns-clause-some : goal.returns-clause-some
returns-clause-some c =
    let empty : length c.loop-rest.rest.now ≡ 0 = grind arith in
    front_all c.args.word.now c.loop-rest.rest.now c.loop-rest.bytes.items c.loop-rest.invariant empty
