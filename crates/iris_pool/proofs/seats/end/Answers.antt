use Rattle.std.proofs.Common.{sym}
use Rattle.iris_desk.proofs.LookingUp.{end_looks, out_is_at}
use Rattle.iris_pool.proofs.seats.end.Goals as goal

pub returns-clause-ends : goal.returns-clause-ends
returns-clause-ends c = end_looks c.args.who c.args.keep c.args.name.now c.in-Some.out c.args.desks.now c.end.new.self c.sound.ensures (sym c.in-Some.ensures.answer) c.in-Some.ensures.desks

pub returns-clause-out : goal.returns-clause-out
returns-clause-out c = (out_is_at c.args.desks.now c.args.name.now c.args.who c.in-Some.out c.sound.ensures).1 (sym c.in-Some.ensures.answer)
