use Rattle.iris_desk.proofs.LookingUp.{begin_looks}
use Rattle.iris_pool.proofs.Results.{on_ok}
use Rattle.iris_pool.proofs.seats.begin.Goals as goal

pub returns-clause-begins : goal.returns-clause-begins
returns-clause-begins c = on_ok c.begin.result (begin_looks c.args.who c.args.out c.args.desks.now c.begin.new.self c.sound.ensures c.requires.caller c.requires.free) c.begin.ensures.desks
