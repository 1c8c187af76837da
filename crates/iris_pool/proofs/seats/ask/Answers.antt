use Rattle.iris_desk.proofs.LookingUp.{ask_looks}
use Rattle.iris_pool.proofs.seats.ask.Goals as goal

pub returns-clause-asks : goal.returns-clause-asks
returns-clause-asks c = ask_looks c.args.who c.args.request c.args.desks.now c.ask.new.self c.sound.ensures c.requires c.ask.ensures.desks
