use Rattle.iris_pool.proofs.AskedFirst.{asks_and_begins}
use Rattle.iris_pool.proofs.seats.ask_for.Goals as goal

pub returns-clause-both : goal.returns-clause-both
returns-clause-both c = asks_and_begins c.args.who c.args.request c.args.out c.args.desks.now c.begin.new.desks c.ask.new.desks c.sound.ensures c.requires.caller c.in_ok-begin.ensures.begins c.ask.ensures.asks
