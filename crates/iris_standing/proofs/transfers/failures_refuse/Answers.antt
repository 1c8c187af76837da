use Rattle.iris_standing.proofs.RefusedTransfers.{fruitless_gets_refuse, failed_puts_refuse, failed_discards_refuse}
use Rattle.iris_standing.proofs.transfers.failures_refuse.Goals as goal

pub returns-clause-gets : goal.returns-clause-gets
returns-clause-gets c = fruitless_gets_refuse

pub returns-clause-puts : goal.returns-clause-puts
returns-clause-puts c = failed_puts_refuse

pub returns-clause-discards : goal.returns-clause-discards
returns-clause-discards c = failed_discards_refuse
