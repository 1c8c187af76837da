use Rattle.iris_standing.proofs.RefusedTransfers.{fruitless_gets_license, failed_puts_license, failed_discards_license}
use Rattle.iris_standing.proofs.transfers.failures_license.Goals as goal

pub returns-clause-gets : goal.returns-clause-gets
returns-clause-gets c = fruitless_gets_license

pub returns-clause-puts : goal.returns-clause-puts
returns-clause-puts c = failed_puts_license

pub returns-clause-discards : goal.returns-clause-discards
returns-clause-discards c = failed_discards_license
