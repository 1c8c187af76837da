use Rattle.iris_plan_laws.proofs.BlocksOfRows.{rows_keep_blocks}
use Rattle.iris_plan_laws.proofs.BlocksOfSteps.{writes_change_blocks, resizes_change_blocks}
use Rattle.iris_plan_laws.proofs.laws.blocks_change.Goals as goal

pub returns-clause-rows : goal.returns-clause-rows
returns-clause-rows c = rows_keep_blocks

pub returns-clause-writes : goal.returns-clause-writes
returns-clause-writes c = writes_change_blocks

pub returns-clause-resizes : goal.returns-clause-resizes
returns-clause-resizes c = resizes_change_blocks
