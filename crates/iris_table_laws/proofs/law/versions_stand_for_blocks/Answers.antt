use Rattle.iris_table_laws.proofs.BlocksByVersion.{requests_age, one_block}
use Rattle.iris_table_laws.proofs.law.versions_stand_for_blocks.Goals as goal

pub returns-clause-ages : goal.returns-clause-ages
returns-clause-ages c = requests_age

pub returns-clause-one_block : goal.returns-clause-one_block
returns-clause-one_block c = one_block
