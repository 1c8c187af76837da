use Rattle.iris_table_laws.proofs.TextNames as texting
use Rattle.iris_table_laws.proofs.law.texts_stay.Goals as goal

pub returns-clause-begins : goal.returns-clause-begins
returns-clause-begins c = texting.texts_begin

pub returns-clause-stays : goal.returns-clause-stays
returns-clause-stays c = texting.texts_stay
