use Rattle.iris_records.proofs.BlockAtPlace.{probed, not_found}
use Rattle.iris_records.proofs.challenge.probe.Goals as goal

pub returns-in-Block : goal.returns-in-Block
returns-in-Block c = λ order next age. probed order c.args.visible.now c.args.trash.now next age c.args.at c.in-Block.file c.in-Block.place c.in-Block.version c.requires.visible c.requires.trash c.in-Block.ensures

pub returns-in-Past : goal.returns-in-Past
returns-in-Past c = λ order next age. not_found order c.args.visible.now c.args.trash.now next age c.args.at c.in-Past.field-0 c.requires.visible c.requires.trash c.in-Past.ensures
