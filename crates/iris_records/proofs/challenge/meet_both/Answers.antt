use Rattle.iris_records.specs.Strides.{files_of}
use Rattle.iris_records.proofs.BlockAtPlace.{meets_first, meets_right}
use Rattle.iris_records.proofs.challenge.meet_both.Goals as goal

pub returns-in-Past : goal.returns-in-Past
returns-in-Past c = meets_right (files_of c.args.visible.now) (files_of c.args.trash.now) c.args.at c.in-Past.left c.meet-in-Past.result c.in-Past.ensures c.meet-in-Past.ensures

pub returns-in_default : goal.returns-in_default
returns-in_default c = meets_first (files_of c.args.visible.now) (files_of c.args.trash.now) c.args.at c.meet.result c.in_default.not-Past c.meet.ensures
