use Rattle.std.proofs.Common.{refl, []}
use Rattle.iris_script.proofs.Cutting.{lines_of-cut, lines_of-last}
use Rattle.iris_script.proofs.cut.first_line.Goals as goal

pub returns-in-Some-clause-lines : goal.returns-in-Some-clause-lines
returns-in-Some-clause-lines c = lines_of-cut _ _ _ c.in-Some.ensures.some

pub returns-in-None-clause-lines : goal.returns-in-None-clause-lines
returns-in-None-clause-lines c = lines_of-last _ [] c.requires c.in-None.ensures.none refl
