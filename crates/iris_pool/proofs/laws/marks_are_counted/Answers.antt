use Rattle.iris_pool.proofs.CountedMarks.{marks_are_counted}
use Rattle.iris_pool.proofs.laws.marks_are_counted.Goals as goal

pub returns : goal.returns
returns c = marks_are_counted
