use Rattle.std.proofs.Common.{arith}
use Rattle.iris_script.proofs.Cutting.{IsNumber-same}
use Rattle.iris.proofs.line.read_place.Goals as goal

pub returns-else-number-lt-PLACES-clause-none : goal.returns-else-number-lt-PLACES-clause-none
returns-else-number-lt-PLACES-clause-none c =
    λ place h. let same = IsNumber-same c.args.word.now c.in-Some.number place c.in-Some.ensures.some h.0 in omega (arith, same, h.1)
