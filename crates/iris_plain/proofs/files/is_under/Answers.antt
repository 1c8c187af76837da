use Rattle.std.proofs.Common.{arith, sym}
use Rattle.iris_plain.proofs.RouteLaws.{short}
use Rattle.iris_plain.proofs.files.is_under.Goals as goal

pub returns-then-path-above : goal.returns-then-path-above
returns-then-path-above c = sym (short c.args.above.now c.args.path.now (omega arith))
