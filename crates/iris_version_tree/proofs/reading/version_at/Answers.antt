use Rattle.std.proofs.Common.{◌/◌, ◌^◌, sym}
use Rattle.iris_shape.proofs.FoldProofs.{folded_at}
use Rattle.iris_version_tree.proofs.Levels.{over}
use Rattle.iris_version_tree.proofs.reading.version_at.Goals as goal

pub returns-clause-version : goal.returns-clause-version
returns-clause-version c = λ old new v pic.
    let e = c.in_ok-even_at.field-0 in
    sym (folded_at v e.level (c.args.place / 2 ^ e.level) e.version c.args.place (c.in_ok-even_at.ensures.even old new v pic) (over e.level c.args.place))
