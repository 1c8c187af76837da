use Rattle.std.proofs.Common.{◌∙◌}
use Rattle.iris_mac.proofs.KeyBlocks.{padded}
use Rattle.iris_mac.proofs.code.block_of.Goals as goal

pub returns-then-key-le64 : goal.returns-then-key-le64
returns-then-key-le64 c = c.put_front.ensures ∙ padded c.args.key.now c.if-key-le64.true
