use Rattle.std.proofs.Common.{bit_xor, arith, get_or}
use Rattle.std.proofs.lemmas.List.{get_or_default}
use Rattle.std.proofs.lemmas.List.Edits.{map_over_more}
use Rattle.iris_mac.proofs.code.add_pad.Goals as goal

pub loop-b-preserved : goal.loop-b-preserved
loop-b-preserved c =
    let x = get_or c.loop-b.block c.loop-b.b-index 0 in
    map_over_more (λ b. bit_xor b c.args.pad) c.args.block.now c.loop-b.block c.loop-b.b-index x (omega arith) c.loop-b.invariant
    (get_or_default c.loop-b.block c.loop-b.b-index 0 x (omega arith))
