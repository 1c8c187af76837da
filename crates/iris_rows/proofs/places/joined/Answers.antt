use Rattle.std.proofs.Common.{◌++◌, ◌∙◌, sym}
use Rattle.iris_rows.specs.Places.{block_at}
use Rattle.iris_rows.proofs.KeptPlaces.{joined_more}
use Rattle.iris_rows.proofs.places.joined.Goals as goal

pub loop-k-preserved : goal.loop-k-preserved
loop-k-preserved c = c.in_ok-extend_from_slice.ensures.items ∙ (λ i. c.loop-k.invariant i ++ c.block.ensures i) ∙ sym (joined_more (block_at c.args.places.now) c.args.first c.loop-k.k)
