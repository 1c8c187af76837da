use Rattle.std.proofs.Common.{sym, ◌∙◌, arith, ◌<◌, length}
use Rattle.iris_store.proofs.Deeds.{mapped_set}
use Rattle.iris_store.proofs.script.wait_on.Goals as goal
use Rattle.iris_store.proofs.script.wait_on.Goals.{then-fits, else-fits}

pub loop-deed-preserved : goal.loop-deed-preserved
loop-deed-preserved c =
    let in_list : c.loop-deed.deed-index < length c.args.deeds.now = omega arith in
    elim c.if-fits.branch [
      | then-fits w ↦ w.deeds-is ∙ mapped_set _ _ _ _ c.deed-item.result _ in_list c.loop-deed.invariant c.deed-item.is (grind arith)
      | else-fits w ↦ w.deeds-is ∙ mapped_set _ _ _ _ c.deed-item.result _ in_list c.loop-deed.invariant c.deed-item.is (sym c.deed-item.is ∙ grind arith)
    ]
