use Rattle.std.proofs.Common.{◌<◌, length, ap, ◌∙◌, sym, set}
use Rattle.std.proofs.lemmas.List.Edits.{map_over_more}
use Rattle.iris_desk.specs.Outs.{touched_where}
use Rattle.iris_desk.proofs.desk.touch_all.Goals as goal

pub loop-out-preserved : goal.loop-out-preserved
loop-out-preserved c =
    let f = touched_where c.args.name.now in
    let i = c.loop-out.out-index in
    let lt : i < length c.args.outs.now = c.loop-out-test.true in
    ap (set c.loop-out.outs i) (c.touch.ensures ∙ ap f (sym c.out-item.is)) ∙ map_over_more f c.args.outs.now c.loop-out.outs i c.out-item.result lt c.loop-out.invariant c.out-item.is
