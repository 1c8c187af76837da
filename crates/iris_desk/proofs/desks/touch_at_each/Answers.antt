use Rattle.std.proofs.Common.{◌<◌, length, ap, ◌∙◌, sym, set}
use Rattle.std.proofs.lemmas.List.Edits.{map_over_more}
use Rattle.iris_desk.specs.AtDesk.{touched_desk}
use Rattle.iris_desk.proofs.desks.touch_at_each.Goals as goal

pub loop-desk-preserved : goal.loop-desk-preserved
loop-desk-preserved c =
    let f = touched_desk c.args.name.now in
    let i = c.loop-desk.desk-index in
    let lt : i < length c.args.desks.now = c.loop-desk-test.true in
    ap (set c.loop-desk.desks i) (c.touch.ensures ∙ ap f (sym c.desk-item.is)) ∙ map_over_more f c.args.desks.now c.loop-desk.desks i c.desk-item.result lt c.loop-desk.invariant c.desk-item.is
