use Rattle.std.proofs.Common.{◌<◌, ◌+◌, drop, refl, ap, subst, sym, ◌∙◌, arith}
use Rattle.iris_records.specs.Walks.{IsLevel, item_row}
use Rattle.iris_records.proofs.LevelRows.{SoFar, so_far_deeper, so_far_here, so_far_same, told_here, dropped}
use Rattle.iris_records.proofs.entries.level_of.Goals as goal
use Rattle.iris_records.proofs.entries.level_of.Goals.{then-item-depth-2+in_ok-push_row, else-item-depth-2}

pub loop-i-preserved : goal.loop-i-preserved
loop-i-preserved c =
    let dr = dropped c.args.items.now c.loop-i.i c.index-items-i.result c.loop-i-test.true c.index-items-i.is in
    elim c.if-item-depth-2.branch [
      | then-item-depth-2+in_ok-push_row w ↦ record {
        level = subst IsLevel (sym w.level-is) w.in_ok-push_row.ensures.level;
        owns = λ order e. so_far_same order c.args.depth c.args.items.now _ _ _ _ _ (ap (λ z. z.rows.items) w.level-is ∙ w.in_ok-push_row.ensures.row) (ap (λ z. z.told.items) w.level-is ∙ w.in_ok-push_row.ensures.told)
            (so_far_here order c.args.depth c.args.items.now c.loop-i.level.rows.items c.loop-i.level.told.items c.index-items-i.result (drop (c.loop-i.i + 1) c.args.items.now) (item_row c.index-items-i.result) _
            w.if-item-depth-2.true refl (told_here order c.args.items.now c.loop-i.i c.index-items-i.result (drop (c.loop-i.i + 1) c.args.items.now) c.args.told.now _ e dr)
            (subst (λ z. SoFar order c.args.depth c.args.items.now c.loop-i.level.rows.items c.loop-i.level.told.items z) dr (c.loop-i.invariant.owns order e)));
      }
      | else-item-depth-2 w ↦ (
          let a = c.if-item-depth.false in let b = w.if-item-depth-2.false in
          let deep : c.args.depth < c.index-items-i.result.depth = omega (arith, a, b) in
          record {
            level = subst IsLevel (sym w.level-is) c.loop-i.invariant.level;
            owns = λ order e. so_far_same order c.args.depth c.args.items.now _ _ _ _ _ (ap (λ z. z.rows.items) w.level-is) (ap (λ z. z.told.items) w.level-is)
                (so_far_deeper order c.args.depth c.args.items.now c.loop-i.level.rows.items c.loop-i.level.told.items c.index-items-i.result (drop (c.loop-i.i + 1) c.args.items.now) deep
                (subst (λ z. SoFar order c.args.depth c.args.items.now c.loop-i.level.rows.items c.loop-i.level.told.items z) dr (c.loop-i.invariant.owns order e)));
          })
    ]
