use Rattle.std.proofs.Common.{◌<◌, ◌+◌, ◌-◌, length, sym, subst, arith}
use Rattle.std.specs.Prelude.{All}
use Rattle.iris_records.specs.Walks.{IsItem, IsFit}
use Rattle.iris_records.proofs.RecordsOfItems.{fit_at, all_items, fit_drop, tail}
use Rattle.iris_records.proofs.LevelRows.{dropped}
use Rattle.iris_records.proofs.records.put_items.Goals as goal

pub put_item-requires-clause-fit : goal.put_item-requires-clause-fit
put_item-requires-clause-fit c =
    let a = c.loop-i-test.true in let b = c.loop-i.invariant.within in
    let below : c.loop-i.i - 1 < length c.args.items.now = omega (arith, a, b) in
    subst (IsFit c.index-items-i.result) (sym (tail c.args.items.now (c.loop-i.i - 1 + 1)))
    (fit_at c.args.items.now (c.loop-i.i - 1) c.index-items-i.result (dropped c.args.items.now (c.loop-i.i - 1) c.index-items-i.result below c.index-items-i.is) c.requires)

pub put_item-requires-clause-items : goal.put_item-requires-clause-items
put_item-requires-clause-items c = subst (All IsItem) (sym (tail c.args.items.now (c.loop-i.i - 1 + 1))) (all_items _ (fit_drop c.args.items.now (c.loop-i.i - 1 + 1) c.requires))
