use Rattle.std.proofs.Common.{Some, sym, ap, ◌∙◌}
use Rattle.iris_node.specs.declared.node.Node.TheVariants as node
use Rattle.iris_treepaths.specs.Counts.{counted_entry}
use Rattle.iris_treepaths.proofs.Owned.{seen_own}
use Rattle.iris_treepaths.proofs.CountsSet.{set_recounts}
use Rattle.iris_treepaths.proofs.counting.recount_one.Goals as goal

pub returns-clause-counts : goal.returns-clause-counts
returns-clause-counts c =
    let x = c.in-Some-Entry.entry in
    let at = sym c.in-Some-Entry.ensures ∙ ap Some c.in-Some-Entry.field-0-is in
    let own = seen_own c.args.draft.now c.args.cache.now c.args.parent.now (node.Entry x) c.sound.ensures c.sound-2.ensures at in
    let is = c.counted_entry-counted.ensures ∙ ap (counted_entry c.args.child.now c.count_at-blocks.result) c.in_ok-copy_entry.ensures in
    set_recounts c.args.draft.now c.set.new.self c.args.cache.now c.args.child.now c.args.parent.now c.in-Some.node.now x c.counted_entry-counted.result c.count_at-blocks.result c.parent-above.result
    (sym c.in-Some.ensures) c.count_at-blocks.ensures own at is c.parent-above.ensures c.in_ok-set.ensures.names
