use Rattle.std.proofs.Common.{◌<◌, length, Some, ap, sym, ◌∙◌, arith}
use Rattle.iris_node.specs.Unfolded.{hash}
use Rattle.iris_node.specs.declared.node.Node.TheVariants.{Entry}
use Rattle.iris_records.specs.Walks.{row_of, told as told_of, own_at}
use Rattle.iris_records.proofs.EntryRecords.{at_map, node_is, link_is, top_put}
use Rattle.iris_records.proofs.entries.put_entry.Goals as goal

pub returns-clause-link : goal.returns-clause-link
returns-clause-link c = λ owns less more v l r.
    let same = c.requires.level.same in let at = c.requires.place in
    let below : c.args.place < length c.args.level.now.told.items = omega (arith, same, at) in
    link_is (own_at owns c.args.place) (own_at owns c.args.place).file less more c.index-row.result.now c.index-told.result.now c.args.left c.args.right _ _
    (at_map row_of _ owns c.args.place _ v.rows c.requires.place c.index-row.ensures) (at_map told_of _ owns c.args.place _ v.told below c.index-told.ensures) l r
    (c.in_ok-hash.ensures.hash ∙ ap (λ z. hash (Entry z)) c.in_ok-entry.ensures) c.in_ok-blocks.ensures

pub returns-clause-puts : goal.returns-clause-puts
returns-clause-puts c = λ owns less more key v l r.
    let same = c.requires.level.same in let at = c.requires.place in
    let below : c.args.place < length c.args.level.now.told.items = omega (arith, same, at) in
    let row = at_map row_of _ owns c.args.place _ v.rows c.requires.place c.index-row.ensures in
    top_put key (own_at owns c.args.place) (own_at owns c.args.place).file less more (Entry c.in_ok-entry.entry) c.in_ok-entry.entry.id _ _
    (ap (λ z. z.id.0) c.in_ok-entry.ensures ∙ ap (λ z. z.id.0) row) c.in_ok-hash.ensures.puts
    (node_is (own_at owns c.args.place) (own_at owns c.args.place).file less more c.index-row.result.now c.index-told.result.now c.args.left c.args.right
    row (at_map told_of _ owns c.args.place _ v.told below c.index-told.ensures) l r ∙ ap (λ z. Some (Entry z)) (sym c.in_ok-entry.ensures))
