use Rattle.std.proofs.Common.{ap, subst, sym, ◌∙◌, length}
use Rattle.iris_node.specs.Unfolded.{link_to, node_of}
use Rattle.iris_shape.specs.Rows.{DistinctIds, treap_of}
use Rattle.iris_shape.specs.Shaped.{made_treap}
use Rattle.iris_rows.specs.Items.{grown}
use Rattle.iris_records.specs.Shown.{owns, in_directory}
use Rattle.iris_records.specs.Pieces.{Adds}
use Rattle.iris_records.proofs.TreapOfRows.{distinct_rows, places_are, directory_is}
use Rattle.iris_records.proofs.LevelRows.{length_owns}
use Rattle.iris_records.proofs.TreapRecords.{if_ok, on_ok}
use Rattle.iris_records.proofs.entries.put_directory.Goals as goal

pub level_of-requires-clause-same : goal.level_of-requires-clause-same
level_of-requires-clause-same c = ap length c.requires.told ∙ length_owns c.args.keys.now.order c.args.items.now

pub treap-requires : goal.treap-requires
treap-requires c =
    subst DistinctIds (sym (c.as_slice.ensures.value ∙ (c.in_ok-level.ensures.owns c.args.keys.now.order c.requires.told).rows))
    (distinct_rows c.args.keys.now.order (grown c.args.depth c.args.items.now) c.requires.once)

pub link_of-requires-clause-places : goal.link_of-requires-clause-places
link_of-requires-clause-places c =
    let v = c.in_ok-level.ensures.owns c.args.keys.now.order c.requires.told in
    places_are c.args.keys.now.order (grown c.args.depth c.args.items.now) c.in_ok-shape.shape _ c.requires.rising (ap length v.rows)
    (c.in_ok-shape.ensures ∙ ap (λ z. made_treap (treap_of c.args.keys.now.order z)) (c.as_slice.ensures.value ∙ v.rows))

pub returns-clause-link : goal.returns-clause-link
returns-clause-link c =
    let v = c.in_ok-level.ensures.owns c.args.keys.now.order c.requires.told in
    let e = directory_is c.args.keys.now.order (grown c.args.depth c.args.items.now) c.in_ok-shape.shape c.requires.rising
    (c.in_ok-shape.ensures ∙ ap (λ z. made_treap (treap_of c.args.keys.now.order z)) (c.as_slice.ensures.value ∙ v.rows)) in
    if_ok c.link_of.result _ _ (λ l h. h (owns c.args.keys.now.order (grown c.args.depth c.args.items.now)) v ∙ ap (λ z. link_to z (node_of z)) e) c.link_of.ensures.link

pub returns-clause-puts : goal.returns-clause-puts
returns-clause-puts c =
    let v = c.in_ok-level.ensures.owns c.args.keys.now.order c.requires.told in
    let e = directory_is c.args.keys.now.order (grown c.args.depth c.args.items.now) c.in_ok-shape.shape c.requires.rising
    (c.in_ok-shape.ensures ∙ ap (λ z. made_treap (treap_of c.args.keys.now.order z)) (c.as_slice.ensures.value ∙ v.rows)) in
    on_ok c.link_of.result _ _ (λ h key. subst (λ z. Adds key (λ n. in_directory n z) c.args.shelf.now c.link_of.new.shelf) e (h (owns c.args.keys.now.order (grown c.args.depth c.args.items.now)) key v)) c.link_of.ensures.puts
