use Rattle.std.proofs.Common.{◌≡◌, ◌+◌, ◌&&◌, ◌||◌, ap, sym, ◌∙◌, get_or, not, take}
use Rattle.std.specs.List.{list_any}
use Rattle.std.proofs.lemmas.List.Folds.{list_any_more}
use Rattle.iris_blocks.specs.Held.{unpinned_page}
use Rattle.iris_blocks.specs.Paged.{held_page}
use Rattle.iris_cache.specs.Held.{unpinned_node}
use Rattle.iris_cache.specs.Resident.{held_node, map_if}
use Rattle.iris_history.specs.Kept.{is_block}
use Rattle.iris_name.specs.declared.name.Name.{Name}
use Rattle.iris_name.specs.declared.name.Name.TheVariants.{Entry}
use Rattle.iris_name.specs.Names.{same_name}
use Rattle.iris_name.specs.NameLaws.{same_name-symm}
use Rattle.iris_pool.specs.Parts.{is_block_at, is_node_at}
use Rattle.iris_pool.proofs.Unpins.{once_more, unpinned_once, unpinned_page_once}
use Rattle.iris_pool.proofs.by_name.unpin_each.Goals as goal

pub loop-name-preserved : goal.loop-name-preserved
loop-name-preserved c =
    let names = c.args.names.now in
    let i = c.loop-name.name-index in
    let x : Name = get_or names i (Entry (record { 0 = 0 })) in
    let f = unpinned_node c.args.who in
    let r = unpinned_page c.args.who in
    let before = λ (q : Name). list_any (same_name q) (take i names) in
    let more : (q : Name) → (before q || same_name x q) ≡ list_any (same_name q) (take (i + 1) names) =
    λ q. ap (λ b. before q || b) (same_name-symm x q) ∙ sym (list_any_more (same_name q) names i (Entry (record { 0 = 0 })) c.loop-name-test.true) in
    record {
      nodes = λ q.
          let old = held_node c.args.cache.now q in
          c.unpin.ensures.nodes q ∙ ap (map_if (is_node_at x q) f) (c.loop-name.invariant.nodes q)
          ∙ once_more f (unpinned_once c.args.who) (not (is_block q)) (before q) (same_name x q) old
          ∙ ap (λ b. map_if (not (is_block q) && b) f old) (more q);
      pages = λ q.
          let old = held_page c.args.blocks.now q in
          c.unpin.ensures.pages q ∙ ap (map_if (is_block_at x q) r) (c.loop-name.invariant.pages q)
          ∙ once_more r (unpinned_page_once c.args.who) (is_block q) (before q) (same_name x q) old
          ∙ ap (λ b. map_if (is_block q && b) r old) (more q);
      node_places = c.unpin.ensures.node_places ∙ c.loop-name.invariant.node_places;
      page_places = c.unpin.ensures.page_places ∙ c.loop-name.invariant.page_places;
    }
