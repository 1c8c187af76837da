use Rattle.std.proofs.Common.{◌≡◌, ◌&&◌, not, take}
use Rattle.std.specs.List.{list_any}
use Rattle.iris_blocks.specs.Held.{unpinned_page}
use Rattle.iris_blocks.specs.Paged.{held_page}
use Rattle.iris_cache.specs.Held.{unpinned_node}
use Rattle.iris_cache.specs.Resident.{held_node, map_if}
use Rattle.iris_history.specs.Kept.{is_block}
use Rattle.iris_name.specs.declared.name.Name.{Name}
use Rattle.iris_name.specs.Names.{same_name}
use Rattle.iris_pool.proofs.by_name.unpin_each.Given as goal

-- the names before the index are unpinned
abbrev pub invariant-loop-name : goal.invariant-loop-name
invariant-loop-name l = record {
  nodes : (q : Name) → held_node l.cache q ≡ map_if (not (is_block q) && list_any (same_name q) (take l.name-index l.names)) (unpinned_node l.who) (held_node l.initial.cache q);
  pages : (q : Name) → held_page l.blocks q ≡ map_if (is_block q && list_any (same_name q) (take l.name-index l.names)) (unpinned_page l.who) (held_page l.initial.blocks q);
  node_places : l.cache.room ≡ l.initial.cache.room;
  page_places : l.blocks.room ≡ l.initial.blocks.room;
}
