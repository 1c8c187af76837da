-- A pool with dirty, clean and doomed names, and its counts, by hand.
use Rattle.std.proofs.Common.{◌≡◌, ℕ, [], ◌∷◌, true≢false, None, refl, sym}
use Rattle.iris_blocks.specs.declared.held.PageHeld.{PageHeld}
use Rattle.iris_blocks.specs.Held.{dirtied_page, newcomer_page}
use Rattle.iris_cache.specs.Held.{dirtied_node, newcomer_node}
use Rattle.iris_invariant.specs.Agrees.{MarkListed}
use Rattle.iris_invariant.specs.Knowledge.{IsMarkedBlock, IsMarkedNode}
use Rattle.iris_name.specs.declared.name.FileId.{FileId}
use Rattle.iris_name.specs.declared.name.Name.TheVariants.{Block, Entry}
use Rattle.iris_node.specs.declared.node.Body.TheVariants.{Dir}
use Rattle.iris_node.specs.declared.node.Node as nodes
use Rattle.iris_node.specs.declared.node.Node.TheVariants as node
use Rattle.iris_pool.specs.Counts.{marked_blocks, marked_nodes}
use Rattle.iris_pool.specs.Pool.{PoolState}
use Rattle.iris_pool.specs.View.{pool_view}

abbrev id : ℕ → FileId
id k = record { 0 = k }

abbrev folder : nodes.Node
folder = node.Entry (record { id = id 2; name = []; left = None; right = None; body = Dir None })

abbrev clean : PageHeld
clean = newcomer_page 3 (7 ∷ []) 1

abbrev dirty : PageHeld
dirty = dirtied_page clean

-- a dirty and a clean page, a dirty node, and two doomed names: of a block and of an entry
abbrev pool : PoolState
pool = record {
  nodes = record { nodes = (Entry (id 2), dirtied_node (newcomer_node None folder 1 0)) ∷ []; room = [] };
  pages = record { pages = (Block (id 4) 5, dirty) ∷ (Block (id 4) 6, clean) ∷ []; room = [] };
  desks = record { desks = []; doomed = Block (id 4) 7 ∷ Entry (id 3) ∷ []; room = 0 };
}

-- the dirty page and the doomed block
two_blocks : marked_blocks pool ≡ 2
two_blocks = refl

-- the dirty node and the doomed entry
two_nodes : marked_nodes pool ≡ 2
two_nodes = refl

dirty_page_marked : IsMarkedBlock (pool_view [] pool) (Block (id 4) 5)
dirty_page_marked = (refl, refl)

doomed_block_marked : IsMarkedBlock (pool_view [] pool) (Block (id 4) 7)
doomed_block_marked = (refl, refl)

clean_page_unmarked : IsMarkedBlock (pool_view [] pool) (Block (id 4) 6) → ⊥
clean_page_unmarked m = true≢false (sym m.1)

doomed_entry_marked : IsMarkedNode (pool_view [] pool) (Entry (id 3))
doomed_entry_marked = (refl, refl)

-- a doomed entry is no marked block
entry_no_block : IsMarkedBlock (pool_view [] pool) (Entry (id 3)) → ⊥
entry_no_block m = true≢false (sym m.0)

-- a page that is doomed while it is dirty would be counted twice, and isn't marked as the invariant has it
abbrev twice : PoolState
twice = record pool { desks = record { desks = []; doomed = Block (id 4) 5 ∷ []; room = 0 } }

counted_twice : marked_blocks twice ≡ 2
counted_twice = refl

not_listed : MarkListed ((pool_view [] twice).cell (Block (id 4) 5)) → ⊥
not_listed l = true≢false (l.doomed refl)
