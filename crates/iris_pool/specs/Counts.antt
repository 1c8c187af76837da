-- How many names are marked: dirty or doomed.
use Rattle.std.specs.Prelude.{ℕ, ◌+◌, ◌≤◌, ◌↔◌, List, not}
use Rattle.std.specs.List.{count_by}
use Rattle.iris_blocks.specs.Paged.{Paged, ArePagesSound}
use Rattle.iris_cache.specs.Dirty.{dirty_nodes}
use Rattle.iris_cache.specs.Resident.{IsSoundCache}
use Rattle.iris_desk.specs.AtDesks.{AreDesksSound}
use Rattle.iris_history.specs.Crowding.{AtLeast}
use Rattle.iris_history.specs.Kept.{is_block}
use Rattle.iris_invariant.specs.Agrees.{MarkListed}
use Rattle.iris_invariant.specs.Bounds.{AtMost}
use Rattle.iris_invariant.specs.Knowledge.{IsMarkedBlock, IsMarkedNode}
use Rattle.iris_name.specs.declared.name.Name.{Name}
use Rattle.iris_pool.specs.Pool.{PoolState}
use Rattle.iris_pool.specs.View.{pool_view}

abbrev pub dirty_pages : Paged → ℕ
dirty_pages b = count_by (λ e. e.1.dirty) b.pages

-- the dirty pages and the doomed blocks
abbrev pub marked_blocks : PoolState → ℕ
marked_blocks p = dirty_pages p.pages + count_by is_block p.desks.doomed

-- the dirty nodes and the doomed names that are no blocks
abbrev pub marked_nodes : PoolState → ℕ
marked_nodes p = dirty_nodes p.nodes + count_by (λ n. not (is_block n)) p.desks.doomed

-- exactly so many distinct names have P
pub record AreSoMany (count : ℕ) (P : Name → Type 0) : Type 0 where
  pub at_least : (c : ℕ) → AtLeast c P ↔ (c ≤ count)
  pub at_most : (c : ℕ) → AtMost c P ↔ (count ≤ c)

-- Where what is dirty is held and what is doomed isn't, the invariant sees so many marked blocks and nodes.
abbrev pub MarksAreCounted : Type 0
MarksAreCounted = (key : List ℕ) (p : PoolState) → IsSoundCache p.nodes → ArePagesSound p.pages → AreDesksSound p.desks
    → ((n : Name) → MarkListed ((pool_view key p).cell n))
    → AreSoMany (marked_blocks p) (IsMarkedBlock (pool_view key p)) × AreSoMany (marked_nodes p) (IsMarkedNode (pool_view key p))
