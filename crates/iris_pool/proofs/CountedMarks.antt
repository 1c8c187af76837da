-- As many blocks and nodes are marked as are dirty, or doomed and of that kind.
use Rattle.std.proofs.Common.{◌≡◌, ◌+◌, ◌&&◌, ◌||◌, ℕ, List, ◌++◌, filter, length, length-append, Bool, true, false, true≢false, not, Option, Some, None, refl, sym, ◌∙◌, ap, subst}
use Rattle.std.proofs.lemmas.List.Folds.{list_any-append}
use Rattle.std.proofs.lemmas.List.Sums.{length-filter}
use Rattle.std.specs.List.{list_any}
use Rattle.iris_blocks.specs.declared.held.PageHeld.{PageHeld}
use Rattle.iris_blocks.specs.Paged.{ArePagesSound, held_page}
use Rattle.iris_cache.specs.declared.held.Held.{Held}
use Rattle.iris_cache.specs.Dirty.{dirty_nodes}
use Rattle.iris_cache.specs.Resident.{IsSoundCache, held_node}
use Rattle.iris_desk.specs.AtDesks.{AreDesksSound, is_doomed}
use Rattle.iris_history.specs.Crowding.{AreSeveral}
use Rattle.iris_history.specs.Kept.{is_block}
use Rattle.iris_invariant.specs.Agrees.{MarkListed, marked}
use Rattle.iris_invariant.specs.Cells.{dirty_in, dirty_page_in}
use Rattle.iris_invariant.specs.Knowledge.{IsMarkedBlock, IsMarkedNode}
use Rattle.iris_name.specs.declared.name.FileId.{FileId}
use Rattle.iris_name.specs.declared.name.Name.{Name}
use Rattle.iris_name.specs.declared.name.Name.TheVariants.{Entry, Part, Block}
use Rattle.iris_name.specs.Names.{same_name}
use Rattle.iris_node.specs.declared.node.Node.{Node}
use Rattle.iris_node.specs.declared.node.Node.TheVariants as node
use Rattle.iris_node.specs.Nodes.{name_of}
use Rattle.iris_pool.specs.Counts.{AreSoMany, MarksAreCounted, dirty_pages, marked_blocks, marked_nodes}
use Rattle.iris_pool.specs.Pool.{PoolState}
use Rattle.iris_pool.specs.View.{pool_view}
use Rattle.iris_pool.proofs.ListedNames.{AnyName, dirty_at, dirty_counted, dirty_listed, dirty_names, dirty_once, kind_listed, kind_once, listed_so_many, several_both}

abbrev page_dirty : PageHeld → Bool
page_dirty h = h.dirty

abbrev node_dirty : Held → Bool
node_dirty h = h.dirty

abbrev is_node : Name → Bool
is_node n = not (is_block n)

both_parts : (a b : Bool) → (a && b) ≡ true → (a ≡ true) × (b ≡ true)
both_parts true b e = (refl, e)
both_parts false b e = absurd (true≢false (sym e))

both_on : (a b : Bool) → a ≡ true → b ≡ true → (a && b) ≡ true
both_on true b e f = f
both_on false b e f = e

not_on : (b : Bool) → not b ≡ true → b ≡ false
not_on true e = absurd (true≢false (sym e))
not_on false e = refl

not_off : (b : Bool) → b ≡ false → not b ≡ true
not_off b e = ap not e

-- what isn't on where its opposite is off
off_if : (b : Bool) → (b ≡ true → ⊥) → b ≡ false
off_if true f = absurd (f refl)
off_if false f = refl

off_both : (a b : Bool) → b ≡ false → (a && b) ≡ false
off_both true b e = e
off_both false b e = refl

-- no node is held under a block's name
node_no_block : (x : Node) (f : FileId) (i : ℕ) → name_of x ≡ Block f i → ⊥
node_no_block (node.Entry e) f i h = cc
node_no_block (node.Part e) f i h = cc

module _ (key : List ℕ) (p : PoolState) (cache : IsSoundCache p.nodes) (pages : ArePagesSound p.pages) (desks : AreDesksSound p.desks) (listed : (n : Name) → MarkListed ((pool_view key p).cell n)) where
  abbrev is_marked : Name → Bool
  is_marked n = marked ((pool_view key p).cell n)

  -- ---- blocks

  abbrev page_at : Name → Bool
  page_at n = dirty_at page_dirty (held_page p.pages n)

  abbrev blocks : List Name
  blocks = dirty_names page_dirty p.pages.pages ++ filter is_block p.desks.doomed

  page_is : (z : Option PageHeld) → dirty_at page_dirty z ≡ dirty_page_in z
  page_is None = refl
  page_is (Some h) = refl

  -- no page is held under a node's name
  no_page : (n : Name) → is_block n ≡ false → page_at n ≡ false
  no_page n off = by n off (held_page p.pages n) refl where
    by : (n : Name) → is_block n ≡ false → (z : Option PageHeld) → held_page p.pages n ≡ z → dirty_at page_dirty z ≡ false
    by n off None e = refl
    by (Entry i) off (Some h) e = absurd (pages.blocks (Entry i) h e)
    by (Part f l i) off (Some h) e = absurd (pages.blocks (Part f l i) h e)
    by (Block f i) off (Some h) e = absurd (true≢false off)

  blocks_are : (n : Name) → list_any (same_name n) blocks ≡ (is_block n && is_marked n)
  blocks_are n = list_any-append (same_name n) (dirty_names page_dirty p.pages.pages) (filter is_block p.desks.doomed)
      ∙ (ap (λ b. b || list_any (same_name n) (filter is_block p.desks.doomed)) (dirty_listed page_dirty n p.pages.pages pages.once)
      ∙ (ap (λ b. page_at n || b) (kind_listed is_block n p.desks.doomed) ∙ by n)) where
        by : (n : Name) → (page_at n || (is_block n && is_doomed p.desks n)) ≡ (is_block n && is_marked n)
        by (Entry i) = ap (λ b. b || false) (no_page (Entry i) refl)
        by (Part f l i) = ap (λ b. b || false) (no_page (Part f l i) refl)
        by (Block f i) = ap (λ b. b || is_doomed p.desks (Block f i)) (page_is (held_page p.pages (Block f i)))

  blocks_apart : (n : Name) → page_at n ≡ true → is_doomed p.desks n ≡ false
  blocks_apart (Entry i) on = absurd (true≢false (sym on ∙ no_page (Entry i) refl))
  blocks_apart (Part f l i) on = absurd (true≢false (sym on ∙ no_page (Part f l i) refl))
  blocks_apart (Block f i) on = off_if (is_doomed p.desks (Block f i)) (λ doomed.
      let l = listed (Block f i) in
      true≢false (sym (l.dirty (sym (page_is (held_page p.pages (Block f i))) ∙ on)) ∙ l.doomed doomed))

  blocks_once : AreSeveral AnyName blocks
  blocks_once = several_both (dirty_names page_dirty p.pages.pages) (filter is_block p.desks.doomed)
      (dirty_once page_dirty p.pages.pages pages.once) (kind_once is_block p.desks.doomed desks.once)
      (λ n e. kind_listed is_block n p.desks.doomed ∙ off_both (is_block n) (is_doomed p.desks n) (blocks_apart n (sym (dirty_listed page_dirty n p.pages.pages pages.once) ∙ e)))

  blocks_counted : length blocks ≡ marked_blocks p
  blocks_counted = length-append (dirty_names page_dirty p.pages.pages) (filter is_block p.desks.doomed)
      ∙ (ap (λ k. k + length (filter is_block p.desks.doomed)) (dirty_counted page_dirty p.pages.pages)
      ∙ ap (λ k. dirty_pages p.pages + k) (length-filter is_block p.desks.doomed))

  pub so_many_blocks : AreSoMany (marked_blocks p) (IsMarkedBlock (pool_view key p))
  so_many_blocks = subst (λ k. AreSoMany k (IsMarkedBlock (pool_view key p))) blocks_counted
      (listed_so_many (IsMarkedBlock (pool_view key p)) blocks blocks_once
      (λ n h. blocks_are n ∙ both_on (is_block n) (is_marked n) h.0 h.1)
      (λ n e. both_parts (is_block n) (is_marked n) (sym (blocks_are n) ∙ e)))

  -- ---- nodes

  abbrev node_at : Name → Bool
  node_at n = dirty_at node_dirty (held_node p.nodes n)

  abbrev nodes : List Name
  nodes = dirty_names node_dirty p.nodes.nodes ++ filter is_node p.desks.doomed

  node_is : (z : Option Held) → dirty_at node_dirty z ≡ dirty_in z
  node_is None = refl
  node_is (Some h) = refl

  no_node : (f : FileId) (i : ℕ) → node_at (Block f i) ≡ false
  no_node f i = by (held_node p.nodes (Block f i)) refl where
    by : (z : Option Held) → held_node p.nodes (Block f i) ≡ z → dirty_at node_dirty z ≡ false
    by None e = refl
    by (Some h) e = absurd (node_no_block h.node f i (cache.own (Block f i) h e))

  nodes_are : (n : Name) → list_any (same_name n) nodes ≡ (not (is_block n) && is_marked n)
  nodes_are n = list_any-append (same_name n) (dirty_names node_dirty p.nodes.nodes) (filter is_node p.desks.doomed)
      ∙ (ap (λ b. b || list_any (same_name n) (filter is_node p.desks.doomed)) (dirty_listed node_dirty n p.nodes.nodes cache.once)
      ∙ (ap (λ b. node_at n || b) (kind_listed is_node n p.desks.doomed) ∙ by n)) where
        by : (n : Name) → (node_at n || (not (is_block n) && is_doomed p.desks n)) ≡ (not (is_block n) && is_marked n)
        by (Entry i) = ap (λ b. b || is_doomed p.desks (Entry i)) (node_is (held_node p.nodes (Entry i)))
        by (Part f l i) = ap (λ b. b || is_doomed p.desks (Part f l i)) (node_is (held_node p.nodes (Part f l i)))
        by (Block f i) = ap (λ b. b || false) (no_node f i)

  nodes_apart : (n : Name) → node_at n ≡ true → is_doomed p.desks n ≡ false
  nodes_apart (Entry i) on = off_if (is_doomed p.desks (Entry i)) (λ doomed.
      let l = listed (Entry i) in
      true≢false (sym (l.dirty (sym (node_is (held_node p.nodes (Entry i))) ∙ on)) ∙ l.doomed doomed))
  nodes_apart (Part f l i) on = off_if (is_doomed p.desks (Part f l i)) (λ doomed.
      let m = listed (Part f l i) in
      true≢false (sym (m.dirty (sym (node_is (held_node p.nodes (Part f l i))) ∙ on)) ∙ m.doomed doomed))
  nodes_apart (Block f i) on = absurd (true≢false (sym on ∙ no_node f i))

  nodes_once : AreSeveral AnyName nodes
  nodes_once = several_both (dirty_names node_dirty p.nodes.nodes) (filter is_node p.desks.doomed)
      (dirty_once node_dirty p.nodes.nodes cache.once) (kind_once is_node p.desks.doomed desks.once)
      (λ n e. kind_listed is_node n p.desks.doomed ∙ off_both (not (is_block n)) (is_doomed p.desks n) (nodes_apart n (sym (dirty_listed node_dirty n p.nodes.nodes cache.once) ∙ e)))

  nodes_counted : length nodes ≡ marked_nodes p
  nodes_counted = length-append (dirty_names node_dirty p.nodes.nodes) (filter is_node p.desks.doomed)
      ∙ (ap (λ k. k + length (filter is_node p.desks.doomed)) (dirty_counted node_dirty p.nodes.nodes)
      ∙ ap (λ k. dirty_nodes p.nodes + k) (length-filter is_node p.desks.doomed))

  pub so_many_nodes : AreSoMany (marked_nodes p) (IsMarkedNode (pool_view key p))
  so_many_nodes = subst (λ k. AreSoMany k (IsMarkedNode (pool_view key p))) nodes_counted
      (listed_so_many (IsMarkedNode (pool_view key p)) nodes nodes_once
      (λ n h. nodes_are n ∙ both_on (not (is_block n)) (is_marked n) (not_off (is_block n) h.0) h.1)
      (λ n e. let b = both_parts (not (is_block n)) (is_marked n) (sym (nodes_are n) ∙ e) in (not_on (is_block n) b.0, b.1)))

pub marks_are_counted : MarksAreCounted
marks_are_counted key p cache pages desks listed = (so_many_blocks key p cache pages desks listed, so_many_nodes key p cache pages desks listed)
