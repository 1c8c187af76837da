-- What is done by name to nodes or blocks, whichever the name is of.
use Rattle.std.specs.Prelude.{◌≡◌, ◌&&◌, ℕ, Bool, not, List, Option, Some, is_some, if◌then◌else◌}
use Rattle.iris_blocks.specs.declared.held.PageHeld.{PageHeld}
use Rattle.iris_blocks.specs.Held.{finished_page, newcomer_page}
use Rattle.iris_blocks.specs.Paged.{Paged, held_page}
use Rattle.iris_cache.specs.declared.held.Held.{Held}
use Rattle.iris_cache.specs.Held.{finished_node, kid_more, newcomer_node, points}
use Rattle.iris_cache.specs.Resident.{Resident, children, held_node, map_if}
use Rattle.iris_history.specs.Kept.{is_block}
use Rattle.iris_name.specs.declared.name.Name.{Name}
use Rattle.iris_name.specs.Names.{same_name}
use Rattle.iris_node.specs.declared.node.Node.{Node}

-- whether a node's name is this one
abbrev pub is_node_at : Name → Name → Bool
is_node_at n q = not (is_block q) && same_name n q

-- whether a block's name is this one
abbrev pub is_block_at : Name → Name → Bool
is_block_at n q = is_block q && same_name n q

-- a node is changed by f if the name is a node's, and nothing else
abbrev pub NodeChanges : Resident → Resident → Name → (Held → Held) → Type 0
NodeChanges old new n f = (q : Name) → held_node new q ≡ map_if (is_node_at n q) f (held_node old q)

-- a block is changed by f if the name is a block's, and nothing else
abbrev pub BlockChanges : Paged → Paged → Name → (PageHeld → PageHeld) → Type 0
BlockChanges old new n f = (q : Name) → held_page new q ≡ map_if (is_block_at n q) f (held_page old q)

-- what is out for a node, as far as the cache knows of it, ends
abbrev pub ended_node : Bool → Held → Held
ended_node clean h = if is_some h.out then finished_node clean h else h

-- the same of a block
abbrev pub ended_page : Bool → PageHeld → PageHeld
ended_page clean h = if is_some h.out then finished_page clean h else h

-- a node comes below its parent, pinned for a caller
abbrev pub IsComeNode : Resident → Resident → ℕ → Option Name → Name → Node → Type 0
IsComeNode old new who parent n node = (q : Name) → held_node new q ≡ map_if (points parent q) kid_more (if same_name n q then Some (newcomer_node parent node who (children old n)) else held_node old q)

-- a page comes, pinned for a caller
abbrev pub IsComePage : Paged → Paged → ℕ → Name → ℕ → List ℕ → Type 0
IsComePage old new who n version page = (q : Name) → held_page new q ≡ (if same_name n q then Some (newcomer_page version page who) else held_page old q)
