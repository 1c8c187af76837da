-- A draft whose counts above a node are still the old ones.
use Rattle.std.specs.Prelude.{◌≡◌, ◌⊎◌, Option, Some, None, IsSome}
use Rattle.std.specs.Option.{option_map}
use Rattle.iris_name.specs.declared.name.Hash32.{Hash32}
use Rattle.iris_name.specs.declared.name.Name.{Name}
use Rattle.iris_node.specs.declared.node.Node.{Node}
use Rattle.iris_node.specs.Trees.{Shown, IsNodeName, IsParent, said}
use Rattle.iris_cache.specs.declared.draft.Change.{Change}
use Rattle.iris_cache.specs.Resident.{Resident, held_node}
use Rattle.iris_cache.specs.Drafted.{Drafted, drafted, known, seen}
use Rattle.iris_cache.specs.Pictures.{Pictures, IsLike, WasHash, Holds, parent_after}
use Rattle.iris_treepaths.specs.Counts.{count_of, with_blocks}
use Rattle.iris_treepaths.specs.Hands.{IsBelowHand, IsOut}
use Rattle.iris_treepaths.specs.Planted.{IsOver}
use Rattle.iris_treepaths.specs.Rows.{Row}

-- a name is the child's, or stands above it
abbrev pub IsUpFrom : Shown → Name → Name → Type 0
IsUpFrom t child n = (n ≡ child) ⊎ IsOver t n child

-- A cache pictures the table before, and with a draft over it the table made, in which a row may be in hand;
-- but what stands above the child still says what it said in `new`.
pub record Lags (old new made : Shown) (hand : Option Row) (child : Name) (d : Drafted) (c : Resident) : Type 0 where
  pub before : Pictures old c
  pub there : IsSome (seen d c child)
  pub above : (n : Name) (node : Node) → seen d c n ≡ Some node → IsOver made n child → IsLike (new n) node
  pub nodes : (n : Name) (node : Node) → seen d c n ≡ Some node → (IsOver made n child → ⊥) → IsLike (made n) node
  -- above the child nothing is other than in `new` but, in each node, the count of the one on the way
  pub counts : (p q : Name) → IsParent made p q → IsUpFrom made child q → said (made p) ≡ option_map (with_blocks q (count_of (made q))) (said (new p))
  pub hashes : (n m : Name) (node : Node) (h : Hash32) → seen d c n ≡ Some node → Holds node m h → WasHash old c m h
  pub parents : (n p : Name) (node : Node) → seen d c n ≡ Some node → IsParent made p n → (parent_after d c n ≡ Some p) × IsSome (seen d c p)
  pub tied : (n p : Name) (node : Node) → seen d c n ≡ Some node → parent_after d c n ≡ Some p → IsParent made p n ⊎ IsBelowHand hand p n
  pub hangs : (n p : Name) (node : Node) → seen d c n ≡ Some node → IsBelowHand hand p n → parent_after d c n ≡ Some p
  pub gone : (n : Name) → IsNodeName n → known d c n ≡ Some None → made n ≡ None
  pub away : (n : Name) → IsNodeName n → known d c n ≡ None → made n ≡ old n
  pub resident : (n : Name) (change : Change) → drafted d n ≡ Some change → IsSome (held_node c n) ⊎ (old n ≡ None)
  pub out : IsOut hand made
