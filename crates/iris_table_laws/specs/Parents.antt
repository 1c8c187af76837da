-- The laws of parents: what a sound table shows is a tree below each of its two roots.
use Rattle.std.specs.Prelude.{◌≡◌, ◌⊎◌, ℕ, List, Some}
use Rattle.iris_name.specs.declared.name.Name.{Name}
use Rattle.iris_node.specs.Trees.{IsNodeName, IsParent, IsTree, IsRootName}
use Rattle.iris_node.specs.Unfolded.{Unfolded}
use Rattle.iris_rows.specs.Rows.{Table}
use Rattle.iris_records.specs.Shown.{shown}
use Rattle.iris_rows.specs.Sound.{IsSound}

-- in a sound table each node stands under its own name, what stands below it is live, and it has one parent
abbrev pub OneParent : Type 0
OneParent = (order : List ℕ) (t : Table) → IsSound t → IsTree (shown order t)

-- a live node that is no root has a parent
abbrev pub NodesHaveParents : Type 0
NodesHaveParents = (order : List ℕ) (t : Table) (n : Name) (u : Unfolded) → IsSound t → shown order t n ≡ Some u → IsNodeName n
    → IsRootName n ⊎ ((p : Name) × IsParent (shown order t) p n)

-- a root has none
abbrev pub RootsHaveNone : Type 0
RootsHaveNone = (order : List ℕ) (t : Table) (p n : Name) → IsSound t → IsRootName n → IsParent (shown order t) p n → ⊥
