-- What a walk down a version tree knows of the side that it reached.
use Rattle.std.specs.Prelude.{◌≡◌, ◌⊎◌, ◌+◌, ◌*◌, ◌<◌, ℕ, suc, Some}
use Rattle.iris_name.specs.declared.name.FileId.{FileId}
use Rattle.iris_name.specs.declared.name.Hash32.{Hash32}
use Rattle.iris_name.specs.declared.name.Name.{Name}
use Rattle.iris_name.specs.declared.name.Name.TheVariants as name
use Rattle.iris_node.specs.declared.node.Side.{Side}
use Rattle.iris_node.specs.declared.node.Side.TheVariants.{Fold as Same, Below}
use Rattle.iris_node.specs.declared.node.Node.{Node}
use Rattle.iris_shape.specs.Folds.{Fold, One, Two, folded}
use Rattle.iris_cache.specs.Resident.{Resident}
use Rattle.iris_cache.specs.Drafted.{Drafted, seen}
use Rattle.iris_cache.specs.Pictures.{Holds}

-- two halves
abbrev pub IsTwo : Fold → Type 0
IsTwo (One version) = ⊥
IsTwo (Two low high) = Unit {0}

-- a side as it is held of a fold
abbrev pub IsSideOf : Fold → Side → Type 0
IsSideOf (One v) (Same w) = w ≡ v
IsSideOf (One v) (Below h) = ⊥
IsSideOf (Two x y) (Same w) = ⊥
IsSideOf (Two x y) (Below h) = Unit {0}

-- the name of the part or the entry directly over a part
abbrev pub IsDirectlyOver : FileId → ℕ → ℕ → Name → Type 0
IsDirectlyOver file l i q = ((l ≡ 16) × (q ≡ name.Entry file)) ⊎ ((j : ℕ) × (l < 16) × (q ≡ name.Part file (suc l) j) × ((i ≡ 2 * j) ⊎ (i ≡ 2 * j + 1)))

-- a hash of a part is held by the part or entry over it, which is seen
pub record IsLinkedPart (d : Drafted) (c : Resident) (file : FileId) (l i : ℕ) (h : Hash32) : Type 0 where
  pub parent : Name
  pub node : Node
  pub is_seen : seen d c parent ≡ Some node
  pub holds : Holds node (name.Part file l i) h
  pub over : IsDirectlyOver file l i parent

abbrev pub IsLinkedSide : Drafted → Resident → FileId → ℕ → ℕ → Side → Type 0
IsLinkedSide d c file l i (Same w) = Unit {0}
IsLinkedSide d c file l i (Below h) = IsLinkedPart d c file l i h

-- a side that was reached stands for its fold, and is held by what is seen over it
pub record Reached (d : Drafted) (c : Resident) (file : FileId) (v : ℕ → ℕ) (l i : ℕ) (s : Side) : Type 0 where
  pub like : IsSideOf (folded v l i) s
  pub linked : IsLinkedSide d c file l i s
