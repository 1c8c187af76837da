-- The children of a node.
use Rattle.std.specs.Prelude.{◌≡◌, ◌⊎◌, Some}
use Rattle.iris_name.specs.declared.name.Hash32.{Hash32}
use Rattle.iris_name.specs.declared.name.Name.{Name}
use Rattle.iris_upkeep.specs.declared.children.Children.{Children}

-- some hash is held
abbrev pub HasHash : (Hash32 → Type 0) → Type 0
HasHash held = (x : Hash32) × held x

-- a name is among the children
abbrev pub HasChild : Children → Name → Type 0
HasChild c n = (c.left ≡ Some n) ⊎ ((c.right ≡ Some n) ⊎ (c.top ≡ Some n))
