-- The marks of resident nodes, and the ways down from a node through what is resident.
use Rattle.std.specs.Prelude.{◌≡◌, true, false, IsSomeAnd}
use Rattle.iris_name.specs.declared.name.Name.{Name}
use Rattle.iris_node.specs.Trees.{Shown, IsTree}
use Rattle.iris_cache.specs.declared.held.Held.{Held}
use Rattle.iris_cache.specs.Applied.{IsSelfOrAncestor}
use Rattle.iris_cache.specs.Laws.{AreFormed}
use Rattle.iris_cache.specs.Pictures.{Holds, Pictures}
use Rattle.iris_cache.specs.Resident.{Resident, held_node, resident_parent}
use Rattle.iris_upkeep.specs.Children.{HasHash}
use Rattle.iris_upkeep.specs.declared.descent.What.{What}
use Rattle.iris_upkeep.specs.declared.descent.What.TheVariants.{Dirty, Unsettled}

-- a node is dirty, or unsettled
abbrev pub HasMark : What → Held → Type 0
HasMark Dirty h = h.dirty ≡ true
HasMark Unsettled h = h.settled ≡ false

-- a name is resident, and has the mark
abbrev pub IsMarked : What → Resident → Name → Type 0
IsMarked what c n = IsSomeAnd (held_node c n) (HasMark what)

-- the first name is resident, and its node holds a hash of the second
abbrev pub HoldsHashOf : Resident → Name → Name → Type 0
HoldsHashOf c p n = IsSomeAnd (held_node c p) (λ h. HasHash (Holds h.node n))

-- a cache pictures a tree, in which links lead to entries and sides to parts
abbrev pub PicturesTree : Resident → Type 0
PicturesTree c = (t : Shown) × Pictures t c × (IsTree t × AreFormed t)

-- going up from the first name through what is resident, one comes to the second
abbrev pub IsAtOrBelow : Resident → Name → Name → Type 0
IsAtOrBelow c q n = IsSelfOrAncestor (resident_parent c) q n
