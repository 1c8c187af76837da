-- What leads to a name, as a statement.
use Rattle.std.specs.Prelude.{◌≡◌, ◌↔◌, true, Some}
use Rattle.iris_name.specs.declared.name.Name.{Name}
use Rattle.iris_node.specs.Trees.{Shown, IsParent}
use Rattle.iris_node.specs.Unfolded.{Unfolded}
use Rattle.iris_standing.specs.Standing.{leads_to}

-- what a live name stands for leads to its children, and to nothing else
abbrev pub LinksLead : Type 0
LinksLead = (t : Shown) (p n : Name) (u : Unfolded) → t p ≡ Some u → (leads_to u n ≡ true) ↔ IsParent t p n
