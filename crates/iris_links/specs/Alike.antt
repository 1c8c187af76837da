-- When the links of two nodes lead alike.
use Rattle.std.specs.Prelude.{◌≡◌, Option, Some, None}
use Rattle.iris_name.specs.declared.name.FileId.{FileId}
use Rattle.iris_node.specs.declared.node.Link.{Link}
use Rattle.iris_node.specs.declared.node.Node.{Node}
use Rattle.iris_node.specs.declared.node.Node.TheVariants.{Entry, Part}
use Rattle.iris_links.specs.NodeLinks.{link_inside}

-- where a link leads
abbrev pub target_of : Option Link → Option FileId
target_of None = None
target_of (Some l) = Some l.id

-- both nodes are of one entry, and each link of the one leads where that of the other does; or both are parts
abbrev pub LeadAlike : Node → Node → Type 0
LeadAlike (Entry e) (Entry f) = (e.id ≡ f.id) × (target_of e.left ≡ target_of f.left) × (target_of e.right ≡ target_of f.right) × (target_of (link_inside e.body) ≡ target_of (link_inside f.body))
LeadAlike (Part p) (Part q) = Unit {0}
LeadAlike (Entry e) (Part q) = ⊥
LeadAlike (Part p) (Entry f) = ⊥
