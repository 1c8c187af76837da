-- When the index of links says how many links of the resident nodes lead to an entry.
use Rattle.std.specs.Prelude.{◌≡◌, ◌≤◌, ◌<◌, ◌^◌, ℕ, false, Option, Some, unwrap_or}
use Rattle.std.specs.Option.{option_map}
use Rattle.std.specs.Map.{values_of}
use Rattle.std.specs.List.{sum_by}
use Rattle.iris_name.specs.declared.name.FileId.{FileId}
use Rattle.iris_name.specs.declared.name.Name.{Name}
use Rattle.iris_node.specs.Rules.{most_level}
use Rattle.iris_node.specs.declared.node.Node.{Node}
use Rattle.iris_node.specs.declared.node.Node.TheVariants.{Entry, Part}
use Rattle.iris_links.specs.Links.{LinkIndex, linked_count, linked_sum, IsSameSum}
use Rattle.iris_links.specs.NodeLinks.{links_to, sum_to}
use Rattle.iris_cache.specs.declared.held.Held.{Held}
use Rattle.iris_cache.specs.Resident.{Resident, held_node}

abbrev pub links_in : FileId → Option Held → ℕ
links_in id h = unwrap_or (option_map (λ (g : Held). links_to id g.node) h) 0

-- how many links of the resident nodes lead to the entry of an id
abbrev pub resident_links : Resident → FileId → ℕ
resident_links c id = sum_by (λ (g : Held). links_to id g.node) (values_of c.nodes)

abbrev pub sums_in : FileId → Option Held → ℕ
sums_in id h = unwrap_or (option_map (λ (g : Held). sum_to id g.node) h) 0

-- the sum of the ids of the resident entries that have these links
abbrev pub resident_sum : Resident → FileId → ℕ
resident_sum c id = sum_by (λ (g : Held). sum_to id g.node) (values_of c.nodes)

-- an entry's id has 64 bits, and a part stands at a level of a version tree
abbrev pub IsInRanges : Node → Type 0
IsInRanges (Entry e) = e.id.0 < 2 ^ 64
IsInRanges (Part p) = (1 ≤ p.level) × (p.level ≤ most_level)

-- Unless it is partial, the index of links counts the links of the resident nodes by where they lead, and adds up whose they are.
pub record IsIndexed (c : Resident) (l : LinkIndex) : Type 0 where
  pub ranges : (n : Name) (h : Held) → held_node c n ≡ Some h → IsInRanges h.node
  pub counts : l.partial ≡ false → (id : FileId) → linked_count l id ≡ resident_links c id
  pub sums : l.partial ≡ false → (id : FileId) → IsSameSum (linked_sum l id) (resident_sum c id)
