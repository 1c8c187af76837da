-- Where a way down a table has come.
use Rattle.std.specs.Prelude.{◌≡◌, ◌+◌, ◌<◌, ℕ, zero, suc, Option, Some, None, IsSome}
use Rattle.iris_name.specs.declared.name.Name.{Name}
use Rattle.iris_name.specs.declared.name.Name.TheVariants as name
use Rattle.iris_name.specs.declared.note.Expect.TheVariants.{Hash}
use Rattle.iris_node.specs.declared.node.Link.{Link}
use Rattle.iris_node.specs.declared.node.Node.{Node}
use Rattle.iris_node.specs.Local.{led, led_by}
use Rattle.iris_node.specs.Trees.{Shown}
use Rattle.iris_node.specs.Unfolded.{Unfolded, Absent, Folder, Leaf, Even, Split, Stored}
use Rattle.iris_cache.specs.Resident.{Resident}
use Rattle.iris_cache.specs.Drafted.{Drafted, seen, known}
use Rattle.iris_cache.specs.Needs.{IsWanted}

-- how many nodes stand at and below one
abbrev pub size : Unfolded → ℕ
size (Folder id label less more inside) = suc (size less + (size more + size inside))
size (Leaf id label less more length counter versions) = suc (size less + (size more + size versions))
size (Split file level index low high) = suc (size low + size high)
size Absent = zero
size (Even version) = zero
size (Stored version bytes) = zero

-- so many seen nodes were met, each smaller than the one met before it, and each larger than a size
abbrev pub MetInOrder : Shown → (Name → Option Node) → ℕ → ℕ → Type 0
MetInOrder t s zero v = Unit {0}
MetInOrder t s (suc k) v = (n : Name) × (u : Unfolded) × (t n ≡ Some u) × IsSome (s n) × (v < size u) × MetInOrder t s k (size u)

-- a link leads here: it is live, and where it is missing it is wanted with the link's hash
pub record Stand (old new : Shown) (d : Drafted) (c : Resident) (u : Unfolded) (l : Link) : Type 0 where
  pub live : new (name.Entry l.id) ≡ Some u
  pub wanted : known d c (name.Entry l.id) ≡ None → IsWanted old new c (name.Entry l.id) (Hash l.hash)

-- what a link that may be there leads to, after so many nodes
pub record Way (old new : Shown) (d : Drafted) (c : Resident) (u : Unfolded) (at : Option Link) (k : ℕ) : Type 0 where
  pub leads : led_by at ≡ led u
  pub stands : (l : Link) → at ≡ Some l → Stand old new d c u l
  pub past : MetInOrder new (seen d c) k (size u)
