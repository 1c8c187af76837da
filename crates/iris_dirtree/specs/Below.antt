-- The walk at and below one of the roots.
use Rattle.std.specs.Prelude.{◌≡◌, ◌⊎◌, ℕ, Some}
use Rattle.iris_name.specs.declared.name.FileId.{FileId}
use Rattle.iris_name.specs.declared.name.Name.{Name}
use Rattle.iris_name.specs.declared.name.Name.TheVariants as name
use Rattle.iris_name.specs.declared.note.Expect.{Expect}
use Rattle.iris_node.specs.Trees.{Shown, IsTree}
use Rattle.iris_node.specs.Unfolded.{Unfolded, id_of}
use Rattle.iris_cache.specs.declared.held.Short.{Short}
use Rattle.iris_cache.specs.Needs.{Lacks, StopsOnNeed}
use Rattle.iris_cache.specs.Resident.{Resident}
use Rattle.iris_cache.specs.Drafted.{Drafted}
use Rattle.iris_cache.specs.Pictures.{Drafts}
use Rattle.iris_dirtree.specs.Places.{down_to}
use Rattle.iris_treepaths.specs.Ways.{Any}

-- A cache with a draft pictures a table whose entry of an id is this.
pub record RootIs (root : FileId) (d : Drafted) (c : Resident) (old new : Shown) (u : Unfolded) : Type 0 where
  pub was : IsTree old
  pub is : IsTree new
  pub drafts : Drafts old new d c
  pub live : new (name.Entry root) ≡ Some u

-- the root, or an entry met on going down from it to the block
abbrev pub IsOnWayToBlock : FileId → ℕ → Unfolded → Name → Type 0
IsOnWayToBlock root at u n = (n ≡ name.Entry root) ⊎ Any (λ i. n ≡ name.Entry (id_of i)) (down_to at u)

-- the search for a block below a root lacks a name
abbrev pub LacksBelow : FileId → Drafted → Resident → ℕ → Name → Expect → Type 0
LacksBelow root d c at = Lacks (RootIs root d c) (λ new u n. IsOnWayToBlock root at u n) d c

-- why the search stops
abbrev pub IsBelowLack : FileId → Drafted → Resident → ℕ → Short → Type 0
IsBelowLack root d c at = StopsOnNeed (LacksBelow root d c at)
