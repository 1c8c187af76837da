-- The walk over all blocks, from the visible root and then from the trash.
use Rattle.std.specs.Prelude.{◌≡◌, ◌⊎◌, ◌-◌, ◌++◌, ℕ, List, [], ◌∷◌, Some, nat_lt, if◌then◌else◌}
use Rattle.iris_name.specs.declared.name.Name.{Name}
use Rattle.iris_name.specs.declared.name.Name.TheVariants as name
use Rattle.iris_name.specs.declared.note.Expect.{Expect}
use Rattle.iris_node.specs.Trees.{Shown, IsTree}
use Rattle.iris_node.specs.Unfolded.{Unfolded, Absent, Folder, Leaf, Even, Split, Stored, id_of, blocks}
use Rattle.iris_node.specs.Walk.{BlockAt, block_count, walk}
use Rattle.iris_cache.specs.declared.held.Short.{Short}
use Rattle.iris_cache.specs.Needs.{Lacks, StopsOnNeed}
use Rattle.iris_cache.specs.Resident.{Resident}
use Rattle.iris_cache.specs.Drafted.{Drafted}
use Rattle.iris_cache.specs.Pictures.{Drafts}
use Rattle.iris_treepaths.specs.Ways.{Any}

-- A cache with a draft pictures a table whose roots are these.
pub record Rooted (d : Drafted) (c : Resident) (old new : Shown) (root trash : Unfolded) : Type 0 where
  pub was : IsTree old
  pub is : IsTree new
  pub drafts : Drafts old new d c
  pub root_is : new (name.Entry (id_of 0)) ≡ Some root
  pub trash_is : new (name.Entry (id_of 1)) ≡ Some trash

-- all blocks
abbrev pub whole_walk : Unfolded → Unfolded → List BlockAt
whole_walk root trash = walk root ++ walk trash

-- the ids of the entries met on going down to the block at a place of the walk
abbrev pub down_to : ℕ → Unfolded → List ℕ
down_to at (Folder id label less more inside) =
    id ∷ (if nat_lt at (blocks less) then down_to at less else if nat_lt (at - blocks less) (blocks inside) then down_to (at - blocks less) inside else down_to (at - blocks less - blocks inside) more)
down_to at (Leaf id label less more size counter versions) =
    id ∷ (if nat_lt at (blocks less) then down_to at less else if nat_lt (at - blocks less) (block_count size) then [] else down_to (at - blocks less - block_count size) more)
down_to at Absent = []
down_to at (Even version) = []
down_to at (Split file level index low high) = []
down_to at (Stored version bytes) = []

-- the ids of the entries met on going down from the roots; where there is no such block, none
abbrev pub way_to : ℕ → Unfolded → Unfolded → List ℕ
way_to at root trash =
    if nat_lt at (blocks root) then down_to at root else if nat_lt (at - blocks root) (blocks trash) then down_to (at - blocks root) trash else []

-- one of the roots, or an entry met on going down to the block
abbrev pub IsOnWay : ℕ → Unfolded → Unfolded → Name → Type 0
IsOnWay at root trash n = (n ≡ name.Entry (id_of 0)) ⊎ ((n ≡ name.Entry (id_of 1)) ⊎ Any (λ i. n ≡ name.Entry (id_of i)) (way_to at root trash))

-- the search for a block of the walk lacks a name
abbrev pub LacksPlace : Drafted → Resident → ℕ → Name → Expect → Type 0
LacksPlace d c at = Lacks {W = Unfolded × Unfolded} (λ old new roots. Rooted d c old new roots.0 roots.1) (λ new roots n. IsOnWay at roots.0 roots.1 n) d c

-- why the search stops
abbrev pub IsPlaceLack : Drafted → Resident → ℕ → Short → Type 0
IsPlaceLack d c at = StopsOnNeed (LacksPlace d c at)
