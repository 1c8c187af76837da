-- What a core keeps beside its notes, and when that agrees with a history.
use Rattle.std.specs.Prelude.{◌≡◌, ◌⊎◌, ◌||◌, ℕ, Bool, true, false, Some}
use Rattle.std.specs.Option.{option_map_or}
use Rattle.iris_cache.specs.declared.held.Held.{Held}
use Rattle.iris_cache.specs.Pictures.{IsHashOf, IsSettled}
use Rattle.iris_cache.specs.Resident.{held_node}
use Rattle.iris_file_rules.specs.FileTable.{files}
use Rattle.iris_file_rules.specs.Rules.{file_rules, files_after, shown_after, BadFiles, LegalFiles}
use Rattle.iris_invariant.specs.Agrees.{Agrees, View}
use Rattle.iris_invariant.specs.Bounds.{AtMost}
use Rattle.iris_invariant.specs.Evidence.{Evidence}
use Rattle.iris_invariant.specs.Knowledge.{IsMarkedBlock}
use Rattle.iris_invariant.specs.ParentLaws.{leads}
use Rattle.iris_invariant.specs.ParentsResident.{ParentsResident}
use Rattle.iris_mac.specs.declared.keys.Keys.{Keys}
use Rattle.iris_name.specs.declared.name.Hash32.{Hash32}
use Rattle.iris_name.specs.declared.name.Name.{Name}
use Rattle.iris_name.specs.declared.name.Name.TheVariants as name
use Rattle.iris_name.specs.History.{Past}
use Rattle.iris_name.specs.Names.{same_name}
use Rattle.iris_node.specs.Trees.{Shown, node_name}
use Rattle.iris_node.specs.Unfolded.{Unfolded, Absent, Folder, Leaf, Even, Split, Stored, id_of}
use Rattle.iris_pool.specs.Pool.{PoolState}
use Rattle.iris_pool.specs.View.{pool_view}
use Rattle.iris_requests.specs.declared.planned.Counters.{Counters}
use Rattle.iris_requests.specs.Planned.{IsShownBy}

-- The portal's keys; what is held, asked and out; the hashes kept of the entries of the visible root and of the trash; the next id
-- and the age.
pub record Standing : Type 0 where
  pub keys : Keys
  pub pool : PoolState
  pub visible : Hash32
  pub trash : Hash32
  pub counters : Counters

-- the same with another pool
abbrev pub with_pool : PoolState → Standing → Standing
with_pool p s = record s { pool = p }

-- as the invariant sees it
abbrev pub standing_view : Standing → View
standing_view s = pool_view s.keys.block s.pool

-- what is unfolded has this name
abbrev pub is_named : Unfolded → Name → Bool
is_named u n = option_map_or (λ m. same_name m n) (node_name u) false

-- a node of this name stands directly below
abbrev pub leads_to : Unfolded → Name → Bool
leads_to (Folder id label less more inside) n = is_named less n || is_named more n || is_named inside n
leads_to (Leaf id label less more size counter versions) n = is_named less n || is_named more n || is_named versions n
leads_to (Split file level index low high) n = is_named low n || is_named high n
leads_to Absent n = false
leads_to (Even version) n = false
leads_to (Stored version bytes) n = false

-- the hash that is kept of a root is its true one, where its entry isn't cached or is settled
abbrev pub HasRootHash : Shown → Standing → ℕ → Hash32 → Type 0
HasRootHash t s i x = IsSettled (held_node s.pool.nodes (name.Entry (id_of i))) → IsHashOf (t (name.Entry (id_of i))) x

-- What a core keeps says of a history whose session opened with so many notes before it.
pub record AgreesWith (opened : ℕ) (past : Past) (s : Standing) : Type 0 where
  -- marks, what is out, what is settled, and pins
  pub agrees : Agrees (files s.keys) (file_rules s.keys) opened past (standing_view s)
  -- cache and resident blocks show the table, and next id and age are its own
  pub shows : IsShownBy s.keys.order (files_after s.keys past) s.pool.nodes s.pool.pages s.counters
  pub visible : HasRootHash (shown_after s.keys past) s 0 s.visible
  pub trash : HasRootHash (shown_after s.keys past) s 1 s.trash
  -- every cached node is settled: hashes are made at once
  pub settled : (n : Name) (h : Held) → held_node s.pool.nodes n ≡ Some h → h.settled ≡ true
  -- the parent of a node that is being fetched is cached
  pub parents : ParentsResident (files s.keys) (leads leads_to) past (standing_view s)
  -- what is kept for a caller was got by it since its last call
  pub evidence : Evidence (files s.keys) past (standing_view s)
  -- at most 512 blocks are marked
  pub bound : AtMost 512 (IsMarkedBlock (standing_view s))

-- the history is bad, or legal and agreed with
abbrev pub StandsFor : ℕ → Past → Standing → Type 0
StandsFor opened past s = BadFiles s.keys past ⊎ (LegalFiles s.keys past × AgreesWith opened past s)
