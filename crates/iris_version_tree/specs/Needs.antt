-- What a plan on versions lacks, and what it finds.
use Rattle.std.specs.Prelude.{◌≡◌, ◌≢◌, ◌+◌, ◌<◌, ◌≤◌, ℕ, Option, Some, None}
use Rattle.iris_name.specs.declared.name.FileId.{FileId}
use Rattle.iris_name.specs.declared.name.Name.{Name}
use Rattle.iris_name.specs.declared.name.Name.TheVariants as name
use Rattle.iris_name.specs.declared.note.Expect.{Expect}
use Rattle.iris_node.specs.declared.node.Side.{Side}
use Rattle.iris_node.specs.Fields.{EntryFields}
use Rattle.iris_version_tree.specs.Sides.{entry_with}
use Rattle.iris_node.specs.declared.node.Node.{Node}
use Rattle.iris_node.specs.declared.node.Node.TheVariants as node
use Rattle.iris_shape.specs.FoldLaws.{IsUnder}
use Rattle.iris_cache.specs.declared.held.Short.{Short}
use Rattle.iris_cache.specs.Needs.{Lacks, StopsOnNeed, StopsShort}
use Rattle.iris_cache.specs.Resident.{Resident}
use Rattle.iris_cache.specs.Drafted.{Drafted, seen}
use Rattle.iris_node.specs.Trees.{Shown}
use Rattle.iris_version_tree.specs.Versions.{Versioned, places}
use Rattle.iris_node.specs.Rules.{IsFileBody}

abbrev pub IsFileNode : Option Node → Type 0
IsFileNode None = ⊥
IsFileNode (Some (node.Part p)) = ⊥
IsFileNode (Some (node.Entry e)) = IsFileBody e.body

-- the entry of a file is in draft or cache
abbrev pub IsFile : Drafted → Resident → FileId → Type 0
IsFile d c file = IsFileNode (seen d c (name.Entry file))

-- the entry of a file, seen with some side of all its versions
abbrev pub HasEntryWith : Drafted → Resident → FileId → EntryFields → Type 0
HasEntryWith d c file e = (s : Side) × (seen d c (name.Entry file) ≡ Some (node.Entry (entry_with s e)))

-- a part of a level and an index covers a place of a range
pub record Covers (level index low high : ℕ) : Type 0 where
  pub place : ℕ
  pub from : low ≤ place
  pub to : place < high
  pub under : IsUnder level index place

-- a name of a file's part that covers a place of a range
abbrev pub IsPartOver : FileId → ℕ → ℕ → Name → Type 0
IsPartOver file low high (name.Entry id) = ⊥
IsPartOver file low high (name.Part g level index) = (g ≡ file) × Covers level index low high
IsPartOver file low high (name.Block g place) = ⊥

-- A plan lacks a part that covers a place of a range.
abbrev pub LacksPartOver : {W : Type 0} → (Shown → Shown → W → Type 0) → FileId → ℕ → ℕ → Drafted → Resident → Name → Expect → Type 0
LacksPartOver pictured file low high d c n x = IsPartOver file low high n × Lacks pictured (λ t w m. Unit {0}) d c n x

-- a plan on a file's versions lacks a part
abbrev pub LacksPart : Drafted → Resident → FileId → ℕ → ℕ → Name → Expect → Type 0
LacksPart d c file low high = LacksPartOver {W = ℕ → ℕ} (λ old new v. Versioned old new file v d c) file low high d c

-- why a plan that takes no memory stops: it lacks a part
abbrev pub IsPartLack : Drafted → Resident → FileId → ℕ → ℕ → Short → Type 0
IsPartLack d c file low high = StopsOnNeed (LacksPart d c file low high)

-- why a plan stops: it lacks a part, or memory
abbrev pub IsPartShort : Drafted → Resident → FileId → ℕ → ℕ → Short → Type 0
IsPartShort d c file low high = StopsShort (LacksPart d c file low high)

-- these places are holes
abbrev pub AreHoles : (ℕ → ℕ) → ℕ → ℕ → Type 0
AreHoles v from to = (p : ℕ) → from ≤ p → p < to → v p ≡ 0

-- the least place from one on that isn't a hole, or none
abbrev pub IsFirstWritten : (ℕ → ℕ) → ℕ → Option ℕ → Type 0
IsFirstWritten v from None = AreHoles v from places
IsFirstWritten v from (Some p) = (from ≤ p) × (p < places) × (v p ≢ 0) × AreHoles v from p

-- A search from a place on lacks a part that covers a place; all places before it are holes.
pub record LacksFirst (d : Drafted) (c : Resident) (file : FileId) (from : ℕ) (n : Name) (x : Expect) : Type 0 where
  pub place : ℕ
  pub after : from ≤ place
  pub within : place < places
  pub holes : (old new : Shown) (v : ℕ → ℕ) → Versioned old new file v d c → AreHoles v from place
  pub lacks : LacksPart d c file place (place + 1) n x

-- why a search stops: it lacks a part
abbrev pub IsFirstLack : Drafted → Resident → FileId → ℕ → Short → Type 0
IsFirstLack d c file from = StopsOnNeed (LacksFirst d c file from)
