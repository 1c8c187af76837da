-- What a draft shows of the parts under a part, while the versions of a range are set.
use Rattle.std.specs.Prelude.{◌≡◌, ◌⊎◌, ◌+◌, ◌*◌, ◌≤◌, ◌^◌, ℕ, suc, Option, Some, None, IsSome}
use Rattle.iris_name.specs.declared.name.FileId.{FileId}
use Rattle.iris_name.specs.declared.name.Hash32.{Hash32}
use Rattle.iris_name.specs.declared.name.Name.{Name}
use Rattle.iris_name.specs.declared.name.Name.TheVariants as name
use Rattle.iris_name.specs.declared.note.Expect.{Expect}
use Rattle.iris_name.specs.declared.note.Expect.TheVariants.{Hash}
use Rattle.iris_node.specs.declared.node.Side.{Side}
use Rattle.iris_node.specs.declared.node.Side.TheVariants.{Fold as Same, Below}
use Rattle.iris_node.specs.declared.node.Node.{Node}
use Rattle.iris_node.specs.declared.node.Node.TheVariants as node
use Rattle.iris_node.specs.Fields.{PartFields}
use Rattle.iris_shape.specs.Folds.{Fold, One, Two, folded}
use Rattle.iris_shape.specs.Sides.{part_of}
use Rattle.iris_cache.specs.declared.held.Held.{Held}
use Rattle.iris_cache.specs.declared.held.Short.{Short}
use Rattle.iris_cache.specs.declared.draft.Change.{Change}
use Rattle.iris_cache.specs.Needs.{StopsShort}
use Rattle.iris_cache.specs.Resident.{Resident, held_node}
use Rattle.iris_cache.specs.Drafted.{Drafted, drafted, known, known_by, there_by}
use Rattle.iris_node.specs.Trees.{Shown}
use Rattle.iris_cache.specs.Pictures.{Pictures, parent_by, Holds, WasHash}
use Rattle.iris_version_tree.specs.Needs.{Covers}
use Rattle.iris_version_tree.specs.Versions.{HadVersions}
use Rattle.iris_version_tree.specs.Reached.{IsTwo, IsSideOf, IsDirectlyOver, Reached}

-- the part of level k and index j lies in the range of that of level l and index i
pub record Within (l i k j : ℕ) : Type 0 where
  pub level : k ≤ l
  pub from : i * 2 ^ l ≤ j * 2 ^ k
  pub to : (j + 1) * 2 ^ k ≤ (i + 1) * 2 ^ l

abbrev pub IsPartWithin : FileId → ℕ → ℕ → Name → Type 0
IsPartWithin file l i (name.Entry e) = ⊥
IsPartWithin file l i (name.Block g p) = ⊥
IsPartWithin file l i (name.Part g k j) = (g ≡ file) × Within l i k j × (1 ≤ k)

-- two drafts differ in parts under one at most
abbrev pub DifferWithin : Drafted → Drafted → FileId → ℕ → ℕ → Type 0
DifferWithin old new file l i = (n : Name) → (IsPartWithin file l i n → ⊥) → drafted new n ≡ drafted old n

-- the halves of a part are those of a fold
abbrev pub AreHalves : Fold → PartFields → Type 0
AreHalves (One v) p = ⊥
AreHalves (Two a b) p = IsSideOf a p.low × IsSideOf b p.high

-- the part of a level and an index, with the halves of a fold
pub record IsPartWith (file : FileId) (l i : ℕ) (g : Fold) (p : PartFields) : Type 0 where
  pub file_is : p.file ≡ file
  pub level_is : p.level ≡ l
  pub index_is : p.index ≡ i
  pub halves : AreHalves g p

abbrev pub IsNodeWith : FileId → ℕ → ℕ → Fold → Node → Type 0
IsNodeWith file l i g (node.Entry e) = ⊥
IsNodeWith file l i g (node.Part p) = IsPartWith file l i g p

-- What stands at a part's name, by what the draft changes of it and what is held of it: the part of this fold.
pub record AtPart (old : Shown) (c : Resident) (file : FileId) (l i : ℕ) (g : Fold) (o : Option Change) (w : Option Held) : Type 0 where
  pub node : (n : Node) → there_by (known_by o w) ≡ Some n → IsNodeWith file l i g n
  pub hashes : (n : Node) (m : Name) (x : Hash32) → there_by (known_by o w) ≡ Some n → Holds n m x → WasHash old c m x
  pub over : (n : Node) → there_by (known_by o w) ≡ Some n → (q : Name) × (parent_by o w ≡ Some q) × IsDirectlyOver file l i q
  pub gone : known_by o w ≡ Some None → IsTwo g → ⊥
  pub away : known_by o w ≡ None → part_of file.0 l i g ≡ old (name.Part file l i)
  pub resident : (x : Change) → o ≡ Some x → IsSome w ⊎ (old (name.Part file l i) ≡ None)

-- the parts at and under one are those of these versions
pub record Under (old : Shown) (v : ℕ → ℕ) (d : Drafted) (c : Resident) (file : FileId) (l i : ℕ) : Type 0 where
  pub parts : (k j : ℕ) → 1 ≤ k → Within l i k j → AtPart old c file k j (folded v k j) (drafted d (name.Part file k j)) (held_node c (name.Part file k j))

-- a side stands for its fold, and a hash in it was its part's before
pub record SideAt (old : Shown) (c : Resident) (file : FileId) (v : ℕ → ℕ) (l i : ℕ) (s : Side) : Type 0 where
  pub like : IsSideOf (folded v l i) s
  pub hash : (h : Hash32) → s ≡ Below h → WasHash old c (name.Part file l i) h

-- where a side is a hash, its part is seen, or was taken away
abbrev pub IsKnownBelow : Side → Option (Option Node) → Type 0
IsKnownBelow (Same w) o = Unit {0}
IsKnownBelow (Below h) o = IsSome o

-- a part under one that covers a place of a range is linked and missing
pub record Missing (d : Drafted) (c : Resident) (file : FileId) (l i : ℕ) (s : Side) (low high : ℕ) (n : Name) (x : Expect) : Type 0 where
  pub level : ℕ
  pub index : ℕ
  pub hash : Hash32
  pub named : n ≡ name.Part file level index
  pub expected : x ≡ Hash hash
  pub some : 1 ≤ level
  pub within : Within l i level index
  pub covers : Covers level index low high
  pub missing : known d c (name.Part file level index) ≡ None
  pub reached : (old : Shown) (v : ℕ → ℕ) → Under old v d c file l i → Reached d c file v l i s → Reached d c file v level index (Below hash)

-- why a range isn't set
abbrev pub IsMissing : Drafted → Resident → FileId → ℕ → ℕ → Side → ℕ → ℕ → Short → Type 0
IsMissing d c file l i s low high = StopsShort (Missing d c file l i s low high)

-- Two halves of versions w are joined to one side, where versions v stood.
abbrev pub Joins : Shown → Drafted → Drafted → Resident → FileId → (ℕ → ℕ) → (ℕ → ℕ) → ℕ → ℕ → Side → Side → Side → Side → Type 0
Joins old d e c file v w l i was low high made = (k : ℕ) → l ≡ suc k → Pictures old c → HadVersions old file
    → AtPart old c file l i (folded v l i) (drafted d (name.Part file l i)) (held_node c (name.Part file l i)) → SideAt old c file v l i was → IsKnownBelow was (known d c (name.Part file l i))
    → SideAt old c file w k (2 * i) low → SideAt old c file w k (2 * i + 1) high
    → AtPart old c file l i (folded w l i) (drafted e (name.Part file l i)) (held_node c (name.Part file l i)) × SideAt old c file w l i made

-- Of a draft whose parts under one are those of versions v, one was made whose are those of versions w.
abbrev pub Turns : Shown → Drafted → Drafted → Resident → FileId → (ℕ → ℕ) → (ℕ → ℕ) → ℕ → ℕ → Side → Side → Type 0
Turns old d e c file v w l i was made = Pictures old c → HadVersions old file → Under old v d c file l i → SideAt old c file v l i was → Under old w e c file l i × SideAt old c file w l i made
