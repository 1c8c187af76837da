-- What a plan on a directory lacks.
use Rattle.std.specs.Prelude.{◌≡◌, ◌⊎◌, ◌≤◌, ℕ, List, Option, Some, None}
use Rattle.iris_name.specs.declared.name.FileId.{FileId}
use Rattle.iris_name.specs.declared.name.Name.{Name}
use Rattle.iris_name.specs.declared.name.Name.TheVariants as name
use Rattle.iris_name.specs.declared.note.Expect.{Expect}
use Rattle.iris_node.specs.declared.node.Body.{Body}
use Rattle.iris_node.specs.declared.node.Body.TheVariants.{Dir, File}
use Rattle.iris_node.specs.declared.node.Node.{Node}
use Rattle.iris_node.specs.declared.node.Node.TheVariants as node
use Rattle.iris_node.specs.Trees.{Shown, IsTree}
use Rattle.iris_node.specs.Unfolded.{id_of}
use Rattle.iris_cache.specs.declared.held.Short.{Short}
use Rattle.iris_cache.specs.Resident.{Resident}
use Rattle.iris_cache.specs.Drafted.{Drafted, seen}
use Rattle.iris_cache.specs.Needs.{Lacks, StopsOnNeed, StopsShort}
use Rattle.iris_cache.specs.Laws.{AreFormed}
use Rattle.iris_cache.specs.Pictures.{Drafts}
use Rattle.iris_treepaths.specs.Rows.{Row, HasRows, IsRooted}
use Rattle.iris_treepaths.specs.Hands.{Holding}
use Rattle.iris_treepaths.specs.Ways.{Any}

abbrev pub IsDirBody : Body → Type 0
IsDirBody (Dir top) = Unit {0}
IsDirBody (File size counter versions) = ⊥

abbrev pub IsDirNode : Option Node → Type 0
IsDirNode None = ⊥
IsDirNode (Some (node.Part p)) = ⊥
IsDirNode (Some (node.Entry e)) = IsDirBody e.body

-- the entry of a directory is in draft or cache; those of the roots may be absent
abbrev pub IsDirectory : Drafted → Resident → FileId → Type 0
IsDirectory d c dir = 2 ≤ dir.0 → IsDirNode (seen d c (name.Entry dir))

-- A cache with a draft pictures a table in which a directory has these rows.
pub record Listed (key : List ℕ) (dir : FileId) (d : Drafted) (c : Resident) (old new : Shown) (rows : List Row) : Type 0 where
  pub was : IsTree old
  pub is : IsTree new
  pub drafts : Drafts old new d c
  pub rows_are : HasRows new key dir rows

-- The same with a row in hand.
pub record ListedInHand (key : List ℕ) (dir : FileId) (x : Row) (d : Drafted) (c : Resident) (old new : Shown) (rows : List Row) : Type 0 where
  pub was : IsTree old
  pub rooted : IsRooted old
  pub formed : AreFormed old
  pub is : IsTree new
  pub hand : Holding old new (Some x) d c
  pub rows_are : HasRows new key dir rows

-- the name of the directory's entry, or of one of the rows that are met
abbrev pub IsMet : FileId → List Row → Name → Type 0
IsMet dir met n = (n ≡ name.Entry dir) ⊎ Any (λ (r : Row). n ≡ name.Entry (id_of r.id)) met

-- A plan on a directory lacks a name. `pictured` says of which tables it speaks, and `met` which rows it meets.
abbrev pub LacksMet : (Shown → Shown → List Row → Type 0) → (List Row → List Row) → Drafted → Resident → FileId → Name → Expect → Type 0
LacksMet pictured met d c dir = Lacks pictured (λ new rows n. IsMet dir (met rows) n) d c

-- why a plan that takes no memory stops: it lacks a name
abbrev pub IsMetLack : (Shown → Shown → List Row → Type 0) → (List Row → List Row) → Drafted → Resident → FileId → Short → Type 0
IsMetLack pictured met d c dir = StopsOnNeed (LacksMet pictured met d c dir)

-- why a plan stops: it lacks a name, or memory
abbrev pub IsMetShort : (Shown → Shown → List Row → Type 0) → (List Row → List Row) → Drafted → Resident → FileId → Short → Type 0
IsMetShort pictured met d c dir = StopsShort (LacksMet pictured met d c dir)
