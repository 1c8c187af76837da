-- The tables of which a plan on paths speaks, and what it lacks.
use Rattle.std.specs.Prelude.{◌≡◌, ◌⊎◌, ◌≤◌, ℕ, List, ◌∷◌, Some, IsSome}
use Rattle.iris_name.specs.declared.name.FileId.{FileId}
use Rattle.iris_name.specs.declared.name.Name.{Name}
use Rattle.iris_name.specs.declared.name.Name.TheVariants as name
use Rattle.iris_name.specs.declared.note.Expect.{Expect}
use Rattle.iris_node.specs.Trees.{Shown, IsTree}
use Rattle.iris_cache.specs.declared.held.Short.{Short}
use Rattle.iris_cache.specs.Needs.{Lacks, StopsOnNeed, StopsShort}
use Rattle.iris_cache.specs.Resident.{Resident}
use Rattle.iris_cache.specs.Drafted.{Drafted, seen}
use Rattle.iris_cache.specs.Pictures.{Drafts}
use Rattle.iris_plain.specs.declared.checks.Seen.{Seen}
use Rattle.iris_plain.specs.declared.checks.Seen.TheVariants.{ADirectory}
use Rattle.iris_treepaths.specs.Rows.{Row, HasRows}
use Rattle.iris_treepaths.specs.Ways.{IsNamed, along_name}
use Rattle.iris_treepaths.specs.Needs.{IsDirectory, IsMet}
use Rattle.iris_paths.specs.declared.resolving.Found.{Found}
use Rattle.iris_paths.specs.declared.resolving.Found.TheVariants.{At, Missing, ThroughFile}
use Rattle.iris_paths.specs.Resolving.{root_id, standing_at, Meets}

-- A cache with a draft pictures a table, in which each path meets what `met` says and the root is a directory.
pub record Pictured (key : List ℕ) (met : List (List ℕ) → Seen) (d : Drafted) (c : Resident) (old new : Shown) : Type 0 where
  pub was : IsTree old
  pub is : IsTree new
  pub drafts : Drafts old new d c
  pub top : standing_at new root_id ≡ ADirectory
  pub meets : Meets new key met

-- the entry of an id is seen, or it is that of a root
abbrev pub IsInSight : Drafted → Resident → FileId → Type 0
IsInSight d c id = 2 ≤ id.0 → IsSome (seen d c (name.Entry id))

-- what resolving comes to is in sight, and so is its directory
abbrev pub AreInSight : Drafted → Resident → Found → Type 0
AreInSight d c (At id parent) = IsInSight d c id × IsDirectory d c parent
AreInSight d c Missing = Unit {0}
AreInSight d c ThroughFile = Unit {0}

-- A name is met on going on by names from a directory: it is the directory's,
-- or that of a row met, in a directory that is followed, on going down towards the next name.
pub data IsAlong (t : Shown) (key : List ℕ) : FileId → List (List ℕ) → Name → Type 0 where
  nearby : (dir : FileId) (n : List ℕ) (ns : List (List ℕ)) (rows : List Row) (m : Name) → HasRows t key dir rows → IsMet dir (along_name n key rows) m → IsAlong t key dir (n ∷ ns) m
  further : (dir next : FileId) (n : List ℕ) (ns : List (List ℕ)) (rows : List Row) (m : Name)
      → HasRows t key dir rows → IsNamed rows n (Some next.0) → IsAlong t key next ns m → IsAlong t key dir (n ∷ ns) m

-- a name on the trail of a path: the root's, or one that is met on going from the root
abbrev pub IsOnTrail : List ℕ → List (List ℕ) → Shown → Name → Type 0
IsOnTrail key names t m = (m ≡ name.Entry root_id) ⊎ IsAlong t key root_id names m

-- every pictured table
abbrev pub every : Shown → Shown → Type 0
every old new = Unit {0}

-- A plan on paths lacks a name. It speaks of the tables of which `also` holds, and reaches there what `reached` says.
abbrev pub LacksPath : List ℕ → (Shown → Shown → Type 0) → (Shown → Name → Type 0) → Drafted → Resident → Name → Expect → Type 0
LacksPath key also reached d c = Lacks {W = List (List ℕ) → Seen} (λ old new met. Pictured key met d c old new × also old new) (λ new met n. reached new n) d c

-- why a plan that takes no memory stops: it lacks a name
abbrev pub IsPathLack : List ℕ → (Shown → Shown → Type 0) → (Shown → Name → Type 0) → Drafted → Resident → Short → Type 0
IsPathLack key also reached d c = StopsOnNeed (LacksPath key also reached d c)

-- why a plan stops: it lacks a name, or memory
abbrev pub IsPathShort : List ℕ → (Shown → Shown → Type 0) → (Shown → Name → Type 0) → Drafted → Resident → Short → Type 0
IsPathShort key also reached d c = StopsShort (LacksPath key also reached d c)
