-- A row taken out of one directory and put into another under a new name.
use Rattle.std.specs.Prelude.{◌≡◌, ◌⊎◌, ◌<◌, ℕ, List, length, Option, Some, None, false}
use Rattle.iris_name.specs.declared.name.FileId.{FileId}
use Rattle.iris_name.specs.declared.name.Name.{Name}
use Rattle.iris_name.specs.declared.note.Expect.{Expect}
use Rattle.iris_name.specs.declared.request.PlainError.{PlainError}
use Rattle.iris_node.specs.Trees.{Shown, IsTree}
use Rattle.iris_shape.specs.Treap.{rows_with, rows_without}
use Rattle.iris_cache.specs.declared.held.Short.{Short}
use Rattle.iris_cache.specs.declared.held.Short.TheVariants.{Need, NoMemory}
use Rattle.iris_cache.specs.Resident.{Resident, held_node}
use Rattle.iris_cache.specs.Drafted.{Drafted, drafted}
use Rattle.iris_cache.specs.Pictures.{Drafts}
use Rattle.iris_plain.specs.declared.checks.Seen.{Seen}
use Rattle.iris_plain.specs.Checks.{unresolved, move_checks, no_place}
use Rattle.iris_plain.specs.Routes.{parent, last, is_top, is_front}
use Rattle.iris_treepaths.specs.Rows.{Row, HasRows, Rearranges, IsCountable}
use Rattle.iris_treepaths.specs.Ways.{Any, is_row_before, has_name, along_name, near_name}
use Rattle.iris_cache.specs.Needs.{IsWanted}
use Rattle.iris_treepaths.specs.Needs.{IsDirectory, Listed, IsMet, IsMetShort}
use Rattle.iris_paths.specs.declared.resolving.Found.TheVariants.{At}
use Rattle.iris_paths.specs.declared.entering.Place.{Place}
use Rattle.iris_paths.specs.declared.entering.Place.TheVariants.{In, Not}
use Rattle.iris_paths.specs.Resolving.{Resolves}
use Rattle.iris_paths.specs.Making.{IsWhole}
use Rattle.iris_paths.specs.Pictured.{Pictured, IsOnTrail, LacksPath, every}

-- a row under another name
abbrev pub renamed_row : List ℕ → Row → Row
renamed_row label r = record r { name = label }

-- The row x of a name goes from the rows of a directory: the second table is the first without it.
pub record Takes (key : List ℕ) (dir : FileId) (label : List ℕ) (x : Row) (rows : List Row) (t u : Shown) : Type 0 where
  pub has : HasRows t key dir rows
  pub among : Any (λ r. r ≡ x) rows
  pub named : x.name ≡ label
  pub tree : IsTree u
  pub countable : IsCountable u
  pub arranges : Rearranges t u key dir rows (rows_without (has_name label) rows)

-- The row x comes to the rows of a directory under a name: the second table is the first with it.
pub record Puts (key : List ℕ) (dir : FileId) (label : List ℕ) (x : Row) (rows : List Row) (t u : Shown) : Type 0 where
  pub has : HasRows t key dir rows
  pub tree : IsTree u
  pub countable : IsCountable u
  pub arranges : Rearranges t u key dir rows (rows_with (is_row_before label) (renamed_row label x) rows)

-- the directory out of which a path is to be moved to another, or why it can't, whatever the checks of the new name say
abbrev pub IsSource : Drafted → Resident → List (List ℕ) → List (List ℕ) → Place → Type 0
IsSource d c from to (In dir) = IsDirectory d c dir × (0 < length from) × (is_front from to ≡ false)
    × ((key : List ℕ) (met : List (List ℕ) → Seen) (old new : Shown) → Pictured key met d c old new
    → (unresolved (met from) ≡ None) × ((id out : FileId) → Resolves new key from (At id out) → out ≡ dir) × ((id : FileId) × Resolves new key from (At id dir)))
IsSource d c from to (Not e) = (key : List ℕ) (met : List (List ℕ) → Seen) (old new : Shown) → Pictured key met d c old new
    → (rest : Option PlainError) → move_checks (is_top from) (met from) (is_front from to) rest ≡ Some e

-- a name met on going down to the row at a path, and from it to its neighbours
pub record IsNear (key : List ℕ) (names : List (List ℕ)) (t : Shown) (n : Name) : Type 0 where
  pub id : FileId
  pub dir : FileId
  pub rows : List Row
  pub leads : Resolves t key names (At id dir)
  pub has : HasRows t key dir rows
  pub met : IsMet dir (near_name (last names) key rows) n

-- what is reached before the row is taken out: both trails, and what is near the row
abbrev pub IsMoved : List ℕ → List (List ℕ) → List (List ℕ) → Shown → Name → Type 0
IsMoved key from to t n = IsOnTrail key from t n ⊎ (IsOnTrail key to t n ⊎ IsNear key from t n)

-- a plan with the row of a name in hand lacks a name that is met on going down towards the new name
pub record LacksThen (key : List ℕ) (out : FileId) (name : List ℕ) (into : FileId) (label : List ℕ) (d : Drafted) (c : Resident) (n : Name) (x : Expect) : Type 0 where
  pub absent : held_node c n ≡ None
  pub needed : (old new mid : Shown) (row : Row) (rows others : List Row) → IsTree old → IsTree new → Drafts old new d c → IsWhole old → Takes key out name row rows new mid → HasRows mid key into others
      → (drafted d n ≡ None) × IsMet into (along_name label key others) n × IsWanted old mid c n x

-- why moving a row stops
abbrev pub IsCarryShort : List ℕ → FileId → List ℕ → FileId → List ℕ → Drafted → Resident → Short → Type 0
IsCarryShort key out name into label d c (Need n x) = IsMetShort (Listed key out d c) (near_name name key) d c out (Need n x) ⊎ LacksThen key out name into label d c n x
IsCarryShort key out name into label d c NoMemory = Unit {0}

-- The tables that a renaming speaks of: the row can be taken out.
pub record IsMovable (key : List ℕ) (from : List (List ℕ)) (old new : Shown) : Type 0 where
  pub whole : IsWhole old
  pub id : FileId
  pub out : FileId
  pub row : Row
  pub rows : List Row
  pub mid : Shown
  pub leads : Resolves new key from (At id out)
  pub takes : Takes key out (last from) row rows new mid

-- A renaming with the row in hand lacks a name. It is one of those that are reached before the row is taken out.
pub record LacksInHand (key : List ℕ) (from to : List (List ℕ)) (d : Drafted) (c : Resident) (n : Name) (x : Expect) : Type 0 where
  pub absent : held_node c n ≡ None
  -- no check stands against it
  pub passes : (met : List (List ℕ) → Seen) (old new : Shown) → Pictured key met d c old new → move_checks (is_top from) (met from) (is_front from to) (no_place met false to) ≡ None
  pub needed : (met : List (List ℕ) → Seen) (old new : Shown) → Pictured key met d c old new → (m : IsMovable key from old new) (into beyond : FileId) (others : List Row)
      → Resolves new key (parent to) (At into beyond) → HasRows m.mid key into others → (drafted d n ≡ None) × IsMoved key from to new n × IsWanted old new c n x

-- why a renaming stops
abbrev pub IsMoveShort : List ℕ → List (List ℕ) → List (List ℕ) → Drafted → Resident → Short → Type 0
IsMoveShort key from to d c (Need n x) = LacksPath key every (IsMoved key from to) d c n x ⊎ LacksInHand key from to d c n x
IsMoveShort key from to d c NoMemory = Unit {0}
