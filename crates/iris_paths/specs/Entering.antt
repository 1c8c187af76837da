-- The directory at a path, and the place of a new name.
use Rattle.std.specs.Prelude.{◌≡◌, ◌<◌, ◌++◌, ℕ, List, length, Option, Some, None, false}
use Rattle.iris_name.specs.declared.name.FileId.{FileId}
use Rattle.iris_name.specs.declared.name.Name.{Name}
use Rattle.iris_name.specs.declared.request.PlainError.{PlainError}
use Rattle.iris_name.specs.declared.request.PlainError.TheVariants.{NotDir}
use Rattle.iris_node.specs.Trees.{Shown}
use Rattle.iris_cache.specs.Resident.{Resident}
use Rattle.iris_cache.specs.Drafted.{Drafted}
use Rattle.iris_plain.specs.declared.checks.Seen.{Seen}
use Rattle.iris_plain.specs.declared.checks.Seen.TheVariants.{ADirectory}
use Rattle.iris_plain.specs.Checks.{unresolved, then_error, error_if, is_file, no_place}
use Rattle.iris_plain.specs.Routes.{parent, last}
use Rattle.iris_treepaths.specs.Rows.{Row, HasRows}
use Rattle.iris_treepaths.specs.Ways.{IsNamed, along_name}
use Rattle.iris_treepaths.specs.Needs.{IsDirectory, IsMet}
use Rattle.iris_paths.specs.declared.resolving.Found.{Found}
use Rattle.iris_paths.specs.declared.resolving.Found.TheVariants.{At}
use Rattle.iris_paths.specs.declared.entering.Place.{Place}
use Rattle.iris_paths.specs.declared.entering.Place.TheVariants.{In, Not}
use Rattle.iris_paths.specs.Resolving.{root_id, standing_at, Leads, Resolves}
use Rattle.iris_paths.specs.Pictured.{Pictured, IsAlong, IsOnTrail}

-- why there is no directory, by what resolving meets
abbrev pub no_directory : Seen → Option PlainError
no_directory s = then_error (unresolved s) (error_if (is_file s) NotDir)

-- Resolving a path comes to a directory, and names that follow lead on from there.
pub record Enters (names : List (List ℕ)) (dir : FileId) (key : List ℕ) (met : List (List ℕ) → Seen) (new : Shown) : Type 0 where
  pub above : FileId
  pub leads : Resolves new key names (At dir above)
  pub stands : met names ≡ ADirectory
  pub folder : standing_at new dir ≡ ADirectory
  pub onward : (more : List (List ℕ)) (found : Found) → Resolves new key (names ++ more) found → Leads new key dir above more found
  pub along : (more : List (List ℕ)) (found : Found) → Resolves new key (names ++ more) found → (m : Name) → IsAlong new key dir more m → IsAlong new key root_id (names ++ more) m

-- the directory at a path, or why there is none
abbrev pub IsEntered : Drafted → Resident → List (List ℕ) → Place → Type 0
IsEntered d c names (In dir) = IsDirectory d c dir × ((key : List ℕ) (met : List (List ℕ) → Seen) (old new : Shown) → Pictured key met d c old new → Enters names dir key met new)
IsEntered d c names (Not e) = (key : List ℕ) (met : List (List ℕ) → Seen) (old new : Shown) → Pictured key met d c old new → no_directory (met names) ≡ Some e

-- A directory is the place of a new path.
pub record Welcomes (names : List (List ℕ)) (dir : FileId) (key : List ℕ) (met : List (List ℕ) → Seen) (new : Shown) : Type 0 where
  pub above : FileId
  pub leads : Resolves new key (parent names) (At dir above)
  -- it is the only one
  pub one : (other beyond : FileId) → Resolves new key (parent names) (At other beyond) → other ≡ dir
  pub allowed : no_place met false names ≡ None
  -- no row of it has the last name
  pub unnamed : (rows : List Row) → HasRows new key dir rows → IsNamed rows (last names) None
  pub along : (rows : List Row) (m : Name) → HasRows new key dir rows → IsMet dir (along_name (last names) key rows) m → IsOnTrail key names new m
  pub rows : List Row
  pub has : HasRows new key dir rows

-- the directory in which a new path is to stand, or why it can't
abbrev pub IsDestination : Drafted → Resident → List (List ℕ) → Place → Type 0
IsDestination d c names (In dir) = IsDirectory d c dir × (0 < length names) × ((key : List ℕ) (met : List (List ℕ) → Seen) (old new : Shown) → Pictured key met d c old new → Welcomes names dir key met new)
IsDestination d c names (Not e) = (key : List ℕ) (met : List (List ℕ) → Seen) (old new : Shown) → Pictured key met d c old new → no_place met false names ≡ Some e
