-- What a request makes goes through.
use Rattle.std.specs.Prelude.{◌≡◌, ℕ, List, Bool, Some, if◌then◌else◌}
use Rattle.iris_name.specs.declared.name.FileId.{FileId}
use Rattle.iris_name.specs.declared.request.Request.{Request}
use Rattle.iris_name.specs.declared.request.Request.TheVariants.{Mkdir, Create}
use Rattle.iris_name.specs.Paths.{names_of}
use Rattle.iris_node.specs.Trees.{Shown, IsTree}
use Rattle.iris_node.specs.Unfolded.{id_of}
use Rattle.iris_cache.specs.Drafted.{Drafted}
use Rattle.iris_cache.specs.Pictures.{Drafts}
use Rattle.iris_cache.specs.Resident.{Resident}
use Rattle.iris_plain.specs.Routes.{parent, last}
use Rattle.iris_plain.specs.declared.checks.Seen.{Seen}
use Rattle.iris_shape.specs.Treap.{rows_with}
use Rattle.iris_treepaths.specs.Rows.{Row, HasRows, Rearranges, IsCountable}
use Rattle.iris_treepaths.specs.Ways.{is_row_before}
use Rattle.iris_paths.specs.declared.resolving.Found.TheVariants.{At}
use Rattle.iris_paths.specs.Making.{new_row, IsNew}
use Rattle.iris_paths.specs.Pictured.{Pictured}
use Rattle.iris_paths.specs.Resolving.{Resolves}
use Rattle.iris_rows.specs.Rows.{Table}
use Rattle.iris_plan_laws.specs.Begun.{PlanBegins, GoesThrough}

-- the request that makes a directory, or else a file
abbrev pub making : Bool → List ℕ → Request
making dir path = if dir then Mkdir path else Create path

-- what the plan that makes a row says at its end
abbrev pub SaysMade : List ℕ → List (List ℕ) → FileId → Bool → Drafted → Resident → Drafted → Type 0
SaysMade key names id dir d c e = (met : List (List ℕ) → Seen) (old new after : Shown) (folder above : FileId) (rows : List Row) → Pictured key met d c old new → IsNew id old new
    → Resolves new key (parent names) (At folder above) → HasRows new key folder rows → IsTree after → IsCountable after
    → Rearranges new after key folder rows (rows_with (is_row_before (last names)) (new_row id.0 (last names) dir) rows) → Drafts old after e c

-- a plan that makes a directory or a file under the next id goes through
abbrev pub MakesGoThrough : Type 0
MakesGoThrough = (order : List ℕ) (t : Table) (dir : Bool) (path : List ℕ) (names : List (List ℕ)) (d : Drafted) (c : Resident) (e : Drafted)
    → PlanBegins order t (making dir path) d c → names_of path ≡ Some names → SaysMade order names (id_of t.next) dir d c e → GoesThrough order t (making dir path) e c
