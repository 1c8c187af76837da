-- How a plan begins for a request that a table accepts, and what it is to leave.
use Rattle.std.specs.Prelude.{◌≡◌, ℕ, List, Some, None}
use Rattle.iris_name.specs.declared.name.Name.{Name}
use Rattle.iris_name.specs.declared.request.Request.{Request}
use Rattle.iris_name.specs.Paths.{names_of}
use Rattle.iris_cache.specs.Drafted.{Drafted, drafted}
use Rattle.iris_cache.specs.Pictures.{Pictures, Drafts}
use Rattle.iris_cache.specs.Resident.{Resident}
use Rattle.iris_rows.specs.Rows.{File, Rows, Table, Here, met}
use Rattle.iris_rows.specs.Changes.{stepped, table_verdict}
use Rattle.iris_records.specs.Shown.{shown}
use Rattle.iris_rows.specs.Sound.{IsSound}

-- The cache alone pictures a sound table: the draft is empty.
pub record IsPictured (order : List ℕ) (t : Table) (d : Drafted) (c : Resident) : Type 0 where
  pub sound : IsSound t
  pub pictures : Pictures (shown order t) c
  pub empty : (n : Name) → drafted d n ≡ None

-- It pictures a table that accepts a request.
pub record PlanBegins (order : List ℕ) (t : Table) (request : Request) (d : Drafted) (c : Resident) : Type 0 where
  pub pictured : IsPictured order t d c
  pub accepted : table_verdict t request ≡ None

-- the draft pictures the table after the request
abbrev pub GoesThrough : List ℕ → Table → Request → Drafted → Resident → Type 0
GoesThrough order t request e c = Drafts (shown order t) (shown order (stepped t request)) e c

-- A path's text leads to a file of this id.
pub record IsAtFile (t : Table) (path : List ℕ) (i : ℕ) (f : File) : Type 0 where
  pub names : List (List ℕ)
  pub spelled : names_of path ≡ Some names
  pub inside : Rows
  pub leads : met t names ≡ Here (record { id = i; file = Some f; inside = inside })
