-- What a contract sees of one desk, and what each call makes of it.
use Rattle.std.specs.Prelude.{ℕ, ◌≤◌, Bool, not, if◌then◌else◌, List, [], ◌∷◌, ◌++◌, length, map, filter, All, Option, Some, None}
use Rattle.std.specs.List.{list_any, IsDistinct}
use Rattle.indexmap.specs.IndexSet.{insert_key}
use Rattle.iris_name.specs.Names.{same_name}
use Rattle.iris_name.specs.declared.name.Name.{Name}
use Rattle.iris_name.specs.declared.request.Request.{Request}
use Rattle.iris_desk.specs.declared.out.Out.{Out}
use Rattle.iris_desk.specs.Outs.{FitsDoing, touched_where}

-- the request that its caller asks, what is out for it, the oldest first, and the names that are kept for its call
pub record DeskState : Type 0 where
  pub request : Option Request
  pub out : List Out
  pub kept : List Name

-- nothing is asked, out or kept
abbrev pub empty_desk : DeskState
empty_desk = record { request = None; out = []; kept = [] }

-- whether a name is kept
abbrev pub keeps_name : DeskState → Name → Bool
keeps_name d n = list_any (same_name n) d.kept

-- this is asked, in place of what was
abbrev pub asked_desk : Request → DeskState → DeskState
asked_desk r d = record d { request = Some r }

-- the call is entered: nothing is asked any more, and no name is kept
abbrev pub entered_desk : DeskState → DeskState
entered_desk d = record d { request = None; kept = [] }

-- this begins, and goes last
abbrev pub begun_desk : Out → DeskState → DeskState
begun_desk o d = record d { out = d.out ++ o ∷ [] }

-- what is out for a name ends; with `keep` the name is kept then, once
abbrev pub ended_desk : Bool → Name → DeskState → DeskState
ended_desk keep n d = record d { out = filter (λ o. not (same_name n o.name)) d.out; kept = if keep then insert_key same_name d.kept n else d.kept }

-- what is out for a name is touched
abbrev pub touched_desk : Name → DeskState → DeskState
touched_desk n d = record d { out = map (touched_where n) d.out }

-- What every desk keeps.
pub record IsDeskSound (d : DeskState) : Type 0 where
  -- the fields of all that is out fit what is done
  pub fits : All FitsDoing d.out
  -- each name is out at most once
  pub once : IsDistinct same_name (map (λ o. o.name) d.out)
  -- each name is kept once
  pub kept : IsDistinct same_name d.kept

-- What a desk keeps in its fields: room for the name of each that is out.
pub record IsDeskKept (d : DeskState) (free : ℕ) : Type 0 where
  pub sound : IsDeskSound d
  pub room : length d.out ≤ free
