-- A row goes into the hand, where names lead then, and what a request moves goes through.
use Rattle.std.specs.Prelude.{◌≡◌, ◌<◌, ℕ, List, length, Some, None, false, if◌then◌else◌}
use Rattle.iris_name.specs.declared.name.FileId.{FileId}
use Rattle.iris_name.specs.declared.request.Request.TheVariants.{Rename}
use Rattle.iris_name.specs.Paths.{names_of}
use Rattle.iris_node.specs.Trees.{Shown}
use Rattle.iris_cache.specs.Drafted.{Drafted}
use Rattle.iris_cache.specs.Pictures.{Drafts}
use Rattle.iris_cache.specs.Resident.{Resident}
use Rattle.iris_plain.specs.Routes.{parent, last, is_front, is_at_or_under, rest}
use Rattle.iris_plain.specs.declared.checks.Seen.{Seen}
use Rattle.iris_treepaths.specs.Rows.{Row as TreeRow}
use Rattle.iris_paths.specs.declared.resolving.Found.TheVariants.{At}
use Rattle.iris_paths.specs.Making.{IsWhole}
use Rattle.iris_paths.specs.Moving.{Takes, Puts}
use Rattle.iris_paths.specs.Pictured.{Pictured}
use Rattle.iris_paths.specs.Resolving.{Resolves}
use Rattle.iris_rows.specs.Rows.{Rows, End, Row, Table, Taken, Here, met, find, at, without_row}
use Rattle.iris_rows.specs.Changes.{gone}
use Rattle.iris_rows.specs.Sound.{IsSound}
use Rattle.iris_forest.specs.Hands.{IsHeld}
use Rattle.iris_forest.specs.Places.{LeadsToDirectory}
use Rattle.iris_plan_laws.specs.Begun.{PlanBegins, GoesThrough}

-- the table whose row at a path is in hand
abbrev pub in_hand : List (List ℕ) → Taken → Table → Table
in_hand names x t = record { visible = gone names t; trash = t.trash; hand = Row x.id (last names) x.file x.inside End; next = t.next; age = t.age }

-- it comes from a sound table
abbrev pub HandsAreHeld : Type 0
HandsAreHeld = (t : Table) (names : List (List ℕ)) (x : Taken) → IsSound t → 0 < length names → met t names ≡ Here x → IsHeld (in_hand names x t)

-- what is left of the rows of the directory at a path without the row at another: that row stands below the directory, or elsewhere
abbrev pub left_below : List (List ℕ) → List (List ℕ) → Rows → Rows
left_below names taken rows = if is_front names taken then at (parent (rest names taken)) (without_row (last taken)) rows else rows

-- names that don't go through the row in hand lead on to the same directory, to what is left of its rows
abbrev pub NamesLeadOn : Type 0
NamesLeadOn = (t : Table) (taken names : List (List ℕ)) (x : Taken) (i : ℕ) (rows : Rows) → IsSound t → 0 < length taken → is_at_or_under taken names ≡ false
    → LeadsToDirectory t names i rows → LeadsToDirectory (in_hand taken x t) names i (left_below names taken rows)

-- a name that wasn't among the rows isn't among those that are left
abbrev pub NoNameComes : Type 0
NoNameComes = (names taken : List (List ℕ)) (name : List ℕ) (rows : Rows) → find name rows ≡ None → find name (left_below names taken rows) ≡ None

-- what the plan that moves a row says at its end
abbrev pub SaysMoved : List ℕ → List (List ℕ) → List (List ℕ) → Drafted → Resident → Drafted → Type 0
SaysMoved key from to d c e = (met : List (List ℕ) → Seen) (old new mid after : Shown) (id out into beyond : FileId) (x : TreeRow) (rows others : List TreeRow) → Pictured key met d c old new → IsWhole old
    → Resolves new key from (At id out) → Resolves new key (parent to) (At into beyond)
    → Takes key out (last from) x rows new mid → Puts key into (last to) x others mid after → Drafts old after e c

-- a plan that moves a row goes through
abbrev pub MovesGoThrough : Type 0
MovesGoThrough = (order : List ℕ) (t : Table) (from to : List ℕ) (olds news : List (List ℕ)) (d : Drafted) (c : Resident) (e : Drafted)
    → PlanBegins order t (Rename from to) d c → names_of from ≡ Some olds → names_of to ≡ Some news → SaysMoved order olds news d c e → GoesThrough order t (Rename from to) e c
