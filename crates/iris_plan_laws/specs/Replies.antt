-- What the plans that read paths answer is the table's reply.
use Rattle.std.specs.Prelude.{◌≡◌, ℕ, List, Some}
use Rattle.iris_name.specs.declared.request.Reply.{Reply}
use Rattle.iris_name.specs.declared.request.Reply.TheVariants.{Stat as StatIs}
use Rattle.iris_name.specs.declared.request.Request.TheVariants.{Stat, List as ListNames}
use Rattle.iris_name.specs.Paths.{names_of}
use Rattle.iris_node.specs.Trees.{Shown}
use Rattle.iris_cache.specs.Drafted.{Drafted}
use Rattle.iris_cache.specs.Resident.{Resident}
use Rattle.iris_plain.specs.declared.checks.Seen.{Seen}
use Rattle.iris_plain.specs.Checks.{unresolved, is_directory_seen, size_of}
use Rattle.iris_plain.specs.Steps.{Judged, PlainReplies}
use Rattle.iris_paths.specs.Entering.{no_directory}
use Rattle.iris_paths.specs.Listing.{IsListing}
use Rattle.iris_paths.specs.Pictured.{Pictured}
use Rattle.iris_rows.specs.Rows.{Table}
use Rattle.iris_rows.specs.View.{view}
use Rattle.iris_plan_laws.specs.Begun.{IsPictured}

-- what the plan that lists a directory says at its end
abbrev pub SaysListed : List ℕ → List (List ℕ) → List ℕ → Drafted → Resident → Reply → Type 0
SaysListed key names after d c reply = (met : List (List ℕ) → Seen) (old new : Shown) → Pictured key met d c old new → Judged (no_directory (met names)) (IsListing new key names after reply) reply

-- its answer is the table's
abbrev pub ListsAreReplies : Type 0
ListsAreReplies = (order : List ℕ) (t : Table) (path : List ℕ) (names : List (List ℕ)) (after : List ℕ) (d : Drafted) (c : Resident) (reply : Reply)
    → IsPictured order t d c → names_of path ≡ Some names → SaysListed order names after d c reply → PlainReplies (view t) (ListNames path after) reply

-- what the plan that looks at a path says at its end
abbrev pub SaysStat : List ℕ → List (List ℕ) → Drafted → Resident → Reply → Type 0
SaysStat key names d c reply = (met : List (List ℕ) → Seen) (old new : Shown) → Pictured key met d c old new
    → Judged (unresolved (met names)) (reply ≡ StatIs (is_directory_seen (met names)) (size_of (met names))) reply

-- its answer is the table's
abbrev pub StatsAreReplies : Type 0
StatsAreReplies = (order : List ℕ) (t : Table) (path : List ℕ) (names : List (List ℕ)) (d : Drafted) (c : Resident) (reply : Reply)
    → IsPictured order t d c → names_of path ≡ Some names → SaysStat order names d c reply → PlainReplies (view t) (Stat path) reply
