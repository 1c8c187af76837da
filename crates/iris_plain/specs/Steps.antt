-- The step of the plain state by a request, and the reply to it.
use Rattle.std.specs.Prelude.{◌≡◌, ℕ, ◌+◌, ◌==◌, List, [], ◌∷◌, ◌++◌, length, take, drop, Bool, Option, Some, None, if◌then◌else◌, is_none, is_some}
use Rattle.iris_name.specs.declared.request.PlainError.{PlainError}
use Rattle.iris_name.specs.declared.request.Request.{Request}
use Rattle.iris_name.specs.declared.request.Request.TheVariants.{Mkdir, Create, Write, Read, Resize, Stat, List as ListNames, Rename, Remove, Sync, Root, Reclaim, Probe}
use Rattle.iris_name.specs.declared.request.Reply.{Reply}
use Rattle.iris_name.specs.declared.request.Reply.TheVariants.{Done, Bytes as BytesAre, Names, Stat as StatIs, Plain}
use Rattle.iris_name.specs.Paths.{names_of}
use Rattle.iris_plain.specs.Pages.{IsPage}
use Rattle.iris_plain.specs.Checks.{verdict, is_full, is_directory_seen, size_of}
use Rattle.iris_plain.specs.Files.{Files, PlainState, seen_at, set, cleared, shifted, bytes_changed, wrote, resized_bytes}
use Rattle.iris_plain.specs.declared.files.Kind.{Kind}
use Rattle.iris_plain.specs.declared.files.Kind.TheVariants.{Dir, Bytes}

-- a change of the map adds 1 to the age
abbrev pub aged : (Files → Files) → PlainState → PlainState
aged change p = record { files = change p.files; age = p.age + 1 }

-- a change by the names of a path, none where there are none
abbrev pub by_names : {S : Type 0} → S → Option (List (List ℕ)) → (List (List ℕ) → S) → S
by_names s None change = s
by_names s (Some names) change = change names

-- what an accepted request changes
abbrev pub plain_change : PlainState → Request → PlainState
plain_change p (Mkdir path) = by_names p (names_of path) (λ names. aged (set names Dir) p)
plain_change p (Create path) = by_names p (names_of path) (λ names. aged (set names (Bytes [])) p)
plain_change p (Write path offset bytes) = by_names p (names_of path) (λ names. if length bytes == 0 then p else aged (bytes_changed names (wrote offset bytes)) p)
plain_change p (Read path offset count) = p
plain_change p (Resize path size) = by_names p (names_of path) (λ names. if size == size_of (seen_at p.files names) then p else aged (bytes_changed names (resized_bytes size)) p)
plain_change p (Stat path) = p
plain_change p (ListNames path after) = p
plain_change p (Rename from to) = by_names p (names_of from) (λ olds. by_names p (names_of to) (λ news. aged (shifted olds news) p))
plain_change p (Remove path) = by_names p (names_of path) (λ names. aged (cleared names) p)
plain_change p Sync = p
plain_change p Root = p
plain_change p Reclaim = p
plain_change p (Probe at) = p

-- the first check that applies to a request
abbrev pub plain_verdict : PlainState → Request → Option PlainError
plain_verdict p request = verdict (seen_at p.files) (is_full p.age) request

-- the next state: a plain error changes nothing
abbrev pub plain_step : PlainState → Request → PlainState
plain_step p request = if is_none (plain_verdict p request) then plain_change p request else p

-- the bytes of a file, none where there is no file
abbrev pub bytes_of : Option Kind → List ℕ
bytes_of None = []
bytes_of (Some Dir) = []
bytes_of (Some (Bytes bytes)) = bytes

-- a directory has this name
abbrev pub has_entry_named : Files → List (List ℕ) → List ℕ → Bool
has_entry_named files names n = is_some (files (names ++ n ∷ []))

-- the reply is right by the names of a path
abbrev pub OnNames : Option (List (List ℕ)) → (List (List ℕ) → Type 0) → Type 0
OnNames None P = ⊥
OnNames (Some names) P = P names

-- the reply to an accepted request
abbrev pub Accepted : Files → Request → Reply → Type 0
Accepted files (Mkdir path) reply = reply ≡ Done
Accepted files (Create path) reply = reply ≡ Done
Accepted files (Write path offset bytes) reply = reply ≡ Done
Accepted files (Read path offset count) reply = OnNames (names_of path) (λ names. reply ≡ BytesAre (take count (drop offset (bytes_of (files names)))))
Accepted files (Resize path size) reply = reply ≡ Done
Accepted files (Stat path) reply = OnNames (names_of path) (λ names. reply ≡ StatIs (is_directory_seen (seen_at files names)) (size_of (seen_at files names)))
Accepted files (ListNames path after) reply = OnNames (names_of path) (λ names. (page : List (List ℕ)) × ((reply ≡ Names page) × IsPage (has_entry_named files names) 64 after page))
Accepted files (Rename from to) reply = reply ≡ Done
Accepted files (Remove path) reply = reply ≡ Done
Accepted files Sync reply = ⊥
Accepted files Root reply = ⊥
Accepted files Reclaim reply = ⊥
Accepted files (Probe at) reply = ⊥

-- the reply by the first check that applies, or to the accepted request
abbrev pub Judged : Option PlainError → Type 0 → Reply → Type 0
Judged None Right reply = Right
Judged (Some e) Right reply = reply ≡ Plain e

-- the reply of the plain file system
abbrev pub PlainReplies : PlainState → Request → Reply → Type 0
PlainReplies p request reply = Judged (plain_verdict p request) (Accepted p.files request reply) reply

-- a request of the plain file system: none of the four that speak of the portal's keeping
abbrev pub IsPlainRequest : Request → Type 0
IsPlainRequest Sync = ⊥
IsPlainRequest Root = ⊥
IsPlainRequest Reclaim = ⊥
IsPlainRequest (Probe at) = ⊥
IsPlainRequest (Mkdir path) = Unit {0}
IsPlainRequest (Create path) = Unit {0}
IsPlainRequest (Write path offset bytes) = Unit {0}
IsPlainRequest (Read path offset count) = Unit {0}
IsPlainRequest (Resize path size) = Unit {0}
IsPlainRequest (Stat path) = Unit {0}
IsPlainRequest (ListNames path after) = Unit {0}
IsPlainRequest (Rename from to) = Unit {0}
IsPlainRequest (Remove path) = Unit {0}
