-- The plain state: what stands at each path, and the age.
use Rattle.std.specs.Prelude.{ℕ, ◌+◌, ◌-◌, List, [], ◌∷◌, ◌++◌, length, take, drop, replicate, Option, Some, None, if◌then◌else◌}
use Rattle.iris_plain.specs.Routes.{is_path, is_at_or_under, rest}
use Rattle.iris_plain.specs.declared.checks.Seen.{Seen}
use Rattle.iris_plain.specs.declared.checks.Seen.TheVariants.{ADirectory, AFile, Nothing, AFileBefore}
use Rattle.iris_plain.specs.declared.files.Kind.{Kind}
use Rattle.iris_plain.specs.declared.files.Kind.TheVariants.{Dir, Bytes}

-- what stands at each path: a directory, a file's bytes, or nothing
abbrev pub Files : Type 0
Files = List (List ℕ) → Option Kind

-- what stands at each path, and how many changes there were
pub record PlainState : Type 0 where
  pub files : Files
  pub age : ℕ

-- the root alone
abbrev pub fresh_state : PlainState
fresh_state = record { files = λ q. if is_path [] q then Some Dir else None; age = 0 }

-- what a place is seen as, where resolving comes to its end
abbrev pub seen_kind : Option Kind → Seen
seen_kind None = Nothing
seen_kind (Some Dir) = ADirectory
seen_kind (Some (Bytes bytes)) = AFile (length bytes)

-- a place on the way: only a directory leads on
abbrev pub through : Option Kind → Seen → Seen
through None onward = Nothing
through (Some Dir) onward = onward
through (Some (Bytes bytes)) onward = AFileBefore

-- what resolving meets: it goes from the root by the names from the left
abbrev pub seen_at : Files → List (List ℕ) → Seen
seen_at files [] = seen_kind (files [])
seen_at files (n ∷ ns) = through (files []) (seen_at (λ q. files (n ∷ q)) ns)

-- a path gets a directory or a file
abbrev pub set : List (List ℕ) → Kind → Files → Files
set names kind files = λ q. if is_path names q then Some kind else files q

-- a path and all below it go
abbrev pub cleared : List (List ℕ) → Files → Files
cleared names files = λ q. if is_at_or_under names q then None else files q

-- a path is replaced by another in every path that has it in front
abbrev pub shifted : List (List ℕ) → List (List ℕ) → Files → Files
shifted olds news files = λ q. if is_at_or_under news q then files (olds ++ rest news q) else if is_at_or_under olds q then None else files q

-- bytes over those at an offset; a gap is filled with zeros
abbrev pub wrote : ℕ → List ℕ → List ℕ → List ℕ
wrote offset bytes old = take offset (old ++ replicate (offset - length old) 0) ++ (bytes ++ drop (offset + length bytes) old)

-- bytes cut, or filled with zeros
abbrev pub resized_bytes : ℕ → List ℕ → List ℕ
resized_bytes size old = take size (old ++ replicate (size - length old) 0)

-- a file's bytes changed
abbrev pub on_bytes : (List ℕ → List ℕ) → Kind → Kind
on_bytes f Dir = Dir
on_bytes f (Bytes bytes) = Bytes (f bytes)

-- the same where something stands
abbrev pub on_kind : (List ℕ → List ℕ) → Option Kind → Option Kind
on_kind f None = None
on_kind f (Some kind) = Some (on_bytes f kind)

-- the bytes of the file at a path changed
abbrev pub bytes_changed : List (List ℕ) → (List ℕ → List ℕ) → Files → Files
bytes_changed names f files = λ q. if is_path names q then on_kind f (files q) else files q
