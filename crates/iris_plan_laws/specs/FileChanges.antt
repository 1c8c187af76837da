-- What a request writes, cuts or fills up goes through.
use Rattle.std.specs.Prelude.{◌≢◌, ◌<◌, ℕ, List, length, if◌then◌else◌, nat_le}
use Rattle.iris_name.specs.declared.name.FileId.{FileId}
use Rattle.iris_name.specs.declared.request.Request.TheVariants.{Write, Resize}
use Rattle.iris_node.specs.Trees.{Shown, IsTree}
use Rattle.iris_node.specs.Unfolded.{id_of}
use Rattle.iris_cache.specs.Drafted.{Drafted}
use Rattle.iris_cache.specs.Pictures.{Drafts}
use Rattle.iris_cache.specs.Resident.{Resident}
use Rattle.iris_version_tree.specs.Versions.{Reversions}
use Rattle.iris_treepaths.specs.Rows.{IsCountable}
use Rattle.iris_plain.specs.Checks.{blocks_of}
use Rattle.iris_rows.specs.Rows.{File, Table, zeros}
use Rattle.iris_rows.specs.Changes.{filed}
use Rattle.iris_rows.specs.FileChanges.{file_written, cut}
use Rattle.iris_rows.specs.Sound.{IsSound}
use Rattle.iris_files.specs.Cuts.{versions_cut}
use Rattle.iris_files.specs.Refiles.{Filed, Refiles}
use Rattle.iris_plan_laws.specs.Begun.{PlanBegins, GoesThrough, IsAtFile}

-- what the plan that writes says of the table at its end
abbrev pub SaysWritten : FileId → ℕ → List ℕ → Drafted → Resident → Drafted → Type 0
SaysWritten file offset bytes d c e = (old new made : Shown) → (f : File) → Filed old new file f d c → IsTree made → IsCountable made
    → Refiles new made file (file_written offset bytes f).size (file_written offset bytes f).counter (file_written offset bytes f).version → Drafts old made e c

-- a plan that writes goes through
abbrev pub WritesGoThrough : Type 0
WritesGoThrough = (order : List ℕ) (t : Table) (path : List ℕ) (offset : ℕ) (bytes : List ℕ) (i : ℕ) (f : File) (d : Drafted) (c : Resident) (e : Drafted)
    → PlanBegins order t (Write path offset bytes) d c → IsAtFile t path i f → 0 < length bytes → SaysWritten (id_of i) offset bytes d c e → GoesThrough order t (Write path offset bytes) e c

-- a file whose places from a lesser length on became holes, and that keeps its length and its counter
abbrev pub emptied_past : ℕ → File → File
emptied_past size f = record { size = f.size; counter = f.counter; version = versions_cut size f; block = λ p. if nat_le (blocks_of size) p then zeros else f.block p }

-- the table between the two steps of a cut is sound, where the one at its end is
abbrev pub BetweenIsSound : Type 0
BetweenIsSound = (t : Table) (names : List (List ℕ)) (size : ℕ) → IsSound t → IsSound (filed (cut size) names t) → IsSound (filed (emptied_past size) names t)

-- what the plan that cuts or fills says of the table at its end
abbrev pub SaysResized : FileId → ℕ → Drafted → Resident → Drafted → Type 0
SaysResized file size d c e = (old new mid made : Shown) → (f : File) → Filed old new file f d c → IsTree mid → Reversions new mid file (versions_cut size f) → IsTree made → IsCountable made
    → Refiles new made file (cut size f).size (cut size f).counter (cut size f).version → Drafts old made e c

-- a plan that gives a file another length above 0 goes through
abbrev pub ResizesGoThrough : Type 0
ResizesGoThrough = (order : List ℕ) (t : Table) (path : List ℕ) (size i : ℕ) (f : File) (d : Drafted) (c : Resident) (e : Drafted)
    → PlanBegins order t (Resize path size) d c → IsAtFile t path i f → 0 < size → f.size ≢ size → SaysResized (id_of i) size d c e → GoesThrough order t (Resize path size) e c
