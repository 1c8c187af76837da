-- A table that the cache alone pictures is one that the plans speak of.
use Rattle.std.proofs.Common.{inl, ℕ, List}
use Rattle.iris_node.specs.Unfolded.{id_of}
use Rattle.iris_cache.proofs.EmptyDraft.{draft_begins}
use Rattle.iris_cache.specs.Drafted.{Drafted}
use Rattle.iris_cache.specs.Pictures.{Drafts}
use Rattle.iris_cache.specs.Resident.{Resident}
use Rattle.iris_files.specs.Refiles.{Filed}
use Rattle.iris_paths.specs.Pictured.{Pictured}
use Rattle.iris_rows.specs.Changes.{seen_in}
use Rattle.iris_rows.specs.Rows.{File, Table}
use Rattle.iris_records.specs.Shown.{shown}
use Rattle.iris_forest.specs.Places.{IsTableFile}
use Rattle.iris_forest.proofs.NodesAreFormed.{stands_tree, formed}
use Rattle.iris_forest.proofs.PathsInTable.{paths_meet}
use Rattle.iris_forest.proofs.VersionsOfFile.{files_stand}
use Rattle.iris_plan_laws.specs.Begun.{IsPictured}

drafts_itself : (order : List ℕ) (t : Table) (d : Drafted) (c : Resident) → IsPictured order t d c → Drafts (shown order t) (shown order t) d c
drafts_itself order t d c p = draft_begins (shown order t) d c p.pictures (stands_tree order t p.sound) (formed order t p.sound) p.empty

-- with its paths
pub pictured_paths : (order : List ℕ) (t : Table) (d : Drafted) (c : Resident) → IsPictured order t d c → Pictured order (seen_in t) d c (shown order t) (shown order t)
pictured_paths order t d c p =
    let tree = stands_tree order t p.sound in let m = paths_meet order t p.sound in
    record { was = tree; is = tree; drafts = drafts_itself order t d c p; top = m.1; meets = m.0 }

-- with one of its files
pub pictured_file : (order : List ℕ) (t : Table) (i : ℕ) (f : File) (d : Drafted) (c : Resident) → IsPictured order t d c → IsTableFile t i f → Filed (shown order t) (shown order t) (id_of i) f d c
pictured_file order t i f d c p h =
    let tree = stands_tree order t p.sound in let has = files_stand order t i f p.sound h in
    record { was = tree; is = tree; drafts = drafts_itself order t d c p; stands = has; had = inl (f.version, has.versions) }
