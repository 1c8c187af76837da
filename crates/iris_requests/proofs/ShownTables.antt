-- What an empty draft over a cache pictures: each table that the cache shows, with its paths and its files.
use Rattle.std.proofs.Common.{◌≡◌, ℕ, List, [], ap}
use Rattle.iris_blocks.specs.Changes.{PageDrafted}
use Rattle.iris_blocks.specs.Paged.{Paged}
use Rattle.iris_cache.specs.Drafted.{Drafted, drafted}
use Rattle.iris_cache.specs.Resident.{Resident}
use Rattle.iris_files.specs.Refiles.{Filed}
use Rattle.iris_forest.specs.Places.{IsTableFile}
use Rattle.iris_node.specs.Unfolded.{id_of}
use Rattle.iris_paths.specs.Pictured.{Pictured}
use Rattle.iris_plan_laws.specs.Begun.{IsPictured}
use Rattle.iris_plan_laws.proofs.Pictured.{pictured_paths, pictured_file}
use Rattle.iris_records.specs.Shown.{shown}
use Rattle.iris_requests.specs.declared.planned.Counters.{Counters}
use Rattle.iris_requests.specs.Planned.{IsShownBy}
use Rattle.iris_rows.specs.Changes.{seen_in}
use Rattle.iris_rows.specs.Rows.{File, Table}

-- no change of a node, and none of a page
abbrev pub no_changes : Drafted
no_changes = record { changes = [] }

abbrev pub no_pages : PageDrafted
no_pages = record { changes = [] }

-- a draft that was just begun has none
module _ (order : List ℕ) (t : Table) (c : Resident) (b : Paged) (k : Counters) (s : IsShownBy order t c b k) (d : Drafted) (none : d ≡ no_changes) where
  pub pictured_alone : IsPictured order t d c
  pictured_alone = record { sound = s.sound; pictures = s.pictures; empty = λ n. ap (λ z. drafted z n) none }

  pub paths_pictured : Pictured order (seen_in t) d c (shown order t) (shown order t)
  paths_pictured = pictured_paths order t d c pictured_alone

  pub file_pictured : (i : ℕ) (f : File) → IsTableFile t i f → Filed (shown order t) (shown order t) (id_of i) f d c
  file_pictured i f h = pictured_file order t i f d c pictured_alone h
