-- Where a row stands among items in preorder, and how far those inside it reach.
use Rattle.std.specs.Prelude.{is_some, Bool, true, false, ◌==◌, ◌≡◌, ◌≤◌, ◌<◌, ◌^◌, ℕ, suc, ◌+◌, ◌-◌, List, [], ◌∷◌, drop, Option, Some, None, nat_lt, if◌then◌else◌}
use Rattle.std.specs.Str.{bytes_eq}
use Rattle.iris_plain.specs.Routes.{is_name_before}
use Rattle.iris_rows.specs.declared.item.Item.{Item}
use Rattle.iris_table.specs.declared.rows.Stop.{Stop}
use Rattle.iris_table.specs.declared.rows.Stop.TheVariants.{Standing, Absent, Barred}
use Rattle.iris_rows.specs.Places.{StoredPlaces}
use Rattle.iris_rows.specs.Items.{grown, kept_file, IsForestTo}
use Rattle.iris_rows.specs.Rows.{File, Rows, End, Taken, Found, Here, Missing, Through, resolved, on_file, find}
use Rattle.iris_rows.specs.FileChanges.{count_written, freed}
use Rattle.iris_plain.specs.Checks.{blocks_of}

-- the root of these items
abbrev pub root_of : List Item → Taken
root_of items = record { id = 0; file = None; inside = grown 0 items }

-- what resolving a path meets over items
abbrev pub met_in : List Item → List (List ℕ) → Found
met_in items names = resolved names (root_of items)

-- the file of what resolving meets
abbrev pub file_met : Found → Option File
file_met (Here row) = row.file
file_met Missing = None
file_met Through = None

-- one place further on
abbrev pub later : Stop → Stop
later (Standing k) = Standing (suc k)
later Absent = Absent
later Barred = Barred

-- resolving ends at a row by the last name, and goes on only through a directory
abbrev pub passed : List (List ℕ) → Option StoredPlaces → Stop → Stop
passed [] file onward = Standing 0
passed (n ∷ ns) (Some f) onward = Barred
passed (n ∷ ns) None onward = onward

-- where resolving by names ends, among the items of a directory at a depth
unfoldable pub stop : ℕ → List (List ℕ) → List Item → Stop
stop d names [] = Absent
stop d [] (item ∷ items) = Absent
stop d (n ∷ ns) (item ∷ items) =
    if nat_lt item.depth d then Absent else if nat_lt d item.depth then later (stop d (n ∷ ns) items)
    else if bytes_eq n item.name then passed ns item.file (later (stop (d + 1) ns items)) else later (stop d (n ∷ ns) items)

-- how many items from the first on lie deeper
abbrev pub deeper : ℕ → List Item → ℕ
deeper d [] = 0
deeper d (item ∷ items) = if nat_lt d item.depth then suc (deeper d items) else 0

-- how many items of a directory at a depth stand before the first whose name is greater
abbrev pub room : ℕ → List ℕ → List Item → ℕ
room d n [] = 0
room d n (item ∷ items) =
    if nat_lt item.depth d then 0 else if nat_lt d item.depth then suc (room d n items)
    else if is_name_before n item.name then 0 else suc (room d n items)

-- an item by itself, with a name, at a depth
abbrev pub relabelled : ℕ → ℕ → Item → Item
relabelled old new item = record { depth = item.depth - old + new; id = item.id; name = item.name; file = item.file }

-- rows of which the first has another name
abbrev pub first_renamed : List ℕ → List Item → List Item
first_renamed name [] = []
first_renamed name (item ∷ items) = record { depth = item.depth; id = item.id; name = name; file = item.file } ∷ items

-- the depths, counted from one, fit when they are counted from another
abbrev pub AreWithin : ℕ → ℕ → List Item → Type 0
AreWithin old new [] = Unit {0}
AreWithin old new (item ∷ items) = (old ≤ item.depth) × (item.depth - old + new < 2 ^ 64) × AreWithin old new items

-- the first row inside the directory that resolving met
abbrev pub first_inside : List (List ℕ) → Stop → ℕ
first_inside [] s = 0
first_inside (n ∷ ns) (Standing k) = suc k
first_inside (n ∷ ns) Absent = 0
first_inside (n ∷ ns) Barred = 0

-- each row lies deeper
abbrev pub AreDeeper : ℕ → List Item → Type 0
AreDeeper d [] = Unit {0}
AreDeeper d (item ∷ items) = (d < item.depth) × AreDeeper d items

-- a row of a name at a depth, and those inside it
abbrev pub IsRun : ℕ → List ℕ → List Item → Type 0
IsRun d name [] = ⊥
IsRun d name (item ∷ items) = (item.depth ≡ d) × (item.name ≡ name) × AreDeeper d items × IsForestTo d (item ∷ items)

-- the row that a run is
abbrev pub run_row : List Item → Taken
run_row [] = record { id = 0; file = None; inside = End }
run_row (item ∷ items) = record { id = item.id.0; file = kept_file item.file; inside = grown (item.depth + 1) items }

-- how many items the first row and those inside it are
abbrev pub run_length : List Item → ℕ
run_length [] = 0
run_length (item ∷ items) = suc (deeper item.depth items)

-- what follows the first row and those inside it
abbrev pub after_run : List Item → List Item
after_run [] = []
after_run (item ∷ items) = drop (deeper item.depth items) items

-- the name of the first row
abbrev pub first_name : List Item → List ℕ
first_name [] = []
first_name (item ∷ items) = item.name

-- a row whose file was changed
pub record IsFiled (change : File → File) (old new : Item) : Type 0 where
  pub depth : new.depth ≡ old.depth
  pub id : new.id ≡ old.id
  pub name : new.name ≡ old.name
  pub file : kept_file new.file ≡ on_file change (kept_file old.file)

-- the file has no place that is no hole
abbrev pub is_given_up : Option File → Bool
is_given_up None = true
is_given_up (Some file) = count_written file.version (blocks_of file.size) == 0

-- the first row is a directory, or its file has no place to be freed
abbrev pub IsGivenUp : List Item → Type 0
IsGivenUp [] = Unit {0}
IsGivenUp (item ∷ items) = is_given_up (kept_file item.file) ≡ true

-- the first row's file was freed in part
abbrev pub IsFreed : List Item → List Item → Type 0
IsFreed [] new = ⊥
IsFreed (item ∷ items) [] = ⊥
IsFreed (item ∷ items) (after ∷ others) = (others ≡ items) × IsFiled freed item after × (is_given_up (kept_file item.file) ≡ false)

-- a row of this name stands in the directory
abbrev pub is_name_of : Rows → List ℕ → Bool
is_name_of rows n = is_some (find n rows)

-- a row that is met stands among so many
abbrev pub IsStopWithin : ℕ → Stop → Type 0
IsStopWithin count (Standing k) = k < count
IsStopWithin count Absent = Unit {0}
IsStopWithin count Barred = Unit {0}

-- a row stands inside the first
abbrev pub has_child : List Item → Bool
has_child [] = false
has_child (item ∷ []) = false
has_child (item ∷ child ∷ items) = nat_lt 0 child.depth
