-- The file of a row as the program keeps it: its places up to its number of blocks.
use Rattle.std.specs.Prelude.{◌≡◌, ◌≤◌, ◌<◌, ◌+◌, ◌-◌, ◌/◌, ◌%◌, ◌==◌, ◌&&◌, ◌++◌, ℕ, List, length, take, replicate, slice_get, slice_set, Option, Some, None, if◌then◌else◌, nat_lt, nat_le}
use Rattle.iris_plain.specs.Checks.{blocks_of}
use Rattle.iris_rows.specs.declared.places.Place.{Place}
use Rattle.iris_rows.specs.Rows.{File, zeros}

-- the length, the counter of writes and the places
pub record StoredPlaces : Type 0 where
  pub size : ℕ
  pub counter : ℕ
  pub places : List Place

-- a hole, and only a hole, has no page, and a page has 4,096 bytes
abbrev pub IsPaged : ℕ → Option (List ℕ) → Type 0
IsPaged version None = version ≡ 0
IsPaged version (Some page) = (0 < version) × (length page ≡ 4096)

-- the fact for a place, where there is one
abbrev pub IsPlace : Option Place → Type 0
IsPlace None = Unit {0}
IsPlace (Some place) = IsPaged place.version place.page

-- the fact for each place of a list
abbrev pub ArePlaces : List Place → Type 0
ArePlaces places = (p : ℕ) → IsPlace (slice_get places p)

-- as many places as the length has blocks
pub record ArePlacesKept (f : StoredPlaces) : Type 0 where
  pub places : length f.places ≡ blocks_of f.size
  pub size : f.size ≤ 268435456
  pub holes : ArePlaces f.places

-- the version of a place; past the last it is 0
abbrev pub place_version : Option Place → ℕ
place_version None = 0
place_version (Some place) = place.version

-- the block of a page, zeros where there is none
abbrev pub page_block : Option (List ℕ) → List ℕ
page_block None = zeros
page_block (Some page) = page

-- the block of a place; past the last it is zeros
abbrev pub block_of : Option Place → List ℕ
block_of None = zeros
block_of (Some place) = page_block place.page

-- the version of a place of a list
abbrev pub version_at : List Place → ℕ → ℕ
version_at places p = place_version (slice_get places p)

-- the block of a place of a list
abbrev pub block_at : List Place → ℕ → List ℕ
block_at places p = block_of (slice_get places p)

-- the file that is kept
abbrev pub file_of : StoredPlaces → File
file_of f = record {
  size = f.size;
  counter = f.counter;
  version = λ p. version_at f.places p;
  block = λ p. block_at f.places p;
}

-- a place without a page
abbrev pub hole : Place
hole = record { version = 0; page = None }

-- a place with a page
abbrev pub paged : ℕ → Option (List ℕ) → Option Place
paged version None = None
paged version (Some page) = Some (record { version = version; page = Some page })

-- the place at a position after pages were put from a first place on
abbrev pub put_pages : ℕ → ℕ → List (List ℕ) → List Place → ℕ → Option Place
put_pages first version pages places p =
    if nat_le first p && nat_lt p (first + length pages) then paged version (slice_get pages (p - first)) else slice_get places p

-- the block with zeros from a position on
abbrev pub cut_page : ℕ → List ℕ → List ℕ
cut_page kept block = take kept block ++ replicate (4096 - kept) 0

-- the places where the one in which a length ends has zeros from there on and a new version, unless it is a hole
abbrev pub split_places : ℕ → ℕ → List Place → List Place
split_places size version places =
    if version_at places (size / 4096) == 0 then places
    else slice_set places (size / 4096) (record { version = version; page = Some (cut_page (size % 4096) (block_at places (size / 4096))) })
