-- The versions of a file in a table, and a table in which they are others.
use Rattle.std.specs.Prelude.{◌≡◌, ◌⊎◌, ◌==◌, ◌+◌, ◌*◌, ◌<◌, ◌≤◌, ◌^◌, ℕ, Option, Some, None, if◌then◌else◌}
use Rattle.std.specs.Option.{option_map}
use Rattle.iris_name.specs.declared.name.FileId.{FileId}
use Rattle.iris_name.specs.declared.name.Name.{Name}
use Rattle.iris_name.specs.declared.name.Name.TheVariants as name
use Rattle.iris_node.specs.Rules.{most_level}
use Rattle.iris_node.specs.Unfolded.{Unfolded, Absent, Folder, Leaf, Even, Split, Stored}
use Rattle.iris_shape.specs.Folds.{folded}
use Rattle.iris_shape.specs.Sides.{unfolded_side, part_of}
use Rattle.iris_cache.specs.Resident.{Resident}
use Rattle.iris_cache.specs.Drafted.{Drafted}
use Rattle.iris_node.specs.Trees.{Shown, IsTree}
use Rattle.iris_cache.specs.Pictures.{Drafts}

-- how many places a file has
abbrev pub places : ℕ
places = 65536

-- the side of all versions of a file
abbrev pub whole : ℕ → (ℕ → ℕ) → Unfolded
whole file v = unfolded_side file most_level 0 (folded v most_level 0)

-- a file's entry, with this side of all its versions
abbrev pub IsFileOf : ℕ → Unfolded → Option Unfolded → Type 0
IsFileOf file versions None = ⊥
IsFileOf file versions (Some (Leaf id label less more size counter kept)) = (id ≡ file) × (kept ≡ versions)
IsFileOf file versions (Some (Folder id label less more inside)) = ⊥
IsFileOf file versions (Some Absent) = ⊥
IsFileOf file versions (Some (Even version)) = ⊥
IsFileOf file versions (Some (Split g level index low high)) = ⊥
IsFileOf file versions (Some (Stored version bytes)) = ⊥

-- A file has these versions in a table: its entry and its parts are those of their fold.
pub record HasVersions (t : Shown) (file : FileId) (v : ℕ → ℕ) : Type 0 where
  pub entry : IsFileOf file.0 (whole file.0 v) (t (name.Entry file))
  pub parts : (level index : ℕ) → (index + 1) * 2 ^ level ≤ places → t (name.Part file level index) ≡ part_of file.0 level index (folded v level index)
  pub outside : (level index : ℕ) → places < (index + 1) * 2 ^ level → t (name.Part file level index) ≡ None

-- an entry or a part, in which the file of an id has this side of all its versions
abbrev pub reversioned : ℕ → Unfolded → Unfolded → Unfolded
reversioned file versions (Folder id label less more inside) = Folder id label (reversioned file versions less) (reversioned file versions more) (reversioned file versions inside)
reversioned file versions (Leaf id label less more size counter kept) = Leaf id label (reversioned file versions less) (reversioned file versions more) size counter (if id == file then versions else kept)
reversioned file versions Absent = Absent
reversioned file versions (Even version) = Even version
reversioned file versions (Split g level index low high) = Split g level index low high
reversioned file versions (Stored version bytes) = Stored version bytes

-- a name of an entry, or of another file's part
abbrev pub IsOfOtherFile : FileId → Name → Type 0
IsOfOtherFile file (name.Entry id) = Unit {0}
IsOfOtherFile file (name.Part g level index) = g ≡ file → ⊥
IsOfOtherFile file (name.Block g place) = ⊥

-- The second table is the first with these versions of a file. Of blocks nothing is said.
pub record Reversions (t u : Shown) (file : FileId) (v : ℕ → ℕ) : Type 0 where
  pub versions : HasVersions u file v
  pub others : (n : Name) → IsOfOtherFile file n → u n ≡ option_map (reversioned file.0 (whole file.0 v)) (t n)

-- A cache with a draft pictures a table in which a file has these versions.
pub record Versioned (old new : Shown) (file : FileId) (v : ℕ → ℕ) (d : Drafted) (c : Resident) : Type 0 where
  pub was : IsTree old
  pub is : IsTree new
  pub drafts : Drafts old new d c
  pub versions : HasVersions new file v

-- before, a file has some versions, or no parts
abbrev pub HadVersions : Shown → FileId → Type 0
HadVersions t file = ((v : ℕ → ℕ) × HasVersions t file v) ⊎ ((level index : ℕ) → t (name.Part file level index) ≡ None)
