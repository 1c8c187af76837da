-- Tables worked out by hand, which the definitions compute.
use Rattle.std.proofs.Common.{◌≡◌, ℕ, zero, suc, ◌*◌, List, [], ◌∷◌, ◌++◌, Bool, true, false, Option, Some, None, refl}
use Rattle.std.specs.Prelude.{codes}
use Rattle.iris_name.specs.declared.request.Request.{Request}
use Rattle.iris_name.specs.declared.request.Request.TheVariants.{Mkdir, Create, Write, Resize, Remove, Reclaim}
use Rattle.iris_name.specs.Paths.{names_of}
use Rattle.iris_rows.specs.Rows.{File, Rows, End, Row, Table, Found, Here, Missing, Through, met, empty_table}
use Rattle.iris_rows.specs.Changes.{trash_name, after_requests}
use Rattle.iris_records.specs.Challenges.{table_walk}
use Rattle.iris_records.specs.Shown.{shown, directory}
use Rattle.iris_node.specs.Unfolded.{Unfolded, Absent, Folder, Stored}
use Rattle.iris_node.specs.Walk.{BlockAt}
use Rattle.iris_name.specs.declared.name.FileId.{FileId}
use Rattle.iris_name.specs.declared.name.Name.TheVariants.{Entry, Block}

abbrev of_file : Option File → ℕ → ℕ
of_file None p = 0
of_file (Some f) p = f.version p

abbrev version_of : Found → ℕ → ℕ
version_of (Here row) p = of_file row.file p
version_of Missing p = 0
version_of Through p = 0

abbrev id_of : Found → ℕ
id_of (Here row) = row.id
id_of Missing = 0
id_of Through = 0

abbrev is_left : Rows → Bool
is_left End = false
is_left (Row id name file inside next) = true

abbrev named : List ℕ → List (List ℕ)
named name = name ∷ []

-- so many steps of reclaiming
abbrev reclaims : ℕ → List Request
reclaims zero = []
reclaims (suc n) = Reclaim ∷ reclaims n

-- a gap is a hole, and the place that is written has the counter's number
abbrev gap : Table
gap = after_requests empty_table (Create (codes "/f") ∷ Write (codes "/f") 5000 (255 ∷ []) ∷ [])

gap_versions : (version_of (met gap (named (codes "f"))) 0 ≡ 0) × (version_of (met gap (named (codes "f"))) 1 ≡ 1) × (gap.age ≡ 2) × (gap.next ≡ 3)
unfolding names_of
gap_versions = (refl, refl, refl, refl)

-- a gap leaves the old last block's version, and so does a resize upward; one downward gives the place that it splits a new one
abbrev grown : List Request
grown = Create (codes "/f") ∷ Write (codes "/f") 0 (1 ∷ 2 ∷ 3 ∷ []) ∷ Write (codes "/f") 9000 (4 ∷ []) ∷ Resize (codes "/f") 9500 ∷ []

grown_versions : (version_of (met (after_requests empty_table grown) (named (codes "f"))) 0 ≡ 1) × (version_of (met (after_requests empty_table grown) (named (codes "f"))) 1 ≡ 0) × (version_of (met (after_requests empty_table grown) (named (codes "f"))) 2 ≡ 2)
unfolding names_of
grown_versions = (refl, refl, refl)

abbrev cut_inside : Table
cut_inside = after_requests (after_requests empty_table grown) (Resize (codes "/f") 2 ∷ [])

cut_versions : (version_of (met cut_inside (named (codes "f"))) 0 ≡ 4) × (version_of (met cut_inside (named (codes "f"))) 2 ≡ 0)
unfolding names_of
cut_versions = (refl, refl)

-- at a multiple of 4,096 the last kept place keeps its version
abbrev cut_between : Table
cut_between = after_requests (after_requests empty_table grown) (Resize (codes "/f") 4096 ∷ [])

kept_versions : (version_of (met cut_between (named (codes "f"))) 0 ≡ 1) × (version_of (met cut_between (named (codes "f"))) 2 ≡ 0)
unfolding names_of
kept_versions = (refl, refl)

-- a directory with one below it and a file there: four steps of reclaiming leave something, the fifth nothing; an id is not given again
abbrev deep : List Request
deep = Mkdir (codes "/a") ∷ Mkdir (codes "/a/b") ∷ Create (codes "/a/b/c") ∷ Remove (codes "/a") ∷ Mkdir (codes "/a") ∷ []

deep_left : (is_left (after_requests (after_requests empty_table deep) (reclaims 1)).trash ≡ true) × (is_left (after_requests (after_requests empty_table deep) (reclaims 2)).trash ≡ true)
    × (is_left (after_requests (after_requests empty_table deep) (reclaims 3)).trash ≡ true) × (is_left (after_requests (after_requests empty_table deep) (reclaims 4)).trash ≡ true)
    × (is_left (after_requests (after_requests empty_table deep) (reclaims 5)).trash ≡ false) × (is_left (after_requests (after_requests empty_table deep) (reclaims 6)).trash ≡ false)
    × (id_of (met (after_requests (after_requests empty_table deep) (reclaims 6)) (named (codes "a"))) ≡ 5) × ((after_requests (after_requests empty_table deep) (reclaims 6)).age ≡ 5)
unfolding names_of
deep_left = (refl, refl, refl, refl, refl, refl, refl, refl)

-- a write of one byte in each of so many places, the last first
abbrev dots : ℕ → List Request
dots zero = []
dots (suc n) = Write (codes "/f") (n * 4096) (1 ∷ []) ∷ dots n

-- 17 written blocks, resized to 0: two steps leave something, the third nothing; 16 blocks take one less
abbrev dotted : ℕ → Table
dotted n = after_requests empty_table (Create (codes "/f") ∷ dots n ++ Resize (codes "/f") 0 ∷ [])

dotted_left : (is_left (after_requests (dotted 17) (reclaims 1)).trash ≡ true) × (is_left (after_requests (dotted 17) (reclaims 2)).trash ≡ true) × (is_left (after_requests (dotted 17) (reclaims 3)).trash ≡ false)
    × (is_left (after_requests (dotted 16) (reclaims 1)).trash ≡ true) × (is_left (after_requests (dotted 16) (reclaims 2)).trash ≡ false)
    × (id_of (met (dotted 17) (named (codes "f"))) ≡ 3) × ((dotted 17).age ≡ 19)
unfolding names_of
dotted_left = (refl, refl, refl, refl, refl, refl, refl)

-- the name in the trash
digits : trash_name 0x1a2b ≡ codes "0000000000001a2b"
digits = refl

abbrev id : ℕ → FileId
id n = record { 0 = n }

-- the version of what a name stands for as a block
abbrev stored : Option Unfolded → ℕ
stored (Some (Stored version bytes)) = version
stored o = 0

-- at the beginning the two roots live, and nothing else
fresh_shown : (order : List ℕ) → (shown order empty_table (Entry (id 0)) ≡ Some (Folder 0 [] Absent Absent Absent))
    × (shown order empty_table (Entry (id 1)) ≡ Some (Folder 1 [] Absent Absent Absent)) × (shown order empty_table (Entry (id 2)) ≡ None) × (shown order empty_table (Block (id 2) 0) ≡ None)
unfolding shown directory
fresh_shown order = (refl, refl, refl, refl)

-- a hole is no block; a file in the trash keeps its blocks
gap_shown : (order : List ℕ) → (shown order gap (Block (id 2) 0) ≡ None) × (stored (shown order gap (Block (id 2) 1)) ≡ 1)
    × (stored (shown order (after_requests gap (Remove (codes "/f") ∷ [])) (Block (id 2) 1)) ≡ 1)
unfolding shown names_of
gap_shown order = (refl, refl, refl)

-- a file in a directory is walked over before one in the trash, and holes count
abbrev walked : Table
walked = after_requests empty_table (Mkdir (codes "/d") ∷ Create (codes "/d/f") ∷ Write (codes "/d/f") 5000 (255 ∷ []) ∷ Remove (codes "/d/f") ∷ Create (codes "/d/h") ∷ Write (codes "/d/h") 0 (1 ∷ []) ∷ [])

abbrev block : ℕ → ℕ → BlockAt
block file place = record { file = file; place = place }

walked_blocks : (order : List ℕ) → table_walk order walked ≡ block 4 0 ∷ block 3 0 ∷ block 3 1 ∷ []
unfolding table_walk directory names_of
walked_blocks order = refl
