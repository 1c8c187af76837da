-- What the definitions hold of, and what near by they don't.
use Rattle.std.proofs.Common.{◌≡◌, inl, inr, ℕ, List, [], ◌∷◌, true, false, Option, Some, None, refl, sym, ◌∙◌, ap, arith}
use Rattle.std.specs.Prelude.{◌==◌}
use Rattle.std.proofs.lemmas.Bool.Decides.{nat_tests}
use Rattle.iris_name.specs.declared.name.Name.{Name}
use Rattle.iris_node.specs.declared.node.Body.TheVariants as body
use Rattle.iris_node.specs.declared.node.Node.{Node}
use Rattle.iris_node.specs.declared.node.Node.TheVariants as node
use Rattle.iris_node.specs.Local.{Local, FolderAt}
use Rattle.iris_node.specs.Trees.{Shown}
use Rattle.iris_node.specs.Unfolded.{Absent, Folder, id_of}
use Rattle.iris_treepaths.specs.Rows.{File as FileContent}
use Rattle.iris_rows.specs.Rows.{File, Rows, End, Row, Table, Taken, empty_file}
use Rattle.iris_records.specs.Shown.{versions}
use Rattle.iris_forest.specs.Hands.{IsHeld}
use Rattle.iris_forest.specs.Places.{rows_of, DirectoryIn, FileIn, IsTableDirectory, IsTableFile, LeadsToDirectory}
use Rattle.iris_forest.specs.Truths.{IsTrueNode}
use Rattle.iris_forest.proofs.Ids.{taken_eq}

-- directory 2 with file 3 inside it, file 4 beside it, and in the trash directory 6; a row inside a file is no row of the table
abbrev inner : Rows
inner = Row 3 (98 ∷ []) (Some empty_file) End End

abbrev outer : Rows
outer = Row 2 (97 ∷ []) None inner (Row 4 (99 ∷ []) (Some empty_file) (Row 5 (100 ∷ []) None End End) End)

abbrev table : Table
table = record { visible = outer; trash = Row 6 (48 ∷ []) None End End; hand = End; next = 7; age = 6 }

unequal : (a b : ℕ) → (a == b) ≡ false → a ≡ b → ⊥
unequal a b e h = let k : (a == b) ≡ true = grind (arith, nat_tests) in absurd (let q = sym k ∙ e in cc)

-- ---- directories and files

stands : DirectoryIn 2 inner outer
stands = inl (refl, refl)

-- a file is no directory
file_is_none : DirectoryIn 4 (Row 5 (100 ∷ []) None End End) outer → ⊥
file_is_none h = elim h [ inl x ↦ unequal 4 2 refl x.0 | inr r ↦ elim r [ inl x ↦ x | inr x ↦ x ] ]

-- what is inside a file stands nowhere
inside_file : DirectoryIn 5 End outer → ⊥
inside_file h = elim h [ inl x ↦ unequal 5 2 refl x.0 | inr r ↦ elim r [ inl x ↦ x | inr x ↦ x ] ]

deep_file : FileIn 3 empty_file outer
deep_file = inl (inl (refl, refl))

beside_file : FileIn 4 empty_file outer
beside_file = inr (inl (refl, refl))

directory_is_none : (f : File) → FileIn 2 f outer → ⊥
directory_is_none f h = elim h [
  | inl r ↦ elim r [ inl x ↦ unequal 2 3 refl x.0 | inr x ↦ x ]
  | inr r ↦ elim r [ inl x ↦ unequal 2 4 refl x.0 | inr x ↦ x ]
]

roots_stand : IsTableDirectory table 0 outer × IsTableDirectory table 1 (Row 6 (48 ∷ []) None End End) × IsTableDirectory table 6 End
roots_stand = (inl (refl, refl), inr (inl (refl, refl)), inr (inr (inr (inl (refl, refl)))))

-- the root has its own rows, and no others
other_rows : IsTableDirectory table 0 inner → ⊥
other_rows h = elim h [
  | inl x ↦ (let e = x.1 in absurd (cc))
  | inr r ↦ elim r [
    | inl x ↦ unequal 0 1 refl x.0
    | inr q ↦ elim q [
      | inl y ↦ elim y [ inl x ↦ unequal 0 2 refl x.0 | inr r ↦ elim r [ inl x ↦ x | inr x ↦ x ] ]
      | inr y ↦ elim y [ inl x ↦ unequal 0 6 refl x.0 | inr r ↦ elim r [ inl x ↦ x | inr x ↦ x ] ]
    ]
  ]
]

file_stands : IsTableFile table 4 empty_file
file_stands = inl (inr (inl (refl, refl)))

trash_has_none : (f : File) → IsTableFile table 6 f → ⊥
trash_has_none f h = elim h [
  | inl y ↦ elim y [
    | inl r ↦ elim r [ inl x ↦ unequal 6 3 refl x.0 | inr x ↦ x ]
    | inr r ↦ elim r [ inl x ↦ unequal 6 4 refl x.0 | inr x ↦ x ]
  ]
  | inr y ↦ elim y [ inl x ↦ x | inr x ↦ x ]
]

-- ---- names

names_lead : LeadsToDirectory table [] 0 outer × LeadsToDirectory table ((97 ∷ []) ∷ []) 2 inner
names_lead = (refl, refl)

-- names lead to a file, and to no directory
to_a_file : (rows : Rows) → LeadsToDirectory table ((97 ∷ []) ∷ (98 ∷ []) ∷ []) 3 rows → ⊥
to_a_file rows e = let q = ap (λ (z : Taken). z.file) (taken_eq (record { id = 3; file = Some empty_file; inside = End }) (record { id = 3; file = None; inside = rows }) e) in absurd (cc)

-- ---- rows of a treap

tree_rows : (order : List ℕ) → rows_of order inner ≡ record { id = 3; name = 98 ∷ []; content = FileContent 0 0 (versions 3 empty_file) } ∷ []
tree_rows order = refl

-- ---- a row in hand

abbrev held : Table
held = record { visible = End; trash = End; hand = Row 2 (97 ∷ []) None End End; next = 3; age = 1 }

is_held : IsHeld held
is_held = record { once = λ i. grind (arith, nat_tests); ordered = tt; trash_ordered = tt; short = tt; trash_short = tt; hand_short = (tt, tt, tt); few = omega arith }

-- what is in hand stands nowhere else
stands_too : IsHeld (record { visible = Row 2 (97 ∷ []) None End End; trash = End; hand = Row 2 (97 ∷ []) None End End; next = 3; age = 1 }) → ⊥
stands_too h = let o = h.once 2 in absurd (omega (arith, o))

-- ---- true nodes

abbrev lone : Shown
lone n = Some (Folder 2 (97 ∷ []) Absent Absent Absent)

abbrev entry : ℕ → Node
entry id = node.Entry (record { id = id_of id; name = 97 ∷ []; left = None; right = None; body = body.Dir None })

is_true : (n : Name) → IsTrueNode lone n (entry 2)
is_true n = (refl, λ m x h. absurd (elim h [ inl y ↦ y | inr r ↦ elim r [ inl y ↦ y | inr y ↦ y ] ]))

abbrev id_at : Option Local → ℕ
id_at (Some (FolderAt id name less more inside)) = id
id_at o = 0

other_id : (n : Name) → IsTrueNode lone n (entry 3) → ⊥
other_id n h = let e : 2 ≡ 3 = ap id_at h.0 in absurd (omega (arith, e))
