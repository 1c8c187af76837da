-- What names stand for in a table is what stands in its two trees.
use Rattle.std.proofs.Common.{◌≡◌, ◌⊎◌, inl, inr, ℕ, ◌+◌, ◌-◌, ◌*◌, List, ◌∷◌, Bool, true, false, ◌&&◌, cond, Option, Some, None, refl, sym, ◌∙◌, ap, subst, arith}
use Rattle.std.specs.Prelude.{◌==◌}
use Rattle.std.proofs.lemmas.Bool.{and_parts}
use Rattle.std.proofs.lemmas.Bool.Decides.{nat_tests}
use Rattle.iris_name.specs.Hmac.{priority}
use Rattle.iris_name.specs.declared.name.FileId.{FileId}
use Rattle.iris_name.specs.declared.name.Name.{Name}
use Rattle.iris_name.specs.declared.name.Name.TheVariants.{Entry, Part, Block}
use Rattle.iris_node.specs.Unfolded.{Unfolded, Absent, Folder, Leaf, Even, Split, Stored, id_of}
use Rattle.iris_shape.specs.Folds.{Fold, One, Two, folded}
use Rattle.iris_shape.specs.Local.{either}
use Rattle.iris_shape.specs.Order.{beside}
use Rattle.iris_shape.specs.Treap.{Treap, Empty, Over, treap}
use Rattle.iris_rows.specs.Rows.{File, Rows, End, Row}
use Rattle.iris_shape.specs.Sides.{unfolded_side}
use Rattle.iris_records.specs.Shown.{Own, own_id, versions, entry_above, unfolded_entries, treap_of_entries, owns, directory, entry_in, part_in, block_of_place, in_directory, in_parts, in_file, inside_rows}
use Rattle.iris_table_laws.proofs.NamesByNumber.{inside_by, inside_own}
use Rattle.iris_table_laws.proofs.NestedNodes.{Nest, Both, Holds, nest}
use Rattle.iris_table_laws.proofs.TreapRows.{Some_row, Some_in, in_treap}

abbrev pub IsStored : Unfolded → Type 0
IsStored (Stored version bytes) = Unit {0}
IsStored Absent = ⊥
IsStored (Folder id name less more inside) = ⊥
IsStored (Leaf id name less more size counter versions) = ⊥
IsStored (Even version) = ⊥
IsStored (Split file level index low high) = ⊥

-- a block, or an entry or a part that stands in a nest
abbrev pub Stands : Name → Unfolded → Nest → Type 0
Stands (Block f p) w x = IsStored w
Stands (Entry i) w x = (k : Nest) × Holds w (Entry i) k x
Stands (Part f l i) w x = (k : Nest) × Holds w (Part f l i) k x

-- so does one inside some entry
abbrev StandsRow : Name → Unfolded → List Own → Type 0
StandsRow (Block f p) w os = IsStored w
StandsRow (Entry i) w os = (k : Nest) × Some_row (λ o. Holds w (Entry i) k (inside_own o)) os
StandsRow (Part f l i) w os = (k : Nest) × Some_row (λ o. Holds w (Part f l i) k (inside_own o)) os

abbrev pub Into : Nest → Nest → Type 0
Into x y = (w : Unfolded) (n : Name) (k : Nest) → Holds w n k x → Holds w n k y

pub moved : (n : Name) (w : Unfolded) (x y : Nest) → Into x y → Stands n w x → Stands n w y
moved (Block g p) w x y f s = s
moved (Entry i) w x y f s = (s.0, f w (Entry i) s.0 s.1)
moved (Part g l i) w x y f s = (s.0, f w (Part g l i) s.0 s.1)

pub either_of : (a b : Option Unfolded) (w : Unfolded) → either a b ≡ Some w → (a ≡ Some w) ⊎ (b ≡ Some w)
either_of None b w e = inr e
either_of (Some x) b w e = inl e

cond_of : (c : Bool) (x w : Unfolded) (b : Option Unfolded) → cond c (Some x) b ≡ Some w → ((c ≡ true) × (x ≡ w)) ⊎ (b ≡ Some w)
cond_of true x w b e = inl (refl, (cc))
cond_of false x w b e = inr e

same_id : (i : FileId) (id : ℕ) → (i.0 == id) ≡ true → Entry i ≡ Entry (id_of id)
same_id i id e = let h : i.0 ≡ id = grind (arith, nat_tests) in ap (λ z. Entry (id_of z)) h

-- an entry that is found stands there
entry_stands : (i : FileId) (u w : Unfolded) → entry_in i.0 u ≡ Some w → Stands (Entry i) w (nest u)
entry_stands i (Folder id name less more inside) w e = elim (cond_of (i.0 == id) (Folder id name less more inside) w (either (entry_in i.0 less) (entry_in i.0 more)) e) [
  | inl s ↦ (Both (nest less) (Both (nest more) (nest inside)), inl (sym s.1, same_id i id s.0, refl))
  | inr s ↦ elim (either_of (entry_in i.0 less) (entry_in i.0 more) w s) [
    | inl a ↦ (let r = entry_stands i less w a in (r.0, inr (inl r.1)))
    | inr a ↦ (let r = entry_stands i more w a in (r.0, inr (inr (inl r.1))))
  ]
]
entry_stands i (Leaf id name less more size counter versions) w e = elim (cond_of (i.0 == id) (Leaf id name less more size counter versions) w (either (entry_in i.0 less) (entry_in i.0 more)) e) [
  | inl s ↦ (Both (nest less) (Both (nest more) (nest versions)), inl (sym s.1, same_id i id s.0, refl))
  | inr s ↦ elim (either_of (entry_in i.0 less) (entry_in i.0 more) w s) [
    | inl a ↦ (let r = entry_stands i less w a in (r.0, inr (inl r.1)))
    | inr a ↦ (let r = entry_stands i more w a in (r.0, inr (inr (inl r.1))))
  ]
]
entry_stands i Absent w e = absurd (cc)
entry_stands i (Even version) w e = absurd (cc)
entry_stands i (Split file level index low high) w e = absurd (cc)
entry_stands i (Stored version bytes) w e = absurd (cc)

pub directory_stands : (n : Name) (u w : Unfolded) → in_directory n u ≡ Some w → Stands n w (nest u)
directory_stands (Entry i) u w e = entry_stands i u w e
directory_stands (Part f l i) u w e = absurd (cc)
directory_stands (Block f p) u w e = absurd (cc)

-- so does a part
part_same : (g : FileId) (l i file level index : ℕ) → (g.0 == file) ≡ true → ((l == level) && (i == index)) ≡ true → Part g l i ≡ Part (id_of file) level index
part_same g l i file level index e h =
    let p = and_parts (l == level) (i == index) h in let s = p.0 in let t = p.1 in
    let a : g.0 ≡ file = grind (arith, nat_tests) in let b : l ≡ level = grind (arith, nat_tests) in let c : i ≡ index = grind (arith, nat_tests) in
    ap (λ z. Part (id_of z) l i) a ∙ ap (λ z. Part (id_of file) z i) b ∙ ap (λ z. Part (id_of file) level z) c

part_stands : (g : FileId) (l i file level index : ℕ) (x : Fold) (w : Unfolded) → (g.0 == file) ≡ true → part_in l i (unfolded_side file level index x) ≡ Some w → Stands (Part g l i) w (nest (unfolded_side file level index x))
part_stands g l i file level index (One v) w h e = absurd (cc)
part_stands g l i file level index (Two x y) w h e =
    let low = unfolded_side file (level - 1) (2 * index) x in let high = unfolded_side file (level - 1) (2 * index + 1) y in
    elim (cond_of ((l == level) && (i == index)) (Split file level index low high) w (either (part_in l i low) (part_in l i high)) e) [
      | inl s ↦ (Both (nest low) (nest high), inl (sym s.1, part_same g l i file level index h s.0, refl))
      | inr s ↦ elim (either_of (part_in l i low) (part_in l i high) w s) [
        | inl a ↦ (let r = part_stands g l i file (level - 1) (2 * index) x w h a in (r.0, inr (inl r.1)))
        | inr a ↦ (let r = part_stands g l i file (level - 1) (2 * index + 1) y w h a in (r.0, inr (inr r.1)))
      ]
    ]

stored_is : (v : ℕ) (bytes : List ℕ) (c : Bool) (w : Unfolded) → cond c None (Some (Stored v bytes)) ≡ Some w → IsStored w
stored_is v bytes true w e = absurd (cc)
stored_is v bytes false w e = let h : Stored v bytes ≡ w = cc in subst IsStored h tt

parts_stand : (g : FileId) (l i id : ℕ) (f : File) (w : Unfolded) → in_parts (Part g l i) id (versions id f) ≡ Some w → Stands (Part g l i) w (nest (versions id f))
parts_stand g l i id f w e = by (g.0 == id) refl e where
  by : (c : Bool) → (g.0 == id) ≡ c → cond c (part_in l i (versions id f)) None ≡ Some w → Stands (Part g l i) w (nest (versions id f))
  by true h e = part_stands g l i id 16 0 (folded f.version 16 0) w h e
  by false h e = absurd (cc)

pub file_stands : (n : Name) (id : ℕ) (f : File) (w : Unfolded) → in_file n id f ≡ Some w → Stands n w (nest (versions id f))
file_stands (Entry i) id f w e = absurd (cc)
file_stands (Part g l i) id f w e = elim (either_of (in_parts (Part g l i) id (versions id f)) None w e) [ inl s ↦ parts_stand g l i id f w s | inr s ↦ absurd (cc) ]
file_stands (Block g p) id f w e = by (g.0 == id) e where
  by : (c : Bool) → cond c (block_of_place p f) None ≡ Some w → IsStored w
  by true e = stored_is (f.version p) (f.block p) (f.version p == 0) w e
  by false e = absurd (cc)

-- what stands inside an entry stands in its directory
held_entry : (w : Unfolded) (n : Name) (k : Nest) (o : Own) (file : Option File) (less more : Unfolded)
    → Holds w n k (nest less) ⊎ (Holds w n k (nest more) ⊎ Holds w n k (inside_by o.id o.inside file)) → Holds w n k (nest (entry_above o file less more))
held_entry w n k o None less more h = inr h
held_entry w n k o (Some f) less more h = inr h

held_entries : (w : Unfolded) (n : Name) (k : Nest) (t : Treap Own) → Some_in (λ o. Holds w n k (inside_own o)) t → Holds w n k (nest (unfolded_entries t))
held_entries w n k Empty h = absurd h
held_entries w n k (Over o l m) h = held_entry w n k o o.file (unfolded_entries l) (unfolded_entries m) (elim h [
  | inl s ↦ inr (inr s)
  | inr s ↦ elim s [ inl a ↦ inl (held_entries w n k l a) | inr a ↦ inr (inl (held_entries w n k m a)) ]
])

pub held_arranged : (order : List ℕ) (w : Unfolded) (n : Name) (k : Nest) (os : List Own) → Some_row (λ o. Holds w n k (inside_own o)) os → Holds w n k (nest (treap_of_entries order os))
held_arranged order w n k os h =
    held_entries w n k (treap (beside (priority order) own_id) os) (in_treap (λ o. Holds w n k (inside_own o)) (beside (priority order) own_id) os h)

row_arranged : (order : List ℕ) (n : Name) (w : Unfolded) (os : List Own) → StandsRow n w os → Stands n w (nest (treap_of_entries order os))
row_arranged order (Block f p) w os s = s
row_arranged order (Entry i) w os s = (s.0, held_arranged order w (Entry i) s.0 os s.1)
row_arranged order (Part f l i) w os s = (s.0, held_arranged order w (Part f l i) s.0 os s.1)

first_row : (n : Name) (w : Unfolded) (o : Own) (os : List Own) → Stands n w (inside_own o) → StandsRow n w (o ∷ os)
first_row (Block f p) w o os s = s
first_row (Entry i) w o os s = (s.0, inl s.1)
first_row (Part f l i) w o os s = (s.0, inl s.1)

later_row : (n : Name) (w : Unfolded) (o : Own) (os : List Own) → StandsRow n w os → StandsRow n w (o ∷ os)
later_row (Block f p) w o os s = s
later_row (Entry i) w o os s = (s.0, inr s.1)
later_row (Part f l i) w o os s = (s.0, inr s.1)

-- what is found inside rows stands inside their entries
inside_stands : (order : List ℕ) (n : Name) (rows : Rows) (w : Unfolded) → inside_rows order n rows ≡ Some w → StandsRow n w (owns order rows)
unfolding directory
inside_stands order n End w e = absurd (cc)
inside_stands order n (Row id name None inside next) w e =
    let own : Own = record { id = id; name = name; file = None; inside = treap_of_entries order (owns order inside) } in
    elim (either_of (either (in_directory n (directory order inside)) (inside_rows order n inside)) (inside_rows order n next) w e) [
      | inl s ↦ elim (either_of (in_directory n (directory order inside)) (inside_rows order n inside) w s) [
        | inl a ↦ first_row n w own (owns order next) (directory_stands n (directory order inside) w a)
        | inr a ↦ first_row n w own (owns order next) (row_arranged order n w (owns order inside) (inside_stands order n inside w a))
      ]
      | inr s ↦ later_row n w own (owns order next) (inside_stands order n next w s)
    ]
inside_stands order n (Row id name (Some f) inside next) w e =
    let own : Own = record { id = id; name = name; file = Some f; inside = treap_of_entries order (owns order inside) } in
    elim (either_of (in_file n id f) (inside_rows order n next) w e) [
      | inl s ↦ first_row n w own (owns order next) (file_stands n id f w s)
      | inr s ↦ later_row n w own (owns order next) (inside_stands order n next w s)
    ]

abbrev pub below : List ℕ → Name → Rows → Option Unfolded
below order n rows = either (in_directory n (directory order rows)) (inside_rows order n rows)

pub below_stands : (order : List ℕ) (n : Name) (rows : Rows) (w : Unfolded) → below order n rows ≡ Some w → Stands n w (nest (directory order rows))
unfolding directory
below_stands order n rows w e = elim (either_of (in_directory n (directory order rows)) (inside_rows order n rows) w e) [
  | inl s ↦ directory_stands n (directory order rows) w s
  | inr s ↦ row_arranged order n w (owns order rows) (inside_stands order n rows w s)
]
