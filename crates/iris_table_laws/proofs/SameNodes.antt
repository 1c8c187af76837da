-- Unfolded nodes that say the same, each by itself, are the same.
use Rattle.std.proofs.Common.{◌≡◌, inl, inr, ℕ, ◌+◌, ◌-◌, ◌*◌, Option, Some, None, refl, sym, ◌∙◌, ap, subst}
use Rattle.iris_name.specs.declared.name.Name.{Name}
use Rattle.iris_name.specs.declared.name.Name.TheVariants.{Entry, Part, Block}
use Rattle.iris_node.specs.Local.{Lead, Local, led, even, local}
use Rattle.iris_node.specs.Trees.{AllNodes}
use Rattle.iris_node.specs.Unfolded.{Unfolded, Absent, Folder, Leaf, Even, Split, Stored, id_of, blocks}
use Rattle.iris_table_laws.proofs.NestedNodes.{Nest, Holds, nest}

-- a side of the part of a level and an index, whose nodes say this
abbrev pub SideOf : (Name → Option Local) → ℕ → ℕ → ℕ → Unfolded → Type 0
SideOf at file level index (Even v) = Unit {0}
SideOf at file level index (Split f l j low high) =
    (f ≡ file) × (l ≡ level) × (j ≡ index) × (at (Part (id_of f) l j) ≡ local (Split f l j low high))
    × SideOf at file (level - 1) (2 * index) low × SideOf at file (level - 1) (2 * index + 1) high
SideOf at file level index Absent = ⊥
SideOf at file level index (Folder id name less more inside) = ⊥
SideOf at file level index (Leaf id name less more size counter versions) = ⊥
SideOf at file level index (Stored v bytes) = ⊥

-- entries whose nodes say this
abbrev pub EntryOf : (Name → Option Local) → Unfolded → Type 0
EntryOf at Absent = Unit {0}
EntryOf at (Folder id name less more inside) =
    (at (Entry (id_of id)) ≡ local (Folder id name less more inside)) × EntryOf at less × EntryOf at more × EntryOf at inside
EntryOf at (Leaf id name less more size counter versions) =
    (at (Entry (id_of id)) ≡ local (Leaf id name less more size counter versions)) × EntryOf at less × EntryOf at more × SideOf at id 16 0 versions
EntryOf at (Even v) = ⊥
EntryOf at (Split f l j low high) = ⊥
EntryOf at (Stored v bytes) = ⊥

lead_id : Option Lead → ℕ
lead_id None = 0
lead_id (Some l) = l.id

same_ids : (l m : Lead) → Some l ≡ Some m → l.id ≡ m.id
unfolding lead_id
same_ids l m e = ap lead_id e

part_name : (f g l m j i file level index : ℕ) → f ≡ file → l ≡ level → j ≡ index → g ≡ file → m ≡ level → i ≡ index → Part (id_of f) l j ≡ Part (id_of g) m i
part_name f g l m j i file level index a b c d e h = let x : f ≡ g = a ∙ sym d in let y : l ≡ m = b ∙ sym e in let z : j ≡ i = c ∙ sym h in
    ap (λ z. Part (id_of z) l j) x ∙ ap (λ z. Part (id_of g) z j) y ∙ ap (λ z. Part (id_of g) m z) z

module _ (at : Name → Option Local) where
  pub same_side : (file level index : ℕ) (t u : Unfolded) → SideOf at file level index t → SideOf at file level index u → even t ≡ even u → t ≡ u
  same_side file level index (Even v) (Even w) a b e = cc
  same_side file level index (Even v) (Split f l j low high) a b e = absurd (cc)
  same_side file level index (Split f l j low high) (Even v) a b e = absurd (cc)
  same_side file level index (Split f l j low high) (Split g m i low' high') a b e =
      let is : local (Split f l j low high) ≡ local (Split g m i low' high') = sym (a.3) ∙ ap at (part_name f g l m j i file level index a.0 a.1 a.2 b.0 b.1 b.2) ∙ b.3 in
      let one : even low ≡ even low' = cc in
      let two : even high ≡ even high' = cc in
      let x = same_side file (level - 1) (2 * index) low low' a.4 b.4 one in
      let y = same_side file (level - 1) (2 * index + 1) high high' a.5 b.5 two in
      let ff : f ≡ g = a.0 ∙ sym b.0 in let ll : l ≡ m = a.1 ∙ sym b.1 in let jj : j ≡ i = a.2 ∙ sym b.2 in cc
  same_side file level index (Even v) u a b e = absurd b
  same_side file level index (Split f l j low high) u a b e = absurd b
  same_side file level index t u a b e = absurd a

  -- entries with the same lead
  pub same_entry : (t u : Unfolded) → EntryOf at t → EntryOf at u → led t ≡ led u → t ≡ u
  same_entry Absent Absent a b e = refl
  same_entry Absent (Folder id name less more inside) a b e = absurd (cc)
  same_entry Absent (Leaf id name less more size counter side) a b e = absurd (cc)
  same_entry (Folder id name less more inside) Absent a b e = absurd (cc)
  same_entry (Leaf id name less more size counter side) Absent a b e = absurd (cc)
  same_entry (Folder id name less more inside) (Folder id' name' less' more' inside') a b e =
      let i : id ≡ id' = same_ids _ _ e in
      let is : local (Folder id name less more inside) ≡ local (Folder id' name' less' more' inside') = sym (a.0) ∙ (ap (λ z. at (Entry (id_of z))) i ∙ b.0) in
      let x = same_entry less less' a.1 b.1 (cc) in let y = same_entry more more' a.2 b.2 (cc) in let z = same_entry inside inside' a.3 b.3 (cc) in
      let nn : name ≡ name' = cc in cc
  same_entry (Leaf id name less more size counter side) (Leaf id' name' less' more' size' counter' side') a b e =
      let i : id ≡ id' = same_ids _ _ e in
      let is : local (Leaf id name less more size counter side) ≡ local (Leaf id' name' less' more' size' counter' side') = sym (a.0) ∙ (ap (λ z. at (Entry (id_of z))) i ∙ b.0) in
      let x = same_entry less less' a.1 b.1 (cc) in let y = same_entry more more' a.2 b.2 (cc) in
      let z = same_side id 16 0 side side' a.3 (subst (λ k. SideOf at k 16 0 side') (sym i) b.3) (cc) in
      let nn : name ≡ name' = cc in let ss : size ≡ size' = cc in let cs : counter ≡ counter' = cc in cc
  same_entry (Folder id name less more inside) (Leaf id' name' less' more' size' counter' side') a b e =
      let i : id ≡ id' = same_ids _ _ e in
      let is : local (Folder id name less more inside) ≡ local (Leaf id' name' less' more' size' counter' side') = sym (a.0) ∙ (ap (λ z. at (Entry (id_of z))) i ∙ b.0) in absurd (cc)
  same_entry (Leaf id name less more size counter side) (Folder id' name' less' more' inside') a b e =
      let i : id ≡ id' = same_ids _ _ e in
      let is : local (Leaf id name less more size counter side) ≡ local (Folder id' name' less' more' inside') = sym (a.0) ∙ (ap (λ z. at (Entry (id_of z))) i ∙ b.0) in absurd (cc)
  same_entry Absent u a b e = absurd b
  same_entry (Folder id name less more inside) u a b e = absurd b
  same_entry (Leaf id name less more size counter side) u a b e = absurd b
  same_entry t u a b e = absurd a

-- nodes that say the same in another tree stand there too
pub side_stays : (at by : Name → Option Local) (file level index : ℕ) (t : Unfolded) → AllNodes (λ n. at n ≡ by n) t → SideOf at file level index t → SideOf by file level index t
side_stays at by file level index (Even v) h s = tt
side_stays at by file level index (Split f l j low high) h s =
    (s.0, s.1, s.2, sym h.0 ∙ s.3, side_stays at by file (level - 1) (2 * index) low h.1 s.4, side_stays at by file (level - 1) (2 * index + 1) high h.2 s.5)
side_stays at by file level index t h s = absurd s

pub entry_stays : (at by : Name → Option Local) (t : Unfolded) → AllNodes (λ n. at n ≡ by n) t → EntryOf at t → EntryOf by t
entry_stays at by Absent h s = tt
entry_stays at by (Folder id name less more inside) h s = (sym h.0 ∙ s.0, entry_stays at by less h.1 s.1, entry_stays at by more h.2 s.2, entry_stays at by inside h.3 s.3)
entry_stays at by (Leaf id name less more size counter versions) h s = (sym h.0 ∙ s.0, entry_stays at by less h.1 s.1, entry_stays at by more h.2 s.2, side_stays at by id 16 0 versions h.3 s.3)
entry_stays at by t h s = absurd s

-- one tree in two tables: each of its nodes says the same in both
pub side_agrees : (at by : Name → Option Local) (file level index : ℕ) (t : Unfolded) → SideOf at file level index t → SideOf by file level index t → AllNodes (λ n. at n ≡ by n) t
side_agrees at by file level index (Even v) a b = tt
side_agrees at by file level index (Split f l j low high) a b =
    (a.3 ∙ sym (b.3), side_agrees at by file (level - 1) (2 * index) low a.4 b.4, side_agrees at by file (level - 1) (2 * index + 1) high a.5 b.5)
side_agrees at by file level index t a b = absurd a

pub entry_agrees : (at by : Name → Option Local) (t : Unfolded) → EntryOf at t → EntryOf by t → AllNodes (λ n. at n ≡ by n) t
entry_agrees at by Absent a b = tt
entry_agrees at by (Folder id name less more inside) a b = (a.0 ∙ sym (b.0), entry_agrees at by less a.1 b.1, entry_agrees at by more a.2 b.2, entry_agrees at by inside a.3 b.3)
entry_agrees at by (Leaf id name less more size counter versions) a b = (a.0 ∙ sym (b.0), entry_agrees at by less a.1 b.1, entry_agrees at by more a.2 b.2, side_agrees at by id 16 0 versions a.3 b.3)
entry_agrees at by t a b = absurd a

-- entries that say the same have the same lead

lead_blocks : Option Lead → ℕ
lead_blocks None = 0
lead_blocks (Some l) = l.blocks

led_blocks : (at : Name → Option Local) (t : Unfolded) → EntryOf at t → blocks t ≡ lead_blocks (led t)
unfolding lead_blocks
led_blocks at Absent a = refl
led_blocks at (Folder id name less more inside) a = refl
led_blocks at (Leaf id name less more size counter versions) a = refl
led_blocks at t a = absurd a

same_blocks : (at : Name → Option Local) (t u : Unfolded) → EntryOf at t → EntryOf at u → led t ≡ led u → blocks t ≡ blocks u
same_blocks at t u a b e = led_blocks at t a ∙ ap lead_blocks e ∙ sym (led_blocks at u b)

pub same_led : (at : Name → Option Local) (t u : Unfolded) → EntryOf at t → EntryOf at u → local t ≡ local u → led t ≡ led u
same_led at Absent Absent a b e = refl
same_led at Absent (Folder id name less more inside) a b e = absurd (cc)
same_led at Absent (Leaf id name less more size counter side) a b e = absurd (cc)
same_led at (Folder id name less more inside) Absent a b e = absurd (cc)
same_led at (Leaf id name less more size counter side) Absent a b e = absurd (cc)
same_led at (Folder id name less more inside) (Folder id' name' less' more' inside') a b e =
    let i : id ≡ id' = cc in
    let x = same_blocks at less less' a.1 b.1 (cc) in let y = same_blocks at more more' a.2 b.2 (cc) in let z = same_blocks at inside inside' a.3 b.3 (cc) in cc
same_led at (Leaf id name less more size counter side) (Leaf id' name' less' more' size' counter' side') a b e =
    let i : id ≡ id' = cc in let s : size ≡ size' = cc in
    let x = same_blocks at less less' a.1 b.1 (cc) in let y = same_blocks at more more' a.2 b.2 (cc) in cc
same_led at (Folder id name less more inside) (Leaf id' name' less' more' size' counter' side') a b e = absurd (cc)
same_led at (Leaf id name less more size counter side) (Folder id' name' less' more' inside') a b e = absurd (cc)
same_led at Absent u a b e = absurd b
same_led at (Folder id name less more inside) u a b e = absurd b
same_led at (Leaf id name less more size counter side) u a b e = absurd b
same_led at t u a b e = absurd a

-- a node that stands below another

abbrev pub FitsAt : (Name → Option Local) → Name → Unfolded → Type 0
FitsAt at (Entry i) w = EntryOf at w
FitsAt at (Part g l i) w = SideOf at g.0 l i w
FitsAt at (Block g p) w = ⊥

held_side : (at : Name → Option Local) (file level index : ℕ) (u w : Unfolded) (n : Name) (k : Nest) → SideOf at file level index u → Holds w n k (nest u) → FitsAt at n w
held_side at file level index (Even v) w n k s h = absurd h
held_side at file level index (Split f l j low high) w n k s h = elim h [
  | inl a ↦ subst (λ z. FitsAt at z w) (sym a.1) (subst (λ z. SideOf at f l j z) (sym a.0)
      (subst (λ z. SideOf at z l j (Split f l j low high)) (sym s.0) (subst (λ z. SideOf at file z j (Split f l j low high)) (sym s.1) (subst (λ z. SideOf at file level z (Split f l j low high)) (sym s.2) s))))
  | inr a ↦ elim a [
    | inl b ↦ held_side at file (level - 1) (2 * index) low w n k s.4 b
    | inr b ↦ held_side at file (level - 1) (2 * index + 1) high w n k s.5 b
  ]
]
held_side at file level index u w n k s h = absurd s

pub held_entry : (at : Name → Option Local) (u w : Unfolded) (n : Name) (k : Nest) → EntryOf at u → Holds w n k (nest u) → FitsAt at n w
held_entry at Absent w n k s h = absurd h
held_entry at (Folder id name less more inside) w n k s h = elim h [
  | inl a ↦ subst (λ z. FitsAt at z w) (sym a.1) (subst (EntryOf at) (sym a.0) s)
  | inr a ↦ elim a [
    | inl b ↦ held_entry at less w n k s.1 b
    | inr r ↦ elim r [ inl b ↦ held_entry at more w n k s.2 b | inr b ↦ held_entry at inside w n k s.3 b ]
  ]
]
held_entry at (Leaf id name less more size counter versions) w n k s h = elim h [
  | inl a ↦ subst (λ z. FitsAt at z w) (sym a.1) (subst (EntryOf at) (sym a.0) s)
  | inr a ↦ elim a [
    | inl b ↦ held_entry at less w n k s.1 b
    | inr r ↦ elim r [ inl b ↦ held_entry at more w n k s.2 b | inr b ↦ held_side at id 16 0 versions w n k s.3 b ]
  ]
]
held_entry at u w n k s h = absurd s
