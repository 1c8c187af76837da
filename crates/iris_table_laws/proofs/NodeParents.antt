-- Of the nodes that a sound table shows exactly both roots have no parent.
use Rattle.std.proofs.Common.{◌≡◌, ◌⊎◌, inl, inr, ℕ, List, Some, refl, sym, ◌∙◌, ap, arith}
use Rattle.iris_name.specs.declared.name.Name.{Name}
use Rattle.iris_name.specs.declared.name.Name.TheVariants.{Entry, Part}
use Rattle.iris_node.specs.Trees.{IsAbove, IsParent, node_name, IsRootName}
use Rattle.iris_node.specs.Unfolded.{Unfolded, Absent, Folder, Leaf, Even, Split, Stored, id_of}
use Rattle.iris_table_laws.specs.Parents.{NodesHaveParents, RootsHaveNone}
use Rattle.iris_rows.specs.Rows.{Table}
use Rattle.iris_records.specs.Shown.{root_entry, trash_entry, shown}
use Rattle.iris_rows.specs.Sound.{IsSound}
use Rattle.iris_table_laws.proofs.TreeOfTable.{trees, seen_node, held_above, once}
use Rattle.iris_table_laws.proofs.NestedNodes.{Nest, Holds, Tops, nest, inner, above_top, twice}
use Rattle.iris_table_laws.proofs.NodesInTrees.{Into}
use Rattle.iris_table_laws.proofs.SameTables.{all_stand, node_named}

-- some node of a nest stands directly above it
record HasParent (w : Unfolded) (x : Nest) : Type 0 where
  pub name : Name
  pub node : Unfolded
  pub kids : Nest
  pub held : Holds node name kids x
  pub above : IsAbove node w

lifted : (w : Unfolded) (x y : Nest) → Into x y → HasParent w x → HasParent w y
lifted w x y f h = record { name = h.name; node = h.node; kids = h.kids; held = f h.node h.name h.kids h.held; above = h.above }

-- below a child, or the child itself
in_child : (u c w : Unfolded) (m : Name) (k : Nest) → Holds u m k (nest u) → (w ≡ c → IsAbove u w) → Into (nest c) (nest u) → (w ≡ c) ⊎ HasParent w (nest c) → (w ≡ u) ⊎ HasParent w (nest u)
in_child u c w m k h a f r = elim r [
  | inl e ↦ inr (record { name = m; node = u; kids = k; held = h; above = a e })
  | inr p ↦ inr (lifted w (nest c) (nest u) f p)
]

held_parent : (u w : Unfolded) (n : Name) (k : Nest) → Holds w n k (nest u) → (w ≡ u) ⊎ HasParent w (nest u)
held_parent (Folder id name less more inside) w n k h =
    let u : Unfolded = Folder id name less more inside in
    elim h [
      | inl a ↦ inl a.0
      | inr a ↦ elim a [
        | inl b ↦ in_child u less w (Entry (id_of id)) (inner u) (inl (refl, refl, refl)) (λ e. inl e) (λ w n k q. inr (inl q)) (held_parent less w n k b)
        | inr r ↦ elim r [
          | inl b ↦ in_child u more w (Entry (id_of id)) (inner u) (inl (refl, refl, refl)) (λ e. inr (inl e)) (λ w n k q. inr (inr (inl q))) (held_parent more w n k b)
          | inr b ↦ in_child u inside w (Entry (id_of id)) (inner u) (inl (refl, refl, refl)) (λ e. inr (inr e)) (λ w n k q. inr (inr (inr q))) (held_parent inside w n k b)
        ]
      ]
    ]
held_parent (Leaf id name less more size counter vs) w n k h =
    let u : Unfolded = Leaf id name less more size counter vs in
    elim h [
      | inl a ↦ inl a.0
      | inr a ↦ elim a [
        | inl b ↦ in_child u less w (Entry (id_of id)) (inner u) (inl (refl, refl, refl)) (λ e. inl e) (λ w n k q. inr (inl q)) (held_parent less w n k b)
        | inr r ↦ elim r [
          | inl b ↦ in_child u more w (Entry (id_of id)) (inner u) (inl (refl, refl, refl)) (λ e. inr (inl e)) (λ w n k q. inr (inr (inl q))) (held_parent more w n k b)
          | inr b ↦ in_child u vs w (Entry (id_of id)) (inner u) (inl (refl, refl, refl)) (λ e. inr (inr e)) (λ w n k q. inr (inr (inr q))) (held_parent vs w n k b)
        ]
      ]
    ]
held_parent (Split file level index low high) w n k h =
    let u : Unfolded = Split file level index low high in
    elim h [
      | inl a ↦ inl a.0
      | inr a ↦ elim a [
        | inl b ↦ in_child u low w (Part (id_of file) level index) (inner u) (inl (refl, refl, refl)) (λ e. inl e) (λ w n k q. inr (inl q)) (held_parent low w n k b)
        | inr b ↦ in_child u high w (Part (id_of file) level index) (inner u) (inl (refl, refl, refl)) (λ e. inr e) (λ w n k q. inr (inr q)) (held_parent high w n k b)
      ]
    ]
held_parent Absent w n k h = absurd h
held_parent (Even v) w n k h = absurd h
held_parent (Stored v bytes) w n k h = absurd h

same_name_of : (n m : Name) (u r : Unfolded) → u ≡ r → node_name u ≡ Some n → node_name r ≡ Some m → n ≡ m
same_name_of n m u r e f g = let k : Some n ≡ Some m = sym f ∙ ap node_name e ∙ g in cc

pub nodes_have_parents : NodesHaveParents
nodes_have_parents order t n u s e m = by (seen_node order t n u u s (node_named order t n u s m e) e) where
  parent : HasParent u (trees order t) → (p : Name) × IsParent (shown order t) p n
  parent h = (h.name, record { parent = h.node; child = u; live = all_stand order t s h.node h.name h.kids h.held; above = h.above; named = node_named order t n u s m e })

  by : Holds u n (inner u) (trees order t) → IsRootName n ⊎ ((p : Name) × IsParent (shown order t) p n)
  by h = elim h [
    | inl a ↦ elim (held_parent (root_entry order t) u n (inner u) a) [
      | inl r ↦ inl (inl (same_name_of n (Entry (id_of 0)) u (root_entry order t) r (node_named order t n u s m e) refl))
      | inr r ↦ inr (parent (lifted u (nest (root_entry order t)) (trees order t) (λ w n k q. inl q) r))
    ]
    | inr a ↦ elim (held_parent (trash_entry order t) u n (inner u) a) [
      | inl r ↦ inl (inr (same_name_of n (Entry (id_of 1)) u (trash_entry order t) r (node_named order t n u s m e) refl))
      | inr r ↦ inr (parent (lifted u (nest (trash_entry order t)) (trees order t) (λ w n k q. inr q) r))
    ]
  ]

-- a name at the top of both trees isn't below another
top_alone : (order : List ℕ) (t : Table) (p n : Name) (r : Unfolded) → IsSound t → Tops r n (inner r) (trees order t) → IsParent (shown order t) p n → ⊥
top_alone order t p n r s h a =
    let o = once order t n s in
    let l = twice r a.child a.parent n p (inner r) (inner a.child) (inner a.parent) (trees order t) h (held_above order t p a.parent a.child s a.live a.above) (above_top a.parent a.child n a.above a.named) in
    omega (arith, o, l)

pub roots_have_none : RootsHaveNone
roots_have_none order t p n s h a = elim h [
  | inl e ↦ top_alone order t p n (root_entry order t) s (inl (refl, e, refl)) a
  | inr e ↦ top_alone order t p n (trash_entry order t) s (inr (refl, e, refl)) a
]
