-- What a sound table shows is formed, and apart.
use Rattle.std.proofs.Common.{◌≡◌, inl, inr, ℕ, ◌+◌, ◌-◌, ◌*◌, ◌≤◌, List, Option, Some, refl, sym, ◌∙◌, ap, subst, arith}
use Rattle.iris_name.specs.declared.name.Name.{Name}
use Rattle.iris_name.specs.declared.name.Name.TheVariants.{Entry, Part, Block}
use Rattle.iris_node.specs.Local.{Local}
use Rattle.iris_node.specs.Trees.{IsAbove, node_name, said}
use Rattle.iris_node.specs.Unfolded.{Unfolded, Absent, Folder, Leaf, Even, Split, Stored, id_of}
use Rattle.iris_cache.specs.Laws.{IsLinked, IsSide, IsFormed, IsApart, AreApart}
use Rattle.iris_rows.specs.Rows.{Table}
use Rattle.iris_records.specs.Shown.{shown}
use Rattle.iris_rows.specs.Sound.{IsSound}
use Rattle.iris_table_laws.proofs.TreeOfTable.{is_tree, trees, once, shown_stands, held_above}
use Rattle.iris_table_laws.proofs.NestedNodes.{Nest, Bare, Around, Both, Holds, many, nest, inner, held_counts}
use Rattle.iris_table_laws.proofs.NodeParents.{nodes_have_parents}
use Rattle.iris_table_laws.proofs.SameNodes.{SideOf, EntryOf, FitsAt}
use Rattle.iris_table_laws.proofs.NodesInTrees.{IsStored}
use Rattle.iris_table_laws.proofs.SameTables.{fits, node_named}
use Rattle.iris_forest.specs.Forest.{TablesAreTrees, TablesAreFormed, TablesAreApart, TablesAreRooted}

pub stands_tree : TablesAreTrees
stands_tree order t s = is_tree order t s

pub rooted : TablesAreRooted
rooted order t s n u e m = nodes_have_parents order t n u s e m

linked_of : (at : Name → Option Local) (u : Unfolded) → EntryOf at u → IsLinked u
linked_of at Absent e = tt
linked_of at (Folder id name less more inside) e = tt
linked_of at (Leaf id name less more size counter versions) e = tt
linked_of at (Even v) e = absurd e
linked_of at (Split f l j low high) e = absurd e
linked_of at (Stored v bytes) e = absurd e

part_is : (f l j file level index : ℕ) → f ≡ file → l ≡ level → j ≡ index → Part (id_of f) l j ≡ Part (id_of file) level index
part_is f l j file level index a b c = ap (λ z. Part (id_of z) l j) a ∙ ap (λ z. Part (id_of file) z j) b ∙ ap (λ z. Part (id_of file) level z) c

side_of : (at : Name → Option Local) (file level index : ℕ) (u : Unfolded) → SideOf at file level index u → IsSide (Part (id_of file) level index) u
side_of at file level index (Even v) s = tt
side_of at file level index (Split f l j low high) s = part_is f l j file level index s.0 s.1 s.2
side_of at file level index Absent s = absurd s
side_of at file level index (Folder id name less more inside) s = absurd s
side_of at file level index (Leaf id name less more size counter versions) s = absurd s
side_of at file level index (Stored v bytes) s = absurd s

split_formed : (at : Name → Option Local) (file level index f l j : ℕ) (low high : Unfolded) → f ≡ file → l ≡ level → j ≡ index
    → SideOf at file (level - 1) (2 * index) low → SideOf at file (level - 1) (2 * index + 1) high → IsFormed (Split f l j low high)
split_formed at file level index f l j low high a b c lo hi =
    let e : Part (id_of file) (level - 1) (2 * index) ≡ Part (id_of f) (l - 1) (2 * j) = sym (part_is f (l - 1) (2 * j) file (level - 1) (2 * index) a (ap (λ z. z - 1) b) (ap (λ z. 2 * z) c)) in
    let g : Part (id_of file) (level - 1) (2 * index + 1) ≡ Part (id_of f) (l - 1) (2 * j + 1) = sym (part_is f (l - 1) (2 * j + 1) file (level - 1) (2 * index + 1) a (ap (λ z. z - 1) b) (ap (λ z. 2 * z + 1) c)) in
    (subst (λ z. IsSide z low) e (side_of at file (level - 1) (2 * index) low lo), subst (λ z. IsSide z high) g (side_of at file (level - 1) (2 * index + 1) high hi))

formed_at : (at : Name → Option Local) (n : Name) (u : Unfolded) → FitsAt at n u → IsFormed u
formed_at at (Entry i) Absent s = tt
formed_at at (Entry i) (Folder id name less more inside) s = (linked_of at less s.1, (linked_of at more s.2, linked_of at inside s.3))
formed_at at (Entry i) (Leaf id name less more size counter versions) s = (linked_of at less s.1, (linked_of at more s.2, side_of at id 16 0 versions s.3))
formed_at at (Entry i) (Even v) s = absurd s
formed_at at (Entry i) (Split f l j low high) s = absurd s
formed_at at (Entry i) (Stored v bytes) s = absurd s
formed_at at (Part g l i) Absent s = absurd s
formed_at at (Part g l i) (Folder id name less more inside) s = absurd s
formed_at at (Part g l i) (Leaf id name less more size counter versions) s = absurd s
formed_at at (Part g l i) (Even v) s = tt
formed_at at (Part g l i) (Split f m j low high) s = split_formed at g.0 l i f m j low high s.0 s.1 s.2 s.4 s.5
formed_at at (Part g l i) (Stored v bytes) s = absurd s
formed_at at (Block g p) u s = absurd s

stored_formed : (u : Unfolded) → IsStored u → IsFormed u
stored_formed (Stored v bytes) s = tt
stored_formed Absent s = absurd s
stored_formed (Folder id name less more inside) s = absurd s
stored_formed (Leaf id name less more size counter versions) s = absurd s
stored_formed (Even v) s = absurd s
stored_formed (Split f l j low high) s = absurd s

pub formed : TablesAreFormed
formed order t s n u e = by n e where
  by : (n : Name) → shown order t n ≡ Some u → IsFormed u
  by (Entry i) e = formed_at (λ m. said (shown order t m)) (Entry i) u (fits order t (Entry i) u s (node_named order t (Entry i) u s tt e) e)
  by (Part f l i) e = formed_at (λ m. said (shown order t m)) (Part f l i) u (fits order t (Part f l i) u s (node_named order t (Part f l i) u s tt e) e)
  by (Block f p) e = stored_formed u (shown_stands order t (Block f p) u s.hand e)

-- a node counts in its nest
pub named_counts : (w : Unfolded) (n : Name) → node_name w ≡ Some n → 1 ≤ many n (nest w)
named_counts (Folder id name less more inside) n e =
    let h : n ≡ Entry (id_of id) = cc in held_counts (Folder id name less more inside) n (inner (Folder id name less more inside)) (nest (Folder id name less more inside)) (inl (refl, h, refl))
named_counts (Leaf id name less more size counter versions) n e =
    let h : n ≡ Entry (id_of id) = cc in
    held_counts (Leaf id name less more size counter versions) n (inner (Leaf id name less more size counter versions)) (nest (Leaf id name less more size counter versions)) (inl (refl, h, refl))
named_counts (Split f l j low high) n e =
    let h : n ≡ Part (id_of f) l j = cc in held_counts (Split f l j low high) n (inner (Split f l j low high)) (nest (Split f l j low high)) (inl (refl, h, refl))
named_counts Absent n e = absurd (cc)
named_counts (Even v) n e = absurd (cc)
named_counts (Stored v bytes) n e = absurd (cc)

-- what is inside a node counts where the node is held
pub inner_counts : (w : Unfolded) (n m : Name) (k x : Nest) → Holds w n k x → many m k ≤ many m x
inner_counts w n m k Bare h = absurd h
inner_counts w n m k (Around u p c) h = elim h [
  | inl s ↦ (let e : many m k ≡ many m c = ap (many m) s.2 in omega (arith, e))
  | inr s ↦ (let o = inner_counts w n m k c s in omega (arith, o))
]
inner_counts w n m k (Both a b) h = elim h [
  | inl s ↦ (let o = inner_counts w n m k a s in omega (arith, o))
  | inr s ↦ (let o = inner_counts w n m k b s in omega (arith, o))
]

-- two places inside a node that stands once don't lead to one name
apart_by : (order : List ℕ) (t : Table) (u x y c : Unfolded) (p : Name) → IsSound t → shown order t p ≡ Some u → IsAbove u c
    → ((m : Name) → many m (nest x) + many m (nest y) ≤ many m (inner u)) → AreApart x y
apart_by order t u x y c p s e a h m f g =
    let k = h m in
    let o = once order t m s in
    let i = inner_counts u p m (inner u) (trees order t) (held_above order t p u c s e a) in
    let q = named_counts x m f in
    let r = named_counts y m g in
    omega (arith, k, o, i, q, r)

pub apart : TablesAreApart
apart order t s p u e = by u e where
  by : (u : Unfolded) → shown order t p ≡ Some u → IsApart u
  by (Folder id name less more inside) e = (
    apart_by order t (Folder id name less more inside) less more less p s e (inl refl) (λ m. omega arith),
    (
      apart_by order t (Folder id name less more inside) less inside less p s e (inl refl) (λ m. omega arith),
      apart_by order t (Folder id name less more inside) more inside less p s e (inl refl) (λ m. omega arith),
    ),
  )
  by (Leaf id name less more size counter versions) e = apart_by order t (Leaf id name less more size counter versions) less more less p s e (inl refl) (λ m. omega arith)
  by (Split f l j low high) e = tt
  by Absent e = tt
  by (Even v) e = tt
  by (Stored v bytes) e = tt
