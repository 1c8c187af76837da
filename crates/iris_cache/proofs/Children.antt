-- The children of a node, by what it says by itself.
use Rattle.std.proofs.Common.{◌≡◌, ◌⊎◌, ◌-◌, ◌*◌, ◌+◌, inl, inr, ℕ, Option, Some, None, refl, ap, sym, ◌∙◌, subst}
use Rattle.iris_name.specs.declared.name.FileId.{FileId}
use Rattle.iris_name.specs.declared.name.Hash32.{Hash32}
use Rattle.iris_name.specs.declared.name.Name.{Name}
use Rattle.iris_name.specs.declared.name.Name.TheVariants as name
use Rattle.iris_node.specs.declared.node.Side.{Side}
use Rattle.iris_node.specs.declared.node.Side.TheVariants.{Fold, Below}
use Rattle.iris_node.specs.declared.node.Link.{Link}
use Rattle.iris_node.specs.declared.node.Body.{Body}
use Rattle.iris_node.specs.declared.node.Body.TheVariants.{Dir, File}
use Rattle.iris_node.specs.declared.node.Node.{Node}
use Rattle.iris_node.specs.declared.node.Node.TheVariants.{Entry, Part}
use Rattle.iris_node.specs.Fields.{EntryFields, PartFields}
use Rattle.iris_node.specs.Unfolded.{Unfolded, Absent, Folder, Leaf, Even, Split, Stored, id_of}
use Rattle.iris_node.specs.Local.{Lead, Local, local, local_of, led, led_by, even, even_by, entry_local}
use Rattle.iris_cache.specs.Laws.{IsFormed, IsLinked, IsSide, AreFormed}
use Rattle.iris_cache.specs.Rehash.{top_part, low_part, high_part}
use Rattle.iris_node.specs.Trees.{Shown, IsParent, IsAbove, IsNodeName, IsTree, node_name}
use Rattle.iris_cache.specs.Pictures.{IsLike, Holds, LinkHolds, SideHolds, BodyHolds}

abbrev pub lead-id : ℕ → Option Lead → ℕ
lead-id n None = n
lead-id n (Some l) = l.id

-- a link leads to what stands under its name
pub linked-name : (w : Unfolded) (l : Option Link) (n : Name) (x : Hash32) → led w ≡ led_by l → LinkHolds l n x → node_name w ≡ Some n
linked-name w None n x e h = absurd h
linked-name (Folder id label less more inside) (Some l) n x e h = let i : id ≡ l.id.0 = ap (lead-id id) e in ap (λ k. Some (name.Entry (id_of k))) i ∙ ap Some (sym h.0)
linked-name (Leaf id label less more size counter versions) (Some l) n x e h = let i : id ≡ l.id.0 = ap (lead-id id) e in ap (λ k. Some (name.Entry (id_of k))) i ∙ ap Some (sym h.0)
linked-name Absent (Some l) n x e h = cc
linked-name (Even v) (Some l) n x e h = cc
linked-name (Split f k i low high) (Some l) n x e h = cc
linked-name (Stored v bytes) (Some l) n x e h = cc

-- a side that is no version leads to its part
side-name : (a : Name) (w : Unfolded) (s : Side) (n : Name) (x : Hash32) → even w ≡ even_by s → IsSide a w → SideHolds a s n x → node_name w ≡ Some n
side-name a w (Fold v) n x e formed h = absurd h
side-name a (Split f k i low high) (Below y) n x e formed h = ap Some (formed ∙ sym h.0)
side-name a (Even v) (Below y) n x e formed h = cc
side-name a Absent (Below y) n x e formed h = absurd formed
side-name a (Folder id label less more inside) (Below y) n x e formed h = absurd formed
side-name a (Leaf id label less more size counter versions) (Below y) n x e formed h = absurd formed
side-name a (Stored v bytes) (Below y) n x e formed h = absurd formed

-- the child of this name
abbrev Child : Unfolded → Name → Type 0
Child u n = (w : Unfolded) × IsAbove u w × (node_name w ≡ Some n)

entry-child : (u : Unfolded) (e : EntryFields) (b : Body) (n : Name) (x : Hash32) → IsFormed u → local u ≡ Some (entry_local e b) → LinkHolds e.left n x ⊎ (LinkHolds e.right n x ⊎ BodyHolds e.id b n x) → Child u n
entry-child (Folder id label less more inside) e (Dir top) n x formed is (inl h) = let q : led less ≡ led_by e.left = cc in (less, inl refl, linked-name less e.left n x q h)
entry-child (Folder id label less more inside) e (Dir top) n x formed is (inr (inl h)) = let q : led more ≡ led_by e.right = cc in (more, inr (inl refl), linked-name more e.right n x q h)
entry-child (Folder id label less more inside) e (Dir top) n x formed is (inr (inr h)) = let q : led inside ≡ led_by top = cc in (inside, inr (inr refl), linked-name inside top n x q h)
entry-child (Leaf id label less more size counter versions) e (File s k v) n x formed is (inl h) = let q : led less ≡ led_by e.left = cc in (less, inl refl, linked-name less e.left n x q h)
entry-child (Leaf id label less more size counter versions) e (File s k v) n x formed is (inr (inl h)) = let q : led more ≡ led_by e.right = cc in (more, inr (inl refl), linked-name more e.right n x q h)
entry-child (Leaf id label less more size counter versions) e (File s k v) n x formed is (inr (inr h)) =
    let q : even versions ≡ even_by v = cc in
    let i : id ≡ e.id.0 = cc in
    let f : IsSide (top_part e.id) versions = subst (λ k. IsSide (top_part (id_of k)) versions) i formed.1.1 in
    (versions, inr (inr refl), side-name (top_part e.id) versions v n x q f h)
entry-child (Folder id label less more inside) e (File s k v) n x formed is h = cc
entry-child (Leaf id label less more size counter versions) e (Dir top) n x formed is h = cc
entry-child (Split f l i low high) e (Dir top) n x formed is h = cc
entry-child (Split f l i low high) e (File s k v) n x formed is h = cc
entry-child Absent e b n x formed is h = cc
entry-child (Even v) e b n x formed is h = cc
entry-child (Stored v bytes) e b n x formed is h = cc

-- the halves of a part, by its numbers
pub low-is : (f l i : ℕ) (p : PartFields) → f ≡ p.file.0 → l ≡ p.level → i ≡ p.index → name.Part (id_of f) (l - 1) (2 * i) ≡ low_part p
low-is f l i p a b c = ap (λ k. name.Part (id_of k) (l - 1) (2 * i)) a ∙ ap (λ k. name.Part p.file (k - 1) (2 * i)) b ∙ ap (λ k. name.Part p.file (p.level - 1) (2 * k)) c

pub high-is : (f l i : ℕ) (p : PartFields) → f ≡ p.file.0 → l ≡ p.level → i ≡ p.index → name.Part (id_of f) (l - 1) (2 * i + 1) ≡ high_part p
high-is f l i p a b c = ap (λ k. name.Part (id_of k) (l - 1) (2 * i + 1)) a ∙ ap (λ k. name.Part p.file (k - 1) (2 * i + 1)) b ∙ ap (λ k. name.Part p.file (p.level - 1) (2 * k + 1)) c

part-child : (u : Unfolded) (p : PartFields) (n : Name) (x : Hash32) → IsFormed u → local u ≡ Some (local_of (Part p)) → SideHolds (low_part p) p.low n x ⊎ SideHolds (high_part p) p.high n x → Child u n
part-child (Split f l i low high) p n x formed is (inl h) =
    let q : even low ≡ even_by p.low = cc in
    let a : f ≡ p.file.0 = cc in
    let b : l ≡ p.level = cc in
    let c : i ≡ p.index = cc in
    (low, inl refl, side-name (low_part p) low p.low n x q (subst (λ k. IsSide k low) (low-is f l i p a b c) formed.0) h)
part-child (Split f l i low high) p n x formed is (inr h) =
    let q : even high ≡ even_by p.high = cc in
    let a : f ≡ p.file.0 = cc in
    let b : l ≡ p.level = cc in
    let c : i ≡ p.index = cc in
    (high, inr refl, side-name (high_part p) high p.high n x q (subst (λ k. IsSide k high) (high-is f l i p a b c) formed.1) h)
part-child (Folder id label less more inside) p n x formed is h = cc
part-child (Leaf id label less more size counter versions) p n x formed is h = cc
part-child Absent p n x formed is h = cc
part-child (Even v) p n x formed is h = cc
part-child (Stored v bytes) p n x formed is h = cc

node-child : (u : Unfolded) (k : Node) (n : Name) (x : Hash32) → IsFormed u → local u ≡ Some (local_of k) → Holds k n x → Child u n
node-child u (Entry e) n x formed is h = entry-child u e e.body n x formed is h
node-child u (Part p) n x formed is h = part-child u p n x formed is h

child-of : (t : Shown) (p n : Name) (k : Node) (x : Hash32) (o : Option Unfolded) → t p ≡ o → ((u : Unfolded) → o ≡ Some u → IsFormed u) → IsLike o k → Holds k n x → IsParent t p n
child-of t p n k x None at formed like h = absurd like
child-of t p n k x (Some u) at formed like h = let r = node-child u k n x (formed u refl) like h in record { parent = u; child = r.0; live = at; above = r.1; named = r.2 }

-- where a node that says what the table's node says holds a hash, that is of a child in the table
pub held-child : (t : Shown) (p n : Name) (k : Node) (x : Hash32) → AreFormed t → IsLike (t p) k → Holds k n x → IsParent t p n
held-child t p n k x formed like h = child-of t p n k x (t p) refl (formed p) like h

-- ---- two nodes that say the same by themselves

-- what a link leads to is nothing, or an entry of the lead's id
abbrev Leads : Unfolded → Option Lead → Type 0
Leads w None = w ≡ Absent
Leads w (Some l) = node_name w ≡ Some (name.Entry (id_of l.id))

leads : (w : Unfolded) → IsLinked w → Leads w (led w)
leads Absent f = refl
leads (Folder id label less more inside) f = refl
leads (Leaf id label less more size counter versions) f = refl
leads (Even v) f = absurd f
leads (Split file level index low high) f = absurd f
leads (Stored v bytes) f = absurd f

same-led : (w v : Unfolded) (o : Option Lead) → Leads w o → Leads v o → ((m : Name) → node_name w ≡ Some m → node_name v ≡ Some m → w ≡ v) → w ≡ v
same-led w v None a b agree = a ∙ sym b
same-led w v (Some l) a b agree = agree (name.Entry (id_of l.id)) a b

same-linked : (w v : Unfolded) → led w ≡ led v → IsLinked w → IsLinked v → ((m : Name) → node_name w ≡ Some m → node_name v ≡ Some m → w ≡ v) → w ≡ v
same-linked w v e f g agree = same-led w v (led w) (leads w f) (subst (Leads v) (sym e) (leads v g)) agree

-- what lies on a side is its version, or a part of this name
abbrev Sides : Name → Unfolded → Option ℕ → Type 0
Sides a w (Some version) = w ≡ Even version
Sides a w None = node_name w ≡ Some a

sides : (a : Name) (w : Unfolded) → IsSide a w → Sides a w (even w)
sides a (Even v) f = refl
sides a (Split file level index low high) f = ap Some f
sides a Absent f = absurd f
sides a (Folder id label less more inside) f = absurd f
sides a (Leaf id label less more size counter versions) f = absurd f
sides a (Stored v bytes) f = absurd f

same-on : (a : Name) (w v : Unfolded) (o : Option ℕ) → Sides a w o → Sides a v o → ((m : Name) → node_name w ≡ Some m → node_name v ≡ Some m → w ≡ v) → w ≡ v
same-on a w v (Some version) x y agree = x ∙ sym y
same-on a w v None x y agree = agree a x y

same-side : (a : Name) (w v : Unfolded) → even w ≡ even v → IsSide a w → IsSide a v → ((m : Name) → node_name w ≡ Some m → node_name v ≡ Some m → w ≡ v) → w ≡ v
same-side a w v e f g agree = same-on a w v (even w) (sides a w f) (subst (Sides a v) (sym e) (sides a v g)) agree

-- two nodes that say the same by themselves, with the same children, are the same
pub same-node : (u v : Unfolded) (l : Local) → local u ≡ Some l → local v ≡ Some l → IsFormed u → IsFormed v
    → ((w x : Unfolded) (m : Name) → IsAbove u w → IsAbove v x → node_name w ≡ Some m → node_name x ≡ Some m → w ≡ x) → u ≡ v
same-node (Folder id label less more inside) (Folder id' label' less' more' inside') l a b f g agree =
    let e : local (Folder id label less more inside) ≡ local (Folder id' label' less' more' inside') = a ∙ sym b in
    let i : id ≡ id' = cc in
    let n : label ≡ label' = cc in
    let el : led less ≡ led less' = cc in
    let em : led more ≡ led more' = cc in
    let ei : led inside ≡ led inside' = cc in
    let x : less ≡ less' = same-linked less less' el f.0 g.0 (λ m. agree less less' m (inl refl) (inl refl)) in
    let y : more ≡ more' = same-linked more more' em f.1.0 g.1.0 (λ m. agree more more' m (inr (inl refl)) (inr (inl refl))) in
    let z : inside ≡ inside' = same-linked inside inside' ei f.1.1 g.1.1 (λ m. agree inside inside' m (inr (inr refl)) (inr (inr refl))) in
    λ k. Folder (i k) (n k) (x k) (y k) (z k)
same-node (Leaf id label less more size counter versions) (Leaf id' label' less' more' size' counter' versions') l a b f g agree =
    let e : local (Leaf id label less more size counter versions) ≡ local (Leaf id' label' less' more' size' counter' versions') = a ∙ sym b in
    let i : id ≡ id' = cc in
    let n : label ≡ label' = cc in
    let s : size ≡ size' = cc in
    let t : counter ≡ counter' = cc in
    let el : led less ≡ led less' = cc in
    let em : led more ≡ led more' = cc in
    let ev : even versions ≡ even versions' = cc in
    let x : less ≡ less' = same-linked less less' el f.0 g.0 (λ m. agree less less' m (inl refl) (inl refl)) in
    let y : more ≡ more' = same-linked more more' em f.1.0 g.1.0 (λ m. agree more more' m (inr (inl refl)) (inr (inl refl))) in
    let h : IsSide (top_part (id_of id)) versions' = subst (λ k. IsSide (top_part (id_of k)) versions') (sym i) g.1.1 in
    let z : versions ≡ versions' = same-side (top_part (id_of id)) versions versions' ev f.1.1 h (λ m. agree versions versions' m (inr (inr refl)) (inr (inr refl))) in
    λ k. Leaf (i k) (n k) (x k) (y k) (s k) (t k) (z k)
same-node (Split file level index low high) (Split file' level' index' low' high') l a b f g agree =
    let e : local (Split file level index low high) ≡ local (Split file' level' index' low' high') = a ∙ sym b in
    let i : file ≡ file' = cc in
    let j : level ≡ level' = cc in
    let n : index ≡ index' = cc in
    let el : even low ≡ even low' = cc in
    let eh : even high ≡ even high' = cc in
    let p : IsSide (name.Part (id_of file) (level - 1) (2 * index)) low' = subst (λ q. IsSide q low') (λ k. name.Part (id_of (sym i k)) (sym j k - 1) (2 * sym n k)) g.0 in
    let q : IsSide (name.Part (id_of file) (level - 1) (2 * index + 1)) high' = subst (λ q. IsSide q high') (λ k. name.Part (id_of (sym i k)) (sym j k - 1) (2 * sym n k + 1)) g.1 in
    let x : low ≡ low' = same-side (name.Part (id_of file) (level - 1) (2 * index)) low low' el f.0 p (λ m. agree low low' m (inl refl) (inl refl)) in
    let y : high ≡ high' = same-side (name.Part (id_of file) (level - 1) (2 * index + 1)) high high' eh f.1 q (λ m. agree high high' m (inr refl) (inr refl)) in
    λ k. Split (i k) (j k) (n k) (x k) (y k)
same-node (Folder id label less more inside) (Leaf id' label' less' more' size' counter' versions') l a b f g agree = cc
same-node (Folder id label less more inside) (Split file' level' index' low' high') l a b f g agree = cc
same-node (Leaf id label less more size counter versions) (Folder id' label' less' more' inside') l a b f g agree = cc
same-node (Leaf id label less more size counter versions) (Split file' level' index' low' high') l a b f g agree = cc
same-node (Split file level index low high) (Folder id' label' less' more' inside') l a b f g agree = cc
same-node (Split file level index low high) (Leaf id' label' less' more' size' counter' versions') l a b f g agree = cc
same-node Absent v l a b f g agree = cc
same-node (Even n) v l a b f g agree = cc
same-node (Stored n bytes) v l a b f g agree = cc
same-node (Folder id label less more inside) Absent l a b f g agree = cc
same-node (Folder id label less more inside) (Even n) l a b f g agree = cc
same-node (Folder id label less more inside) (Stored n bytes) l a b f g agree = cc
same-node (Leaf id label less more size counter versions) Absent l a b f g agree = cc
same-node (Leaf id label less more size counter versions) (Even n) l a b f g agree = cc
same-node (Leaf id label less more size counter versions) (Stored n bytes) l a b f g agree = cc
same-node (Split file level index low high) Absent l a b f g agree = cc
same-node (Split file level index low high) (Even n) l a b f g agree = cc
same-node (Split file level index low high) (Stored n bytes) l a b f g agree = cc

-- what says something by itself stands under its name
pub live-name : (t : Shown) (n : Name) (u : Unfolded) (l : Local) → IsTree t → t n ≡ Some u → local u ≡ Some l → node_name u ≡ Some n
live-name t n (Folder id label less more inside) l tree live is = ap Some (tree.own n (name.Entry (id_of id)) (Folder id label less more inside) live refl)
live-name t n (Leaf id label less more size counter versions) l tree live is = ap Some (tree.own n (name.Entry (id_of id)) (Leaf id label less more size counter versions) live refl)
live-name t n (Split file level index low high) l tree live is = ap Some (tree.own n (name.Part (id_of file) level index) (Split file level index low high) live refl)
live-name t n Absent l tree live is = cc
live-name t n (Even v) l tree live is = cc
live-name t n (Stored v bytes) l tree live is = cc

-- what a node holds hashes of has the name of an entry or a part
link-named : (l : Option Link) (n : Name) (x : Hash32) → LinkHolds l n x → IsNodeName n
link-named None n x h = absurd h
link-named (Some l) n x h = subst IsNodeName (sym h.0) tt

side-named : (a : Name) (s : Side) (n : Name) (x : Hash32) → IsNodeName a → SideHolds a s n x → IsNodeName n
side-named a (Fold v) n x f h = absurd h
side-named a (Below y) n x f h = subst IsNodeName (sym h.0) f

body-named : (id : FileId) (b : Body) (n : Name) (x : Hash32) → BodyHolds id b n x → IsNodeName n
body-named id (Dir top) n x h = link-named top n x h
body-named id (File size counter versions) n x h = side-named (top_part id) versions n x tt h

pub held-named : (k : Node) (n : Name) (x : Hash32) → Holds k n x → IsNodeName n
held-named (Entry e) n x (inl h) = link-named e.left n x h
held-named (Entry e) n x (inr (inl h)) = link-named e.right n x h
held-named (Entry e) n x (inr (inr h)) = body-named e.id e.body n x h
held-named (Part p) n x (inl h) = side-named (low_part p) p.low n x tt h
held-named (Part p) n x (inr h) = side-named (high_part p) p.high n x tt h
