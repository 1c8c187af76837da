-- What a node in a pictured tree holds: a hash of each child; and where those are true, it is the node with its true hashes.
use Rattle.std.proofs.Common.{◌≡◌, ◌⊎◌, inl, inr, ℕ, true, Option, Some, None, refl, sym, ◌∙◌, ap, subst}
use Rattle.iris_name.specs.declared.name.Hash32.{Hash32}
use Rattle.iris_name.specs.declared.name.Name.{Name}
use Rattle.iris_name.specs.declared.name.Name.TheVariants as name
use Rattle.iris_node.specs.declared.node.Side.{Side}
use Rattle.iris_node.specs.declared.node.Side.TheVariants.{Fold, Below}
use Rattle.iris_node.specs.declared.node.Link.{Link}
use Rattle.iris_node.specs.declared.node.Body.{Body}
use Rattle.iris_node.specs.declared.node.Body.TheVariants.{Dir, File}
use Rattle.iris_node.specs.declared.node.Node.{Node}
use Rattle.iris_node.specs.declared.node.Node.TheVariants as node
use Rattle.iris_node.specs.Fields.{EntryFields, PartFields}
use Rattle.iris_node.specs.Local.{Lead, led, led_by, even, even_by, local, entry_local, local_of}
use Rattle.iris_node.specs.Trees.{Shown, IsTree, IsAbove, IsParent, node_name}
use Rattle.iris_node.specs.Unfolded.{Unfolded, Absent, Folder, Leaf, Even, Split, Stored, id_of, blocks, link_to, side_to, node_of}
use Rattle.iris_cache.specs.declared.held.Held.{Held}
use Rattle.iris_cache.specs.Laws.{AreFormed, IsFormed, IsLinked, IsSide}
use Rattle.iris_cache.specs.Pictures.{Holds, LinkHolds, SideHolds, BodyHolds, IsHashOf, IsLike, IsSettled, Pictures}
use Rattle.iris_cache.specs.Rehash.{top_part, low_part, high_part}
use Rattle.iris_cache.specs.Resident.{Resident, held_node}
use Rattle.iris_cache.proofs.Children.{lead-id, low-is, high-is, held-child}

abbrev lead-blocks : ℕ → Option Lead → ℕ
lead-blocks n None = n
lead-blocks n (Some l) = l.blocks

same-hash : (a b : Hash32) → Some a ≡ Some b → a ≡ b
same-hash a b e = cc

module _ (t : Shown) (tree : IsTree t) (p : Name) (u : Unfolded) (live : t p ≡ Some u) where
  child-live : (w : Unfolded) (m : Name) → IsAbove u w → node_name w ≡ Some m → t m ≡ Some w
  child-live w m above named = tree.below p m u w live above named

  -- a link that says the same, with a true hash, is the true link
  link-is : (w : Unfolded) (l : Option Link) → IsAbove u w → IsLinked w → led w ≡ led_by l → ((m : Name) (x : Hash32) → LinkHolds l m x → IsHashOf (t m) x) → link_to w (node_of w) ≡ l
  unfolding node_of
  link-is Absent None above h e hashes = refl
  link-is Absent (Some k) above h e hashes = absurd (cc)
  link-is (Folder id label less more inside) None above h e hashes = absurd (cc)
  link-is (Folder id label less more inside) (Some k) above h e hashes =
      let w : Unfolded = Folder id label less more inside in
      let i : id ≡ k.id.0 = ap (lead-id id) e in
      let b : blocks (Folder id label less more inside) ≡ k.blocks = ap (lead-blocks 0) e in
      let at : t (name.Entry k.id) ≡ Some w = child-live w (name.Entry k.id) above (ap (λ z. Some (name.Entry (id_of z))) i) in
      let x : _ ≡ k.hash = same-hash _ k.hash (hashes (name.Entry k.id) k.hash (refl, refl) w at) in
      λ j. Some (record { id = record { 0 = i j }; hash = x j; blocks = b j })
  link-is (Leaf id label less more size counter versions) None above h e hashes = absurd (cc)
  link-is (Leaf id label less more size counter versions) (Some k) above h e hashes =
      let w : Unfolded = Leaf id label less more size counter versions in
      let i : id ≡ k.id.0 = ap (lead-id id) e in
      let b : blocks (Leaf id label less more size counter versions) ≡ k.blocks = ap (lead-blocks 0) e in
      let at : t (name.Entry k.id) ≡ Some w = child-live w (name.Entry k.id) above (ap (λ z. Some (name.Entry (id_of z))) i) in
      let x : _ ≡ k.hash = same-hash _ k.hash (hashes (name.Entry k.id) k.hash (refl, refl) w at) in
      λ j. Some (record { id = record { 0 = i j }; hash = x j; blocks = b j })
  link-is (Even v) l above h e hashes = absurd h
  link-is (Split f k i low high) l above h e hashes = absurd h
  link-is (Stored v bytes) l above h e hashes = absurd h

  side-is : (a : Name) (w : Unfolded) (s : Side) → IsAbove u w → IsSide a w → even w ≡ even_by s → ((m : Name) (x : Hash32) → SideHolds a s m x → IsHashOf (t m) x) → side_to w (node_of w) ≡ s
  unfolding node_of
  side-is a (Even v) (Fold k) above h e hashes = let q : v ≡ k = cc in ap Fold q
  side-is a (Even v) (Below k) above h e hashes = absurd (cc)
  side-is a (Split f l i low high) (Fold k) above h e hashes = absurd (cc)
  side-is a (Split f l i low high) (Below k) above h e hashes =
      let w : Unfolded = Split f l i low high in
      let at : t a ≡ Some w = child-live w a above (ap Some h) in
      let x : _ ≡ k = same-hash _ k (hashes a k (refl, refl) w at) in ap Below x
  side-is a Absent s above h e hashes = absurd h
  side-is a (Folder id label less more inside) s above h e hashes = absurd h
  side-is a (Leaf id label less more size counter versions) s above h e hashes = absurd h
  side-is a (Stored v bytes) s above h e hashes = absurd h

-- ---- the node with its true hashes

entry-true : (t : Shown) (n : Name) (u : Unfolded) (e : EntryFields) (b : Body) → IsTree t → IsFormed u → t n ≡ Some u → e.body ≡ b → local u ≡ Some (entry_local e b)
    → ((m : Name) (x : Hash32) → LinkHolds e.left m x ⊎ (LinkHolds e.right m x ⊎ BodyHolds e.id b m x) → IsHashOf (t m) x) → node_of u ≡ Some (node.Entry e)
unfolding node_of
entry-true t n (Folder id label less more inside) e (Dir top) tree f live is like hashes =
    let u : Unfolded = Folder id label less more inside in
    let i : id ≡ e.id.0 = cc in
    let c : label ≡ e.name = cc in
    let x : led less ≡ led_by e.left = cc in
    let y : led more ≡ led_by e.right = cc in
    let z : led inside ≡ led_by top = cc in
    let l = link-is t tree n u live less e.left (inl refl) f.0 x (λ m w h. hashes m w (inl h)) in
    let r = link-is t tree n u live more e.right (inr (inl refl)) f.1.0 y (λ m w h. hashes m w (inr (inl h))) in
    let s = link-is t tree n u live inside top (inr (inr refl)) f.1.1 z (λ m w h. hashes m w (inr (inr h))) in
    let d : Dir (link_to inside (node_of inside)) ≡ e.body = ap Dir s ∙ sym is in
    λ j. Some (node.Entry (record { id = record { 0 = i j }; name = c j; left = l j; right = r j; body = d j }))
entry-true t n (Leaf id label less more size counter versions) e (File sz ct vs) tree f live is like hashes =
    let u : Unfolded = Leaf id label less more size counter versions in
    let i : id ≡ e.id.0 = cc in
    let c : label ≡ e.name = cc in
    let x : led less ≡ led_by e.left = cc in
    let y : led more ≡ led_by e.right = cc in
    let z : even versions ≡ even_by vs = cc in
    let a : size ≡ sz = cc in
    let b : counter ≡ ct = cc in
    let l = link-is t tree n u live less e.left (inl refl) f.0 x (λ m w h. hashes m w (inl h)) in
    let r = link-is t tree n u live more e.right (inr (inl refl)) f.1.0 y (λ m w h. hashes m w (inr (inl h))) in
    let g : IsSide (top_part e.id) versions = subst (λ k. IsSide (top_part (id_of k)) versions) i f.1.1 in
    let s = side-is t tree n u live (top_part e.id) versions vs (inr (inr refl)) g z (λ m w h. hashes m w (inr (inr h))) in
    let d : File size counter (side_to versions (node_of versions)) ≡ e.body = (λ j. File (a j) (b j) (s j)) ∙ sym is in
    λ j. Some (node.Entry (record { id = record { 0 = i j }; name = c j; left = l j; right = r j; body = d j }))
entry-true t n (Folder id label less more inside) e (File sz ct vs) tree f live is like hashes = absurd (cc)
entry-true t n (Leaf id label less more size counter versions) e (Dir top) tree f live is like hashes = absurd (cc)
entry-true t n (Split g l i low high) e (Dir top) tree f live is like hashes = absurd (cc)
entry-true t n (Split g l i low high) e (File sz ct vs) tree f live is like hashes = absurd (cc)
entry-true t n Absent e b tree f live is like hashes = absurd (cc)
entry-true t n (Even v) e b tree f live is like hashes = absurd (cc)
entry-true t n (Stored v bytes) e b tree f live is like hashes = absurd (cc)

part-true : (t : Shown) (n : Name) (u : Unfolded) (p : PartFields) → IsTree t → IsFormed u → t n ≡ Some u → local u ≡ Some (local_of (node.Part p))
    → ((m : Name) (x : Hash32) → SideHolds (low_part p) p.low m x ⊎ SideHolds (high_part p) p.high m x → IsHashOf (t m) x) → node_of u ≡ Some (node.Part p)
unfolding node_of
part-true t n (Split g l i low high) p tree f live like hashes =
    let u : Unfolded = Split g l i low high in
    let a : g ≡ p.file.0 = cc in
    let b : l ≡ p.level = cc in
    let c : i ≡ p.index = cc in
    let x : even low ≡ even_by p.low = cc in
    let y : even high ≡ even_by p.high = cc in
    let lo = side-is t tree n u live (low_part p) low p.low (inl refl) (subst (λ k. IsSide k low) (low-is g l i p a b c) f.0) x (λ m w h. hashes m w (inl h)) in
    let hi = side-is t tree n u live (high_part p) high p.high (inr refl) (subst (λ k. IsSide k high) (high-is g l i p a b c) f.1) y (λ m w h. hashes m w (inr h)) in
    λ j. Some (node.Part (record { file = record { 0 = a j }; level = b j; index = c j; low = lo j; high = hi j }))
part-true t n (Folder id label less more inside) p tree f live like hashes = absurd (cc)
part-true t n (Leaf id label less more size counter versions) p tree f live like hashes = absurd (cc)
part-true t n Absent p tree f live like hashes = absurd (cc)
part-true t n (Even v) p tree f live like hashes = absurd (cc)
part-true t n (Stored v bytes) p tree f live like hashes = absurd (cc)

one-by : (t : Shown) (n : Name) (u : Unfolded) (k : Node) → IsTree t → IsFormed u → t n ≡ Some u → local u ≡ Some (local_of k) → ((m : Name) (x : Hash32) → Holds k m x → IsHashOf (t m) x) → node_of u ≡ Some k
one-by t n u (node.Entry e) tree f live like hashes = entry-true t n u e e.body tree f live refl like hashes
one-by t n u (node.Part p) tree f live like hashes = part-true t n u p tree f live like hashes

pub true-node : (t : Shown) (n : Name) (u : Unfolded) (k : Node) → IsTree t → AreFormed t → t n ≡ Some u → IsLike (t n) k → ((m : Name) (x : Hash32) → Holds k m x → IsHashOf (t m) x) → node_of u ≡ Some k
true-node t n u k tree formed live like is = one-by t n u k tree (formed n u live) live (subst (λ o. IsLike o k) live like) is

settled-by : (t : Shown) (c : Resident) (n m : Name) → Pictures t c → IsParent t n m → ((q : Name) (g : Held) → held_node c q ≡ Some g → g.parent ≡ Some n → g.settled ≡ true) → (o : Option Held) → held_node c m ≡ o → IsSettled o
settled-by t c n m pic over all None e = tt
settled-by t c n m pic over all (Some g) e = all m g e (pic.parents m n g e over).0

-- a resident node whose resident children are settled has its true hashes
pub settled-true : (t : Shown) (c : Resident) (n : Name) (u : Unfolded) (h : Held) → Pictures t c → IsTree t → AreFormed t → held_node c n ≡ Some h → t n ≡ Some u
    → ((q : Name) (g : Held) → held_node c q ≡ Some g → g.parent ≡ Some n → g.settled ≡ true) → node_of u ≡ Some h.node
settled-true t c n u h pic tree formed at live all =
    let like = pic.nodes n h at in
    true-node t n u h.node tree formed live like (λ m x holds.
    pic.hashes n m h x at holds (settled-by t c n m pic (held-child t n m h.node x formed like holds) all (held_node c m) refl))

-- ---- a parent holds a hash of its child

linked-holds : (w : Unfolded) (l : Option Link) (n : Name) → IsLinked w → led w ≡ led_by l → node_name w ≡ Some n → (x : Hash32) × LinkHolds l n x
linked-holds (Folder id label less more inside) (Some k) n h e f =
    let i : id ≡ k.id.0 = ap (lead-id id) e in let g : n ≡ name.Entry (id_of id) = cc in (k.hash, (g ∙ ap (λ z. name.Entry (id_of z)) i, refl))
linked-holds (Leaf id label less more size counter versions) (Some k) n h e f =
    let i : id ≡ k.id.0 = ap (lead-id id) e in let g : n ≡ name.Entry (id_of id) = cc in (k.hash, (g ∙ ap (λ z. name.Entry (id_of z)) i, refl))
linked-holds (Folder id label less more inside) None n h e f = absurd (cc)
linked-holds (Leaf id label less more size counter versions) None n h e f = absurd (cc)
linked-holds Absent l n h e f = absurd (cc)
linked-holds (Even v) l n h e f = absurd h
linked-holds (Split g k i low high) l n h e f = absurd h
linked-holds (Stored v bytes) l n h e f = absurd h

sided-holds : (a : Name) (w : Unfolded) (s : Side) (n : Name) → IsSide a w → even w ≡ even_by s → node_name w ≡ Some n → (x : Hash32) × SideHolds a s n x
sided-holds a (Split g l i low high) (Below k) n h e f = let q : n ≡ name.Part (id_of g) l i = cc in (k, (q ∙ h, refl))
sided-holds a (Split g l i low high) (Fold v) n h e f = absurd (cc)
sided-holds a (Even v) s n h e f = absurd (cc)
sided-holds a Absent s n h e f = absurd h
sided-holds a (Folder id label less more inside) s n h e f = absurd h
sided-holds a (Leaf id label less more size counter versions) s n h e f = absurd h
sided-holds a (Stored v bytes) s n h e f = absurd h

entry-holds : (u w : Unfolded) (e : EntryFields) (b : Body) (n : Name) → IsFormed u → local u ≡ Some (entry_local e b) → IsAbove u w → node_name w ≡ Some n
    → (x : Hash32) × (LinkHolds e.left n x ⊎ (LinkHolds e.right n x ⊎ BodyHolds e.id b n x))
entry-holds (Folder id label less more inside) w e (Dir top) n f like above named =
    let x : led less ≡ led_by e.left = cc in
    let y : led more ≡ led_by e.right = cc in
    let z : led inside ≡ led_by top = cc in
    elim above [
      | inl a ↦ (let r = linked-holds less e.left n f.0 x (ap node_name (sym a) ∙ named) in (r.0, inl r.1))
      | inr r ↦ elim r [
        | inl a ↦ (let r = linked-holds more e.right n f.1.0 y (ap node_name (sym a) ∙ named) in (r.0, inr (inl r.1)))
        | inr a ↦ (let r = linked-holds inside top n f.1.1 z (ap node_name (sym a) ∙ named) in (r.0, inr (inr r.1)))
      ]
    ]
entry-holds (Leaf id label less more size counter versions) w e (File sz ct vs) n f like above named =
    let x : led less ≡ led_by e.left = cc in
    let y : led more ≡ led_by e.right = cc in
    let z : even versions ≡ even_by vs = cc in
    let i : id ≡ e.id.0 = cc in
    let g : IsSide (top_part e.id) versions = subst (λ k. IsSide (top_part (id_of k)) versions) i f.1.1 in
    elim above [
      | inl a ↦ (let r = linked-holds less e.left n f.0 x (ap node_name (sym a) ∙ named) in (r.0, inl r.1))
      | inr r ↦ elim r [
        | inl a ↦ (let r = linked-holds more e.right n f.1.0 y (ap node_name (sym a) ∙ named) in (r.0, inr (inl r.1)))
        | inr a ↦ (let r = sided-holds (top_part e.id) versions vs n g z (ap node_name (sym a) ∙ named) in (r.0, inr (inr r.1)))
      ]
    ]
entry-holds (Folder id label less more inside) w e (File sz ct vs) n f like above named = absurd (cc)
entry-holds (Leaf id label less more size counter versions) w e (Dir top) n f like above named = absurd (cc)
entry-holds (Split g l i low high) w e (Dir top) n f like above named = absurd (cc)
entry-holds (Split g l i low high) w e (File sz ct vs) n f like above named = absurd (cc)
entry-holds Absent w e b n f like above named = absurd above
entry-holds (Even v) w e b n f like above named = absurd above
entry-holds (Stored v bytes) w e b n f like above named = absurd above

part-holds : (u w : Unfolded) (p : PartFields) (n : Name) → IsFormed u → local u ≡ Some (local_of (node.Part p)) → IsAbove u w → node_name w ≡ Some n → (x : Hash32) × (SideHolds (low_part p) p.low n x ⊎ SideHolds (high_part p) p.high n x)
part-holds (Split g l i low high) w p n f like above named =
    let a : g ≡ p.file.0 = cc in
    let b : l ≡ p.level = cc in
    let c : i ≡ p.index = cc in
    let x : even low ≡ even_by p.low = cc in
    let y : even high ≡ even_by p.high = cc in
    elim above [
      | inl q ↦ (let r = sided-holds (low_part p) low p.low n (subst (λ k. IsSide k low) (low-is g l i p a b c) f.0) x (ap node_name (sym q) ∙ named) in (r.0, inl r.1))
      | inr q ↦ (let r = sided-holds (high_part p) high p.high n (subst (λ k. IsSide k high) (high-is g l i p a b c) f.1) y (ap node_name (sym q) ∙ named) in (r.0, inr r.1))
    ]
part-holds (Folder id label less more inside) w p n f like above named = absurd (cc)
part-holds (Leaf id label less more size counter versions) w p n f like above named = absurd (cc)
part-holds Absent w p n f like above named = absurd above
part-holds (Even v) w p n f like above named = absurd above
part-holds (Stored v bytes) w p n f like above named = absurd above

holds-by : (u w : Unfolded) (k : Node) (n : Name) → IsFormed u → local u ≡ Some (local_of k) → IsAbove u w → node_name w ≡ Some n → (x : Hash32) × Holds k n x
holds-by u w (node.Entry e) n f like above named = entry-holds u w e e.body n f like above named
holds-by u w (node.Part p) n f like above named = part-holds u w p n f like above named

pub child-held : (t : Shown) (p n : Name) (k : Node) → AreFormed t → IsLike (t p) k → IsParent t p n → (x : Hash32) × Holds k n x
child-held t p n k formed like h = holds-by h.parent h.child k n (formed p h.parent h.live) (subst (λ o. IsLike o k) h.live like) h.above h.named
