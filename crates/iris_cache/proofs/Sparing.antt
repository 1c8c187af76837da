-- A draft sets no node anew that stands for the same: nodes that say the same and hold the same hashes are equal, and a draft holds
-- of each child the hash that is held.
use Rattle.std.proofs.Common.{◌≡◌, ◌⊎◌, ◌-◌, ◌*◌, ◌+◌, arith, inl, inr, ℕ, Option, Some, None, refl, ap, sym, ◌∙◌, subst}
use Rattle.std.specs.Prelude.{unwrap_or as option_unwrap_or}
use Rattle.iris_name.specs.declared.name.FileId.{FileId}
use Rattle.iris_name.specs.declared.name.Hash32.{Hash32}
use Rattle.iris_name.specs.declared.name.Name.{Name}
use Rattle.iris_name.specs.declared.name.Name.TheVariants as name
use Rattle.iris_node.specs.declared.node.Side.{Side}
use Rattle.iris_node.specs.declared.node.Side.TheVariants.{Fold, Below}
use Rattle.iris_node.specs.declared.node.Link.{Link}
use Rattle.iris_node.specs.declared.node.Body.{Body}
use Rattle.iris_node.specs.declared.node.Body.TheVariants.{Dir, File}
use Rattle.iris_node.specs.declared.node.Node.{Node}
use Rattle.iris_node.specs.declared.node.Node.TheVariants.{Entry, Part}
use Rattle.iris_node.specs.Fields.{EntryFields, PartFields}
use Rattle.iris_node.specs.Unfolded.{Unfolded, Absent, Folder, Leaf, Even, Split, Stored, id_of}
use Rattle.iris_node.specs.Local.{Lead, Local, FolderAt, LeafAt, SplitAt, local, local_of, led, led_by, even_by, entry_local}
use Rattle.iris_node.specs.Trees.{Shown, IsTree, IsParent}
use Rattle.iris_cache.specs.declared.held.Held.{Held}
use Rattle.iris_cache.specs.Resident.{Resident, held_node}
use Rattle.iris_cache.specs.Drafted.{Drafted, seen}
use Rattle.iris_cache.specs.Laws.{AreFormed, HaveApart, IsApart, AreApart}
use Rattle.iris_cache.specs.Pictures.{Drafts, IsHashOf, IsLike, IsSettled, Holds, LinkHolds, SideHolds, BodyHolds}
use Rattle.iris_cache.specs.Rehash.{top_part, low_part, high_part}
use Rattle.iris_cache.proofs.Children.{held-child, linked-name}

-- two links to one entry hold one hash
abbrev IsLinkAs : Option Link → Option Link → Type 0
IsLinkAs None l = Unit {0}
IsLinkAs (Some k) None = Unit {0}
IsLinkAs (Some k) (Some l) = k.id ≡ l.id → k.hash ≡ l.hash

-- two sides that hold a hash hold one
abbrev IsSideAs : Side → Side → Type 0
IsSideAs (Fold version) s = Unit {0}
IsSideAs (Below x) (Fold version) = Unit {0}
IsSideAs (Below x) (Below y) = x ≡ y

-- what two entries say of their directory or file holds one hash
abbrev IsBodyAs : Body → Body → Type 0
IsBodyAs (Dir top) (Dir held_top) = IsLinkAs top held_top
IsBodyAs (Dir top) (File size counter versions) = Unit {0}
IsBodyAs (File size counter versions) (Dir top) = Unit {0}
IsBodyAs (File size counter versions) (File held_size held_counter held_versions) = IsSideAs versions held_versions

-- a node holds of each child that both have at one place the hash that another holds
abbrev IsNodeAs : Node → Node → Type 0
IsNodeAs (Entry e) (Entry f) = IsLinkAs e.left f.left × (IsLinkAs e.right f.right × IsBodyAs e.body f.body)
IsNodeAs (Entry e) (Part p) = Unit {0}
IsNodeAs (Part p) (Entry e) = Unit {0}
IsNodeAs (Part p) (Part q) = IsSideAs p.low q.low × IsSideAs p.high q.high

side-same : (s r : Side) → even_by s ≡ even_by r → IsSideAs s r → s ≡ r
side-same (Fold x) (Fold y) e has = let q : x ≡ y = cc in ap Fold q
side-same (Fold x) (Below h) e has = cc
side-same (Below h) (Fold y) e has = cc
side-same (Below h) (Below k) e has = ap Below has

id-same : (a b : FileId) → a.0 ≡ b.0 → a ≡ b
id-same a b e = ap id_of e

lead-same : (a b : Lead) → Some a ≡ Some b → a ≡ b
lead-same a b e = ap (λ (o : Option Lead). option_unwrap_or o a) e

link-same : (k l : Option Link) → led_by k ≡ led_by l → IsLinkAs k l → k ≡ l
link-same None None e has = refl
link-same None (Some l) e has = cc
link-same (Some k) None e has = cc
link-same (Some k) (Some l) e has =
    let q = lead-same (record { id = k.id.0; blocks = k.blocks }) (record { id = l.id.0; blocks = l.blocks }) e in
    let ids : k.id ≡ l.id = id-same k.id l.id (ap (λ (x : Lead). x.id) q) in
    let hash : k.hash ≡ l.hash = has ids in
    let blocks : k.blocks ≡ l.blocks = ap (λ (x : Lead). x.blocks) q in
    λ i. Some (record { id = ids i; hash = hash i; blocks = blocks i })

part-same : (p q : PartFields) → local_of (Part p) ≡ local_of (Part q) → IsNodeAs (Part p) (Part q) → p ≡ q
part-same p q e has =
    let file : p.file.0 ≡ q.file.0 = cc in
    let level : p.level ≡ q.level = cc in
    let index : p.index ≡ q.index = cc in
    let low : even_by p.low ≡ even_by q.low = cc in
    let high : even_by p.high ≡ even_by q.high = cc in
    let files = id-same p.file q.file file in
    let lows = side-same p.low q.low low has.0 in
    let highs = side-same p.high q.high high has.1 in
    λ i. record { file = files i; level = level i; index = index i; low = lows i; high = highs i }

entry-same : (e f : EntryFields) (a b : Body) → e.body ≡ a → f.body ≡ b → entry_local e a ≡ entry_local f b → IsLinkAs e.left f.left → IsLinkAs e.right f.right → IsBodyAs a b → e ≡ f
entry-same e f (Dir t) (Dir u) ea fb q left right body =
    let id : e.id.0 ≡ f.id.0 = cc in
    let ids = id-same e.id f.id id in
    let name : e.name ≡ f.name = cc in
    let l : led_by e.left ≡ led_by f.left = cc in
    let r : led_by e.right ≡ led_by f.right = cc in
    let t' : led_by t ≡ led_by u = cc in
    let ls = link-same e.left f.left l left in
    let rs = link-same e.right f.right r right in
    let ts = link-same t u t' body in
    let bs : e.body ≡ f.body = ea ∙ ap Dir ts ∙ sym fb in
    λ i. record { id = ids i; name = name i; left = ls i; right = rs i; body = bs i }
entry-same e f (Dir t) (File n k s) ea fb q left right body = cc
entry-same e f (File n k s) (Dir t) ea fb q left right body = cc
entry-same e f (File n k s) (File m j r) ea fb q left right body =
    let id : e.id.0 ≡ f.id.0 = cc in
    let ids = id-same e.id f.id id in
    let name : e.name ≡ f.name = cc in
    let l : led_by e.left ≡ led_by f.left = cc in
    let r' : led_by e.right ≡ led_by f.right = cc in
    let size : n ≡ m = cc in
    let counter : k ≡ j = cc in
    let v : even_by s ≡ even_by r = cc in
    let ls = link-same e.left f.left l left in
    let rs = link-same e.right f.right r' right in
    let ss = side-same s r v body in
    let ds : File n k s ≡ File m j r = λ i. File (size i) (counter i) (ss i) in
    let bs : e.body ≡ f.body = ea ∙ ds ∙ sym fb in
    λ i. record { id = ids i; name = name i; left = ls i; right = rs i; body = bs i }

apart : (e : EntryFields) (b : Body) (p : PartFields) → entry_local e b ≡ local_of (Part p) → ⊥
apart e (Dir t) p q = cc
apart e (File n k s) p q = cc

node-same : (a b : Node) → local_of a ≡ local_of b → IsNodeAs a b → a ≡ b
node-same (Entry e) (Entry f) q has = ap Entry (entry-same e f e.body f.body refl refl q has.0 has.1.0 has.1.1)
node-same (Entry e) (Part p) q has = absurd (apart e e.body p q)
node-same (Part p) (Entry e) q has = absurd (apart e e.body p (sym q))
node-same (Part p) (Part r) q has = ap Part (part-same p r q has)

-- what two nodes say by themselves, where they are like one
same-local : (o : Option Unfolded) (a b : Node) → IsLike o a → IsLike o b → local_of a ≡ local_of b
same-local None a b like also = absurd like
same-local (Some u) a b like also = let q : Some (local_of a) ≡ Some (local_of b) = sym like ∙ also in ap (λ (x : Option Local). option_unwrap_or x (local_of a)) q

-- ---- a node holds one hash of a child

link-one : (l : Option Link) (m : Name) (x y : Hash32) → LinkHolds l m x → LinkHolds l m y → x ≡ y
link-one None m x y h k = absurd h
link-one (Some l) m x y h k = h.1 ∙ sym k.1

side-one : (a : Name) (s : Side) (m : Name) (x y : Hash32) → SideHolds a s m x → SideHolds a s m y → x ≡ y
side-one a (Fold v) m x y h k = absurd h
side-one a (Below z) m x y h k = h.1 ∙ sym k.1

-- a link leads to no part
link-side : (l : Option Link) (f : FileId) (s : Side) (m : Name) (x y : Hash32) → LinkHolds l m x → SideHolds (top_part f) s m y → ⊥
link-side None f s m x y h k = h
link-side (Some l) f (Fold v) m x y h k = k
link-side (Some l) f (Below z) m x y h k = let e : name.Entry l.id ≡ top_part f = sym h.0 ∙ k.0 in cc

module _ (m : Name) (x y : Hash32) where
  abbrev EntryHolds : EntryFields → Body → Hash32 → Type 0
  EntryHolds e b z = LinkHolds e.left m z ⊎ (LinkHolds e.right m z ⊎ BodyHolds e.id b m z)

  folder-one : (less more inside : Unfolded) (e : EntryFields) (top : Option Link) → led less ≡ led_by e.left → led more ≡ led_by e.right → led inside ≡ led_by top
      → AreApart less more × (AreApart less inside × AreApart more inside) → EntryHolds e (Dir top) x → EntryHolds e (Dir top) y → x ≡ y
  folder-one less more inside e top l r i apart (inl h) (inl k) = link-one e.left m x y h k
  folder-one less more inside e top l r i apart (inl h) (inr (inl k)) = absurd (apart.0 m (linked-name less e.left m x l h) (linked-name more e.right m y r k))
  folder-one less more inside e top l r i apart (inl h) (inr (inr k)) = absurd (apart.1.0 m (linked-name less e.left m x l h) (linked-name inside top m y i k))
  folder-one less more inside e top l r i apart (inr (inl h)) (inl k) = absurd (apart.0 m (linked-name less e.left m y l k) (linked-name more e.right m x r h))
  folder-one less more inside e top l r i apart (inr (inl h)) (inr (inl k)) = link-one e.right m x y h k
  folder-one less more inside e top l r i apart (inr (inl h)) (inr (inr k)) = absurd (apart.1.1 m (linked-name more e.right m x r h) (linked-name inside top m y i k))
  folder-one less more inside e top l r i apart (inr (inr h)) (inl k) = absurd (apart.1.0 m (linked-name less e.left m y l k) (linked-name inside top m x i h))
  folder-one less more inside e top l r i apart (inr (inr h)) (inr (inl k)) = absurd (apart.1.1 m (linked-name more e.right m y r k) (linked-name inside top m x i h))
  folder-one less more inside e top l r i apart (inr (inr h)) (inr (inr k)) = link-one top m x y h k

  leaf-one : (less more : Unfolded) (e : EntryFields) (size counter : ℕ) (v : Side) → led less ≡ led_by e.left → led more ≡ led_by e.right
      → AreApart less more → EntryHolds e (File size counter v) x → EntryHolds e (File size counter v) y → x ≡ y
  leaf-one less more e size counter v l r apart (inl h) (inl k) = link-one e.left m x y h k
  leaf-one less more e size counter v l r apart (inl h) (inr (inl k)) = absurd (apart m (linked-name less e.left m x l h) (linked-name more e.right m y r k))
  leaf-one less more e size counter v l r apart (inl h) (inr (inr k)) = absurd (link-side e.left e.id v m x y h k)
  leaf-one less more e size counter v l r apart (inr (inl h)) (inl k) = absurd (apart m (linked-name less e.left m y l k) (linked-name more e.right m x r h))
  leaf-one less more e size counter v l r apart (inr (inl h)) (inr (inl k)) = link-one e.right m x y h k
  leaf-one less more e size counter v l r apart (inr (inl h)) (inr (inr k)) = absurd (link-side e.right e.id v m x y h k)
  leaf-one less more e size counter v l r apart (inr (inr h)) (inl k) = absurd (link-side e.left e.id v m y x k h)
  leaf-one less more e size counter v l r apart (inr (inr h)) (inr (inl k)) = absurd (link-side e.right e.id v m y x k h)
  leaf-one less more e size counter v l r apart (inr (inr h)) (inr (inr k)) = side-one (top_part e.id) v m x y h k

  entry-one : (u : Unfolded) (e : EntryFields) (b : Body) → IsApart u → local u ≡ Some (entry_local e b) → EntryHolds e b x → EntryHolds e b y → x ≡ y
  entry-one (Folder id label less more inside) e (Dir top) apart is h k =
      let l : led less ≡ led_by e.left = cc in
      let r : led more ≡ led_by e.right = cc in
      let i : led inside ≡ led_by top = cc in
      folder-one less more inside e top l r i apart h k
  entry-one (Leaf id label less more size counter versions) e (File s c v) apart is h k =
      let l : led less ≡ led_by e.left = cc in
      let r : led more ≡ led_by e.right = cc in
      leaf-one less more e s c v l r apart h k
  entry-one (Folder id label less more inside) e (File s c v) apart is h k = cc
  entry-one (Leaf id label less more size counter versions) e (Dir top) apart is h k = cc
  entry-one (Split f l i low high) e (Dir top) apart is h k = cc
  entry-one (Split f l i low high) e (File s c v) apart is h k = cc
  entry-one Absent e b apart is h k = cc
  entry-one (Even v) e b apart is h k = cc
  entry-one (Stored v bytes) e b apart is h k = cc

part-index : Name → ℕ
part-index (name.Part f l i) = i
part-index (name.Entry id) = 0
part-index (name.Block f place) = 0

-- the parts below a part have different names
halves-differ : (p : PartFields) → low_part p ≡ high_part p → ⊥
unfolding part-index
halves-differ p e = let i : 2 * p.index ≡ 2 * p.index + 1 = ap part-index e in omega (arith, i)

sides-differ : (p : PartFields) (s r : Side) (m : Name) (x y : Hash32) → SideHolds (low_part p) s m x → SideHolds (high_part p) r m y → ⊥
sides-differ p (Fold v) r m x y h k = h
sides-differ p (Below a) (Fold v) m x y h k = k
sides-differ p (Below a) (Below b) m x y h k = halves-differ p (sym h.0 ∙ k.0)

part-one : (p : PartFields) (m : Name) (x y : Hash32) → Holds (Part p) m x → Holds (Part p) m y → x ≡ y
part-one p m x y (inl h) (inl k) = side-one (low_part p) p.low m x y h k
part-one p m x y (inl h) (inr k) = absurd (sides-differ p p.low p.high m x y h k)
part-one p m x y (inr h) (inl k) = absurd (sides-differ p p.low p.high m y x k h)
part-one p m x y (inr h) (inr k) = side-one (high_part p) p.high m x y h k

node-one : (u : Unfolded) (k : Node) (m : Name) (x y : Hash32) → IsApart u → local u ≡ Some (local_of k) → Holds k m x → Holds k m y → x ≡ y
node-one u (Entry e) m x y apart is h k = entry-one m x y u e e.body apart is h k
node-one u (Part p) m x y apart is h k = part-one p m x y h k

-- ---- a draft holds the hashes that are held

same-hash : (o : Option Unfolded) (u : Unfolded) (x y : Hash32) → o ≡ Some u → IsHashOf o x → IsHashOf o y → x ≡ y
same-hash o u x y live a b = let e : Some x ≡ Some y = sym (a u live) ∙ b u live in ap (λ (v : Option Hash32). option_unwrap_or v x) e

says : (o : Option Unfolded) (u : Unfolded) (k : Node) → o ≡ Some u → IsLike o k → local u ≡ Some (local_of k)
says o u k live like = let P : Option Unfolded → Type 0 = λ v. IsLike v k in subst P live like

child-hash : (old new : Shown) (d : Drafted) (c : Resident) (n m : Name) (node : Node) (h : Held) (x y : Hash32) → Drafts old new d c → IsTree old → AreFormed old → HaveApart old
    → seen d c n ≡ Some node → held_node c n ≡ Some h → Holds node m x → Holds h.node m y → x ≡ y
child-hash old new d c n m node h x y pic was formed apart sees had hx hy = by (held_node c m) refl
  where
    like : IsLike (old n) h.node
    like = pic.before.nodes n h had

    par : IsParent old n m
    par = held-child old n m h.node y formed like hy

    live : old m ≡ Some par.child
    live = was.below n m par.parent par.child par.live par.above par.named

    by : (o : Option Held) → held_node c m ≡ o → x ≡ y
    by None e = same-hash (old m) par.child x y live ((pic.hashes n m node x sees hx).0 (subst IsSettled (sym e) tt)) (pic.before.hashes n m h y had hy (subst IsSettled (sym e) tt))
    by (Some g) e =
        let up = (pic.before.parents m n g e par).0 in
        let also = (pic.hashes n m node x sees hx).1 g h n e up had in
        node-one par.parent h.node m x y (apart n par.parent par.live) (says (old n) par.parent h.node par.live like) also hy

link-as : (k l : Option Link) → ((m : Name) (x y : Hash32) → LinkHolds k m x → LinkHolds l m y → x ≡ y) → IsLinkAs k l
link-as None l f = tt
link-as (Some k) None f = tt
link-as (Some k) (Some l) f = λ e. f (name.Entry k.id) k.hash l.hash (refl, refl) (ap name.Entry e, refl)

side-as : (a b : Name) (s r : Side) → a ≡ b → ((m : Name) (x y : Hash32) → SideHolds a s m x → SideHolds b r m y → x ≡ y) → IsSideAs s r
side-as a b (Fold v) r e f = tt
side-as a b (Below x) (Fold v) e f = tt
side-as a b (Below x) (Below y) e f = f a x y (refl, refl) (e, refl)

body-as : (i j : FileId) (a b : Body) → i ≡ j → ((m : Name) (x y : Hash32) → BodyHolds i a m x → BodyHolds j b m y → x ≡ y) → IsBodyAs a b
body-as i j (Dir t) (Dir u) e f = link-as t u f
body-as i j (Dir t) (File s c v) e f = tt
body-as i j (File s c v) (Dir t) e f = tt
body-as i j (File s c v) (File s2 c2 v2) e f = side-as (top_part i) (top_part j) v v2 (ap top_part e) f

local-id : Local → ℕ
local-id (FolderAt id label less more inside) = id
local-id (LeafAt id label less more size counter even) = id
local-id (SplitAt file level index low high) = file

entry-id : (e : EntryFields) (b : Body) → local-id (entry_local e b) ≡ e.id.0
unfolding local-id
entry-id e (Dir t) = refl
entry-id e (File s c v) = refl

part-as : (p q : PartFields) → local_of (Part p) ≡ local_of (Part q) → ((m : Name) (x y : Hash32) → Holds (Part p) m x → Holds (Part q) m y → x ≡ y) → IsNodeAs (Part p) (Part q)
part-as p q e f =
    let file : p.file.0 ≡ q.file.0 = cc in
    let files = id-same p.file q.file file in
    let level : p.level ≡ q.level = cc in
    let index : p.index ≡ q.index = cc in
    let low : low_part p ≡ low_part q = λ i. name.Part (files i) (level i - 1) (2 * index i) in
    let high : high_part p ≡ high_part q = λ i. name.Part (files i) (level i - 1) (2 * index i + 1) in
    (side-as (low_part p) (low_part q) p.low q.low low (λ m x y h k. f m x y (inl h) (inl k)), side-as (high_part p) (high_part q) p.high q.high high (λ m x y h k. f m x y (inr h) (inr k)))

node-as : (a b : Node) → local_of a ≡ local_of b → ((m : Name) (x y : Hash32) → Holds a m x → Holds b m y → x ≡ y) → IsNodeAs a b
node-as (Entry e) (Entry f) q has =
    let ids = id-same e.id f.id (sym (entry-id e e.body) ∙ ap local-id q ∙ entry-id f f.body) in
    (link-as e.left f.left (λ m x y h k. has m x y (inl h) (inl k)), (link-as e.right f.right (λ m x y h k. has m x y (inr (inl h)) (inr (inl k))), body-as e.id f.id e.body f.body ids (λ m x y h k. has m x y (inr (inr h)) (inr (inr k)))))
node-as (Entry e) (Part p) q has = tt
node-as (Part p) (Entry e) q has = tt
node-as (Part p) (Part r) q has = part-as p r q has

-- of a name that stands for the same, a draft sets the node that is held
pub sets-held : (old new : Shown) (d : Drafted) (c : Resident) (n : Name) (node : Node) (h : Held) → Drafts old new d c → IsTree old → AreFormed old → HaveApart old
    → seen d c n ≡ Some node → held_node c n ≡ Some h → new n ≡ old n → node ≡ h.node
sets-held old new d c n node h pic was formed apart sees had same =
    let a : IsLike (old n) node = subst (λ o. IsLike o node) same (pic.nodes n node sees) in
    let q = same-local (old n) node h.node a (pic.before.nodes n h had) in
    node-same node h.node q (node-as node h.node q (λ m x y hx hy. child-hash old new d c n m node h x y pic was formed apart sees had hx hy))
