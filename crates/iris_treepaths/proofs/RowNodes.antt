-- Nodes of rows: what they say, the hashes that they hold, and links to them.
use Rattle.std.proofs.Common.{◌≡◌, ◌≤◌, ◌<◌, ◌^◌, inl, inr, ℕ, Bool, true, false, cond, List, Option, Some, None, refl, ap, sym, ◌∙◌, subst, arith, ◌+◌, ◌/◌}
use Rattle.iris_name.specs.declared.name.Hash32.{Hash32}
use Rattle.iris_name.specs.declared.name.Name.{Name}
use Rattle.iris_name.specs.declared.name.Name.TheVariants as name
use Rattle.iris_node.specs.declared.node.Body.{Body}
use Rattle.iris_node.specs.declared.node.Body.TheVariants.{Dir, File as FileBody}
use Rattle.iris_node.specs.declared.node.Link.{Link}
use Rattle.iris_node.specs.declared.node.Node.TheVariants as node
use Rattle.iris_node.specs.Fields.{EntryFields}
use Rattle.iris_node.specs.Local.{Lead, led, led_by, local, entry_local}
use Rattle.iris_node.specs.Trees.{Shown}
use Rattle.iris_node.specs.Unfolded.{Unfolded, Absent, Folder, Leaf, Even, Split, Stored, id_of, blocks, link_blocks}
use Rattle.iris_shape.specs.Treap.{Treap, Over}
use Rattle.iris_cache.specs.Resident.{Resident}
use Rattle.iris_cache.specs.Pictures.{Holds, IsLike, LinkHolds, WasHash}
use Rattle.iris_treepaths.specs.Rows.{Row, Content, Directory, File, unfolded_rows, entry_of, row_entry}
use Rattle.iris_treepaths.specs.Hands.{IsRowNode, HoldsTrue}
use Rattle.iris_treepaths.specs.Nodes.{turned, between, node_blocks, LinksTo, own_blocks}
use Rattle.iris_treepaths.specs.Crumbs.{LeadsToTop}
use Rattle.iris_treepaths.specs.Paths.{Frame, framed, entry_name}
use Rattle.iris_treepaths.proofs.Likes.{like_row}

-- ---- counts

pub led_entry : (y : Row) (a b : Unfolded) → led (row_entry y a b) ≡ Some (record { id = y.id; blocks = blocks (row_entry y a b) })
led_entry y a b = by y.id y.name y.content a b
  where
    by : (id : ℕ) (label : List ℕ) (c : Content) (l m : Unfolded) → led (entry_of id label c l m) ≡ Some (record { id = id; blocks = blocks (entry_of id label c l m) })
    by id label (Directory inside) l m = refl
    by id label (File size counter versions) l m = refl

abbrev lead_blocks : Option Lead → ℕ
lead_blocks None = 0
lead_blocks (Some l) = l.blocks

-- a link counts the blocks to which it leads
pub led_blocks : (o : Option Link) (w : Unfolded) → led_by o ≡ led w → link_blocks o ≡ blocks w
led_blocks None (Folder id label less more inside) h = cc
led_blocks None (Leaf id label less more size counter versions) h = cc
led_blocks None Absent h = refl
led_blocks None (Even v) h = refl
led_blocks None (Split f k i low high) h = refl
led_blocks None (Stored v bytes) h = refl
led_blocks (Some l) (Folder id label less more inside) h = ap (λ o. lead_blocks o) h
led_blocks (Some l) (Leaf id label less more size counter versions) h = ap (λ o. lead_blocks o) h
led_blocks (Some l) Absent h = cc
led_blocks (Some l) (Even v) h = cc
led_blocks (Some l) (Split f k i low high) h = cc
led_blocks (Some l) (Stored v bytes) h = cc

-- all blocks at and below an entry
pub like_blocks : (u : Unfolded) (e : EntryFields) (b : Body) → local u ≡ Some (entry_local e b) → link_blocks e.left + (own_blocks b + link_blocks e.right) ≡ blocks u
like_blocks (Folder id label less more inside) e (Dir top) h =
    let a = led_blocks e.left less (cc) in let b = led_blocks top inside (cc) in let c = led_blocks e.right more (cc) in omega (arith, a, b, c)
like_blocks (Leaf id label less more size counter versions) e (FileBody n k v) h =
    let a = led_blocks e.left less (cc) in let b : n ≡ size = cc in let c = led_blocks e.right more (cc) in ap (λ n. link_blocks e.left + ((n + 4095) / 4096 + link_blocks e.right)) b ∙ omega (arith, a, c)
like_blocks (Folder id label less more inside) e (FileBody n k v) h = cc
like_blocks (Leaf id label less more size counter versions) e (Dir top) h = cc
like_blocks (Split f l i low high) e (Dir top) h = cc
like_blocks (Split f l i low high) e (FileBody n k v) h = cc
like_blocks Absent e b h = cc
like_blocks (Even v) e b h = cc
like_blocks (Stored v bytes) e b h = cc

-- ---- what an entry's node says by itself

-- what a row's entry says, by its content
says : (id : ℕ) (label : List ℕ) (c : Content) (a b : Unfolded) (e : EntryFields) (body : Body) → local (entry_of id label c a b) ≡ Some (entry_local e body) → (e.id.0 ≡ id) × (led_by e.left ≡ led a) × (led_by e.right ≡ led b)
says id label (Directory inside) a b e (Dir top) h = (cc, cc, cc)
says id label (Directory inside) a b e (FileBody size counter versions) h = cc
says id label (File size counter kept) a b e (Dir top) h = cc
says id label (File size counter kept) a b e (FileBody s k v) h = (cc, cc, cc)

-- other links beside it, that lead elsewhere
resays : (id : ℕ) (label : List ℕ) (c : Content) (a b a2 b2 : Unfolded) (e : EntryFields) (body : Body) (l r : Option Link) → local (entry_of id label c a b) ≡ Some (entry_local e body) → led_by l ≡ led a2 → led_by r ≡ led b2
    → local (entry_of id label c a2 b2) ≡ Some (entry_local (record { id = e.id; name = e.name; left = l; right = r; body = e.body }) body)
resays id label (Directory inside) a b a2 b2 e (Dir top) l r h hl hr = cc
resays id label (Directory inside) a b a2 b2 e (FileBody size counter versions) l r h hl hr = cc
resays id label (File size counter kept) a b a2 b2 e (Dir top) l r h hl hr = cc
resays id label (File size counter kept) a b a2 b2 e (FileBody s k v) l r h hl hr = cc

pub like_between : (y : Row) (a b a2 b2 : Unfolded) (e : EntryFields) (l r : Option Link) → IsLike (Some (row_entry y a b)) (node.Entry e) → led_by l ≡ led a2 → led_by r ≡ led b2 → IsLike (Some (row_entry y a2 b2)) (node.Entry (between l r e))
like_between y a b a2 b2 e l r h hl hr = resays y.id y.name y.content a b a2 b2 e e.body l r h hl hr

pub like_turned : (y : Row) (a b u : Unfolded) (e : EntryFields) (right : Bool) (k : Option Link) → IsLike (Some (row_entry y a b)) (node.Entry e) → led_by k ≡ led u → IsLike (Some (row_entry y (cond right a u) (cond right u b))) (node.Entry (turned right k e))
like_turned y a b u e true k h hk = resays y.id y.name y.content a b a u e e.body e.left k h (says y.id y.name y.content a b e e.body h).1 hk
like_turned y a b u e false k h hk = resays y.id y.name y.content a b u b e e.body k e.right h hk (says y.id y.name y.content a b e e.body h).2

-- a row's node between two links
pub like_row_node : (x : Row) (a b : Unfolded) (e : EntryFields) (l r : Option Link) → IsRowNode x e → led_by l ≡ led a → led_by r ≡ led b → IsLike (Some (row_entry x a b)) (node.Entry (between l r e))
like_row_node x a b e l r h hl hr = resays x.id x.name x.content Absent Absent a b (record { id = e.id; name = e.name; left = None; right = None; body = e.body }) e.body l r h hl hr

pub row_node_id : (x : Row) (e : EntryFields) → IsRowNode x e → (e.id ≡ id_of x.id) × (e.name ≡ x.name)
row_node_id x e h =
    let r = like_row x Absent Absent (record { id = e.id; name = e.name; left = None; right = None; body = e.body }) h in
    (ap id_of r.id_is, r.name_is)

-- ---- hashes

pub between_hashes : (old : Shown) (c : Resident) (e : EntryFields) (l r : Option Link) → ((m : Name) (h : Hash32) → LinkHolds l m h → WasHash old c m h) → ((m : Name) (h : Hash32) → LinkHolds r m h → WasHash old c m h) → HoldsTrue old c e
    → (m : Name) (h : Hash32) → Holds (node.Entry (between l r e)) m h → WasHash old c m h
between_hashes old c e l r hl hr hb m h (inl x) = hl m h x
between_hashes old c e l r hl hr hb m h (inr (inl x)) = hr m h x
between_hashes old c e l r hl hr hb m h (inr (inr x)) = hb m h x

pub turned_hashes : (old : Shown) (c : Resident) (e : EntryFields) (right : Bool) (k : Option Link) → ((m : Name) (h : Hash32) → Holds (node.Entry e) m h → WasHash old c m h) → ((m : Name) (h : Hash32) → LinkHolds k m h → WasHash old c m h)
    → (m : Name) (h : Hash32) → Holds (node.Entry (turned right k e)) m h → WasHash old c m h
turned_hashes old c e true k he hk m h (inl x) = he m h (inl x)
turned_hashes old c e true k he hk m h (inr (inl x)) = hk m h x
turned_hashes old c e true k he hk m h (inr (inr x)) = he m h (inr (inr x))
turned_hashes old c e false k he hk m h (inl x) = hk m h x
turned_hashes old c e false k he hk m h (inr (inl x)) = he m h (inr (inl x))
turned_hashes old c e false k he hk m h (inr (inr x)) = he m h (inr (inr x))

-- ---- links

-- a link to an entry that is like a row's leads to the row
pub leads_to : (old : Shown) (c : Resident) (y : Row) (l m : Treap Row) (e : EntryFields) (h : Hash32) (k : Link) → IsLike (Some (unfolded_rows (Over y l m))) (node.Entry e) → blocks (unfolded_rows (Over y l m)) < 2 ^ 64 → LinksTo e h k → WasHash old c (entry_name y) h
    → LeadsToTop old c (Some k) (Over y l m)
leads_to old c y l m e h k like few links was =
    let a = unfolded_rows l in
    let b = unfolded_rows m in
    let r = says y.id y.name y.content a b e e.body like in
    let all = like_blocks (row_entry y a b) e e.body like in
    let lt : node_blocks e < 2 ^ 64 = subst (λ n. n < 2 ^ 64) (sym all) few in
    let i : k.id.0 ≡ y.id = ap (λ x. x.0) links.id ∙ r.0 in
    let n : k.blocks ≡ blocks (row_entry y a b) = links.blocks lt ∙ all in
    let q : Option Lead = Some (record { id = y.id; blocks = blocks (row_entry y a b) }) in
    record {
      led_is = (λ t. Some (record { id = i t; blocks = n t })) ∙ sym (led_entry y a b);
      hash = λ z w holds. subst (λ n. WasHash old c n w) (sym (holds.0 ∙ ap (λ j. name.Entry (id_of j)) i)) (subst (WasHash old c (entry_name y)) (sym (holds.1 ∙ links.hash)) was);
    }

-- ---- a node with a turned link

pub turned_id : (right : Bool) (k : Option Link) (e : EntryFields) → (turned right k e).id ≡ e.id
turned_id true k e = refl
turned_id false k e = refl

-- a node with a turned link is like its row over what that leads to
pub turned_like : (f : Frame) (v w : Treap Row) (e : EntryFields) (k : Option Link) → IsLike (Some (unfolded_rows (framed f v))) (node.Entry e) → led_by k ≡ led (unfolded_rows w)
    → IsLike (Some (unfolded_rows (framed f w))) (node.Entry (turned f.right k e))
turned_like f v w e k h i = by f.right h
  where
    by : (r : Bool) → IsLike (Some (unfolded_rows (cond r (Over f.row f.other v) (Over f.row v f.other)))) (node.Entry e) → IsLike (Some (unfolded_rows (cond r (Over f.row f.other w) (Over f.row w f.other)))) (node.Entry (turned r k e))
    by true g = like_turned f.row (unfolded_rows f.other) (unfolded_rows v) (unfolded_rows w) e true k g i
    by false g = like_turned f.row (unfolded_rows v) (unfolded_rows f.other) (unfolded_rows w) e false k g i

pub framed_leads : (old : Shown) (c : Resident) (f : Frame) (w : Treap Row) (e : EntryFields) (h : Hash32) (k : Link) → IsLike (Some (unfolded_rows (framed f w))) (node.Entry e) → blocks (unfolded_rows (framed f w)) < 2 ^ 64 → LinksTo e h k → WasHash old c (entry_name f.row) h
    → LeadsToTop old c (Some k) (framed f w)
framed_leads old c f w e h k like few to was = by f.right like few
  where
    by : (r : Bool) → IsLike (Some (unfolded_rows (cond r (Over f.row f.other w) (Over f.row w f.other)))) (node.Entry e) → blocks (unfolded_rows (cond r (Over f.row f.other w) (Over f.row w f.other))) < 2 ^ 64 → LeadsToTop old c (Some k) (cond r (Over f.row f.other w) (Over f.row w f.other))
    by true g few2 = leads_to old c f.row f.other w e h k g few2 to was
    by false g few2 = leads_to old c f.row w f.other e h k g few2 to was

-- ---- counts below a row

pub less_over : (id : ℕ) (label : List ℕ) (c : Content) (a b : Unfolded) → (blocks a ≤ blocks (entry_of id label c a b)) × (blocks b ≤ blocks (entry_of id label c a b))
less_over id label (Directory inside) a b = (omega arith, omega arith)
less_over id label (File size counter versions) a b = (omega arith, omega arith)
