-- A directory's rows in a table: each stands under its name, in its place in the treap; what is seen there is like it.
use Rattle.std.proofs.Common.{◌≡◌, inl, inr, ℕ, List, Option, Some, None, refl, ap, sym, ◌∙◌, subst}
use Rattle.iris_name.specs.declared.name.FileId.{FileId}
use Rattle.iris_name.specs.declared.name.Name.{Name}
use Rattle.iris_name.specs.declared.name.Name.TheVariants as name
use Rattle.iris_node.specs.declared.node.Link.{Link}
use Rattle.iris_node.specs.declared.node.Body.{Body}
use Rattle.iris_node.specs.declared.node.Body.TheVariants.{Dir, File as FileBody}
use Rattle.iris_node.specs.declared.node.Node.TheVariants as node
use Rattle.iris_node.specs.Fields.{EntryFields, PartFields}
use Rattle.iris_node.specs.Local.{Lead, led, led_by, local, entry_local, local_of}
use Rattle.iris_node.specs.Trees.{Shown, IsTree, IsParent, IsAbove, node_name}
use Rattle.iris_node.specs.Unfolded.{Unfolded, Absent, Folder, Leaf, Even, Split, Stored, id_of}
use Rattle.iris_shape.specs.Treap.{Treap, Empty, Over, treap}
use Rattle.iris_cache.specs.Resident.{Resident}
use Rattle.iris_cache.specs.Drafted.{Drafted, seen}
use Rattle.iris_cache.specs.Pictures.{IsLike, parent_after}
use Rattle.iris_treepaths.specs.Rows.{Row, Content, Directory, File, entry_of, row_entry, unfolded_rows, up, treap_of_rows, IsFolderOf, HasRows}
use Rattle.iris_treepaths.specs.Planted.{Likes, Hang}
use Rattle.iris_treepaths.proofs.Sees.{Sees}

-- each row of a treap stands under its name, over the entries of its two subtrees
abbrev pub Placed : Shown → Treap Row → Type 0
Placed t Empty = Unit {0}
Placed t (Over y l m) = (t (name.Entry (id_of y.id)) ≡ Some (row_entry y (unfolded_rows l) (unfolded_rows m))) × Placed t l × Placed t m

pub entry_named : (id : ℕ) (label : List ℕ) (c : Content) (l m : Unfolded) → node_name (entry_of id label c l m) ≡ Some (name.Entry (id_of id))
entry_named id label (Directory inside) l m = refl
entry_named id label (File size counter versions) l m = refl

pub entry_led : (id : ℕ) (label : List ℕ) (c : Content) (l m : Unfolded) → (b : ℕ) × (led (entry_of id label c l m) ≡ Some (record { id = id; blocks = b }))
entry_led id label (Directory inside) l m = (_, refl)
entry_led id label (File size counter versions) l m = (_, refl)

pub above_less : (id : ℕ) (label : List ℕ) (c : Content) (l m : Unfolded) → IsAbove (entry_of id label c l m) l
above_less id label (Directory inside) l m = inl refl
above_less id label (File size counter versions) l m = inl refl

pub above_more : (id : ℕ) (label : List ℕ) (c : Content) (l m : Unfolded) → IsAbove (entry_of id label c l m) m
above_more id label (Directory inside) l m = inr (inl refl)
above_more id label (File size counter versions) l m = inr (inl refl)

pub placed : (t : Shown) (w : Treap Row) → IsTree t → (p : Name) (u : Unfolded) → t p ≡ Some u → IsAbove u (unfolded_rows w) → Placed t w
placed t Empty tree p u live above = tt
placed t (Over y l m) tree p u live above =
    let at = tree.below p (name.Entry (id_of y.id)) u (unfolded_rows (Over y l m)) live above (entry_named y.id y.name y.content (unfolded_rows l) (unfolded_rows m)) in (
      at,
      placed t l tree (name.Entry (id_of y.id)) (unfolded_rows (Over y l m)) at (above_less y.id y.name y.content (unfolded_rows l) (unfolded_rows m)),
      placed t m tree (name.Entry (id_of y.id)) (unfolded_rows (Over y l m)) at (above_more y.id y.name y.content (unfolded_rows l) (unfolded_rows m)),
    )

-- the entry of a directory, and what stands directly below it inside
pub record Roof (t : Shown) (dir : FileId) (inside : Unfolded) : Type 0 where
  pub entry : Unfolded
  pub label : List ℕ
  pub less : Unfolded
  pub more : Unfolded
  pub is : entry ≡ Folder dir.0 label less more inside
  pub live : t (name.Entry dir) ≡ Some entry
  pub above : IsAbove entry inside

roof_by : (t : Shown) (dir : FileId) (inside : Unfolded) (o : Option Unfolded) → t (name.Entry dir) ≡ o → IsFolderOf dir.0 inside o → Roof t dir inside
roof_by t dir inside None at is = absurd is
roof_by t dir inside (Some (Folder id label less more kept)) at is =
    let f : Folder id label less more kept ≡ Folder dir.0 label less more inside = λ i. Folder (is.0 i) label less more (is.1 i) in
    record { entry = Folder id label less more kept; label = label; less = less; more = more; is = f; live = at; above = inr (inr (sym is.1)) }
roof_by t dir inside (Some (Leaf id label less more size counter versions)) at is = absurd is
roof_by t dir inside (Some Absent) at is = absurd is
roof_by t dir inside (Some (Even version)) at is = absurd is
roof_by t dir inside (Some (Split g level index low high)) at is = absurd is
roof_by t dir inside (Some (Stored version bytes)) at is = absurd is

-- the directory's entry, above the treap of its rows
pub roof : (t : Shown) (key : List ℕ) (dir : FileId) (rows : List Row) → HasRows t key dir rows → Roof t dir (unfolded_rows (treap (up key) rows))
unfolding treap_of_rows
roof t key dir rows has = roof_by t dir (unfolded_rows (treap (up key) rows)) (t (name.Entry dir)) refl has.entry

-- the rows of a directory stand in their places
pub placed_rows : (t : Shown) (key : List ℕ) (dir : FileId) (rows : List Row) → IsTree t → HasRows t key dir rows → Placed t (treap (up key) rows)
placed_rows t key dir rows tree has = let r = roof t key dir rows has in placed t (treap (up key) rows) tree (name.Entry dir) r.entry r.live r.above

-- the top of a treap in its place is a child of the node above it
pub top_parent : (t : Shown) (p : Name) (u : Unfolded) (y : Row) (l m : Treap Row) → t p ≡ Some u → IsAbove u (unfolded_rows (Over y l m)) → IsParent t p (name.Entry (id_of y.id))
top_parent t p u y l m live above =
    record { parent = u; child = unfolded_rows (Over y l m); live = live; above = above; named = entry_named y.id y.name y.content (unfolded_rows l) (unfolded_rows m) }

module _ (old new : Shown) (d : Drafted) (c : Resident) (see : Sees old new d c) where
  -- what is seen of each row is like its entry
  pub likes_of : (w : Treap Row) → Placed new w → Likes (seen d c) w
  likes_of Empty h = tt
  likes_of (Over y l m) h =
      (λ node at. subst (λ o. IsLike o node) h.0 (see.nodes (name.Entry (id_of y.id)) node at), likes_of l h.1, likes_of m h.2)

  -- each row that is seen hangs from the one above it
  pub hang_of : (p : Name) (u : Unfolded) (w : Treap Row) → new p ≡ Some u → IsAbove u (unfolded_rows w) → Placed new w → Hang (seen d c) (parent_after d c) p w
  hang_of p u Empty live above h = tt
  hang_of p u (Over y l m) live above h =
      let n = name.Entry (id_of y.id) in (
        λ node at. see.parents n p node at (top_parent new p u y l m live above),
        hang_of n (unfolded_rows (Over y l m)) l h.0 (above_less y.id y.name y.content (unfolded_rows l) (unfolded_rows m)) h.1,
        hang_of n (unfolded_rows (Over y l m)) m h.0 (above_more y.id y.name y.content (unfolded_rows l) (unfolded_rows m)) h.2,
      )

-- ---- a node that is like a row's entry

-- what a row's node says of the row and of the links beside it
pub record LikeRow (y : Row) (l m : Unfolded) (e : EntryFields) : Type 0 where
  pub id_is : e.id.0 ≡ y.id
  pub name_is : e.name ≡ y.name
  pub left_is : led_by e.left ≡ led l
  pub right_is : led_by e.right ≡ led m

like_by : (id : ℕ) (label : List ℕ) (c : Content) (l m : Unfolded) (e : EntryFields) (b : Body) → local (entry_of id label c l m) ≡ Some (entry_local e b)
    → (e.id.0 ≡ id) × (e.name ≡ label) × (led_by e.left ≡ led l) × (led_by e.right ≡ led m)
like_by id label (Directory inside) l m e (Dir top) h = (cc, cc, cc, cc)
like_by id label (Directory inside) l m e (FileBody size counter versions) h = cc
like_by id label (File s k v) l m e (Dir top) h = cc
like_by id label (File s k v) l m e (FileBody size counter versions) h = (cc, cc, cc, cc)

pub like_row : (y : Row) (l m : Unfolded) (e : EntryFields) → IsLike (Some (row_entry y l m)) (node.Entry e) → LikeRow y l m e
like_row y l m e h = let r = like_by y.id y.name y.content l m e e.body h in record { id_is = r.0; name_is = r.1; left_is = r.2; right_is = r.3 }

not_part : (id : ℕ) (label : List ℕ) (c : Content) (l m : Unfolded) (p : PartFields) → local (entry_of id label c l m) ≡ Some (local_of (node.Part p)) → ⊥
not_part id label (Directory inside) l m p h = cc
not_part id label (File s k v) l m p h = cc

pub like_part : (y : Row) (l m : Unfolded) (p : PartFields) → IsLike (Some (row_entry y l m)) (node.Part p) → ⊥
like_part y l m p h = not_part y.id y.name y.content l m p h

-- ---- links that lead to a treap

pub leads_empty : (w : Treap Row) → led_by None ≡ led (unfolded_rows w) → w ≡ Empty
leads_empty Empty h = refl
leads_empty (Over y l m) h = let r = entry_led y.id y.name y.content (unfolded_rows l) (unfolded_rows m) in let e : led_by None ≡ Some (record { id = y.id; blocks = r.0 }) = h ∙ r.1 in cc

-- the topmost row, and its subtrees
pub record Top (w : Treap Row) (i : FileId) : Type 0 where
  pub row : Row
  pub less : Treap Row
  pub more : Treap Row
  pub is : w ≡ Over row less more
  pub id_is : i ≡ id_of row.id

abbrev pub lead_id : Option Lead → ℕ → ℕ
lead_id None k = k
lead_id (Some l) k = l.id

-- a link leads to the topmost row
pub leads_over : (w : Treap Row) (l : Link) → led_by (Some l) ≡ led (unfolded_rows w) → Top w l.id
leads_over Empty k h = cc
leads_over (Over y l m) k h =
    let r = entry_led y.id y.name y.content (unfolded_rows l) (unfolded_rows m) in
    let e : led_by (Some k) ≡ Some (record { id = y.id; blocks = r.0 }) = h ∙ r.1 in
    let i : k.id.0 ≡ y.id = ap (λ o. lead_id o 0) e in
    record { row = y; less = l; more = m; is = refl; id_is = ap id_of i }
