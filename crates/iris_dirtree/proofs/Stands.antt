-- Ways down a table: what a link of a seen node leads to is live, and wanted with the link's hash where it is missing.
use Rattle.std.proofs.Common.{◌≡◌, ◌<◌, inl, inr, ◌⊎◌, ℕ, suc, List, true, false, Option, Some, None, IsSome, refl, ap, sym, ◌∙◌, subst, arith}
use Rattle.std.proofs.lemmas.Bool.{cases_lt}
use Rattle.iris_name.specs.declared.name.FileId.{FileId}
use Rattle.iris_name.specs.declared.name.Hash32.{Hash32}
use Rattle.iris_name.specs.declared.name.Name.{Name}
use Rattle.iris_name.specs.declared.name.Name.TheVariants as name
use Rattle.iris_name.specs.declared.note.Expect.TheVariants.{Hash}
use Rattle.iris_node.specs.declared.node.Link.{Link}
use Rattle.iris_node.specs.declared.node.Body.{Body}
use Rattle.iris_node.specs.declared.node.Body.TheVariants.{Dir, File as FileBody}
use Rattle.iris_node.specs.declared.node.Node.{Node}
use Rattle.iris_node.specs.declared.node.Node.TheVariants as node
use Rattle.iris_node.specs.Fields.{EntryFields, PartFields}
use Rattle.iris_node.specs.Local.{led, led_by, local, entry_local}
use Rattle.iris_node.specs.Trees.{Shown, IsParent, IsAbove, node_name, IsRootName}
use Rattle.iris_node.specs.Unfolded.{Unfolded, Absent, Folder, Leaf, Even, Split, Stored, id_of}
use Rattle.iris_shape.specs.Treap.{Treap, Over, treap}
use Rattle.iris_cache.specs.declared.held.Short.{Short}
use Rattle.iris_cache.specs.declared.held.Short.TheVariants.{Need}
use Rattle.iris_cache.specs.Resident.{Resident}
use Rattle.iris_cache.specs.Drafted.{Drafted, seen, known, there_by}
use Rattle.iris_cache.specs.Pictures.{IsLike, Holds, LinkHolds, BodyHolds}
use Rattle.iris_cache.proofs.Lacking.{unknown}
use Rattle.iris_cache.specs.Needs.{IsWanted}
use Rattle.iris_treepaths.specs.Rows.{Row, row_entry, unfolded_rows, up, HasRows}
use Rattle.iris_treepaths.specs.Ways.{Any}
use Rattle.iris_treepaths.specs.Needs.{IsDirectory, IsDirNode, IsMetLack, LacksMet, Listed}
use Rattle.iris_dirtree.specs.Found.{entry_of_node, inside, body_inside}
use Rattle.iris_treepaths.specs.Reached.{size, MetInOrder, Way}
use Rattle.iris_treepaths.proofs.Sees.{Sees, sees_holding, wanted, root_wanted}
use Rattle.iris_treepaths.proofs.Likes.{roof, LikeRow, like_row, like_part, leads_over, lead_id, above_less, above_more}
use Rattle.iris_dirtree.proofs.Pasts.{past_more}
use Rattle.iris_treepaths.proofs.There.{is_there}

lead_named : (i : ℕ) (l : Link) (b : ℕ) → led_by (Some l) ≡ Some (record { id = i; blocks = b }) → Some (name.Entry (id_of i)) ≡ Some (name.Entry l.id)
lead_named i l b h = let e : l.id.0 ≡ i = ap (λ o. lead_id o 0) h in ap (λ i. Some (name.Entry (id_of i))) (sym e)

-- a link leads to the entry of its id
pub led_named : (w : Unfolded) (l : Link) → led_by (Some l) ≡ led w → node_name w ≡ Some (name.Entry l.id)
led_named (Folder id label less more inside) l h = lead_named id l _ h
led_named (Leaf id label less more size counter versions) l h = lead_named id l _ h
led_named Absent l h = cc
led_named (Even v) l h = cc
led_named (Split f k i low high) l h = cc
led_named (Stored v bytes) l h = cc

pub link_holds : (o : Option Link) (l : Link) → o ≡ Some l → LinkHolds o (name.Entry l.id) l.hash
link_holds o l e = subst (λ o. LinkHolds o (name.Entry l.id) l.hash) (sym e) (refl, refl)

pub is_entry : (o : Option Node) (e : EntryFields) → Some e ≡ entry_of_node o → o ≡ Some (node.Entry e)
is_entry None e h = cc
is_entry (Some (node.Part p)) e h = cc
is_entry (Some (node.Entry x)) e h = let q : x ≡ e = cc in ap (λ x. Some (node.Entry x)) q

inside_by : (id : ℕ) (label : List ℕ) (less more w : Unfolded) (e : EntryFields) (b : Body) → local (Folder id label less more w) ≡ Some (entry_local e b) → led_by (body_inside b) ≡ led w
inside_by id label less more w e (Dir top) h = cc
inside_by id label less more w e (FileBody size counter versions) h = cc

body_holds : (id : FileId) (b : Body) (l : Link) → body_inside b ≡ Some l → BodyHolds id b (name.Entry l.id) l.hash
body_holds id (Dir top) l e = link_holds top l e
body_holds id (FileBody size counter versions) l e = cc

-- an entry that is live and known is seen
pub no_entry_by : (t : Option Unfolded) (u : Unfolded) (o : Option (Option Node)) → t ≡ Some u → IsSome o → None ≡ entry_of_node (there_by o) → (o ≡ Some None → t ≡ None) → ((p : PartFields) → there_by o ≡ Some (node.Part p) → ⊥) → ⊥
no_entry_by t u None live some none gone part = let e : false ≡ true = some in cc
no_entry_by t u (Some None) live some none gone part = let e = gone refl in cc
no_entry_by t u (Some (Some (node.Part p))) live some none gone part = part p refl
no_entry_by t u (Some (Some (node.Entry e))) live some none gone part = cc

-- what a row's node, met on a way, says of the row and the ways on from it
pub record Here (old new : Shown) (d : Drafted) (c : Resident) (w : Treap Row) (l : Link) (e : EntryFields) (k : ℕ) : Type 0 where
  pub row : Row
  pub less : Treap Row
  pub more : Treap Row
  pub is : w ≡ Over row less more
  pub id_is : l.id ≡ id_of row.id
  pub like : LikeRow row (unfolded_rows less) (unfolded_rows more) e
  pub left : Way old new d c (unfolded_rows less) e.left (suc k)
  pub right : Way old new d c (unfolded_rows more) e.right (suc k)

module _ (old new : Shown) (d : Drafted) (c : Resident) (see : Sees old new d c) where
  -- the way on from a node that is seen
  pub way_down : (n : Name) (u w : Unfolded) (k : Node) (at : Option Link) (i : ℕ) → new n ≡ Some u → seen d c n ≡ Some k → IsAbove u w → led_by at ≡ led w
      → ((l : Link) → at ≡ Some l → Holds k (name.Entry l.id) l.hash) → MetInOrder new (seen d c) i (size u) → Way old new d c w at (suc i)
  way_down n u w k at i live sees above leads holds past =
      record {
        leads = leads;
        stands = λ l e.
            let named = led_named w l (ap led_by (sym e) ∙ leads) in
            let parent : IsParent new n (name.Entry l.id) = record { parent = u; child = w; live = live; above = above; named = named } in
            record {
              live = see.is.below n (name.Entry l.id) u w live above named;
              wanted = λ missing. wanted old new d c see n (name.Entry l.id) k l.hash sees (holds l e) parent missing;
            };
        past = past_more new (seen d c) i n u w past live (is_there (seen d c n) k sees) above;
      }

  -- at a row whose entry is seen
  pub here : (w : Treap Row) (l : Link) (e : EntryFields) (k : ℕ) → Way old new d c (unfolded_rows w) (Some l) k → Some e ≡ entry_of_node (seen d c (name.Entry l.id)) → Here old new d c w l e k
  here w l e k way at =
      let t = leads_over w l way.leads in
      let n = name.Entry l.id in
      let u = row_entry t.row (unfolded_rows t.less) (unfolded_rows t.more) in
      let live : new n ≡ Some u = (way.stands l refl).live ∙ ap (λ w. Some (unfolded_rows w)) t.is in
      let sees : seen d c n ≡ Some (node.Entry e) = is_entry (seen d c n) e at in
      let like = like_row t.row (unfolded_rows t.less) (unfolded_rows t.more) e (subst (λ o. IsLike o (node.Entry e)) live (see.nodes n (node.Entry e) sees)) in
      let past = subst (λ w. MetInOrder new (seen d c) k (size (unfolded_rows w))) t.is way.past in
      record {
        row = t.row;
        less = t.less;
        more = t.more;
        is = t.is;
        id_is = t.id_is;
        like = like;
        left = way_down n u (unfolded_rows t.less) (node.Entry e) e.left k live sees (above_less t.row.id t.row.name t.row.content (unfolded_rows t.less) (unfolded_rows t.more)) like.left_is (λ m q. inl (link_holds e.left m q)) past;
        right = way_down n u (unfolded_rows t.more) (node.Entry e) e.right k live sees (above_more t.row.id t.row.name t.row.content (unfolded_rows t.less) (unfolded_rows t.more)) like.right_is (λ m q. inr (inl (link_holds e.right m q))) past;
      }

  -- where a way goes on, the entry is seen if it is known
  pub no_entry : (w : Treap Row) (l : Link) (k : ℕ) → Way old new d c (unfolded_rows w) (Some l) k → IsSome (known d c (name.Entry l.id)) → None ≡ entry_of_node (seen d c (name.Entry l.id)) → ⊥
  no_entry w l k way some none =
      let t = leads_over w l way.leads in
      let n = name.Entry l.id in
      let u = row_entry t.row (unfolded_rows t.less) (unfolded_rows t.more) in
      let live : new n ≡ Some u = (way.stands l refl).live ∙ ap (λ w. Some (unfolded_rows w)) t.is in
      no_entry_by (new n) u (known d c n) live some none (see.gone n tt) (λ p at. like_part t.row (unfolded_rows t.less) (unfolded_rows t.more) p (subst (λ o. IsLike o (node.Part p)) live (see.nodes n (node.Part p) at)))

  top_by : (dir : FileId) (u w : Unfolded) (label : List ℕ) (less more : Unfolded) (top : Option Link) (o : Option (Option Node)) → known d c (name.Entry dir) ≡ o → new (name.Entry dir) ≡ Some u → u ≡ Folder dir.0 label less more w → IsAbove u w
      → IsSome o → top ≡ inside (entry_of_node (there_by o)) → Way old new d c w top 1
  top_by dir u w label less more top None at live is above some e = absurd (let e : false ≡ true = some in cc)
  top_by dir u w label less more top (Some None) at live is above some e = let g = see.gone (name.Entry dir) tt at in cc
  top_by dir u w label less more top (Some (Some (node.Part p))) at live is above some e =
      let like = subst (λ o. IsLike o (node.Part p)) (live ∙ ap Some is) (see.nodes (name.Entry dir) (node.Part p) (ap there_by at)) in cc
  top_by dir u w label less more top (Some (Some (node.Entry x))) at live is above some e =
      let sees : seen d c (name.Entry dir) ≡ Some (node.Entry x) = ap there_by at in
      let like = subst (λ o. IsLike o (node.Entry x)) (live ∙ ap Some is) (see.nodes (name.Entry dir) (node.Entry x) sees) in
      let t = inside_by dir.0 label less more w x x.body like in
      way_down (name.Entry dir) u w (node.Entry x) top 0 live sees above (ap led_by e ∙ t) (λ l q. inr (inr (body_holds x.id x.body l (sym e ∙ q)))) tt

  pub top_way : (key : List ℕ) (dir : FileId) (rows : List Row) (top : Option Link) → HasRows new key dir rows → IsSome (known d c (name.Entry dir)) → top ≡ inside (entry_of_node (seen d c (name.Entry dir)))
      → Way old new d c (unfolded_rows (treap (up key) rows)) top 1
  top_way key dir rows top has some e =
      let r = roof new key dir rows has in
      top_by dir r.entry (unfolded_rows (treap (up key) rows)) r.label r.less r.more top (known d c (name.Entry dir)) refl r.live r.is r.above some e

-- ---- what a plan lacks

root_by : (i : ℕ) → i < 2 → (i ≡ 0) ⊎ (i ≡ 1)
root_by i lt = grind arith

pub root_name : (dir : FileId) → dir.0 < 2 → IsRootName (name.Entry dir)
root_name dir lt = elim (root_by dir.0 lt) [ inl e ↦ inl (ap (λ i. name.Entry (id_of i)) e) | inr e ↦ inr (ap (λ i. name.Entry (id_of i)) e) ]

root_dir : (d : Drafted) (c : Resident) (dir : FileId) → IsDirectory d c dir → known d c (name.Entry dir) ≡ None → dir.0 < 2
root_dir d c dir is missing = elim (cases_lt dir.0 2) [ inl lt ↦ lt | inr le ↦ absurd (subst IsDirNode (ap there_by missing) (is le)) ]

-- why a plan stops at the directory's entry
pub top_lack : (key : List ℕ) (d : Drafted) (c : Resident) (dir : FileId) (met : List Row → List Row) (h : Hash32) (e : Short) → e ≡ Need (name.Entry dir) (Hash h) → known d c (name.Entry dir) ≡ None → IsDirectory d c dir
    → IsMetLack (Listed key dir d c) met d c dir e
top_lack key d c dir met h e is missing dirs =
    let n = name.Entry dir in
    let u = unknown d c n missing in
    let root = root_name dir (root_dir d c dir dirs missing) in
    let lacks : LacksMet (Listed key dir d c) met d c dir n (Hash h) = record {
      unset = u.0;
      absent = u.1;
      needed = λ old new rows pic.
          let r = roof new key dir rows pic.rows_are in
          (inl refl, root_wanted old new d c (sees_holding old new None d c pic.was pic.is pic.drafts) n r.entry (Hash h) root tt r.live missing);
    } in
    subst (λ e. IsMetLack (Listed key dir d c) met d c dir e) (sym is) lacks

-- why a plan stops at a link
pub link_lack : (key : List ℕ) (d : Drafted) (c : Resident) (dir : FileId) (met : List Row → List Row) (l : Link) (e : Short) → e ≡ Need (name.Entry l.id) (Hash l.hash) → known d c (name.Entry l.id) ≡ None
    → ((old new : Shown) (rows : List Row) → Listed key dir d c old new rows → Any (λ (r : Row). name.Entry l.id ≡ name.Entry (id_of r.id)) (met rows) × IsWanted old new c (name.Entry l.id) (Hash l.hash))
    → IsMetLack (Listed key dir d c) met d c dir e
link_lack key d c dir met l e is missing needed =
    let u = unknown d c (name.Entry l.id) missing in
    let lacks : LacksMet (Listed key dir d c) met d c dir (name.Entry l.id) (Hash l.hash) = record {
      unset = u.0;
      absent = u.1;
      needed = λ old new rows pic. let n = needed old new rows pic in (inr n.0, n.1);
    } in
    subst (λ e. IsMetLack (Listed key dir d c) met d c dir e) (sym is) lacks
