-- A plan begins at a directory's topmost row.
use Rattle.std.proofs.Common.{◌≡◌, inl, inr, ◌<◌, ℕ, Bool, true, List, Option, Some, None, IsSome, refl, ap, sym, ◌∙◌, subst, arith}
use Rattle.iris_name.specs.declared.name.FileId.{FileId}
use Rattle.iris_name.specs.declared.name.Hash32.{Hash32}
use Rattle.iris_name.specs.declared.name.Name.{Name}
use Rattle.iris_name.specs.declared.name.Name.TheVariants as name
use Rattle.iris_name.specs.declared.note.Expect.TheVariants.{Hash}
use Rattle.iris_node.specs.declared.node.Body.{Body}
use Rattle.iris_node.specs.declared.node.Body.TheVariants.{Dir, File as FileBody}
use Rattle.iris_node.specs.declared.node.Link.{Link}
use Rattle.iris_node.specs.declared.node.Node.{Node}
use Rattle.iris_node.specs.declared.node.Node.TheVariants as node
use Rattle.iris_node.specs.Fields.{EntryFields}
use Rattle.iris_node.specs.Local.{led, led_by}
use Rattle.iris_node.specs.Trees.{Shown, IsTree, IsParent, IsAbove}
use Rattle.iris_node.specs.Unfolded.{Unfolded}
use Rattle.iris_shape.specs.Treap.{Treap, Empty, Over, treap}
use Rattle.iris_cache.specs.declared.held.Short.{Short}
use Rattle.iris_cache.specs.declared.held.Short.TheVariants.{Need, NoMemory}
use Rattle.iris_cache.specs.Resident.{Resident}
use Rattle.iris_cache.specs.Drafted.{Drafted, seen, known, there_by}
use Rattle.iris_cache.specs.Pictures.{Holds, BodyHolds, IsLike}
use Rattle.iris_cache.specs.Needs.{IsWanted}
use Rattle.iris_cache.proofs.Lacking.{unknown}
use Rattle.iris_treepaths.specs.Crumbs.{Seated}
use Rattle.iris_dirtree.specs.Descents.{IsWantedLink, WantsBelow, StandsBelow, IsStop}
use Rattle.iris_dirtree.specs.Found.{entry_of_node, inside, body_inside}
use Rattle.iris_treepaths.specs.Needs.{IsMetShort}
use Rattle.iris_treepaths.specs.Nodes.{dir_top, body_top}
use Rattle.iris_treepaths.specs.Planted.{IsSubtreap}
use Rattle.iris_treepaths.specs.Rows.{Row, HasRows, unfolded_rows, row_entry, up}
use Rattle.iris_treepaths.specs.Paths.{entry_name, Outside}
use Rattle.iris_treepaths.proofs.Likes.{Placed, placed_rows, top_parent, above_less, above_more, roof, like_row}
use Rattle.iris_treepaths.specs.Reached.{size}
use Rattle.iris_treepaths.proofs.Sizes.{above_larger}
use Rattle.iris_treepaths.proofs.Sees.{Sees, wanted}
use Rattle.iris_treepaths.proofs.There.{is_there}
use Rattle.iris_dirtree.proofs.Stands.{led_named, link_holds, top_way}

top_inside : (o : Option Node) (top : Option Link) → dir_top o ≡ Some top → top ≡ inside (entry_of_node o)
top_inside None top h = cc
top_inside (Some (node.Part p)) top h = cc
top_inside (Some (node.Entry e)) top h = by e.body h
  where
    by : (b : Body) → body_top b ≡ Some top → top ≡ body_inside b
    by (Dir x) h = cc
    by (FileBody size counter versions) h = cc

-- the entry that holds a directory's top link
pub record Holder (o : Option Node) (top : Option Link) : Type 0 where
  pub entry : EntryFields
  pub is : o ≡ Some (node.Entry entry)
  pub body : entry.body ≡ Dir top

pub holder : (o : Option Node) (top : Option Link) → dir_top o ≡ Some top → Holder o top
holder None top h = cc
holder (Some (node.Part p)) top h = cc
holder (Some (node.Entry e)) top h = record { entry = e; is = refl; body = by e.body h }
  where
    by : (b : Body) → body_top b ≡ Some top → b ≡ Dir top
    by (Dir x) h = let q : x ≡ top = cc in ap Dir q
    by (FileBody size counter versions) h = cc

seen_known : (o : Option (Option Node)) (x : Node) → there_by o ≡ Some x → IsSome o
seen_known None x h = cc
seen_known (Some o) x h = refl

module _ (old new : Shown) (c : Resident) (d : Drafted) (see : Sees old new d c) where
  module _ (t : Treap Row) (lasts : Name → Bool) (all : (n : Name) → IsSome (seen d c n) → lasts n ≡ true) where
    pub seated_of : (w : Treap Row) (p : Name) (u : Unfolded) → Placed new w → new p ≡ Some u → IsAbove u (unfolded_rows w) → ((v : Treap Row) → IsSubtreap v w → IsSubtreap v t) → Seated old c t lasts d p w
    seated_of Empty p u h live above within = tt
    seated_of (Over y l m) p u h live above within =
        let n = entry_name y in
        let e = unfolded_rows (Over y l m) in (
          (λ node at.
              let up = see.parents n p node at (top_parent new p u y l m live above) in
              record { like = subst (λ o. IsLike o node) h.0 (see.nodes n node at); parent = up.0; there = all p up.1; here = all n (is_there (seen d c n) node at); hashes = λ m x holds. see.hashes n m node x at holds }),
          (λ none. within (Over y l m) (inl refl)),
          seated_of l n e h.1 h.0 (above_less y.id y.name y.content (unfolded_rows l) (unfolded_rows m)) (λ v k. within v (inr (inl k))),
          seated_of m n e h.2 h.0 (above_more y.id y.name y.content (unfolded_rows l) (unfolded_rows m)) (λ v k. within v (inr (inr k))),
        )

  link_wanted : (n : Name) (u : Unfolded) (x : Node) (k : Option Link) (v : Unfolded) → new n ≡ Some u → IsAbove u v → seen d c n ≡ Some x → led_by k ≡ led v → ((l : Link) → k ≡ Some l → Holds x (name.Entry l.id) l.hash) → IsWantedLink old new c d k
  link_wanted n u x None v live above at leads holds = tt
  link_wanted n u x (Some l) v live above at leads holds =
      let parent : IsParent new n (name.Entry l.id) = record { parent = u; child = v; live = live; above = above; named = led_named v l leads } in
      λ missing. wanted old new d c see n (name.Entry l.id) x l.hash at (holds l refl) parent missing

  wants_of : (w : Treap Row) → Placed new w → WantsBelow old new c d w
  wants_of Empty h = tt
  wants_of (Over y l m) h = (
    (λ e at.
        let n = entry_name y in
        let u = row_entry y (unfolded_rows l) (unfolded_rows m) in
        let like = like_row y (unfolded_rows l) (unfolded_rows m) e (subst (λ o. IsLike o (node.Entry e)) h.0 (see.nodes n (node.Entry e) at)) in (
          link_wanted n u (node.Entry e) e.left (unfolded_rows l) h.0 (above_less y.id y.name y.content (unfolded_rows l) (unfolded_rows m)) at like.left_is (λ k q. inl (link_holds e.left k q)),
          link_wanted n u (node.Entry e) e.right (unfolded_rows m) h.0 (above_more y.id y.name y.content (unfolded_rows l) (unfolded_rows m)) at like.right_is (λ k q. inr (inl (link_holds e.right k q))),
        )),
    wants_of l h.1,
    wants_of m h.2,
  )

  top_wanted : (k : Option Link) → ((l : Link) → k ≡ Some l → known d c (name.Entry l.id) ≡ None → IsWanted old new c (name.Entry l.id) (Hash l.hash)) → IsWantedLink old new c d k
  top_wanted None h = tt
  top_wanted (Some l) h = h l refl

  pub stands_start : (key : List ℕ) (dir : FileId) (rows : List Row) (top : Option Link) (lasts : Name → Bool) → ((n : Name) → IsSome (seen d c n) → lasts n ≡ true) → HasRows new key dir rows → dir_top (seen d c (name.Entry dir)) ≡ Some top
      → StandsBelow old new c (treap (up key) rows) lasts d (name.Entry dir) top (treap (up key) rows)
  stands_start key dir rows top lasts all has is =
      let t = treap (up key) rows in
      let o = holder (seen d c (name.Entry dir)) top is in
      let way = top_way old new d c see key dir rows top has (seen_known (known d c (name.Entry dir)) (node.Entry o.entry) o.is) (top_inside (seen d c (name.Entry dir)) top is) in
      let r = roof new key dir rows has in
      let placed = placed_rows new key dir rows see.is has in
      let B : Name → Hash32 → Body → Type 0 = λ m h b. BodyHolds o.entry.id b m h in
      record {
        leads = record { led_is = way.leads; hash = λ m h k. see.hashes (name.Entry dir) m (node.Entry o.entry) h o.is (inr (inr (subst (B m h) (sym o.body) k))) };
        wanted = top_wanted top (λ l e missing. (way.stands l e).wanted missing);
        below = wants_of t placed;
        seated = seated_of t lasts all t (name.Entry dir) r.entry placed r.live r.above (λ v k. k);
      }

-- why a plan stops, with what it needs of each picture
pub stop_short : (listed : Shown → Shown → List Row → Type 0) (dir : FileId) (d : Drafted) (c : Resident) (met : List Row → List Row) (pictured : Shown → Shown → List Row → Type 0) (e : Short)
    → ((old new : Shown) (rows : List Row) → listed old new rows → pictured old new (met rows)) → IsStop pictured d c e → IsMetShort listed met d c dir e
stop_short listed dir d c met pictured NoMemory h stop = tt
stop_short listed dir d c met pictured (Need n x) h stop =
    let u = unknown d c n stop.0 in
    record { unset = u.0; absent = u.1; needed = λ old new rows pic. let r = stop.1 old new (met rows) (h old new rows pic) in (inr r.0, r.1) }

-- ---- a directory is none of its rows

some_same : (a b : Unfolded) → Some a ≡ Some b → size a ≡ size b
some_same a b h = let e : a ≡ b = cc in ap size e

apart_by : (new : Shown) (n : Name) (u : Unfolded) → new n ≡ Some u → (w : Treap Row) → Placed new w → size (unfolded_rows w) < size u → Outside n w
apart_by new n u live Empty h lt = tt
apart_by new n u live (Over y l m) h lt =
    let a = above_larger (unfolded_rows (Over y l m)) (unfolded_rows l) (above_less y.id y.name y.content (unfolded_rows l) (unfolded_rows m)) in
    let b = above_larger (unfolded_rows (Over y l m)) (unfolded_rows m) (above_more y.id y.name y.content (unfolded_rows l) (unfolded_rows m)) in (
      (λ e. let s = some_same u (unfolded_rows (Over y l m)) (sym live ∙ ap new e ∙ h.0) in absurd (omega (arith, s, lt))),
      apart_by new n u live l h.1 (omega (arith, a, lt)),
      apart_by new n u live m h.2 (omega (arith, b, lt)),
    )

pub dir_apart : (new : Shown) (key : List ℕ) (dir : FileId) (all : List Row) → IsTree new → HasRows new key dir all → Outside (name.Entry dir) (treap (up key) all)
dir_apart new key dir all is has =
    let r = roof new key dir all has in
    apart_by new (name.Entry dir) r.entry r.live (treap (up key) all) (placed_rows new key dir all is has) (above_larger r.entry (unfolded_rows (treap (up key) all)) r.above)
