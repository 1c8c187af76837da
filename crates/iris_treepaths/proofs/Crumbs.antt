-- Crumbs of a path, and what is seen of a treap's rows while a draft changes.
use Rattle.std.proofs.Common.{◌≡◌, ◌++◌, ◌-◌, suc, Bool, true, false, cond, List, [], ◌∷◌, Option, Some, None, IsSome, refl, ap, sym, ◌∙◌, subst, arith, length, slice_get}
use Rattle.iris_name.specs.declared.name.FileId.{FileId}
use Rattle.iris_name.specs.declared.name.Hash32.{Hash32}
use Rattle.iris_name.specs.declared.name.Name.{Name}
use Rattle.iris_name.specs.declared.name.Name.TheVariants as name
use Rattle.iris_node.specs.declared.node.Node.{Node}
use Rattle.iris_node.specs.declared.node.Node.TheVariants as node
use Rattle.iris_node.specs.Fields.{EntryFields}
use Rattle.iris_node.specs.Trees.{Shown}
use Rattle.iris_node.specs.Unfolded.{id_of}
use Rattle.iris_shape.specs.Treap.{Treap, Empty, Over, Every}
use Rattle.iris_cache.specs.Resident.{Resident}
use Rattle.iris_cache.specs.Drafted.{Drafted, drafted, seen}
use Rattle.iris_cache.specs.Pictures.{Holds, IsLike, WasHash, parent_after}
use Rattle.iris_treepaths.specs.declared.paths.Crumb.{Crumb}
use Rattle.iris_treepaths.specs.Crumbs.{Seat, Seated, IsCrumb, AreCrumbs, crumb_above}
use Rattle.iris_treepaths.specs.Nodes.{IsPut}
use Rattle.iris_treepaths.specs.Paths.{Frame, framed, plug, entry_name, above}
use Rattle.iris_treepaths.specs.Planted.{IsSubtreap}
use Rattle.iris_treepaths.specs.Rows.{Row, unfolded_rows}
use Rattle.iris_treepaths.proofs.Likes.{like_row}
use Rattle.iris_treepaths.proofs.Owned.{seen_same, parent_same, put_seen, put_parent, still_seen, put_off}
use Rattle.iris_treepaths.proofs.PathLaws.{every_framed}
use Rattle.iris_treepaths.proofs.There.{not_both}

-- ---- what a draft says

pub there_same : (o w : Option Node) → o ≡ w → IsSome w → IsSome o
there_same o w e h = let P : Option Node → Type 0 = λ o. IsSome o in subst P (sym e) h

-- what was seen is seen
pub put_stays : (d e : Drafted) (c : Resident) (p : Option Name) (x : EntryFields) (n : Name) → IsPut d e p x → IsSome (seen d c n) → IsSome (seen e c n)
put_stays d e c p x n put h = still_seen d e c (name.Entry x.id) (node.Entry x) (put_seen d e c p x put) (λ m off. put_off d e p x m put off) n h

-- ---- the end of a path, by its crumbs

-- what was pushed last is above
pub above_last : (d : FileId) (ks : List Crumb) (k : Crumb) → slice_get ks (length ks - 1) ≡ Some k → k.node.id ≡ crumb_above d ks
above_last d [] k h = let g : None ≡ Some k = h in cc
above_last d (f ∷ []) k h = let g : Some f ≡ Some k = h in let e : f ≡ k = cc in ap (λ (x : Crumb). x.node.id) (sym e)
above_last d (f ∷ g ∷ ks) k h =
    let z : length (f ∷ g ∷ ks) - 1 ≡ suc (length (g ∷ ks) - 1) = omega arith in
    let a : slice_get (f ∷ g ∷ ks) (suc (length (g ∷ ks) - 1)) ≡ Some k = sym (ap (slice_get (f ∷ g ∷ ks)) z) ∙ h in
    above_last f.node.id (g ∷ ks) k a

module _ (old : Shown) (c : Resident) (home : Treap Row) (lasts : Name → Bool) where
  -- ---- seats

  -- rows are seated where nothing of them is changed
  pub seated_frame : (d e : Drafted) (p : Name) (w : Treap Row) → Every (λ z. drafted e (entry_name z) ≡ drafted d (entry_name z)) w → Seated old c home lasts d p w → Seated old c home lasts e p w
  seated_frame d e p Empty h s = tt
  seated_frame d e p (Over y l m) h s =
      let n = entry_name y in
      let same = seen_same d e c n h.0 in (
        (λ node at. let r = s.0 node (sym same ∙ at) in record { like = r.like; parent = parent_same d e c n h.0 ∙ r.parent; there = r.there; here = r.here; hashes = r.hashes }),
        (λ none. s.1 (sym same ∙ none)),
        seated_frame d e n l h.1 s.2,
        seated_frame d e n m h.2 s.3,
      )

  -- an entry that is set has its seat
  pub seat_put : (d e : Drafted) (q n : Name) (w : Treap Row) (x : EntryFields) → IsPut d e (Some q) x → name.Entry x.id ≡ n → IsLike (Some (unfolded_rows w)) (node.Entry x) → lasts q ≡ true → lasts n ≡ true
      → ((m : Name) (h : Hash32) → Holds (node.Entry x) m h → WasHash old c m h) → (node : Node) → seen e c n ≡ Some node → Seat old c lasts e q n (unfolded_rows w) node
  seat_put d e q n w x put id like there here hashes node' at =
      let sees : seen e c n ≡ Some (node.Entry x) = ap (seen e c) (sym id) ∙ put_seen d e c (Some q) x put in
      let same : node.Entry x ≡ node' = cc in
      let P : Node → Type 0 = λ x. Seat old c lasts e q n (unfolded_rows w) x in
      subst P same (record { like = like; parent = ap (parent_after e c) (sym id) ∙ put_parent d e c (Some q) x put; there = there; here = here; hashes = hashes })

  -- so it is never missing
  pub put_there : (d e : Drafted) (q : Option Name) (n : Name) (w : Treap Row) (x : EntryFields) → IsPut d e q x → name.Entry x.id ≡ n → seen e c n ≡ None → IsSubtreap w home
  put_there d e q n w x put id none = absurd (not_both (seen e c n) (node.Entry x) (ap (seen e c) (sym id) ∙ put_seen d e c q x put) none)

  pub seated_framed : (d : Drafted) (q : Name) (f : Frame) (w : Treap Row) → ((node : Node) → seen d c (entry_name f.row) ≡ Some node → Seat old c lasts d q (entry_name f.row) (unfolded_rows (framed f w)) node)
      → (seen d c (entry_name f.row) ≡ None → IsSubtreap (framed f w) home) → Seated old c home lasts d (entry_name f.row) f.other → Seated old c home lasts d (entry_name f.row) w → Seated old c home lasts d q (framed f w)
  seated_framed d q f w seat away other below = by f.right seat away
    where
      by : (r : Bool) → ((node : Node) → seen d c (entry_name f.row) ≡ Some node → Seat old c lasts d q (entry_name f.row) (unfolded_rows (cond r (Over f.row f.other w) (Over f.row w f.other))) node)
          → (seen d c (entry_name f.row) ≡ None → IsSubtreap (cond r (Over f.row f.other w) (Over f.row w f.other)) home) → Seated old c home lasts d q (cond r (Over f.row f.other w) (Over f.row w f.other))
      by true g h = (g, h, other, below)
      by false g h = (g, h, below, other)

  -- ---- crumbs

  pub crumb_id : (d : Drafted) (f : Frame) (k : Crumb) → IsCrumb old c home lasts d f k → name.Entry k.node.id ≡ entry_name f.row
  crumb_id d f k h = by f.right h.like
    where
      by : (r : Bool) → IsLike (Some (unfolded_rows (cond r (Over f.row f.other h.side) (Over f.row h.side f.other)))) (node.Entry k.node) → name.Entry k.node.id ≡ entry_name f.row
      by true g = ap (λ i. name.Entry (id_of i)) (like_row f.row (unfolded_rows f.other) (unfolded_rows h.side) k.node g).id_is
      by false g = ap (λ i. name.Entry (id_of i)) (like_row f.row (unfolded_rows h.side) (unfolded_rows f.other) k.node g).id_is

  pub crumbs_above : (d : Drafted) (p : Name) (i : FileId) (fs : List Frame) (ks : List Crumb) → name.Entry i ≡ p → AreCrumbs old c home lasts d fs ks → name.Entry (crumb_above i ks) ≡ above p fs
  crumbs_above d p i [] [] h k = h
  crumbs_above d p i [] (e ∷ es) h k = absurd k
  crumbs_above d p i (x ∷ xs) [] h k = absurd k
  crumbs_above d p i (x ∷ xs) (e ∷ es) h k = crumbs_above d (entry_name x.row) e.node.id xs es (crumb_id d x e k.0) k.1

  pub above_lasts : (d : Drafted) (p : Name) (fs : List Frame) (ks : List Crumb) → AreCrumbs old c home lasts d fs ks → lasts p ≡ true → lasts (above p fs) ≡ true
  above_lasts d p [] [] k h = h
  above_lasts d p [] (e ∷ es) k h = absurd k
  above_lasts d p (x ∷ xs) [] k h = absurd k
  above_lasts d p (x ∷ xs) (e ∷ es) k h = above_lasts d (entry_name x.row) xs es k.1 k.0.here

  pub crumbs_more : (d : Drafted) (fs : List Frame) (ks : List Crumb) (f : Frame) (k : Crumb) → AreCrumbs old c home lasts d fs ks → IsCrumb old c home lasts d f k → AreCrumbs old c home lasts d (fs ++ f ∷ []) (ks ++ k ∷ [])
  crumbs_more d [] [] x e k h = (h, tt)
  crumbs_more d [] (f ∷ es) x e k h = absurd k
  crumbs_more d (y ∷ xs) [] x e k h = absurd k
  crumbs_more d (y ∷ xs) (f ∷ es) x e k h = (k.0, crumbs_more d xs es x e k.1 h)

  pub record Last (d : Drafted) (fs : List Frame) (ks : List Crumb) (k : Crumb) : Type 0 where
    pub front : List Frame
    pub last : Frame
    pub is : fs ≡ front ++ last ∷ []
    pub crumbs : AreCrumbs old c home lasts d front ks
    pub crumb : IsCrumb old c home lasts d last k

  pub crumbs_last : (d : Drafted) (fs : List Frame) (ks : List Crumb) (k : Crumb) → AreCrumbs old c home lasts d fs (ks ++ k ∷ []) → Last d fs ks k
  crumbs_last d [] [] e k = absurd k
  crumbs_last d [] (f ∷ es) e k = absurd k
  crumbs_last d (x ∷ []) [] e k = record { front = []; last = x; is = refl; crumbs = tt; crumb = k.0 }
  crumbs_last d (x ∷ y ∷ xs) [] e k = absurd k.1
  crumbs_last d (x ∷ xs) (f ∷ es) e k = let r = crumbs_last d xs es e k.1 in record { front = x ∷ r.front; last = r.last; is = ap (λ v. x ∷ v) r.is; crumbs = (k.0, r.crumbs); crumb = r.crumb }

  -- crumbs are kept where nothing of the rows on their path is changed
  pub crumbs_frame : (d e : Drafted) (fs : List Frame) (ks : List Crumb) (w : Treap Row) → Every (λ z. drafted e (entry_name z) ≡ drafted d (entry_name z)) (plug fs w) → AreCrumbs old c home lasts d fs ks → AreCrumbs old c home lasts e fs ks
  crumbs_frame d e [] [] w h k = tt
  crumbs_frame d e [] (x ∷ ks) w h k = absurd k
  crumbs_frame d e (f ∷ fs) [] w h k = absurd k
  crumbs_frame d e (f ∷ fs) (x ∷ ks) w h k =
      let r = every_framed (λ z. drafted e (entry_name z) ≡ drafted d (entry_name z)) f (plug fs w) h in
      let q = k.0 in (
        record {
          side = q.side;
          right = q.right;
          sees = seen_same d e c (entry_name f.row) r.0 ∙ q.sees;
          like = q.like;
          here = q.here;
          hashes = q.hashes;
          reached = q.reached;
          other = seated_frame d e (entry_name f.row) f.other r.1 q.other;
        },
        crumbs_frame d e fs ks w r.2 k.1,
      )
