-- The way down from a root to the block at a place of the walk.
use Rattle.std.proofs.Common.{◌≡◌, ◌+◌, ◌<◌, inl, inr, ℕ, suc, [], Some, None, IsSome, nat_lt, ◌-◌, refl, ap, sym, ◌∙◌, subst, arith, length}
use Rattle.std.specs.Prelude.{slice_get, if◌then◌else◌}
use Rattle.std.proofs.lemmas.Bool.{cond-true, cond-false}
use Rattle.std.proofs.lemmas.Option.{slice_get_past}
use Rattle.iris_name.specs.declared.name.FileId.{FileId}
use Rattle.iris_name.specs.declared.name.Hash32.{Hash32}
use Rattle.iris_name.specs.declared.name.Name.{Name}
use Rattle.iris_name.specs.declared.name.Name.TheVariants as name
use Rattle.iris_name.specs.declared.note.Expect.TheVariants.{Hash}
use Rattle.iris_node.specs.declared.node.Link.{Link}
use Rattle.iris_node.specs.declared.node.Node.TheVariants as node
use Rattle.iris_node.specs.Fields.{EntryFields, PartFields}
use Rattle.iris_node.specs.Local.{led, led_by, local, local_of, entry_local}
use Rattle.iris_node.specs.Trees.{Shown, node_name}
use Rattle.iris_node.specs.Unfolded.{Unfolded, Absent, Folder, Leaf, Even, Split, Stored, id_of, blocks}
use Rattle.iris_node.specs.Walk.{walk}
use Rattle.iris_node.proofs.Walking.{counted}
use Rattle.iris_cache.specs.declared.held.Short.{Short}
use Rattle.iris_cache.specs.declared.held.Short.TheVariants.{Need, NoMemory}
use Rattle.iris_cache.specs.Resident.{Resident}
use Rattle.iris_cache.specs.Drafted.{Drafted, seen, known}
use Rattle.iris_cache.specs.Pictures.{IsLike}
use Rattle.iris_cache.proofs.Children.{live-name}
use Rattle.iris_cache.proofs.Lacking.{unknown}
use Rattle.iris_cache.specs.Needs.{IsWanted}
use Rattle.iris_treepaths.specs.Nodes.{node_blocks}
use Rattle.iris_dirtree.specs.Places.{down_to, Rooted, whole_walk, IsOnWay, IsPlaceLack}
use Rattle.iris_dirtree.specs.Turns.{IsTurn, block_found}
use Rattle.iris_treepaths.specs.Ways.{Any}
use Rattle.iris_dirtree.specs.Below.{RootIs, IsOnWayToBlock, LacksBelow, IsBelowLack}
use Rattle.iris_treepaths.specs.Reached.{size, MetInOrder, Stand}
use Rattle.iris_dirtree.specs.Found.{entry_of_node}
use Rattle.iris_dirtree.specs.declared.placing.Turn.TheVariants.{Own, Under}
use Rattle.iris_treepaths.proofs.Sees.{Sees, sees_holding, root_wanted}
use Rattle.iris_dirtree.proofs.Pasts.{past_bound}
use Rattle.iris_dirtree.proofs.Stands.{way_down, is_entry, root_name, led_named, no_entry_by}
use Rattle.iris_treepaths.proofs.RowNodes.{like_blocks}
use Rattle.iris_dirtree.proofs.Blocks.{turned, turned_own, walk_none, get_left, get_right, is_less, is_not_less}

-- how far the way down to a block has come: the block lies at a place of the walk under a link
pub record Sunk (root : FileId) (old new : Shown) (d : Drafted) (c : Resident) (top : Unfolded) (at : ℕ) (l : Link) (place k : ℕ) : Type 0 where
  pub under : Unfolded
  pub stand : Stand old new d c under l
  pub past : MetInOrder new (seen d c) k (size under)
  pub same : slice_get (walk under) place ≡ slice_get (walk top) at
  pub on : IsOnWayToBlock root at top (name.Entry l.id)
  pub met : (n : Name) → Any (λ i. n ≡ name.Entry (id_of i)) (down_to place under) → Any (λ i. n ≡ name.Entry (id_of i)) (down_to at top)

-- what stands under an entry's name is no part
part_apart : (u : Unfolded) (id : FileId) (p : PartFields) → node_name u ≡ Some (name.Entry id) → local u ≡ Some (local_of (node.Part p)) → ⊥
part_apart (Folder i label less more inside) id p named h = cc
part_apart (Leaf i label less more size counter versions) id p named h = cc
part_apart (Split f l i low high) id p named h = cc
part_apart Absent id p named h = cc
part_apart (Even v) id p named h = cc
part_apart (Stored v bytes) id p named h = cc

down_head : (w : Unfolded) (l : Link) (rest : ℕ) → led_by (Some l) ≡ led w → node_name w ≡ Some (name.Entry l.id) → Any (λ i. name.Entry l.id ≡ name.Entry (id_of i)) (down_to rest w)
down_head (Folder id label less more inside) l rest h named = inl (let e : name.Entry (id_of id) ≡ name.Entry l.id = cc in sym e)
down_head (Leaf id label less more size counter versions) l rest h named = inl (let e : name.Entry (id_of id) ≡ name.Entry l.id = cc in sym e)
down_head (Split f k i low high) l rest h named = cc
down_head Absent l rest h named = cc
down_head (Even v) l rest h named = cc
down_head (Stored v bytes) l rest h named = cc

module _ (root : FileId) (d : Drafted) (c : Resident) (old new : Shown) (top : Unfolded) (is : RootIs root d c old new top) where
  see : Sees old new d c
  see = sees_holding old new None d c is.was is.is is.drafts

  pub sunk_top : (at : ℕ) (h : Hash32) (b : ℕ) → root.0 < 2 → Sunk root old new d c top at (record { id = root; hash = h; blocks = b }) at 0
  sunk_top at h b lt =
      record {
        under = top;
        stand = record { live = is.live; wanted = λ missing. root_wanted old new d c see (name.Entry root) top (Hash h) (root_name root lt) tt is.live missing };
        past = tt;
        same = refl;
        on = inl refl;
        met = λ n h. h;
      }

  -- the entry under a name, as it is seen
  pub like_there : (id : FileId) (u : Unfolded) (e : EntryFields) → new (name.Entry id) ≡ Some u → Some e ≡ entry_of_node (seen d c (name.Entry id)) → local u ≡ Some (entry_local e e.body)
  like_there id u e live at = subst (λ o. IsLike o (node.Entry e)) live (see.nodes (name.Entry id) (node.Entry e) (is_entry (seen d c (name.Entry id)) e at))

  pub not_seen : (id : FileId) (u : Unfolded) → new (name.Entry id) ≡ Some u → IsSome (known d c (name.Entry id)) → None ≡ entry_of_node (seen d c (name.Entry id)) → ⊥
  not_seen id u live some none =
      let n = name.Entry id in
      no_entry_by (new n) u (known d c n) live some none (see.gone n tt)
      (λ p at. let h = subst (λ o. IsLike o (node.Part p)) live (see.nodes n (node.Part p) at) in part_apart u id p (live-name new n u (local_of (node.Part p)) see.is live h) h)

  module _ (at : ℕ) (l : Link) (place k : ℕ) (s : Sunk root old new d c top at l place k) where
    pub sunk_lacks : known d c (name.Entry l.id) ≡ None → IsOnWayToBlock root at top (name.Entry l.id) × IsWanted old new c (name.Entry l.id) (Hash l.hash)
    sunk_lacks missing = (s.on, s.stand.wanted missing)

    pub sunk_gone : {P : Type 0} → IsSome (known d c (name.Entry l.id)) → None ≡ entry_of_node (seen d c (name.Entry l.id)) → P
    sunk_gone some none = absurd (not_seen l.id s.under s.stand.live some none)

    pub sunk_long : {P : Type 0} → length d.changes + length c.nodes < k → P
    sunk_long lt = let b = past_bound new d c k _ s.past in absurd (omega arith)

    module _ (e : EntryFields) (there : Some e ≡ entry_of_node (seen d c (name.Entry l.id))) where
      like : local s.under ≡ Some (entry_local e e.body)
      like = like_there l.id s.under e s.stand.live there

      named : node_name s.under ≡ Some (name.Entry l.id)
      named = live-name new (name.Entry l.id) s.under (entry_local e e.body) see.is s.stand.live like

      -- the block is the entry's own
      pub sunk_own : (p : ℕ) → IsTurn place e (Own p) → block_found (Some (l.id, p)) ≡ slice_get (walk top) at
      sunk_own p t = turned_own s.under e place p l.id like named t ∙ s.same

      -- there is no such block
      pub sunk_end : (rest : ℕ) → IsTurn place e (Under None rest) → None ≡ slice_get (walk top) at
      sunk_end rest t =
          let r = turned s.under e place None rest like t in
          sym (ap (λ w. slice_get w rest) (walk_none r.under r.leads)) ∙ sym r.same ∙ s.same

      pub sunk_down : (next : Link) (rest : ℕ) → IsTurn place e (Under (Some next) rest) → Sunk root old new d c top at next rest (suc k)
      sunk_down next rest t =
          let r = turned s.under e place (Some next) rest like t in
          let n = name.Entry l.id in
          let w = way_down old new d c see n s.under r.under (node.Entry e) (Some next) k s.stand.live (is_entry (seen d c n) e there) r.above r.leads r.holds s.past in
          record {
            under = r.under;
            stand = w.stands next refl;
            past = w.past;
            same = sym r.same ∙ s.same;
            on = inr (s.met (name.Entry next.id) (r.met (name.Entry next.id) (down_head r.under next rest r.leads (led_named r.under next r.leads))));
            met = λ m h. s.met m (r.met m h);
          }

  -- all blocks at and below the root
  pub root_blocks : (e : EntryFields) → Some e ≡ entry_of_node (seen d c (name.Entry root)) → node_blocks e ≡ blocks top
  root_blocks e there = like_blocks top e e.body (like_there root top e is.live there)

-- why the search stops
pub below_lack : (root : FileId) (d : Drafted) (c : Resident) (at : ℕ) (e : Short) (id : FileId) (h : Hash32) → e ≡ Need (name.Entry id) (Hash h) → known d c (name.Entry id) ≡ None
    → ((old new : Shown) (u : Unfolded) → RootIs root d c old new u → IsOnWayToBlock root at u (name.Entry id) × IsWanted old new c (name.Entry id) (Hash h)) → IsBelowLack root d c at e
below_lack root d c at e id h is missing needed =
    let u = unknown d c (name.Entry id) missing in
    let lacks : LacksBelow root d c at (name.Entry id) (Hash h) = record { unset = u.0; absent = u.1; needed = needed } in
    subst (λ e. IsBelowLack root d c at e) (sym is) lacks

-- ---- both roots

pub root_of : (d : Drafted) (c : Resident) (old new : Shown) (root trash : Unfolded) → Rooted d c old new root trash → RootIs (id_of 0) d c old new root
root_of d c old new root trash pic = record { was = pic.was; is = pic.is; drafts = pic.drafts; live = pic.root_is }

pub trash_of : (d : Drafted) (c : Resident) (old new : Shown) (root trash : Unfolded) → Rooted d c old new root trash → RootIs (id_of 1) d c old new trash
trash_of d c old new root trash pic = record { was = pic.was; is = pic.is; drafts = pic.drafts; live = pic.trash_is }

-- a place of the walk under the visible root, and one under the trash
pub walk_first : (root trash : Unfolded) (at : ℕ) → at < blocks root → slice_get (walk root) at ≡ slice_get (whole_walk root trash) at
walk_first root trash at lt = let n = counted root in sym (get_left (walk root) (walk trash) at (omega arith))

pub walk_second : (root trash : Unfolded) (at rest : ℕ) → at ≡ blocks root + rest → slice_get (walk trash) rest ≡ slice_get (whole_walk root trash) at
walk_second root trash at rest e = let n = counted root in sym (get_right (walk root) (walk trash) rest at (omega arith))

pub walk_past : (root trash : Unfolded) (at rest more : ℕ) → at ≡ blocks root + rest → rest ≡ blocks trash + more → None ≡ slice_get (whole_walk root trash) at
walk_past root trash at rest more e f = let n = counted trash in sym (slice_get_past (walk trash) rest (omega arith)) ∙ walk_second root trash at rest e

way_first : (n : Name) (root trash : Unfolded) (at : ℕ) → at < blocks root → IsOnWayToBlock (id_of 0) at root n → IsOnWay at root trash n
way_first n root trash at lt (inl e) = inl e
way_first n root trash at lt (inr m) = inr (inr (subst (λ ids. Any (λ i. n ≡ name.Entry (id_of i)) ids) (sym (cond-true (nat_lt at (blocks root)) (down_to at root) _ (is_less at (blocks root) lt))) m))

way_second : (n : Name) (root trash : Unfolded) (at rest : ℕ) → at ≡ blocks root + rest → rest < blocks trash → IsOnWayToBlock (id_of 1) rest trash n → IsOnWay at root trash n
way_second n root trash at rest e lt (inl f) = inr (inl f)
way_second n root trash at rest e lt (inr m) =
    let z : rest ≡ at - blocks root = omega arith in
    let ways = cond-false (nat_lt at (blocks root)) (down_to at root) (if nat_lt (at - blocks root) (blocks trash) then down_to (at - blocks root) trash else []) (is_not_less at (blocks root) (omega arith))
    ∙ cond-true (nat_lt (at - blocks root) (blocks trash)) (down_to (at - blocks root) trash) [] (is_less (at - blocks root) (blocks trash) (omega arith)) ∙ ap (λ r. down_to r trash) (sym z) in
    inr (inr (subst (λ ids. Any (λ i. n ≡ name.Entry (id_of i)) ids) (sym ways) m))

pub first_lack : (d : Drafted) (c : Resident) (at : ℕ) (e : Short) → ((old new : Shown) (root : Unfolded) → RootIs (id_of 0) d c old new root → at < blocks root) → IsBelowLack (id_of 0) d c at e → IsPlaceLack d c at e
first_lack d c at (Need n x) less h = record {
  unset = h.unset;
  absent = h.absent;
  needed = λ old new roots pic. let r = root_of d c old new roots.0 roots.1 pic in let w = h.needed old new roots.0 r in (way_first n roots.0 roots.1 at (less old new roots.0 r) w.0, w.1);
}
first_lack d c at NoMemory less h = absurd h

pub second_lack : (d : Drafted) (c : Resident) (at rest : ℕ) (e : Short) → ((old new : Shown) (root : Unfolded) → RootIs (id_of 0) d c old new root → at ≡ blocks root + rest) → ((old new : Shown) (trash : Unfolded) → RootIs (id_of 1) d c old new trash → rest < blocks trash)
    → IsBelowLack (id_of 1) d c rest e → IsPlaceLack d c at e
second_lack d c at rest (Need n x) past less h = record {
  unset = h.unset;
  absent = h.absent;
  needed = λ old new roots pic.
      let r = root_of d c old new roots.0 roots.1 pic in
      let t = trash_of d c old new roots.0 roots.1 pic in
      let w = h.needed old new roots.1 t in
      (way_second n roots.0 roots.1 at rest (past old new roots.0 r) (less old new roots.1 t) w.0, w.1);
}
second_lack d c at rest NoMemory past less h = absurd h
