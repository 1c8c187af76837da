-- The way down two treaps that are merged.
use Rattle.std.proofs.Common.{◌≡◌, ◌≢◌, inl, inr, ◌++◌, ℕ, Bool, true, false, cond, List, [], ◌∷◌, Option, Some, None, refl, ap, sym, ◌∙◌, subst}
use Rattle.std.proofs.lemmas.Bool.{cond-true, cond-false}
use Rattle.iris_name.specs.declared.name.FileId.{FileId}
use Rattle.iris_name.specs.declared.name.Name.{Name}
use Rattle.iris_name.specs.declared.name.Name.TheVariants as name
use Rattle.iris_node.specs.declared.node.Link.{Link}
use Rattle.iris_node.specs.declared.node.Node.{Node}
use Rattle.iris_node.specs.declared.node.Node.TheVariants as node
use Rattle.iris_node.specs.Fields.{EntryFields}
use Rattle.iris_node.specs.Local.{led_by}
use Rattle.iris_node.specs.Trees.{Shown}
use Rattle.iris_node.specs.Unfolded.{id_of}
use Rattle.iris_shape.specs.Treap.{Treap, Empty, Over, merge, onto, way}
use Rattle.iris_cache.specs.declared.held.Short.{Short}
use Rattle.iris_cache.specs.Resident.{Resident}
use Rattle.iris_cache.specs.Drafted.{Drafted, drafted, seen}
use Rattle.iris_treepaths.specs.declared.paths.Crumb.{Crumb}
use Rattle.iris_treepaths.specs.Crumbs.{Seated, LeadsToTop, AreCrumbs, Rises, crumb_above}
use Rattle.iris_dirtree.specs.Descents.{FoundRow, IsStop}
use Rattle.iris_dirtree.specs.Merges.{Merging, IsMerged, Merges}
use Rattle.iris_treepaths.specs.Nodes.{IsLinkLack, IsPut}
use Rattle.iris_treepaths.specs.Paths.{Frame, plug, entry_name, above, IsAmong, Once, met_near}
use Rattle.iris_treepaths.specs.Rows.{Row, unfolded_rows}
use Rattle.iris_treepaths.specs.Ways.{is_row_before, has_name}
use Rattle.iris_treepaths.proofs.Crumbs.{put_stays, seated_frame, seat_put, put_there, crumbs_above, above_lasts, crumbs_more}
use Rattle.iris_treepaths.proofs.Downs.{any_left, any_right}
use Rattle.iris_treepaths.proofs.Likes.{like_row, like_part, leads_over, leads_empty}
use Rattle.iris_treepaths.proofs.Owned.{put_other}
use Rattle.iris_treepaths.proofs.PathLaws.{plug_more, frame_of, once_plug, remove_plug, near_over, met_plug}
use Rattle.iris_treepaths.proofs.RisenPaths.{every_off, touch}
use Rattle.iris_treepaths.proofs.RowsWithout.{taken}
use Rattle.iris_dirtree.proofs.WaysDown.{stands_sides, top_row, crumb_of, stands_wanted, link_stop}

module _ (old new : Shown) (c : Resident) (home : Treap Row) (lasts : Name → Bool) (d : Drafted) where
  pub merge_more : (up : Row → Row → Bool) (met : List Row) (u : Treap Row) (ks : List Crumb) (j k : Link) (e : EntryFields) (b : Bool) → ((x y : Row) → j.id ≡ id_of x.id → k.id ≡ id_of y.id → up x y ≡ b)
      → seen d c (name.Entry (cond b j k).id) ≡ Some (node.Entry e) → Merging old new c home lasts d up met u ks (Some j) (Some k)
      → Merging old new c home lasts d up met u (ks ++ record { node = e; right = b; hash = (cond b j k).hash } ∷ []) (cond b e.right (Some j)) (cond b (Some k) e.left)
  merge_more up met u ks j k e true ranks at s =
      let top = top_row old new c home lasts d s.q j s.a e s.left at in
      let x = top.y in
      let other = leads_over s.b k s.right.leads.led_is in
      let y = other.row in
      let f = frame_of x top.l top.m true in
      let b = Over y other.less other.more in
      let beats = ranks x y top.id_is other.id_is in
      let W : (r : Row) → Treap Row → Type 0 = λ r w. IsAmong r (way (λ _. true) w) in
      record {
        front = s.front ++ f ∷ [];
        a = top.m;
        b = s.b;
        q = entry_name x;
        r = s.r;
        is = s.is ∙ ap (λ w. plug s.front (merge up w s.b)) top.is ∙ ap (λ w. plug s.front (merge up (Over x top.l top.m) w)) other.is
            ∙ ap (plug s.front) (cond-true (up x y) (Over x top.l (merge up top.m b)) (Over y (onto up x top.l top.m (merge up top.m) other.less) other.more) beats)
            ∙ ap (λ w. plug s.front (Over x top.l (merge up top.m w))) (sym other.is) ∙ sym (plug_more s.front f (merge up top.m s.b));
        crumbs = crumbs_more old c home lasts d s.front ks f (record { node = e; right = true; hash = j.hash }) s.crumbs (crumb_of old new c home lasts d s.q j s.a e true top);
        left = (stands_sides old new c home lasts d s.q (Some j) x top.l top.m e top.stands top.at).1;
        right = s.right;
        met_less = λ r h. s.met_less r (subst (W r) (sym top.is) (inr h));
        met_more = s.met_more;
      }
  merge_more up met u ks j k e false ranks at s =
      let top = top_row old new c home lasts d s.r k s.b e s.right at in
      let y = top.y in
      let other = leads_over s.a j s.left.leads.led_is in
      let x = other.row in
      let f = frame_of y top.l top.m false in
      let a = Over x other.less other.more in
      let beats = ranks x y other.id_is top.id_is in
      let W : (r : Row) → Treap Row → Type 0 = λ r w. IsAmong r (way (λ _. false) w) in
      record {
        front = s.front ++ f ∷ [];
        a = s.a;
        b = top.l;
        q = s.q;
        r = entry_name y;
        is = s.is ∙ ap (λ w. plug s.front (merge up w s.b)) other.is ∙ ap (λ w. plug s.front (merge up a w)) top.is
            ∙ ap (plug s.front) (cond-false (up x y) (Over x other.less (merge up other.more (Over y top.l top.m))) (Over y (merge up a top.l) top.m) beats)
            ∙ ap (λ w. plug s.front (Over y (merge up w top.l) top.m)) (sym other.is) ∙ sym (plug_more s.front f (merge up s.a top.l));
        crumbs = crumbs_more old c home lasts d s.front ks f (record { node = e; right = false; hash = k.hash }) s.crumbs (crumb_of old new c home lasts d s.r k s.b e false top);
        left = s.left;
        right = (stands_sides old new c home lasts d s.r (Some k) y top.l top.m e top.stands top.at).0;
        met_less = s.met_less;
        met_more = λ r h. s.met_more r (subst (W r) (sym top.is) (inr h));
      }

  merge_none : (up : Row → Row → Bool) (a : Treap Row) → merge up a Empty ≡ a
  merge_none up Empty = refl
  merge_none up (Over x l m) = refl

  pub merged_less : (up : Row → Row → Bool) (met : List Row) (u : Treap Row) (ks : List Crumb) (k : Option Link) → Merging old new c home lasts d up met u ks None k → IsMerged old c home lasts d u ks k
  merged_less up met u ks k s =
      let e = leads_empty s.a s.left.leads.led_is in
      record { front = s.front; rest = s.b; q = s.r; is = s.is ∙ ap (λ w. plug s.front (merge up w s.b)) e; crumbs = s.crumbs; leads = s.right.leads; seated = s.right.seated }

  pub merged_more : (up : Row → Row → Bool) (met : List Row) (u : Treap Row) (ks : List Crumb) (j : Option Link) → Merging old new c home lasts d up met u ks j None → IsMerged old c home lasts d u ks j
  merged_more up met u ks j s =
      let e = leads_empty s.b s.right.leads.led_is in
      record { front = s.front; rest = s.a; q = s.q; is = s.is ∙ ap (λ w. plug s.front (merge up s.a w)) e ∙ ap (plug s.front) (merge_none up s.a); crumbs = s.crumbs; leads = s.left.leads; seated = s.left.seated }

-- why a plan stops on its way down two treaps
pub merge_stop : (c : Resident) (d : Drafted) (up : Row → Row → Bool) (start ks : List Crumb) (less more : Option Link) (j k : Link) (b : Bool) (e : Short)
    → ((old new : Shown) (home u : Treap Row) (lasts : Name → Bool) (met : List Row) → Merging old new c home lasts d up met u start less more → Merging old new c home lasts d up met u ks (Some j) (Some k)) → IsLinkLack d c (cond b j k) e → IsStop (Merges d c up start less more) d c e
merge_stop c d up start ks less more j k true e merges lack =
    link_stop c d (Merges d c up start less more) j e
    (λ old new met s m is missing.
    let w = merges old new s.home s.u s.lasts met s.merging in
    let W : (r : Row) → Treap Row → Type 0 = λ r w. IsAmong r (way (λ _. true) w) in
    stands_wanted old new c s.home s.lasts d w.q j w.a met m is missing w.left (λ y l m' over. w.met_less y (subst (W y) (sym over) (inl refl)))) lack
merge_stop c d up start ks less more j k false e merges lack =
    link_stop c d (Merges d c up start less more) k e
    (λ old new met s m is missing.
    let w = merges old new s.home s.u s.lasts met s.merging in
    let W : (r : Row) → Treap Row → Type 0 = λ r w. IsAmong r (way (λ _. false) w) in
    stands_wanted old new c s.home s.lasts d w.r k w.b met m is missing w.right (λ y l m' over. w.met_more y (subst (W y) (sym over) (inl refl)))) lack

-- where the row is found, the two treaps beside it are to be merged
pub found_merging : (old new : Shown) (c : Resident) (lasts : Name → Bool) (d : Drafted) (p : Name) (up : Row → Row → Bool) (n : List ℕ) (t : Treap Row) (kept : List Crumb) (e : EntryFields) (u : Treap Row) → taken up n t ≡ u → FoundRow old new c lasts d p n t kept e
    → Merging old new c t lasts d up (met_near n t) u kept e.left e.right
found_merging old new c lasts d p up n t kept e u is f =
    let x = f.row in
    let l = f.less in
    let m = f.more in
    let W = Over x l m in
    let A : (r : Row) → Treap Row → Type 0 = λ r w. IsAmong r (met_near n w) in
    let L : (r : Row) → List Row → Type 0 = λ r w. IsAmong r w in
    let here : met_near n W ≡ x ∷ (way (λ _. true) l ++ way (λ _. false) m) = ap (λ w. x ∷ w) (cond-true (has_name n x) (way (λ _. true) l ++ way (λ _. false) m) (cond (is_row_before n x) (met_near n m) (met_near n l)) f.named) in
    let below : (r : Row) → IsAmong r (way (λ _. true) l ++ way (λ _. false) m) → IsAmong r (met_near n t) = λ r h. subst (A r) (sym f.is) (met_plug n (met_near n) (near_over n) r f.front W f.passed (subst (L r) (sym here) (inr h))) in
    let cut : taken up n W ≡ merge up l m = cond-true (has_name n x) (merge up l m) (cond (is_row_before n x) (Over x l (taken up n m)) (Over x (taken up n l) m)) f.named in
    record {
      front = f.front;
      a = l;
      b = m;
      q = entry_name x;
      r = entry_name x;
      is = sym is ∙ ap (taken up n) f.is ∙ remove_plug up (is_row_before n) (has_name n) f.front W f.passed ∙ ap (plug f.front) cut;
      crumbs = f.crumbs;
      left = f.left;
      right = f.right;
      met_less = λ r h. below r (any_left (λ z. z ≡ r) (way (λ _. true) l) (way (λ _. false) m) h);
      met_more = λ r h. below r (any_right (λ z. z ≡ r) (way (λ _. true) l) (way (λ _. false) m) h);
    }

-- ---- what is left at the end moves as a whole

module _ (old : Shown) (c : Resident) (home : Treap Row) (lasts : Name → Bool) where
  -- what was done to the entry to which the link leads
  abbrev pub IsMoved : Drafted → Drafted → FileId → Option Link → Type 0
  IsMoved d e p end =
      ((k : Link) → (x : EntryFields) → end ≡ Some k → seen d c (name.Entry k.id) ≡ Some (node.Entry x) → IsPut d e (Some (name.Entry p)) x)
      × ((k : Link) → end ≡ Some k → seen d c (name.Entry k.id) ≡ None → e ≡ d) × (end ≡ None → e ≡ d)

  same_rising : (d e : Drafted) (p : Name) (u : Treap Row) (ks : List Crumb) (end : Option Link) (front : List Frame) (w : Treap Row) → u ≡ plug front w → AreCrumbs old c home lasts d front ks → LeadsToTop old c end w → Seated old c home lasts d (above p front) w → e ≡ d
      → Rises old c home lasts d e p u ks end
  same_rising d e p u ks end front w is crumbs leads seated same =
      let R : Drafted → Type 0 = λ e. Rises old c home lasts d e p u ks end in
      subst R (sym same) (record { front = front; done = w; is = is; crumbs = crumbs; leads = leads; seated = seated; off = λ n o. refl; touched = λ n. inl refl; stays = λ n h. h })

  put_rising : (d e : Drafted) (dir : FileId) (u : Treap Row) (ks : List Crumb) (end : Option Link) (front : List Frame) (q : Name) (y : Row) (l m : Treap Row) (x : EntryFields) → u ≡ plug front (Over y l m) → AreCrumbs old c home lasts d front ks → LeadsToTop old c end (Over y l m)
      → Seated old c home lasts d q (Over y l m) → Once u → lasts (name.Entry dir) ≡ true → seen d c (entry_name y) ≡ Some (node.Entry x) → IsPut d e (Some (name.Entry (crumb_above dir ks))) x → Rises old c home lasts d e (name.Entry dir) u ks end
  put_rising d e dir u ks end front q y l m x is crumbs leads seated once there at put =
      let p = name.Entry dir in
      let n = entry_name y in
      let a = above p front in
      let seat = seated.0 (node.Entry x) at in
      let id : name.Entry x.id ≡ n = ap (λ i. name.Entry (id_of i)) (like_row y (unfolded_rows l) (unfolded_rows m) x seat.like).id_is in
      let I : Name → Type 0 = λ i. IsPut d e (Some i) x in
      let put2 = subst I (crumbs_above old c home lasts d p dir front ks refl crumbs) put in
      let off : (m : Name) → m ≢ n → drafted e m ≡ drafted d m = λ m o. put_other d e (Some a) x m put2 (λ h. o (h ∙ id)) in
      let apart = once_plug front (Over y l m) (subst Once is once) in
      record {
        front = front;
        done = Over y l m;
        is = is;
        crumbs = crumbs;
        leads = leads;
        seated = (
          seat_put old c home lasts d e a n (Over y l m) x put2 id seat.like (above_lasts old c home lasts d p front ks crumbs there) seat.here seat.hashes,
          put_there old c home lasts d e (Some a) n (Over y l m) x put2 id,
          seated_frame old c home lasts d e n l (every_off d e n l off apart.0) seated.2,
          seated_frame old c home lasts d e n m (every_off d e n m off apart.1) seated.3,
        );
        off = λ m o. off m o.0;
        touched = λ m. touch old c home lasts d d e n (Some a) x m put2 id seat.here (inl refl);
        stays = λ m h. put_stays d e c (Some a) x m put2 h;
      }

  moved_rising : (d e : Drafted) (dir : FileId) (u : Treap Row) (ks : List Crumb) (end : Option Link) (front : List Frame) (q : Name) (y : Row) (l m : Treap Row) (k : Link) (o : Option Node) → u ≡ plug front (Over y l m) → AreCrumbs old c home lasts d front ks
      → LeadsToTop old c end (Over y l m) → Seated old c home lasts d q (Over y l m) → Once u → lasts (name.Entry dir) ≡ true → end ≡ Some k → name.Entry k.id ≡ entry_name y → seen d c (entry_name y) ≡ o → IsMoved d e (crumb_above dir ks) end
      → Rises old c home lasts d e (name.Entry dir) u ks end
  moved_rising d e dir u ks end front q y l m k None is crumbs leads seated once there link id at moved =
      let none : seen d c (name.Entry k.id) ≡ None = ap (seen d c) id ∙ at in
      same_rising d e (name.Entry dir) u ks end front (Over y l m) is crumbs leads ((λ node g. absurd (never node g at)), seated.1, seated.2, seated.3) (moved.1 k link none)
    where
      never : (x : Node) → seen d c (entry_name y) ≡ Some x → seen d c (entry_name y) ≡ None → ⊥
      never x a b = cc
  moved_rising d e dir u ks end front q y l m k (Some (node.Part p)) is crumbs leads seated once there link id at moved = absurd (like_part y (unfolded_rows l) (unfolded_rows m) p (seated.0 (node.Part p) at).like)
  moved_rising d e dir u ks end front q y l m k (Some (node.Entry x)) is crumbs leads seated once there link id at moved =
      put_rising d e dir u ks end front q y l m x is crumbs leads seated once there at (moved.0 k x link (ap (seen d c) id ∙ at))

  pub rising_merged : (d e : Drafted) (dir : FileId) (u : Treap Row) (ks : List Crumb) (end : Option Link) → IsMerged old c home lasts d u ks end → Once u → lasts (name.Entry dir) ≡ true → IsMoved d e (crumb_above dir ks) end → Rises old c home lasts d e (name.Entry dir) u ks end
  rising_merged d e dir u ks end s once there moved = by end refl
    where
      by : (o : Option Link) → end ≡ o → Rises old c home lasts d e (name.Entry dir) u ks end
      by None g =
          let w = leads_empty s.rest (ap led_by (sym g) ∙ s.leads.led_is) in
          let L : Treap Row → Type 0 = λ w. LeadsToTop old c end w in
          same_rising d e (name.Entry dir) u ks end s.front Empty (s.is ∙ ap (plug s.front) w) s.crumbs (subst L w s.leads) tt (moved.2 g)
      by (Some k) g =
          let top = leads_over s.rest k (ap led_by (sym g) ∙ s.leads.led_is) in
          let L : Treap Row → Type 0 = λ w. LeadsToTop old c end w in
          let S : Treap Row → Type 0 = λ w. Seated old c home lasts d s.q w in
          moved_rising d e dir u ks end s.front s.q top.row top.less top.more k (seen d c (entry_name top.row)) (s.is ∙ ap (plug s.front) top.is) s.crumbs (subst L top.is s.leads) (subst S top.is s.seated) once there g (ap name.Entry top.id_is) refl moved
