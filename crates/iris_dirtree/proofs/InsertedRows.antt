-- The treap with a row put in is planted.
use Rattle.std.proofs.Common.{◌≡◌, ◌≢◌, ◌⊎◌, ◌||◌, ◌<◌, ◌^◌, inl, inr, ℕ, Bool, true, false, List, [], Option, Some, None, IsSome, is_some, refl, ap, sym, ◌∙◌, subst, arith}
use Rattle.iris_name.specs.Names.{same_name}
use Rattle.iris_name.specs.NameLaws.{same_name-true, same_name-refl}
use Rattle.iris_name.specs.Hmac.{priority}
use Rattle.iris_name.specs.declared.name.FileId.{FileId}
use Rattle.iris_name.specs.declared.name.Hash32.{Hash32}
use Rattle.iris_name.specs.declared.name.Name.{Name}
use Rattle.iris_name.specs.declared.name.Name.TheVariants as name
use Rattle.iris_node.specs.declared.node.Link.{Link}
use Rattle.iris_node.specs.declared.node.Node.TheVariants as node
use Rattle.iris_node.specs.Fields.{EntryFields}
use Rattle.iris_node.specs.Trees.{Shown, IsTree}
use Rattle.iris_node.specs.Unfolded.{Unfolded, blocks}
use Rattle.iris_shape.specs.Order.{beats, Distinct}
use Rattle.iris_shape.specs.Treap.{Treap, Empty, Over, treap, rows, low, high, insert, rows_with, Every}
use Rattle.iris_shape.proofs.Treaps.{rows_treap, each_map, every_map}
use Rattle.iris_cache.specs.declared.held.Held.{Held}
use Rattle.iris_cache.specs.declared.draft.Change.{Change}
use Rattle.iris_cache.specs.Resident.{Resident, held_node}
use Rattle.iris_cache.specs.Drafted.{Drafted, drafted, seen, known_by, set_to}
use Rattle.iris_cache.specs.Pictures.{IsLike, WasHash, parent_after}
use Rattle.iris_treepaths.specs.declared.paths.Crumb.{Crumb}
use Rattle.iris_treepaths.specs.Crumbs.{Seated, Rises, crumb_above}
use Rattle.iris_dirtree.specs.Descents.{StandsBelow}
use Rattle.iris_treepaths.specs.Hands.{IsRowNode, HoldsTrue}
use Rattle.iris_treepaths.specs.Needs.{ListedInHand}
use Rattle.iris_treepaths.specs.Nodes.{between, dir_top, LinksTo, IsPut, OnlyEntries}
use Rattle.iris_treepaths.specs.Paths.{Frame, plug, entry_name, above, PassesBy, Outside, Once}
use Rattle.iris_treepaths.specs.Planted.{Planted, IsRowName, with_top}
use Rattle.iris_treepaths.specs.Rows.{Row, row_id, unfolded_rows, up, Rearranges, IsCountable}
use Rattle.iris_dirtree.specs.Splits.{SeatReached, IsSplit, seen_with}
use Rattle.iris_treepaths.specs.Ways.{is_row_before}
use Rattle.iris_dirtree.proofs.TreapTops.{holder, stands_start, dir_apart}
use Rattle.iris_treepaths.proofs.Crumbs.{put_stays, seated_frame, seat_put, put_there, crumbs_above, above_lasts, crumbs_frame}
use Rattle.iris_treepaths.proofs.RowsWith.{put_fresh, put_has, put_row, put_none, put_is}
use Rattle.iris_dirtree.proofs.SplitTreaps.{insert_top, top_beaten}
use Rattle.iris_treepaths.proofs.Likes.{roof}
use Rattle.iris_treepaths.proofs.Owned.{put_other, stays_seen}
use Rattle.iris_treepaths.proofs.PathLaws.{insert_plug, plug_blocks, once_plug, apart_swap}
use Rattle.iris_dirtree.proofs.PlantedTreaps.{few_inside, frame_apart, top_set, planted as planted_by}
use Rattle.iris_treepaths.proofs.RisenPaths.{Risen, rising_bare, risen, every_off, touch}
use Rattle.iris_treepaths.proofs.RowNodes.{like_row_node, row_node_id, between_hashes, leads_to, less_over}
use Rattle.iris_treepaths.proofs.Sees.{Sees, sees_holding, seen_resident}
use Rattle.iris_treepaths.proofs.There.{is_there, not_both}
use Rattle.iris_treepaths.proofs.RowsWithout.{outside_none, outside_not, once_of}

hand_by : (old new : Shown) (d : Drafted) (c : Resident) (i : FileId) (o : Option Change) (w : Option Held) → Sees old new d c → new (name.Entry i) ≡ None → drafted d (name.Entry i) ≡ o → held_node c (name.Entry i) ≡ w → IsSome (held_node c (name.Entry i)) ⊎ (old (name.Entry i) ≡ None)
hand_by old new d c i (Some ch) w see out de he = see.resident (name.Entry i) ch de
hand_by old new d c i None (Some h) see out de he = inl (let P : Option Held → Type 0 = λ o. IsSome o in subst P (sym he) refl)
hand_by old new d c i None None see out de he = inr (sym (see.away (name.Entry i) tt (ap (λ o. known_by o (held_node c (name.Entry i))) de ∙ ap (known_by None) he)) ∙ out)

-- so is the row in hand
hand_resident : (old new : Shown) (d : Drafted) (c : Resident) (i : FileId) → Sees old new d c → new (name.Entry i) ≡ None → IsSome (held_node c (name.Entry i)) ⊎ (old (name.Entry i) ≡ None)
hand_resident old new d c i see out = hand_by old new d c i (drafted d (name.Entry i)) (held_node c (name.Entry i)) see out refl refl

-- the hash that the cache holds of the row in hand, if it was live before
pub hand_hash : (old new : Shown) (d : Drafted) (c : Resident) (i : FileId) (x : Hash32) → Sees old new d c → new (name.Entry i) ≡ None → (IsSome (held_node c (name.Entry i)) → WasHash old c (name.Entry i) x) → WasHash old c (name.Entry i) x
hand_hash old new d c i x see out h =
    elim (hand_resident old new d c i see out) [
      | inl r ↦ h r
      | inr r ↦ ((λ settled u live. absurd (not_both (old (name.Entry i)) u live r)), (λ g k p at up above. (let P : Option Unfolded → Type 0 = λ o. IsLike o g.node in absurd (subst P r (see.before.nodes (name.Entry i) g at)))))
    ]

-- ---- the names that are seen, and that of an entry that comes

or_right : (a b : Bool) → b ≡ true → (a || b) ≡ true
or_right true b h = refl
or_right false b h = h

pub seen_lasts : (d : Drafted) (c : Resident) (i : FileId) (m : Name) → IsSome (seen d c m) → seen_with d c i m ≡ true
seen_lasts d c i m h = or_right (same_name (name.Entry i) m) (is_some (seen d c m)) h

pub comes_lasts : (d : Drafted) (c : Resident) (i : FileId) → seen_with d c i (name.Entry i) ≡ true
comes_lasts d c i = ap (λ b. b || is_some (seen d c (name.Entry i))) (same_name-refl (name.Entry i))

lasts_either : (d : Drafted) (c : Resident) (i : FileId) (m : Name) → seen_with d c i m ≡ true → (m ≡ name.Entry i) ⊎ IsSome (seen d c m)
lasts_either d c i m h = by (same_name (name.Entry i) m) refl h
  where
    by : (b : Bool) → same_name (name.Entry i) m ≡ b → (b || is_some (seen d c m)) ≡ true → (m ≡ name.Entry i) ⊎ IsSome (seen d c m)
    by true s h = inl (sym (same_name-true (name.Entry i) m s))
    by false s h = inr h

-- what is known of the tables
pub record Tables (key : List ℕ) (dir : FileId) (x : Row) (e : EntryFields) (d : Drafted) (c : Resident) (old new made : Shown) (xs : List Row) (n : List ℕ) : Type 0 where
  pub listed : ListedInHand key dir x d c old new xs
  pub is_row : IsRowNode x e
  pub holds : HoldsTrue old c e
  pub tree : IsTree made
  pub countable : IsCountable made
  pub rearranged : Rearranges new made key dir xs (rows_with (is_row_before x.name) x xs)
  pub named : n ≡ x.name

module _ (key : List ℕ) (dir : FileId) (x : Row) (e : EntryFields) (d : Drafted) (c : Resident) (old new made : Shown) (xs : List Row) (n : List ℕ) (all : Tables key dir x e d c old new made xs n) where
  abbrev t : Treap Row
  t = treap (up key) xs

  abbrev u : Treap Row
  u = treap (up key) (rows_with (is_row_before x.name) x xs)

  abbrev root : Name
  root = name.Entry dir

  abbrev lasts : Name → Bool
  lasts = seen_with d c e.id

  pub see : Sees old new d c
  see = sees_holding old new (Some x) d c all.listed.was all.listed.is all.listed.hand

  pub stands : (top : Option Link) → dir_top (seen d c root) ≡ Some top → StandsBelow old new c t lasts d root top t
  stands top is = stands_start old new c d see key dir xs top lasts (seen_lasts d c e.id) all.listed.rows_are is

  named_id : name.Entry e.id ≡ entry_name x
  named_id = ap name.Entry (row_node_id x e all.is_row).0

  pub once_now : Once u
  once_now = let D : List Row → Type 0 = Distinct row_id in once_of u (subst D (sym (rows_treap (up key) (rows_with (is_row_before x.name) x xs))) all.rearranged.rows.distinct)

  pub few : blocks (unfolded_rows u) < 2 ^ 64
  few = few_inside made key dir (rows_with (is_row_before x.name) x xs) all.rearranged.rows all.countable

  was_rows : (q : Name) → IsRowName xs q → IsRowName (rows t) q
  was_rows q h = let P : List Row → Type 0 = λ v. IsRowName v q in subst P (sym (rows_treap (up key) xs)) h

  now_rows : (q : Name) → IsRowName (rows_with (is_row_before x.name) x xs) q → IsRowName (rows u) q
  now_rows q h = let P : List Row → Type 0 = λ v. IsRowName v q in subst P (sym (rows_treap (up key) (rows_with (is_row_before x.name) x xs))) h

  rows_was : (q : Name) → IsRowName (rows t) q → IsRowName xs q
  rows_was q h = let P : List Row → Type 0 = λ v. IsRowName v q in subst P (rows_treap (up key) xs) h

  rows_now : (q : Name) → IsRowName (rows u) q → IsRowName (rows_with (is_row_before x.name) x xs) q
  rows_now q h = let P : List Row → Type 0 = λ v. IsRowName v q in subst P (rows_treap (up key) (rows_with (is_row_before x.name) x xs)) h

  fresh : IsRowName (rows t) (name.Entry e.id) → ⊥
  fresh h = let P : Name → Type 0 = IsRowName (rows t) in put_fresh (is_row_before x.name) x xs all.rearranged.rows.distinct (rows_was (entry_name x) (subst P named_id h))

  u_is : insert (up key) (is_row_before n) x t ≡ u
  u_is = ap (λ m. insert (up key) (is_row_before m) x t) all.named ∙ sym (put_is key x xs all.listed.rows_are.rising all.listed.rows_are.distinct all.rearranged.rows.distinct)

  module _ (ks : List Crumb) (at : Option Link) (r : SeatReached (priority key) e.id old new c lasts d root n t ks at) where
    abbrev pub lower : Treap Row
    lower = low (is_row_before n) r.walked.rest

    abbrev pub higher : Treap Row
    higher = high (is_row_before n) r.walked.rest

    -- the row over the halves of what it splits, back under the path
    seat_is : u ≡ plug r.walked.front (Over x lower higher)
    seat_is =
        let fs = r.walked.front in
        let num : e.id.0 ≡ x.id = ap (λ j. j.0) (row_node_id x e all.is_row).0 in
        let ups = each_map (λ (f : Frame). beats (priority key) e.id.0 f.row.id ≡ false) (λ f. up key x f.row ≡ false) fs (λ f h. sym (ap (λ j. beats (priority key) j f.row.id) num) ∙ h) r.above in
        let sides = each_map (PassesBy n) (λ f. f.right ≡ is_row_before n f.row) fs (λ f h. h.0) r.walked.passed in
        sym u_is ∙ ap (insert (up key) (is_row_before n) x) r.walked.is ∙ insert_plug (up key) (is_row_before n) x fs r.walked.rest ups sides
        ∙ ap (plug fs) (insert_top (up key) (is_row_before n) x r.walked.rest (top_beaten (priority key) e.id x r.walked.rest num r.below))

    apart : Once (Over x lower higher)
    apart = let O : Treap Row → Type 0 = Once in once_plug r.walked.front (Over x lower higher) (subst O seat_is once_now)

    few_here : blocks (unfolded_rows (Over x lower higher)) < 2 ^ 64
    few_here =
        let a = plug_blocks r.walked.front (Over x lower higher) in
        let b = ap (λ w. blocks (unfolded_rows w)) seat_is in
        let g = few in
        omega (arith, a, b, g)

    pub once_low : Once lower
    once_low = apart.3

    pub once_high : Once higher
    once_high = apart.4

    pub few_low : blocks (unfolded_rows lower) < 2 ^ 64
    few_low = let a = (less_over x.id x.name x.content (unfolded_rows lower) (unfolded_rows higher)).0 in let g = few_here in omega (arith, a, g)

    pub few_high : blocks (unfolded_rows higher) < 2 ^ 64
    few_high = let a = (less_over x.id x.name x.content (unfolded_rows lower) (unfolded_rows higher)).1 in let g = few_here in omega (arith, a, g)

    module _ (lows highs : List Crumb) (split : IsSplit old c t lasts d n r.walked.rest lows highs) where
      pub low_rising : Rises old c t lasts d d (name.Entry e.id) lower lows None
      low_rising = rising_bare old c t lasts d (name.Entry e.id) lower split.low_front lows split.low_is split.low_crumbs

      module _ (d1 : Drafted) (low_link : Option Link) (low_risen : Risen old c t lasts d d1 (name.Entry e.id) lower low_link) where
        -- the half of greater names is untouched
        high_same : Every (λ z. drafted d1 (entry_name z) ≡ drafted d (entry_name z)) higher
        high_same = every_map (λ z. Outside (entry_name z) lower) (λ z. drafted d1 (entry_name z) ≡ drafted d (entry_name z)) higher (λ z o. low_risen.off (entry_name z) o) (apart_swap lower higher apart.2)

        pub high_rising : Rises old c t lasts d1 d1 (name.Entry e.id) higher highs None
        high_rising =
            let E : Treap Row → Type 0 = λ w. Every (λ z. drafted d1 (entry_name z) ≡ drafted d (entry_name z)) w in
            rising_bare old c t lasts d1 (name.Entry e.id) higher split.high_front highs split.high_is (crumbs_frame old c t lasts d d1 split.high_front highs Empty (subst E split.high_is high_same) split.high_crumbs)

        module _ (d2 : Drafted) (high_link : Option Link) (high_risen : Risen old c t lasts d1 d2 (name.Entry e.id) higher high_link) where
          -- the row is seated over both
          pub seat_rising : (d3 : Drafted) (hash : Hash32) (parent : FileId) (link : Link) → parent ≡ crumb_above dir ks → IsSome (seen d c root) → LinksTo (between low_link high_link e) hash link → IsPut d2 d3 (Some (name.Entry parent)) (between low_link high_link e) → WasHash old c (name.Entry e.id) hash
              → Rises old c t lasts d d3 root u ks (Some link)
          seat_rising d3 hash parent link parent_is there links put was =
              let fs = r.walked.front in
              let y = between low_link high_link e in
              let m = entry_name x in
              let q = above root fs in
              let up_is : name.Entry parent ≡ q = ap name.Entry parent_is ∙ crumbs_above old c t lasts d root dir fs ks refl r.walked.crumbs in
              let I : Name → Type 0 = λ i. IsPut d2 d3 (Some i) y in
              let put2 = subst I up_is put in
              let here : lasts m ≡ true = (let P : Name → Type 0 = λ i. lasts i ≡ true in subst P named_id (comes_lasts d c e.id)) in
              let like = like_row_node x (unfolded_rows lower) (unfolded_rows higher) e low_link high_link all.is_row low_risen.leads.led_is high_risen.leads.led_is in
              let W : Name → Type 0 = λ i. WasHash old c i hash in
              let L : Name → Type 0 = λ i. Seated old c t lasts d1 i lower in
              let H : Name → Type 0 = λ i. Seated old c t lasts d2 i higher in
              let off3 : (i : Name) → i ≢ m → drafted d3 i ≡ drafted d2 i = λ i out. put_other d2 d3 (Some q) y i put2 (λ h. out (h ∙ named_id)) in
              let low_same = every_map (λ z. Outside (entry_name z) higher) (λ z. drafted d2 (entry_name z) ≡ drafted d1 (entry_name z)) lower (λ z o. high_risen.off (entry_name z) o) apart.2 in
              let low2 = seated_frame old c t lasts d1 d2 m lower low_same (subst L named_id low_risen.seated) in
              record {
                front = fs;
                done = Over x lower higher;
                is = seat_is;
                crumbs = r.walked.crumbs;
                leads = leads_to old c x lower higher y hash link like few_here links (subst W named_id was);
                seated = (
                  seat_put old c t lasts d2 d3 q m (Over x lower higher) y put2 named_id like (above_lasts old c t lasts d root fs ks r.walked.crumbs (seen_lasts d c e.id root there)) here (between_hashes old c e low_link high_link low_risen.leads.hash high_risen.leads.hash all.holds),
                  put_there old c t lasts d2 d3 (Some q) m (Over x lower higher) y put2 named_id,
                  seated_frame old c t lasts d2 d3 m lower (every_off d2 d3 m lower off3 apart.0) low2,
                  seated_frame old c t lasts d2 d3 m higher (every_off d2 d3 m higher off3 apart.1) (subst H named_id high_risen.seated),
                );
                off = λ i o. off3 i o.0 ∙ high_risen.off i o.2 ∙ low_risen.off i o.1;
                touched = λ i. touch old c t lasts d d2 d3 m (Some q) y i put2 named_id here (elim (high_risen.touched i) [
                  | inl s ↦ elim (low_risen.touched i) [ inl k ↦ inl (s ∙ k) | inr k ↦ inr k ]
                  | inr s ↦ inr s
                ]);
                stays = λ i h. put_stays d2 d3 c (Some q) y i put2 (high_risen.stays i (low_risen.stays i h));
              }

  -- ---- the draft in the end

  dir_not_was : (q : Name) → IsRowName (rows t) q → q ≢ root
  dir_not_was q k h = let P : Name → Type 0 = λ m. IsRowName (rows t) m in outside_not root t (dir_apart new key dir xs all.listed.is all.listed.rows_are) (subst P h k)

  dir_not_x : root ≢ name.Entry e.id
  dir_not_x h =
      let r = roof new key dir xs all.listed.rows_are in
      not_both (new root) r.entry r.live (ap new (h ∙ named_id) ∙ all.listed.hand.out)

  dir_not_now : (q : Name) → IsRowName (rows u) q → q ≢ root
  dir_not_now q k h = elim (put_none (is_row_before x.name) x xs q (rows_now q k)) [ inl s ↦ dir_not_x (sym h ∙ s ∙ sym named_id) | inr s ↦ dir_not_was q (was_rows q s) h ]

  pub planted : (d3 d4 : Drafted) (top kept_top : Option Link) → dir_top (seen d c root) ≡ Some kept_top → Rises old c t lasts d d3 root u [] top → OnlyEntries d d4 → IsSome (seen d4 c (name.Entry e.id))
      → ((z : EntryFields) → seen d3 c root ≡ Some (node.Entry z) → drafted d4 root ≡ Some (set_to (parent_after d3 c root) (node.Entry (with_top top z)))) → ((q : Name) → same_name root q ≡ false → drafted d4 q ≡ drafted d3 q) → Planted old dir t u d d4 c
  planted d3 d4 top kept_top top_is rise only comes set frame =
      let hold = holder (seen d c root) kept_top top_is in
      let up_ = risen old c t lasts d d3 root u top rise in
      let there : IsSome (seen d c root) = is_there (seen d c root) (node.Entry hold.entry) hold.is in
      let I : Name → Type 0 = λ m. IsSome (seen d4 c m) in
      let S : Name → Type 0 = λ m. lasts m ≡ true in
      let x_now : IsRowName (rows u) (name.Entry e.id) = (let P : Name → Type 0 = IsRowName (rows u) in subst P (sym named_id) (now_rows (entry_name x) (put_row (is_row_before x.name) x xs))) in
      planted_by old new dir lasts t u d d3 d4 c top kept_top see hold up_
      (record {
        entry = top_set d d3 d4 c root top (up_.off root (outside_none root u (λ k. dir_not_now root k refl))) set;
        same = λ m k. frame_apart d3 d4 root m frame (dir_not_now m k);
        rest = λ m a b g. frame_apart d3 d4 root m frame g;
        lasting = λ m which h. elim (lasts_either d c e.id m h) [
          | inl k ↦ subst I (sym k) comes
          | inr k ↦ stays_seen d d4 c only m k
        ];
        lasted = λ m a h. elim (lasts_either d c e.id m h) [
          | inl k ↦ absurd (fresh (let P : Name → Type 0 = IsRowName (rows t) in subst P k a))
          | inr k ↦ k
        ];
        came = λ m a out. elim (put_none (is_row_before x.name) x xs m (rows_now m a)) [ inl s ↦ subst I (sym (s ∙ sym named_id)) comes | inr s ↦ absurd (out (was_rows m s)) ];
        went = λ m a out. absurd (out (now_rows m (put_has (is_row_before x.name) x xs m (rows_was m a))));
        touched = λ m. touched_by m (same_name root m) refl there up_;
        lived = λ m h. elim (lasts_either d c e.id m h) [
          | inl k ↦ (let P : Name → Type 0 = λ v. IsSome (held_node c v) ⊎ (old v ≡ None) in subst P (sym k) (hand_resident old new d c e.id see (ap new named_id ∙ all.listed.hand.out)))
          | inr k ↦ seen_resident old new d c m see k
        ];
      })
    where
      touched_by : (m : Name) (b : Bool) → same_name root m ≡ b → IsSome (seen d c root) → Risen old c t lasts d d3 root u top → (drafted d4 m ≡ drafted d m) ⊎ (lasts m ≡ true)
      touched_by m true s there up_ = let S : Name → Type 0 = λ m. lasts m ≡ true in inr (subst S (same_name-true root m s) (seen_lasts d c e.id root there))
      touched_by m false s there up_ = elim (up_.touched m) [ inl k ↦ inl (frame m s ∙ k) | inr k ↦ inr k ]
