-- Ways down a treap towards a name, a crumb for each row met.
use Rattle.std.proofs.Common.{◌≡◌, ◌&&◌, not, inl, inr, ◌++◌, ℕ, Bool, true, false, cond, List, [], ◌∷◌, Option, Some, None, refl, ap, sym, ◌∙◌, subst}
use Rattle.iris_name.specs.declared.name.Name.{Name}
use Rattle.iris_name.specs.declared.name.Name.TheVariants as name
use Rattle.iris_name.specs.declared.note.Expect.{Expect}
use Rattle.iris_name.specs.declared.note.Expect.TheVariants.{Hash}
use Rattle.iris_node.specs.declared.node.Link.{Link}
use Rattle.iris_node.specs.declared.node.Node.TheVariants as node
use Rattle.iris_node.specs.Fields.{EntryFields}
use Rattle.iris_node.specs.Trees.{Shown}
use Rattle.iris_node.specs.Unfolded.{id_of}
use Rattle.iris_shape.specs.Treap.{Treap, Over, Each}
use Rattle.iris_shape.specs.Order.{less_name}
use Rattle.iris_cache.specs.declared.held.Short.{Short}
use Rattle.iris_cache.specs.declared.held.Short.TheVariants.{Need, NoMemory}
use Rattle.iris_cache.specs.Resident.{Resident}
use Rattle.iris_cache.specs.Drafted.{Drafted, known, seen}
use Rattle.iris_cache.specs.Pictures.{WasHash}
use Rattle.iris_treepaths.specs.declared.paths.Crumb.{Crumb}
use Rattle.iris_treepaths.specs.Crumbs.{IsCrumb}
use Rattle.iris_dirtree.specs.Descents.{StandsBelow, Walked, FoundRow, IsStop, Walks}
use Rattle.iris_cache.specs.Needs.{IsWanted}
use Rattle.iris_treepaths.specs.Nodes.{link_toward, IsLinkLack}
use Rattle.iris_treepaths.specs.Paths.{Frame, plug, entry_name, above, PassesBy, IsAmong}
use Rattle.iris_treepaths.specs.Rows.{Row, unfolded_rows}
use Rattle.iris_treepaths.specs.Ways.{Any, is_row_before, has_name}
use Rattle.iris_treepaths.proofs.Crumbs.{crumbs_more}
use Rattle.iris_treepaths.proofs.Likes.{like_row, leads_over}
use Rattle.iris_treepaths.proofs.PathLaws.{plug_more, above_end, each_more, frame_of, frame_is}
use Rattle.iris_treepaths.proofs.Rowed.{row_any}

module _ (old new : Shown) (c : Resident) (home : Treap Row) (lasts : Name → Bool) (d : Drafted) where
  -- ---- one step down

  -- the links of a node that is seen lead to the treaps below it
  pub stands_sides : (q : Name) (link : Option Link) (y : Row) (l m : Treap Row) (e : EntryFields) → StandsBelow old new c home lasts d q link (Over y l m) → seen d c (entry_name y) ≡ Some (node.Entry e)
      → StandsBelow old new c home lasts d (entry_name y) e.left l × StandsBelow old new c home lasts d (entry_name y) e.right m
  stands_sides q link y l m e s at =
      let seat = s.seated.0 (node.Entry e) at in
      let like = like_row y (unfolded_rows l) (unfolded_rows m) e seat.like in
      let w = s.below.0 e at in (
        record { leads = record { led_is = like.left_is; hash = λ n h k. seat.hashes n h (inl k) }; wanted = w.0; below = s.below.1; seated = s.seated.2 },
        record { leads = record { led_is = like.right_is; hash = λ n h k. seat.hashes n h (inr (inl k)) }; wanted = w.1; below = s.below.2; seated = s.seated.3 },
      )

  pub stands_toward : (q : Name) (link : Option Link) (y : Row) (l m : Treap Row) (e : EntryFields) (b : Bool) → StandsBelow old new c home lasts d q link (Over y l m) → seen d c (entry_name y) ≡ Some (node.Entry e) → StandsBelow old new c home lasts d (entry_name y) (link_toward b e) (cond b m l)
  stands_toward q link y l m e true s at = (stands_sides q link y l m e s at).1
  stands_toward q link y l m e false s at = (stands_sides q link y l m e s at).0

  -- the row on top, with what is seen of it
  pub record TopRow (q : Name) (k : Link) (w : Treap Row) (e : EntryFields) : Type 0 where
    pub y : Row
    pub l : Treap Row
    pub m : Treap Row
    pub is : w ≡ Over y l m
    pub stands : StandsBelow old new c home lasts d q (Some k) (Over y l m)
    pub at : seen d c (entry_name y) ≡ Some (node.Entry e)
    pub name_is : e.name ≡ y.name
    pub id_is : k.id ≡ id_of y.id
    pub reached : WasHash old c (entry_name y) k.hash

  pub top_row : (q : Name) (k : Link) (w : Treap Row) (e : EntryFields) → StandsBelow old new c home lasts d q (Some k) w → seen d c (name.Entry k.id) ≡ Some (node.Entry e) → TopRow q k w e
  top_row q k w e s at =
      let top = leads_over w k s.leads.led_is in
      let S : Treap Row → Type 0 = λ w. StandsBelow old new c home lasts d q (Some k) w in
      let s2 = subst S top.is s in
      let at2 : seen d c (entry_name top.row) ≡ Some (node.Entry e) = ap (λ i. seen d c (name.Entry i)) (sym top.id_is) ∙ at in
      record {
        y = top.row;
        l = top.less;
        m = top.more;
        is = top.is;
        stands = s2;
        at = at2;
        id_is = top.id_is;
        name_is = (like_row top.row (unfolded_rows top.less) (unfolded_rows top.more) e (s2.seated.0 (node.Entry e) at2).like).name_is;
        reached = s.leads.hash (entry_name top.row) k.hash (ap name.Entry (sym top.id_is), refl);
      }

  -- a crumb of the row on top
  pub crumb_of : (q : Name) (k : Link) (w : Treap Row) (e : EntryFields) (b : Bool) (top : TopRow q k w e) → IsCrumb old c home lasts d (frame_of top.y top.l top.m b) (record { node = e; right = b; hash = k.hash })
  crumb_of q k w e true top = let seat = top.stands.seated.0 (node.Entry e) top.at in record { side = top.m; right = refl; sees = top.at; like = seat.like; here = seat.here; hashes = seat.hashes; reached = top.reached; other = top.stands.seated.2 }
  crumb_of q k w e false top = let seat = top.stands.seated.0 (node.Entry e) top.at in record { side = top.l; right = refl; sees = top.at; like = seat.like; here = seat.here; hashes = seat.hashes; reached = top.reached; other = top.stands.seated.3 }

  -- the row on top has not the name, and the way goes on to this side of it
  pub passes : (n : List ℕ) (q : Name) (k : Link) (w : Treap Row) (e : EntryFields) (b : Bool) (top : TopRow q k w e) → (not (less_name e.name n) && not (less_name n e.name)) ≡ false → less_name e.name n ≡ b
      → (has_name n top.y ≡ false) × (is_row_before n top.y ≡ b)
  passes n q k w e b top out less = (ap (λ (a : List ℕ). not (less_name a n) && not (less_name n a)) (sym top.name_is) ∙ out, ap (λ (a : List ℕ). less_name a n) (sym top.name_is) ∙ less)

  -- ---- what is missing

  pub stands_wanted : (q : Name) (k : Link) (w : Treap Row) (met : List Row) (n : Name) → n ≡ name.Entry k.id → known d c n ≡ None → StandsBelow old new c home lasts d q (Some k) w
      → ((y : Row) (l m : Treap Row) → w ≡ Over y l m → IsAmong y met) → Any (λ (r : Row). n ≡ entry_name r) met × IsWanted old new c n (Hash k.hash)
  stands_wanted q k w met n e missing s among =
      let top = leads_over w k s.leads.led_is in
      let W : Name → Type 0 = λ n. IsWanted old new c n (Hash k.hash) in
      (row_any (λ (r : Row). n ≡ entry_name r) met top.row (among top.row top.less top.more top.is) (e ∙ ap name.Entry top.id_is), subst W (sym e) (s.wanted (ap (known d c) (sym e) ∙ missing)))

-- a way down stops where the entry to which its link leads is missing; `before` says how far each picture's way has come
pub link_stop : (c : Resident) (d : Drafted) (pictured : Shown → Shown → List Row → Type 0) (k : Link) (e : Short)
    → ((old new : Shown) (met : List Row) → pictured old new met → (m : Name) → m ≡ name.Entry k.id → known d c m ≡ None → Any (λ (r : Row). m ≡ entry_name r) met × IsWanted old new c m (Hash k.hash))
    → IsLinkLack d c k e → IsStop pictured d c e
link_stop c d pictured k NoMemory wants lack = tt
link_stop c d pictured k (Need m x) wants lack = (
  lack.2,
  λ old new met p.
      let W : Expect → Type 0 = λ x. IsWanted old new c m x in
      let r = wants old new met p m lack.0 lack.2 in
      (r.0, subst W (sym lack.1) r.1),
)

module _ (old new : Shown) (c : Resident) (lasts : Name → Bool) (d : Drafted) (p : Name) (n : List ℕ) (t : Treap Row) where
  abbrev pub walked_start : (link : Option Link) → StandsBelow old new c t lasts d p link t → Walked old new c lasts d p n t [] link
  walked_start link s = record { front = []; rest = t; is = refl; passed = tt; crumbs = tt; stands = s }

  -- the frame of the row to which the link leads
  pub next_frame : (ks : List Crumb) (k : Link) (e : EntryFields) (b : Bool) → seen d c (name.Entry k.id) ≡ Some (node.Entry e) → Walked old new c lasts d p n t ks (Some k) → Frame
  next_frame ks k e b at w = let top = top_row old new c t lasts d (above p w.front) k w.rest e w.stands at in frame_of top.y top.l top.m b

  -- a way that is one row longer
  pub record Longer (front : List Frame) (ks : List Crumb) (k : Link) (e : EntryFields) (b : Bool) : Type 0 where
    pub frame : Frame
    pub id_is : k.id ≡ id_of frame.row.id
    pub walked : Walked old new c lasts d p n t (ks ++ record { node = e; right = b; hash = k.hash } ∷ []) (link_toward b e)
    pub front_is : walked.front ≡ front ++ frame ∷ []

  pub walked_more : (ks : List Crumb) (k : Link) (e : EntryFields) (b : Bool) → seen d c (name.Entry k.id) ≡ Some (node.Entry e) → (not (less_name e.name n) && not (less_name n e.name)) ≡ false → less_name e.name n ≡ b
      → (w : Walked old new c lasts d p n t ks (Some k)) → Longer w.front ks k e b
  walked_more ks k e b at out less w =
      let q = above p w.front in
      let top = top_row old new c t lasts d q k w.rest e w.stands at in
      let f = frame_of top.y top.l top.m b in
      let rest = cond b top.m top.l in
      let side = passes old new c t lasts d n q k w.rest e b top out less in
      let S : Name → Type 0 = λ q. StandsBelow old new c t lasts d q (link_toward b e) rest in
      record {
        frame = f;
        id_is = top.id_is;
        walked = record {
          front = w.front ++ f ∷ [];
          rest = rest;
          is = w.is ∙ ap (plug w.front) (top.is ∙ sym (frame_is top.y top.l top.m b)) ∙ sym (plug_more w.front f rest);
          passed = each_more (PassesBy n) w.front f w.passed (sym side.1, side.0);
          crumbs = crumbs_more old c t lasts d w.front ks f (record { node = e; right = b; hash = k.hash }) w.crumbs (crumb_of old new c t lasts d q k w.rest e b top);
          stands = subst S (sym (above_end p w.front f)) (stands_toward old new c t lasts d q (Some k) top.y top.l top.m e b top.stands top.at);
        };
        front_is = refl;
      }

  pub walked_found : (ks : List Crumb) (k : Link) (e : EntryFields) → seen d c (name.Entry k.id) ≡ Some (node.Entry e) → (not (less_name e.name n) && not (less_name n e.name)) ≡ true
      → Walked old new c lasts d p n t ks (Some k) → FoundRow old new c lasts d p n t ks e
  walked_found ks k e at is_it w =
      let q = above p w.front in
      let top = top_row old new c t lasts d q k w.rest e w.stands at in
      let sides = stands_sides old new c t lasts d q (Some k) top.y top.l top.m e top.stands top.at in
      record {
        front = w.front;
        row = top.y;
        less = top.l;
        more = top.m;
        is = w.is ∙ ap (plug w.front) top.is;
        passed = w.passed;
        crumbs = w.crumbs;
        named = ap (λ (a : List ℕ). not (less_name a n) && not (less_name n a)) (sym top.name_is) ∙ is_it;
        sees = top.at;
        seat = top.stands.seated.0 (node.Entry e) top.at;
        left = sides.0;
        right = sides.1;
      }

-- why a plan stops on its way towards a name
pub walk_stop : (c : Resident) (d : Drafted) (n : List ℕ) (meets : Treap Row → List Row) (top : Option Link) (ks : List Crumb) (k : Link) (e : Short) → ((y : Row) (l m : Treap Row) → IsAmong y (meets (Over y l m)))
    → ((r : Row) (fs : List Frame) (t : Treap Row) → Each (PassesBy n) fs → IsAmong r (meets t) → IsAmong r (meets (plug fs t)))
    → ((old new : Shown) (t : Treap Row) (lasts : Name → Bool) (p : Name) → StandsBelow old new c t lasts d p top t → Walked old new c lasts d p n t ks (Some k)) → IsLinkLack d c k e → IsStop (Walks meets d c top) d c e
walk_stop c d n meets top ks k e first plugged walked lack =
    link_stop c d (Walks meets d c top) k e
    (λ old new met s m is missing.
    let w = walked old new s.t s.lasts s.p s.stands in
    let A : (r : Row) → List Row → Type 0 = λ r met. IsAmong r met in
    let M : (r : Row) → Treap Row → Type 0 = λ r t. IsAmong r (meets t) in
    stands_wanted old new c s.t s.lasts d (above s.p w.front) k w.rest met m is missing w.stands
    (λ y l m' over. subst (A y) (sym s.met_is) (subst (M y) (sym w.is) (plugged y w.front w.rest w.passed (subst (M y) (sym over) (first y l m')))))) lack
