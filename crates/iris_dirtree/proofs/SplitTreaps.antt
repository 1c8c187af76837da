-- The way down a treap that a name splits.
use Rattle.std.proofs.Common.{◌≡◌, ◌&&◌, not, inl, ◌++◌, ℕ, Bool, true, false, cond, List, [], ◌∷◌, Option, Some, None, refl, ap, sym, ◌∙◌, subst}
use Rattle.iris_name.specs.declared.name.FileId.{FileId}
use Rattle.std.proofs.lemmas.Bool.{cond-true}
use Rattle.iris_name.specs.declared.name.Name.{Name}
use Rattle.iris_name.specs.declared.name.Name.TheVariants as name
use Rattle.iris_node.specs.declared.node.Link.{Link}
use Rattle.iris_node.specs.declared.node.Node.TheVariants as node
use Rattle.iris_node.specs.Fields.{EntryFields}
use Rattle.iris_node.specs.Local.{led, led_by}
use Rattle.iris_node.specs.Trees.{Shown}
use Rattle.iris_shape.specs.Treap.{Treap, low, high, Empty, Over, insert}
use Rattle.iris_shape.specs.Order.{less_name, beats}
use Rattle.iris_cache.specs.declared.held.Short.{Short}
use Rattle.iris_cache.specs.Resident.{Resident}
use Rattle.iris_cache.specs.Drafted.{Drafted, seen}
use Rattle.iris_treepaths.specs.declared.paths.Crumb.{Crumb}
use Rattle.iris_dirtree.specs.Descents.{StandsBelow, IsStop}
use Rattle.iris_treepaths.specs.Nodes.{link_toward, IsLinkLack}
use Rattle.iris_treepaths.specs.Paths.{plug, entry_name, IsAmong, met_along}
use Rattle.iris_treepaths.specs.Rows.{Row, unfolded_rows}
use Rattle.iris_dirtree.specs.Splits.{TopBelow, Splitting, IsSplit, Splits}
use Rattle.iris_treepaths.specs.Ways.{is_row_before}
use Rattle.iris_treepaths.proofs.Crumbs.{crumbs_more}
use Rattle.iris_treepaths.proofs.Likes.{leads_over, leads_empty}
use Rattle.iris_treepaths.proofs.PathLaws.{plug_more, frame_of, low_framed, high_framed, along_over}
use Rattle.iris_dirtree.proofs.WaysDown.{stands_toward, top_row, crumb_of, passes, stands_wanted, link_stop}

-- ---- where the entry of an id is to stand

pub top_below : (prio : ℕ → ℕ) (i : FileId) (rest : Treap Row) (l : Link) → led_by (Some l) ≡ led (unfolded_rows rest) → beats prio i.0 l.id.0 ≡ true → TopBelow prio i rest
top_below prio i rest l led h =
    let top = leads_over rest l led in
    subst (TopBelow prio i) (sym top.is) (sym (ap (λ j. beats prio i.0 j.0) top.id_is) ∙ h)

pub empty_below : (prio : ℕ → ℕ) (i : FileId) (rest : Treap Row) → led_by None ≡ led (unfolded_rows rest) → TopBelow prio i rest
empty_below prio i rest led = subst (TopBelow prio i) (sym (leads_empty rest led)) tt

pub insert_top : (up : Row → Row → Bool) (p : Row → Bool) (x : Row) (t : Treap Row) → ((y : Row) (l m : Treap Row) → t ≡ Over y l m → up x y ≡ true) → insert up p x t ≡ Over x (low p t) (high p t)
insert_top up p x Empty h = refl
insert_top up p x (Over y l m) h = cond-true (up x y) (Over x (low p (Over y l m)) (high p (Over y l m))) (cond (p y) (Over y l (insert up p x m)) (Over y (insert up p x l) m)) (h y l m refl)

pub top_beaten : (prio : ℕ → ℕ) (i : FileId) (x : Row) (t : Treap Row) → i.0 ≡ x.id → TopBelow prio i t → (y : Row) (l m : Treap Row) → t ≡ Over y l m → beats prio x.id y.id ≡ true
top_beaten prio i x t e h y l m is = ap (λ j. beats prio j y.id) (sym e) ∙ subst (TopBelow prio i) is h

-- ---- the way down

module _ (old new : Shown) (c : Resident) (home : Treap Row) (lasts : Name → Bool) (d : Drafted) (n : List ℕ) (t : Treap Row) where
  pub split_start : (q : Name) (link : Option Link) → StandsBelow old new c home lasts d q link t → Splitting old new c home lasts d n t [] [] link
  split_start q link s = record { low_front = []; high_front = []; rest = t; q = q; low_is = refl; high_is = refl; low_crumbs = tt; high_crumbs = tt; stands = s; met = λ r h. h }

  pub split_more : (lows highs : List Crumb) (k : Link) (e : EntryFields) (b : Bool) → seen d c (name.Entry k.id) ≡ Some (node.Entry e) → (not (less_name e.name n) && not (less_name n e.name)) ≡ false → less_name e.name n ≡ b
      → Splitting old new c home lasts d n t lows highs (Some k)
      → Splitting old new c home lasts d n t (cond b (lows ++ record { node = e; right = b; hash = k.hash } ∷ []) lows) (cond b highs (highs ++ record { node = e; right = b; hash = k.hash } ∷ [])) (link_toward b e)
  split_more lows highs k e true at out less s =
      let top = top_row old new c home lasts d s.q k s.rest e s.stands at in
      let f = frame_of top.y top.l top.m true in
      let p = is_row_before n in
      let side = passes old new c home lasts d n s.q k s.rest e true top out less in
      let M : (r : Row) → Treap Row → Type 0 = λ r w. IsAmong r (met_along n w) in
      record {
        low_front = s.low_front ++ f ∷ [];
        high_front = s.high_front;
        rest = top.m;
        q = entry_name top.y;
        low_is = s.low_is ∙ ap (plug s.low_front) (ap (low p) top.is ∙ low_framed p top.y top.l top.m true side.1) ∙ sym (plug_more s.low_front f (low p top.m));
        high_is = s.high_is ∙ ap (plug s.high_front) (ap (high p) top.is ∙ high_framed p top.y top.l top.m true side.1);
        low_crumbs = crumbs_more old c home lasts d s.low_front lows f (record { node = e; right = true; hash = k.hash }) s.low_crumbs (crumb_of old new c home lasts d s.q k s.rest e true top);
        high_crumbs = s.high_crumbs;
        stands = stands_toward old new c home lasts d s.q (Some k) top.y top.l top.m e true top.stands top.at;
        met = λ r h. s.met r (subst (M r) (sym top.is) (along_over n top.y r top.l top.m true side.0 side.1 h));
      }
  split_more lows highs k e false at out less s =
      let top = top_row old new c home lasts d s.q k s.rest e s.stands at in
      let f = frame_of top.y top.l top.m false in
      let p = is_row_before n in
      let side = passes old new c home lasts d n s.q k s.rest e false top out less in
      let M : (r : Row) → Treap Row → Type 0 = λ r w. IsAmong r (met_along n w) in
      record {
        low_front = s.low_front;
        high_front = s.high_front ++ f ∷ [];
        rest = top.l;
        q = entry_name top.y;
        low_is = s.low_is ∙ ap (plug s.low_front) (ap (low p) top.is ∙ low_framed p top.y top.l top.m false side.1);
        high_is = s.high_is ∙ ap (plug s.high_front) (ap (high p) top.is ∙ high_framed p top.y top.l top.m false side.1) ∙ sym (plug_more s.high_front f (high p top.l));
        low_crumbs = s.low_crumbs;
        high_crumbs = crumbs_more old c home lasts d s.high_front highs f (record { node = e; right = false; hash = k.hash }) s.high_crumbs (crumb_of old new c home lasts d s.q k s.rest e false top);
        stands = stands_toward old new c home lasts d s.q (Some k) top.y top.l top.m e false top.stands top.at;
        met = λ r h. s.met r (subst (M r) (sym top.is) (along_over n top.y r top.l top.m false side.0 side.1 h));
      }

  pub split_end : (lows highs : List Crumb) → Splitting old new c home lasts d n t lows highs None → IsSplit old c home lasts d n t lows highs
  split_end lows highs s =
      let none = leads_empty s.rest s.stands.leads.led_is in
      record {
        low_front = s.low_front;
        high_front = s.high_front;
        low_is = s.low_is ∙ ap (λ w. plug s.low_front (low (is_row_before n) w)) none;
        high_is = s.high_is ∙ ap (λ w. plug s.high_front (high (is_row_before n) w)) none;
        low_crumbs = s.low_crumbs;
        high_crumbs = s.high_crumbs;
      }

-- why a plan stops there
pub split_stop : (c : Resident) (d : Drafted) (n : List ℕ) (top : Option Link) (lows highs : List Crumb) (k : Link) (e : Short)
    → ((old new : Shown) (home t : Treap Row) (lasts : Name → Bool) (q : Name) → StandsBelow old new c home lasts d q top t → Splitting old new c home lasts d n t lows highs (Some k)) → IsLinkLack d c k e → IsStop (Splits d c n top) d c e
split_stop c d n top lows highs k e splits lack =
    link_stop c d (Splits d c n top) k e
    (λ old new met s m is missing.
    let w = splits old new s.home s.t s.lasts s.q s.stands in
    let M : (r : Row) → Treap Row → Type 0 = λ r t. IsAmong r (met_along n t) in
    stands_wanted old new c s.home s.lasts d w.q k w.rest met m is missing w.stands (λ y l m' over. s.among y (w.met y (subst (M y) (sym over) (inl refl))))) lack
