-- The entries of a path are set anew from its end up.
use Rattle.std.proofs.Common.{◌≡◌, ◌≢◌, ◌⊎◌, inl, inr, ◌++◌, ◌<◌, ◌^◌, Bool, true, List, [], ◌∷◌, Option, Some, None, IsSome, refl, ap, sym, ◌∙◌, subst, arith}
use Rattle.iris_name.specs.declared.name.FileId.{FileId}
use Rattle.iris_name.specs.declared.name.Hash32.{Hash32}
use Rattle.iris_name.specs.declared.name.Name.{Name}
use Rattle.iris_name.specs.declared.name.Name.TheVariants as name
use Rattle.iris_node.specs.declared.node.Link.{Link}
use Rattle.iris_node.specs.declared.node.Node.{Node}
use Rattle.iris_node.specs.declared.node.Node.TheVariants as node
use Rattle.iris_node.specs.Fields.{EntryFields}
use Rattle.iris_node.specs.Trees.{Shown}
use Rattle.iris_node.specs.Unfolded.{blocks}
use Rattle.iris_shape.specs.Treap.{Treap, Empty, Over, rows, Every}
use Rattle.iris_shape.proofs.Treaps.{every_map}
use Rattle.iris_cache.specs.Resident.{Resident}
use Rattle.iris_cache.specs.Drafted.{Drafted, drafted, seen}
use Rattle.iris_cache.specs.Pictures.{Holds, IsLike, WasHash, parent_after}
use Rattle.iris_treepaths.specs.declared.paths.Crumb.{Crumb}
use Rattle.iris_treepaths.specs.Crumbs.{Seated, LeadsToTop, AreCrumbs, Rises, crumb_above}
use Rattle.iris_treepaths.specs.Nodes.{IsPut, turned, LinksTo}
use Rattle.iris_treepaths.specs.Paths.{Frame, framed, plug, entry_name, above, Outside, Once}
use Rattle.iris_treepaths.specs.Planted.{IsRowName, Likes, Hang, StaysBelow}
use Rattle.iris_treepaths.specs.Rows.{Row, unfolded_rows}
use Rattle.iris_treepaths.proofs.Crumbs.{put_stays, seated_frame, seat_put, put_there, seated_framed, crumb_id, crumbs_above, above_lasts, crumbs_last}
use Rattle.iris_treepaths.proofs.Downs.{any_split}
use Rattle.iris_treepaths.proofs.Owned.{put_other, put_either}
use Rattle.iris_treepaths.proofs.PathLaws.{plug_more, above_end, plug_blocks, once_framed, once_plug, every_framed}
use Rattle.iris_treepaths.proofs.RowNodes.{turned_id, turned_like, turned_hashes, framed_leads}

every_pair : (P Q R : Row → Type 0) (a : Treap Row) → ((z : Row) → P z → Q z → R z) → Every P a → Every Q a → Every R a
every_pair P Q R Empty f h k = tt
every_pair P Q R (Over y l m) f h k = (f y h.0 k.0, every_pair P Q R l f h.1 k.1, every_pair P Q R m f h.2 k.2)

-- rows that are none of one name stay as they were once that name alone is changed
pub every_off : (d e : Drafted) (n : Name) (w : Treap Row) → ((m : Name) → m ≢ n → drafted e m ≡ drafted d m) → Outside n w → Every (λ z. drafted e (entry_name z) ≡ drafted d (entry_name z)) w
every_off d e n w off out = every_map (λ z. n ≢ entry_name z) (λ z. drafted e (entry_name z) ≡ drafted d (entry_name z)) w (λ z k. off (entry_name z) (λ h. k (sym h))) out

module _ (old : Shown) (c : Resident) (home : Treap Row) (lasts : Name → Bool) where
  -- what is changed is seen in the end
  pub touch : (d e f : Drafted) (n : Name) (p : Option Name) (x : EntryFields) (m : Name) → IsPut e f p x → name.Entry x.id ≡ n → lasts n ≡ true → (drafted e m ≡ drafted d m) ⊎ (lasts m ≡ true) → (drafted f m ≡ drafted d m) ⊎ (lasts m ≡ true)
  touch d e f n p x m put id here was =
      let L : Name → Type 0 = λ m. lasts m ≡ true in
      elim (put_either e f p x m put) [
        | inr is ↦ inr (subst L (sym (is ∙ id)) here)
        | inl same ↦ elim was [ inl s ↦ inl (same ∙ s) | inr s ↦ inr s ]
      ]

  -- ---- one step up

  pub rising_more : (d e f : Drafted) (dir : FileId) (u : Treap Row) (ks : List Crumb) (crumb : Crumb) (link : Option Link) (k : Link) → Once u → blocks (unfolded_rows u) < 2 ^ 64 → lasts (name.Entry dir) ≡ true
      → LinksTo (turned crumb.right link crumb.node) crumb.hash k → IsPut e f (Some (name.Entry (crumb_above dir ks))) (turned crumb.right link crumb.node)
      → Rises old c home lasts d e (name.Entry dir) u (ks ++ crumb ∷ []) link → Rises old c home lasts d f (name.Entry dir) u ks (Some k)
  rising_more d e f dir u ks crumb link k once few there to put rise =
      let r = crumbs_last old c home lasts d rise.front ks crumb rise.crumbs in
      let x = r.last in
      let w = rise.done in
      let v = framed x w in
      let n = entry_name x.row in
      let p = name.Entry dir in
      let q = above p r.front in
      let tn = turned crumb.right link crumb.node in
      let top : name.Entry (crumb_above dir ks) ≡ q = crumbs_above old c home lasts d p dir r.front ks refl r.crumbs in
      let I : Name → Type 0 = λ i. IsPut e f (Some i) tn in
      let put2 = subst I top put in
      let is : u ≡ plug r.front v = rise.is ∙ ap (λ fs. plug fs w) r.is ∙ plug_more r.front x w in
      let apart = once_framed x w (once_plug r.front v (subst Once is once)) in
      let le = plug_blocks r.front v in
      let same = ap (λ a. blocks (unfolded_rows a)) is in
      let small : blocks (unfolded_rows v) < 2 ^ 64 = omega (arith, le, same, few) in
      let L : Bool → Type 0 = λ b. IsLike (Some (unfolded_rows v)) (node.Entry (turned b link crumb.node)) in
      let like : IsLike (Some (unfolded_rows v)) (node.Entry tn) = subst L (sym r.crumb.right) (turned_like x r.crumb.side w crumb.node link r.crumb.like rise.leads.led_is) in
      let id : name.Entry tn.id ≡ n = ap name.Entry (turned_id crumb.right link crumb.node) ∙ crumb_id old c home lasts d x crumb r.crumb in
      let off : (m : Name) → m ≢ n → drafted f m ≡ drafted e m = λ m a. put_other e f (Some q) tn m put2 (λ b. a (b ∙ id)) in
      let at : above p rise.front ≡ n = ap (above p) r.is ∙ above_end p r.front x in
      let S : Name → Type 0 = λ p. Seated old c home lasts e p w in
      let D : Row → Type 0 = λ z. drafted f (entry_name z) ≡ drafted d (entry_name z) in
      record {
        front = r.front;
        done = v;
        is = is;
        crumbs = r.crumbs;
        leads = framed_leads old c x w tn crumb.hash k like small to r.crumb.reached;
        seated = seated_framed old c home lasts f q x w
            (seat_put old c home lasts e f q n v tn put2 id like (above_lasts old c home lasts d p r.front ks r.crumbs there) r.crumb.here (turned_hashes old c crumb.node crumb.right link r.crumb.hashes rise.leads.hash))
            (put_there old c home lasts e f (Some q) n v tn put2 id)
            (seated_frame old c home lasts d f n x.other (every_pair (λ z. n ≢ entry_name z) (λ z. Outside (entry_name z) w) D x.other (λ z a b. off (entry_name z) (λ g. a (sym g)) ∙ rise.off (entry_name z) b) apart.row_other apart.other) r.crumb.other)
            (seated_frame old c home lasts e f n w (every_off e f n w off apart.row) (subst S at rise.seated));
        off = λ m o. let s = every_framed (λ z. m ≢ entry_name z) x w o in off m s.0 ∙ rise.off m s.2;
        touched = λ m. touch d e f n (Some q) tn m put2 id r.crumb.here (rise.touched m);
        stays = λ m h. put_stays e f c (Some q) tn m put2 (rise.stays m h);
      }

  -- ---- how a path begins to rise

  -- with nothing at its end
  pub rising_bare : (d : Drafted) (p : Name) (u : Treap Row) (fs : List Frame) (ks : List Crumb) → u ≡ plug fs Empty → AreCrumbs old c home lasts d fs ks → Rises old c home lasts d d p u ks None
  rising_bare d p u fs ks is crumbs =
      record { front = fs; done = Empty; is = is; crumbs = crumbs; leads = record { led_is = refl; hash = λ m h x. absurd x }; seated = tt; off = λ n o. refl; touched = λ n. inl refl; stays = λ n h. h }

  -- ---- the whole path has risen

  pub record Risen (d e : Drafted) (p : Name) (u : Treap Row) (link : Option Link) : Type 0 where
    pub leads : LeadsToTop old c link u
    pub seated : Seated old c home lasts e p u
    pub off : (n : Name) → Outside n u → drafted e n ≡ drafted d n
    pub touched : (n : Name) → (drafted e n ≡ drafted d n) ⊎ (lasts n ≡ true)
    pub stays : (n : Name) → IsSome (seen d c n) → IsSome (seen e c n)

  pub risen : (d e : Drafted) (p : Name) (u : Treap Row) (link : Option Link) → Rises old c home lasts d e p u [] link → Risen d e p u link
  risen d e p u link r = by r.front r.is r.crumbs r.seated
    where
      by : (fs : List Frame) → u ≡ plug fs r.done → AreCrumbs old c home lasts d fs [] → Seated old c home lasts e (above p fs) r.done → Risen d e p u link
      by [] is k s =
          let L : Treap Row → Type 0 = λ w. LeadsToTop old c link w in
          let S : Treap Row → Type 0 = λ w. Seated old c home lasts e p w in
          let O : Treap Row → Type 0 = λ w. (n : Name) → Outside n w → drafted e n ≡ drafted d n in
          record { leads = subst L (sym is) r.leads; seated = subst S (sym is) s; off = subst O (sym is) r.off; touched = r.touched; stays = r.stays }
      by (f ∷ fs) is k s = absurd k

  -- ---- what is seen of seated rows

  pub likes_from : (e : Drafted) (p : Name) (w : Treap Row) → Seated old c home lasts e p w → Likes (seen e c) w
  likes_from e p Empty s = tt
  likes_from e p (Over y l m) s = ((λ node at. (s.0 node at).like), likes_from e (entry_name y) l s.2, likes_from e (entry_name y) m s.3)

  pub hang_from : (e : Drafted) (p : Name) (w : Treap Row) → (lasts p ≡ true → IsSome (seen e c p)) → Every (λ z. lasts (entry_name z) ≡ true → IsSome (seen e c (entry_name z))) w → Seated old c home lasts e p w → Hang (seen e c) (parent_after e c) p w
  hang_from e p Empty top all s = tt
  hang_from e p (Over y l m) top all s = ((λ node at. let r = s.0 node at in (r.parent, top r.there)), hang_from e (entry_name y) l all.0 all.1 s.2, hang_from e (entry_name y) m all.0 all.2 s.3)

  pub stays_from : (e : Drafted) (p : Name) (w : Treap Row) → Seated old c home lasts e p w → StaysBelow (seen e c) home w
  stays_from e p Empty s = tt
  stays_from e p (Over y l m) s = (s.1, stays_from e (entry_name y) l s.2, stays_from e (entry_name y) m s.3)

  pub hashes_from : (e : Drafted) (p : Name) (w : Treap Row) (n m : Name) (x : Node) (h : Hash32) → Seated old c home lasts e p w → IsRowName (rows w) n → seen e c n ≡ Some x → Holds x m h → WasHash old c m h
  hashes_from e p Empty n m x h s k at holds = absurd k
  hashes_from e p (Over y l r) n m x h s k at holds = by (λ g. hashes_from e (entry_name y) l n m x h s.2 g at holds) (λ g. hashes_from e (entry_name y) r n m x h s.3 g at holds) (any_split (λ (z : Row). n ≡ entry_name z) (rows l) (y ∷ rows r) k)
    where
      by : (IsRowName (rows l) n → WasHash old c m h) → (IsRowName (rows r) n → WasHash old c m h) → IsRowName (rows l) n ⊎ IsRowName (y ∷ rows r) n → WasHash old c m h
      by f j (inl g) = f g
      by f j (inr (inl g)) = (s.0 x (ap (seen e c) (sym g) ∙ at)).hashes m h holds
      by f j (inr (inr g)) = j g
