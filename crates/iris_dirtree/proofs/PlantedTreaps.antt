-- A treap that was set up, with its top in the directory's entry, is planted.
use Rattle.std.proofs.Common.{◌≡◌, ◌≢◌, ◌⊎◌, ◌+◌, ◌<◌, ◌^◌, inl, inr, ℕ, Bool, true, false, List, Option, Some, None, IsSome, refl, ap, sym, ◌∙◌, subst, arith}
use Rattle.iris_name.specs.Names.{same_name}
use Rattle.iris_name.specs.declared.name.FileId.{FileId}
use Rattle.iris_name.specs.declared.name.Hash32.{Hash32}
use Rattle.iris_name.specs.declared.name.Name.{Name}
use Rattle.iris_name.specs.declared.name.Name.TheVariants as name
use Rattle.iris_node.specs.declared.node.Body.{Body}
use Rattle.iris_node.specs.declared.node.Body.TheVariants.{Dir}
use Rattle.iris_node.specs.declared.node.Link.{Link}
use Rattle.iris_node.specs.declared.node.Node.{Node}
use Rattle.iris_node.specs.declared.node.Node.TheVariants as node
use Rattle.iris_node.specs.Fields.{EntryFields}
use Rattle.iris_node.specs.Trees.{Shown}
use Rattle.iris_node.specs.Unfolded.{blocks}
use Rattle.iris_shape.specs.Treap.{Treap, treap, rows, Every}
use Rattle.iris_shape.proofs.Treaps.{every_of}
use Rattle.iris_cache.specs.Resident.{Resident, held_node}
use Rattle.iris_cache.specs.Drafted.{Drafted, drafted, seen, known_by, there_by, set_to, taken_away}
use Rattle.iris_cache.specs.Pictures.{Holds, BodyHolds, WasHash, parent_after}
use Rattle.iris_treepaths.specs.Crumbs.{LeadsToTop}
use Rattle.iris_treepaths.specs.Paths.{entry_name}
use Rattle.iris_treepaths.specs.Planted.{IsRowName, Planted, topped, with_top}
use Rattle.iris_treepaths.specs.Rows.{Row, HasRows, IsCountable, unfolded_rows, up}
use Rattle.iris_dirtree.proofs.TreapTops.{Holder}
use Rattle.iris_treepaths.proofs.Crumbs.{there_same, seated_frame}
use Rattle.iris_treepaths.proofs.Likes.{roof}
use Rattle.iris_treepaths.proofs.Owned.{seen_same, parent_same, other_name}
use Rattle.iris_treepaths.proofs.RisenPaths.{Risen, likes_from, hang_from, stays_from, hashes_from}
use Rattle.iris_treepaths.proofs.Rowed.{row_any}
use Rattle.iris_treepaths.proofs.Sees.{Sees}
use Rattle.iris_treepaths.proofs.There.{never_none}
use Rattle.iris_treepaths.proofs.RowsWithout.{among_each, outside_none}

-- counts of what is made have 64 bits
pub few_inside : (made : Shown) (key : List ℕ) (dir : FileId) (after : List Row) → HasRows made key dir after → IsCountable made → blocks (unfolded_rows (treap (up key) after)) < 2 ^ 64
few_inside made key dir after has few =
    let r = roof made key dir after has in
    let w = unfolded_rows (treap (up key) after) in
    let all = few (name.Entry dir) r.entry r.live in
    let is : blocks r.entry ≡ blocks r.less + (blocks w + blocks r.more) = ap blocks r.is in
    omega (arith, all, is)

-- what is so of each name of a treap's rows is so of each row's
pub every_named : (P : Name → Type 0) (w : Treap Row) → ((m : Name) → IsRowName (rows w) m → P m) → Every (λ z. P (entry_name z)) w
every_named P w f = every_of (λ z. P (entry_name z)) w (among_each (λ z. P (entry_name z)) (rows w) (λ r k. f (entry_name r) (row_any (λ (y : Row). entry_name r ≡ entry_name y) (rows w) r k refl)))

-- a name stays where all but one do
pub frame_apart : (d e : Drafted) (k m : Name) → ((q : Name) → same_name k q ≡ false → drafted e q ≡ drafted d q) → m ≢ k → drafted e m ≡ drafted d m
frame_apart d e k m h off = h m (other_name k m (same_name k m) refl off)

-- an entry that is set is seen
pub set_seen : (e : Drafted) (c : Resident) (p : Name) (q : Option Name) (x : EntryFields) → drafted e p ≡ Some (set_to q (node.Entry x)) → seen e c p ≡ Some (node.Entry x)
set_seen e c p q x h = ap (λ o. there_by (known_by o (held_node c p))) h

-- the directory's entry is set over what the climb left as it was
pub top_set : (d d2 e : Drafted) (c : Resident) (p : Name) (top : Option Link) → drafted d2 p ≡ drafted d p
    → ((z : EntryFields) → seen d2 c p ≡ Some (node.Entry z) → drafted e p ≡ Some (set_to (parent_after d2 c p) (node.Entry (with_top top z))))
    → (z : EntryFields) → seen d c p ≡ Some (node.Entry z) → drafted e p ≡ Some (set_to (parent_after d c p) (node.Entry (with_top top z)))
top_set d d2 e c p top same set z at = set z (seen_same d d2 c p same ∙ at) ∙ ap (λ q. Some (set_to q (node.Entry (with_top top z)))) (parent_same d d2 c p same)

top_holds : (old : Shown) (c : Resident) (u : Treap Row) (z : EntryFields) (top kept : Option Link) (m : Name) (h : Hash32) → LeadsToTop old c top u → z.body ≡ Dir kept → ((m : Name) (h : Hash32) → Holds (node.Entry z) m h → WasHash old c m h)
    → Holds (node.Entry (with_top top z)) m h → WasHash old c m h
top_holds old c u z top kept m h leads body was (inl k) = was m h (inl k)
top_holds old c u z top kept m h leads body was (inr (inl k)) = was m h (inr (inl k))
top_holds old c u z top kept m h leads body was (inr (inr k)) = let B : Body → Type 0 = λ b. BodyHolds z.id (topped top b) m h in leads.hash m h (subst B body k)

-- what a draft made of a treap that had risen in the draft before it
pub record Ends (old : Shown) (dir : FileId) (lasts : Name → Bool) (t u : Treap Row) (d d2 e : Drafted) (c : Resident) (top : Option Link) : Type 0 where
  pub entry : (z : EntryFields) → seen d c (name.Entry dir) ≡ Some (node.Entry z) → drafted e (name.Entry dir) ≡ Some (set_to (parent_after d c (name.Entry dir)) (node.Entry (with_top top z)))
  pub same : (m : Name) → IsRowName (rows u) m → drafted e m ≡ drafted d2 m
  pub rest : (m : Name) → (IsRowName (rows t) m → ⊥) → (IsRowName (rows u) m → ⊥) → m ≢ name.Entry dir → drafted e m ≡ drafted d2 m
  pub lasting : (m : Name) → IsRowName (rows u) m ⊎ (m ≡ name.Entry dir) → lasts m ≡ true → IsSome (seen e c m)
  pub lasted : (m : Name) → IsRowName (rows t) m → lasts m ≡ true → IsSome (seen d c m)
  pub came : (m : Name) → IsRowName (rows u) m → (IsRowName (rows t) m → ⊥) → IsSome (seen e c m)
  pub went : (m : Name) → IsRowName (rows t) m → (IsRowName (rows u) m → ⊥) → drafted e m ≡ Some taken_away
  pub touched : (m : Name) → (drafted e m ≡ drafted d m) ⊎ (lasts m ≡ true)
  pub lived : (m : Name) → lasts m ≡ true → IsSome (held_node c m) ⊎ (old m ≡ None)

module _ (old new : Shown) (dir : FileId) (lasts : Name → Bool) (t u : Treap Row) (d d2 e : Drafted) (c : Resident) (top kept_top : Option Link) (see : Sees old new d c) (hold : Holder (seen d c (name.Entry dir)) kept_top)
    (up_ : Risen old c t lasts d d2 (name.Entry dir) u top) (ends : Ends old dir lasts t u d d2 e c top) where
  dir_seen : seen e c (name.Entry dir) ≡ Some (node.Entry (with_top top hold.entry))
  dir_seen = set_seen e c (name.Entry dir) (parent_after d c (name.Entry dir)) (with_top top hold.entry) (ends.entry hold.entry hold.is)

  pub planted : Planted old dir t u d e c
  planted =
      let p = name.Entry dir in
      let D : Name → Type 0 = λ m. drafted e m ≡ drafted d2 m in
      let L : Name → Type 0 = λ m. lasts m ≡ true → IsSome (seen e c m) in
      let seated = seated_frame old c t lasts d2 e p u (every_named D u ends.same) up_.seated in
      record {
        top = top;
        leads = up_.leads.led_is;
        entry = ends.entry;
        likes = likes_from old c t lasts e p u seated;
        hang = hang_from old c t lasts e p u (ends.lasting p (inr refl)) (every_named L u (λ m k. ends.lasting m (inl k))) seated;
        stays = stays_from old c t lasts e p u seated;
        hashes = λ m q y h which at holds. elim which [
          | inl k ↦ hashes_from old c t lasts e p u m q y h seated k at holds
          | inr k ↦ dir_hash m q y h k at holds
        ];
        others = λ m a b g. ends.rest m a b g ∙ up_.off m (outside_none m u b);
        kept = λ m a b h. there_same (seen e c m) (seen d2 c m) (seen_same d2 e c m (ends.same m b)) (up_.stays m h);
        missing = λ m a b h. ends.same m b ∙ elim (up_.touched m) [ inl s ↦ s | inr s ↦ absurd (never_none (seen d c m) (ends.lasted m a s) h) ];
        came = ends.came;
        went = ends.went;
        resident = λ m v h. elim (ends.touched m) [ inl s ↦ see.resident m v (sym s ∙ h) | inr s ↦ ends.lived m s ];
      }
    where
      dir_hash : (m q : Name) (y : Node) (h : Hash32) → m ≡ name.Entry dir → seen e c m ≡ Some y → Holds y q h → WasHash old c q h
      dir_hash m q y h k at holds =
          let s : Some (node.Entry (with_top top hold.entry)) ≡ Some y = sym dir_seen ∙ ap (seen e c) (sym k) ∙ at in
          let i : node.Entry (with_top top hold.entry) ≡ y = cc in
          let P : Node → Type 0 = λ y. Holds y q h in
          top_holds old c u hold.entry top kept_top q h up_.leads hold.body (λ m h k. see.hashes (name.Entry dir) m (node.Entry hold.entry) h hold.is k) (subst P (sym i) holds)
