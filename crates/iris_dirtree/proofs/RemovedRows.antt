-- The treap without a row is planted.
use Rattle.std.proofs.Common.{◌≡◌, ◌≢◌, ◌⊎◌, inl, inr, ℕ, Bool, true, false, cond, List, [], ◌∷◌, Option, Some, None, IsSome, is_some, refl, ap, sym, ◌∙◌, subst}
use Rattle.iris_name.specs.Names.{same_name}
use Rattle.iris_name.specs.NameLaws.{same_name-true, same_name-refl}
use Rattle.iris_name.specs.declared.name.FileId.{FileId}
use Rattle.iris_name.specs.declared.name.Name.{Name}
use Rattle.iris_name.specs.declared.name.Name.TheVariants as name
use Rattle.iris_node.specs.declared.node.Link.{Link}
use Rattle.iris_node.specs.declared.node.Node.TheVariants as node
use Rattle.iris_node.specs.Fields.{EntryFields}
use Rattle.iris_node.specs.Trees.{Shown}
use Rattle.iris_node.specs.Unfolded.{Unfolded, Absent, id_of}
use Rattle.iris_shape.specs.Treap.{treap, rows, rows_without}
use Rattle.iris_shape.proofs.Treaps.{rows_treap}
use Rattle.iris_cache.specs.declared.draft.Change.{Change}
use Rattle.iris_cache.specs.Resident.{Resident}
use Rattle.iris_cache.specs.Drafted.{Drafted, drafted, seen, set_to, taken_away}
use Rattle.iris_cache.specs.Pictures.{IsLike, parent_after}
use Rattle.iris_treepaths.specs.declared.paths.Crumb.{Crumb}
use Rattle.iris_treepaths.specs.Crumbs.{Rises}
use Rattle.iris_dirtree.specs.Descents.{FoundRow}
use Rattle.iris_treepaths.specs.Hands.{IsRowNode, HoldsTrue}
use Rattle.iris_treepaths.specs.Needs.{Listed}
use Rattle.iris_treepaths.specs.Paths.{entry_name, IsAmong, Outside}
use Rattle.iris_treepaths.specs.Planted.{IsRowName, Planted, with_top}
use Rattle.iris_treepaths.specs.Rows.{Row, unfolded_rows, row_entry, up}
use Rattle.iris_treepaths.specs.Ways.{has_name, is_row_before}
use Rattle.iris_dirtree.proofs.TreapTops.{Holder, dir_apart}
use Rattle.iris_treepaths.proofs.Crumbs.{there_same}
use Rattle.iris_treepaths.proofs.Downs.{any_right}
use Rattle.iris_treepaths.proofs.Likes.{like_row}
use Rattle.iris_treepaths.proofs.Owned.{seen_same, other_name}
use Rattle.iris_treepaths.proofs.PathLaws.{rows_plug}
use Rattle.iris_dirtree.proofs.PlantedTreaps.{frame_apart, set_seen, top_set, planted as planted_by}
use Rattle.iris_treepaths.proofs.RisenPaths.{risen}
use Rattle.iris_treepaths.proofs.RowNodes.{like_between}
use Rattle.iris_treepaths.proofs.Rowed.{row_any}
use Rattle.iris_treepaths.proofs.Sees.{Sees, sees_holding, seen_resident}
use Rattle.iris_treepaths.proofs.There.{is_there}
use Rattle.iris_treepaths.proofs.RowsWithout.{gone_one, only, any_without, apart_without, is_it, named_parts, outside_none, outside_not, any_named}

-- ---- one name changed

-- a draft makes this of a name, and nothing of others
abbrev pub IsMade : Drafted → Drafted → Name → Option Change → Type 0
IsMade d e k v = (q : Name) → drafted e q ≡ cond (same_name k q) v (drafted d q)

made_here : (d e : Drafted) (k : Name) (v : Option Change) → IsMade d e k v → drafted e k ≡ v
made_here d e k v h = h k ∙ ap (λ b. cond b v (drafted d k)) (same_name-refl k)

made_apart : (d e : Drafted) (k : Name) (v : Option Change) (m : Name) → IsMade d e k v → m ≢ k → drafted e m ≡ drafted d m
made_apart d e k v m h off = h m ∙ ap (λ b. cond b v (drafted d m)) (other_name k m (same_name k m) refl off)

pub made_stays : (d e : Drafted) (c : Resident) (k : Name) (v : Option Change) (m : Name) → IsMade d e k v → m ≢ k → IsSome (seen d c m) → IsSome (seen e c m)
made_stays d e c k v m h off there = there_same (seen e c m) (seen d c m) (seen_same d e c m (made_apart d e k v m h off)) there

-- a name is the one, or another
case_name : (k m : Name) → (m ≡ k) ⊎ (m ≢ k)
case_name k m = by (same_name k m) refl
  where
    by : (b : Bool) → same_name k m ≡ b → (m ≡ k) ⊎ (m ≢ k)
    by true g = inl (sym (same_name-true k m g))
    by false g = inr (λ h. let a : same_name k m ≡ true = ap (same_name k) h ∙ same_name-refl k in cc)

-- ---- a row's node by itself

row_node : (y : Row) (l m : Unfolded) (e : EntryFields) → IsLike (Some (row_entry y l m)) (node.Entry e) → IsRowNode y e
row_node y l m e h = like_between y l m Absent Absent e None None h refl refl

module _ (old new : Shown) (key : List ℕ) (dir : FileId) (n : List ℕ) (d : Drafted) (c : Resident) (all : List Row) (listed : Listed key dir d c old new all) (x : Row) (x_in : IsAmong x all) (x_name : x.name ≡ n) (p : Name) (kept : List Crumb) (e : EntryFields)
    (found : FoundRow old new c (λ m. is_some (seen d c m)) d p n (treap (up key) all) kept e) where
  see : Sees old new d c
  see = sees_holding old new None d c listed.was listed.is listed.drafts

  inside : IsAmong found.row (rows (treap (up key) all))
  inside =
      let P : _ → Type 0 = λ w. IsAmong found.row (rows w) in
      subst P (sym found.is) (rows_plug found.row found.front _ (any_right (λ z. z ≡ found.row) (rows found.less) (found.row ∷ rows found.more) (inl refl)))

  -- the row that is found is the one of the name
  row_is : found.row ≡ x
  row_is =
      let A : List Row → Type 0 = IsAmong found.row in
      let there = subst A (rows_treap (up key) all) inside in
      only (λ r. found.row ≡ r) (is_row_before n) (has_name n) all x (named_parts n all listed.rows_are.rising) (row_any (λ r. (has_name n r ≡ true) × (found.row ≡ r)) all found.row there (found.named, refl)) x_in (is_it n x x_name)

  pub row_taken : IsRowNode x e × HoldsTrue old c e
  row_taken =
      let R : Row → Type 0 = λ y. IsRowNode y e in
      (subst R row_is (row_node found.row (unfolded_rows found.less) (unfolded_rows found.more) e found.seat.like), (λ m h k. found.seat.hashes m h (inr (inr k))))

  taken_id : name.Entry e.id ≡ entry_name x
  taken_id = ap (λ i. name.Entry (id_of i)) (like_row found.row (unfolded_rows found.less) (unfolded_rows found.more) e found.seat.like).id_is ∙ ap entry_name row_is

  taken_seen : IsSome (seen d c (name.Entry e.id))
  taken_seen = there_same (seen d c (name.Entry e.id)) (seen d c (entry_name found.row)) (ap (seen d c) (taken_id ∙ sym (ap entry_name row_is))) (is_there (seen d c (entry_name found.row)) (node.Entry e) found.sees)

  -- a row of the first treap isn't the directory
  not_dir : (m : Name) → IsRowName (rows (treap (up key) all)) m → m ≢ name.Entry dir
  not_dir m k h = let P : Name → Type 0 = λ m. IsRowName (rows (treap (up key) all)) m in outside_not (name.Entry dir) (treap (up key) all) (dir_apart new key dir all listed.is listed.rows_are) (subst P h k)

  after_before : (m : Name) → IsRowName (rows (treap (up key) (rows_without (has_name n) all))) m → IsRowName (rows (treap (up key) all)) m
  after_before m k =
      let P : List Row → Type 0 = λ xs. IsRowName xs m in
      subst P (sym (rows_treap (up key) all)) (any_without (λ (r : Row). m ≡ entry_name r) (has_name n) all (subst P (rows_treap (up key) (rows_without (has_name n) all)) k))

  -- a row of the second isn't the one that went
  not_taken : (m : Name) → IsRowName (rows (treap (up key) (rows_without (has_name n) all))) m → m ≢ name.Entry e.id
  not_taken m k h =
      let P : List Row → Type 0 = λ xs. IsRowName xs m in
      apart_without (has_name n) all x listed.rows_are.distinct x_in (is_it n x x_name)
      (any_named m (rows_without (has_name n) all) (subst P (rows_treap (up key) (rows_without (has_name n) all)) k) x (h ∙ taken_id))

  taken_row : IsRowName (rows (treap (up key) all)) (name.Entry e.id)
  taken_row =
      let P : List Row → Type 0 = λ xs. IsRowName xs (name.Entry e.id) in
      subst P (sym (rows_treap (up key) all)) (row_any (λ (r : Row). name.Entry e.id ≡ entry_name r) all x x_in taken_id)

  -- a row of the first treap that isn't in the second is the one that went
  went_one : (m : Name) → IsRowName (rows (treap (up key) all)) m → (IsRowName (rows (treap (up key) (rows_without (has_name n) all))) m → ⊥) → m ≡ name.Entry e.id
  went_one m k g =
      let P : List Row → Type 0 = λ xs. IsRowName xs m in
      let b = gone_one (λ (r : Row). m ≡ entry_name r) (has_name n) all (subst P (rows_treap (up key) all) k) (λ j. g (subst P (sym (rows_treap (up key) (rows_without (has_name n) all))) j)) in
      only (λ (r : Row). m ≡ entry_name r) (is_row_before n) (has_name n) all x (named_parts n all listed.rows_are.rising) b x_in (is_it n x x_name) ∙ sym taken_id

  dir_outside : Outside (name.Entry dir) (treap (up key) (rows_without (has_name n) all))
  dir_outside = outside_none (name.Entry dir) (treap (up key) (rows_without (has_name n) all)) (λ k. not_dir (name.Entry dir) (after_before (name.Entry dir) k) refl)

  pub planted : (d2 d3 d4 : Drafted) (top kept_top : Option Link) → Holder (seen d c (name.Entry dir)) kept_top
      → Rises old c (treap (up key) all) (λ m. is_some (seen d c m)) d d2 (name.Entry dir) (treap (up key) (rows_without (has_name n) all)) [] top
      → ((z : EntryFields) → seen d2 c (name.Entry dir) ≡ Some (node.Entry z) → drafted d3 (name.Entry dir) ≡ Some (set_to (parent_after d2 c (name.Entry dir)) (node.Entry (with_top top z))))
      → ((q : Name) → same_name (name.Entry dir) q ≡ false → drafted d3 q ≡ drafted d2 q) → IsMade d3 d4 (name.Entry e.id) (Some taken_away)
      → Planted old dir (treap (up key) all) (treap (up key) (rows_without (has_name n) all)) d d4 c
  planted d2 d3 d4 top kept_top hold rise set frame gone =
      let t = treap (up key) all in
      let u = treap (up key) (rows_without (has_name n) all) in
      let p = name.Entry dir in
      let nx = name.Entry e.id in
      let lasts = λ (m : Name). is_some (seen d c m) in
      let up_ = risen old c t lasts d d2 p u top rise in
      let apart : p ≢ nx = λ h. not_dir nx taken_row (sym h) in
      let there : IsSome (seen d c p) = is_there (seen d c p) (node.Entry hold.entry) hold.is in
      let dir4 : drafted d4 p ≡ drafted d3 p = made_apart d3 d4 nx (Some taken_away) p gone apart in
      let entry3 = top_set d d2 d3 c p top (up_.off p dir_outside) set in
      let dir_now : IsSome (seen d4 c p) = there_same (seen d4 c p) (seen d3 c p) (seen_same d3 d4 c p dir4) (is_there (seen d3 c p) (node.Entry (with_top top hold.entry)) (set_seen d3 c p (parent_after d c p) (with_top top hold.entry) (entry3 hold.entry hold.is))) in
      let same42 : (m : Name) → m ≢ nx → m ≢ p → drafted d4 m ≡ drafted d2 m = λ m a b. made_apart d3 d4 nx (Some taken_away) m gone a ∙ frame_apart d2 d3 p m frame b in
      let of_u : (m : Name) → IsRowName (rows u) m → drafted d4 m ≡ drafted d2 m = λ m k. same42 m (not_taken m k) (not_dir m (after_before m k)) in
      let I : Name → Type 0 = λ m. IsSome (seen d4 c m) in
      let S : Name → Type 0 = λ m. IsSome (seen d c m) in
      planted_by old new dir lasts t u d d2 d4 c top kept_top see hold up_
      (record {
        entry = λ z at. dir4 ∙ entry3 z at;
        same = of_u;
        rest = λ m a b g. same42 m (λ h. a (let P : Name → Type 0 = λ m. IsRowName (rows t) m in subst P (sym h) taken_row)) g;
        lasting = λ m which h. elim which [
          | inl k ↦ there_same (seen d4 c m) (seen d2 c m) (seen_same d2 d4 c m (of_u m k)) (up_.stays m h)
          | inr k ↦ subst I (sym k) dir_now
        ];
        lasted = λ m a h. h;
        came = λ m a b. absurd (b (after_before m a));
        went = λ m a b. ap (drafted d4) (went_one m a b) ∙ made_here d3 d4 nx (Some taken_away) gone;
        touched = λ m. elim (case_name nx m) [
          | inl k ↦ inr (subst S (sym k) taken_seen)
          | inr a ↦ elim (case_name p m) [
            | inl k ↦ inr (subst S (sym k) there)
            | inr b ↦ elim (up_.touched m) [ inl s ↦ inl (same42 m a b ∙ s) | inr s ↦ inr s ]
          ]
        ];
        lived = λ m h. seen_resident old new d c m see h;
      })
