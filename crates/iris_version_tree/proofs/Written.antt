-- A draft in which the versions of a file were set pictures the table with these versions.
use Rattle.std.proofs.Common.{◌≡◌, ◌⊎◌, ◌==◌, ◌+◌, ◌-◌, ◌*◌, ◌<◌, ◌≤◌, ◌^◌, inl, inr, ℕ, zero, suc, Bool, true, false, Option, Some, None, refl, ap, sym, ◌∙◌, subst, arith}
use Rattle.std.specs.Prelude.{IsSome}
use Rattle.std.specs.Option.{option_map}
use Rattle.std.proofs.lemmas.Bool.{eqb-true, eqb-false, cases_lt}
use Rattle.std.proofs.Math.Pow.{pow_mono}
use Rattle.iris_name.specs.Names.{same_name}
use Rattle.iris_name.specs.declared.name.FileId.{FileId}
use Rattle.iris_name.specs.declared.name.Hash32.{Hash32}
use Rattle.iris_name.specs.declared.name.Name.{Name}
use Rattle.iris_name.specs.declared.name.Name.TheVariants as name
use Rattle.iris_node.specs.declared.node.Side.{Side}
use Rattle.iris_node.specs.declared.node.Body.{Body}
use Rattle.iris_node.specs.declared.node.Body.TheVariants.{Dir, File}
use Rattle.iris_node.specs.declared.node.Node.{Node}
use Rattle.iris_node.specs.declared.node.Node.TheVariants as node
use Rattle.iris_node.specs.Fields.{EntryFields}
use Rattle.iris_node.specs.Unfolded.{Unfolded, Absent, Folder, Leaf, Even, Split, Stored, id_of}
use Rattle.iris_node.specs.Local.{local, local_of}
use Rattle.iris_shape.specs.Folds.{Fold, One, Two, folded}
use Rattle.iris_shape.specs.Sides.{unfolded_side, part_of}
use Rattle.iris_shape.proofs.FoldProofs.{folded-zero}
use Rattle.iris_cache.specs.declared.held.Held.{Held}
use Rattle.iris_cache.specs.declared.draft.Change.{Change}
use Rattle.iris_cache.specs.Rehash.{top_part}
use Rattle.iris_cache.specs.Resident.{Resident, held_node}
use Rattle.iris_cache.specs.Drafted.{Drafted, drafted, seen, known, known_by, there_by, set_to}
use Rattle.iris_node.specs.Trees.{Shown, node_name, IsTree, IsParent, IsNodeName}
use Rattle.iris_cache.specs.Pictures.{Pictures, parent_after, parent_by, IsLike, Drafts, Holds, SideHolds, BodyHolds, WasHash}
use Rattle.iris_cache.proofs.Lacking.{unknown}
use Rattle.iris_version_tree.specs.Versions.{Versioned, HasVersions, Reversions, IsOfOtherFile, whole, reversioned, places}
use Rattle.iris_version_tree.specs.Needs.{IsFileNode, HasEntryWith}
use Rattle.iris_node.specs.Rules.{IsFileBody}
use Rattle.iris_version_tree.specs.Sides.{entry_with, body_with, side_seen, side_of_body}
use Rattle.iris_version_tree.specs.Reached.{IsTwo, IsDirectlyOver}
use Rattle.iris_version_tree.specs.Ranges.{Within, IsPartWithin, DifferWithin, Under, SideAt}
use Rattle.iris_version_tree.proofs.Levels.{fits_up}
use Rattle.iris_version_tree.proofs.Tables.{part_parent, two_above, like_top}
use Rattle.iris_version_tree.proofs.Spans.{not_same}
use Rattle.iris_version_tree.proofs.Steps.{under_frame}
use Rattle.iris_version_tree.proofs.Walks.{is_there}
use Rattle.iris_version_tree.proofs.Joins.{side_true}
use Rattle.iris_version_tree.proofs.Likes.{two_node, like_with, top_set}
use Rattle.iris_version_tree.proofs.Reversions.{local_kept, unchanged}
use Rattle.iris_version_tree.proofs.Plans.{none_of, parent_back, parent_forth, other_parent, within_fits}

-- what was written over a draft, where a plan set the versions of a file
pub record IsWritten (old : Shown) (d e : Drafted) (c : Resident) (file : FileId) (w : ℕ → ℕ) (s : Side) (x : EntryFields) : Type 0 where
  pub under : Under old w e c file 16 0
  pub side : SideAt old c file w 16 0 s
  pub kept : (n : Name) → (IsPartWithin file 16 0 n → ⊥) → (n ≡ name.Entry file → ⊥) → drafted e n ≡ drafted d n
  pub was : seen d c (name.Entry file) ≡ Some (node.Entry x)
  pub id : x.id ≡ file
  pub is : seen e c (name.Entry file) ≡ Some (node.Entry (entry_with s x))
  pub over : parent_after e c (name.Entry file) ≡ parent_after d c (name.Entry file)
  pub resident : (y : Change) → drafted e (name.Entry file) ≡ Some y → IsSome (held_node c (name.Entry file)) ⊎ (old (name.Entry file) ≡ None)

entry_id : Name → ℕ
entry_id (name.Entry id) = id.0
entry_id (name.Part f l i) = f.0
entry_id (name.Block f p) = f.0

-- a part of the file's version tree
abbrev pub IsPart : FileId → Name → Type 0
IsPart file n = (l : ℕ) × (i : ℕ) × (n ≡ name.Part file l i) × (1 ≤ l) × Within 16 0 l i

-- a name that isn't the file's, or is no part at all
pub record IsKept (file : FileId) (new made : Shown) (n : Name) : Type 0 where
  pub outside : IsPartWithin file 16 0 n → ⊥
  pub entry : n ≡ name.Entry file → ⊥
  pub like : (m : Node) → IsLike (new n) m → IsOfOtherFile file n × IsLike (made n) m
  pub gone : IsNodeName n → new n ≡ None → made n ≡ None
  pub away : IsNodeName n → (made n ≡ new n) ⊎ IsOfOtherFile file n

like_some : (o : Option Unfolded) (m : Node) → IsLike o m → (u : Unfolded) × (o ≡ Some u) × (local u ≡ Some (local_of m))
like_some None m h = absurd h
like_some (Some u) m h = (u, refl, h)

local_named : (u : Unfolded) (m : Node) → local u ≡ Some (local_of m) → (n : Name) × (node_name u ≡ Some n) × IsNodeName n
local_named (Folder id label less more inside) m h = (name.Entry (id_of id), refl, tt)
local_named (Leaf id label less more size counter kept) m h = (name.Entry (id_of id), refl, tt)
local_named (Split f l i a b) m h = (name.Part (id_of f) l i, refl, tt)
local_named Absent m h = cc
local_named (Even v) m h = cc
local_named (Stored v bytes) m h = cc

-- what is like a node isn't a block
no_block : (t : Shown) (g : FileId) (p : ℕ) (m : Node) → IsTree t → IsLike (t (name.Block g p)) m → ⊥
no_block t g p m tree like =
    let u = like_some (t (name.Block g p)) m like in
    let n = local_named u.0 m u.2 in
    subst IsNodeName (tree.own (name.Block g p) n.0 u.0 u.1 n.1) n.2

none_at : (t : Shown) (file : FileId) (v : ℕ → ℕ) (l i : ℕ) → HasVersions t file v → (l ≡ 0) ⊎ (places < (i + 1) * 2 ^ l) → t (name.Part file l i) ≡ None
none_at t file v l i has (inr h) = has.outside l i h
none_at t file v l i has (inl z) = elim (cases_lt places ((i + 1) * 2 ^ l)) [
  | inl h ↦ has.outside l i h
  | inr h ↦ has.parts l i h ∙ none_of file.0 l i (folded v l i) (λ two. subst IsTwo (ap (λ l. folded v l i) z ∙ folded-zero v i) two)
]

like_none : (o : Option Unfolded) (m : Node) → o ≡ None → IsLike o m → ⊥
like_none o m e h = let L : Option Unfolded → Type 0 = λ o. IsLike o m in subst L e h

low_level : (l i : ℕ) → (i + 1) * 2 ^ l ≤ 65536 → l ≤ 16
low_level l i h = elim (cases_lt 16 l) [
  | inl a ↦ (let b : 2 ^ 17 ≤ 2 ^ l = pow_mono a in let k : 131072 ≤ 2 ^ l = b in absurd (omega (arith, h, k)))
  | inr a ↦ a
]

like_kept : (f : ℕ) (s : Unfolded) (o : Option Unfolded) (m : Node) → ((u : Unfolded) → o ≡ Some u → node_name u ≡ Some (name.Entry (id_of f)) → ⊥) → IsLike o m → IsLike (option_map (reversioned f s) o) m
like_kept f s None m out h = h
like_kept f s (Some u) m out h = local_kept f s u (out u refl) ∙ h

module _ (new made : Shown) (file : FileId) (v w : ℕ → ℕ) (tree : IsTree new) (has : HasVersions new file v) (rev : Reversions new made file w) where
  -- a part of the file that there can't be
  kept_none : (l i : ℕ) → (l ≡ 0) ⊎ (places < (i + 1) * 2 ^ l) → IsKept file new made (name.Part file l i)
  kept_none l i h =
      let a = none_at new file v l i has h in
      let b = none_at made file w l i rev.versions h in
      record {
        outside = λ q. elim h [ inl z ↦ absurd (omega (arith, z, q.2)) | inr z ↦ (let f = within_fits l i q.1 in absurd (omega (arith, z, f))) ];
        entry = λ e. cc;
        like = λ m like. absurd (like_none (new (name.Part file l i)) m a like);
        gone = λ is e. b;
        away = λ is. inl (b ∙ sym a);
      }

  -- another name
  kept_other : (n : Name) → IsOfOtherFile file n → (n ≡ name.Entry file → ⊥) → (IsPartWithin file 16 0 n → ⊥) → IsKept file new made n
  kept_other n other entry outside = record {
    outside = outside;
    entry = entry;
    like = λ m like. (
      other,
      (let L : Option Unfolded → Type 0 = λ o. IsLike o m in
          subst L (sym (rev.others n other)) (like_kept file.0 (whole file.0 w) (new n) m (λ u at named. entry (sym (tree.own n (name.Entry file) u at named))) like)),
    );
    gone = λ is e. rev.others n other ∙ ap (option_map (reversioned file.0 (whole file.0 w))) e;
    away = λ is. inr other;
  }

  kept_block : (g : FileId) (p : ℕ) → IsKept file new made (name.Block g p)
  kept_block g p = record {
    outside = λ q. q;
    entry = λ e. cc;
    like = λ m like. absurd (no_block new g p m tree like);
    gone = λ is. absurd is;
    away = λ is. absurd is;
  }

  -- each name is the file's entry, one of its parts, or is kept
  pub kind : (n : Name) → (n ≡ name.Entry file) ⊎ (IsPart file n ⊎ IsKept file new made n)
  unfolding entry_id
  kind (name.Entry i) = by (i.0 == file.0) refl
    where
      by : (b : Bool) → (i.0 == file.0) ≡ b → (name.Entry i ≡ name.Entry file) ⊎ (IsPart file (name.Entry i) ⊎ IsKept file new made (name.Entry i))
      by true e = inl (ap (λ n. name.Entry (id_of n)) (eqb-true i.0 file.0 e))
      by false e = inr (inr (kept_other (name.Entry i) tt (λ q. eqb-false i.0 file.0 e (ap entry_id q)) (λ q. q)))
  kind (name.Part g l i) = by (g.0 == file.0) refl
    where
      level : (l : ℕ) → IsPart file (name.Part file l i) ⊎ IsKept file new made (name.Part file l i)
      level zero = inr (kept_none 0 i (inl refl))
      level (suc k) = elim (cases_lt places ((i + 1) * 2 ^ suc k)) [
        | inl h ↦ inr (kept_none (suc k) i (inr h))
        | inr h ↦ inl (suc k, i, refl, omega arith, record { level = low_level (suc k) i h; from = omega arith; to = h })
      ]

      by : (b : Bool) → (g.0 == file.0) ≡ b → (name.Part g l i ≡ name.Entry file) ⊎ (IsPart file (name.Part g l i) ⊎ IsKept file new made (name.Part g l i))
      by true e =
          let q : g ≡ file = ap id_of (eqb-true g.0 file.0 e) in
          let K : FileId → Type 0 = λ g. IsPart file (name.Part g l i) ⊎ IsKept file new made (name.Part g l i) in
          inr (subst K (sym q) (level l))
      by false e = inr (inr (kept_other (name.Part g l i) (λ q. eqb-false g.0 file.0 e (ap (λ (g : FileId). g.0) q)) (λ q. cc) (λ q. eqb-false g.0 file.0 e (ap (λ (g : FileId). g.0) q.0))))
  kind (name.Block g p) = inr (inr (kept_block g p))

seen_there : (d : Drafted) (c : Resident) (n : Name) (m : Node) (x : Option (Option Node)) → known d c n ≡ x → there_by x ≡ None → seen d c n ≡ Some m → ⊥
seen_there d c n m x ke none at = let e : seen d c n ≡ None = ap there_by ke ∙ none in cc

pub seen_same : (d e : Drafted) (c : Resident) (n : Name) → drafted e n ≡ drafted d n → seen e c n ≡ seen d c n
seen_same d e c n h = ap (λ o. there_by (known_by o (held_node c n))) h

known_same : (d e : Drafted) (c : Resident) (n : Name) → drafted e n ≡ drafted d n → known e c n ≡ known d c n
known_same d e c n h = ap (λ o. known_by o (held_node c n)) h

above_same : (d e : Drafted) (c : Resident) (n : Name) → drafted e n ≡ drafted d n → parent_after e c n ≡ parent_after d c n
above_same d e c n h = ap (λ o. parent_by o (held_node c n)) h

body_hash : (s : Side) (id : FileId) (b : Body) (k : Name) (h : Hash32) → BodyHolds id (body_with s b) k h → BodyHolds id b k h ⊎ SideHolds (top_part id) s k h
body_hash s id (Dir top) k h holds = inl holds
body_hash s id (File n m versions) k h holds = inr holds

side_name : (f l i : ℕ) (g : Fold) → IsTwo g → node_name (unfolded_side f l i g) ≡ Some (name.Part (id_of f) l i)
side_name f l i (One v) h = absurd h
side_name f l i (Two a b) h = refl

-- the part over a part, in a table that has it
over_part : (t : Shown) (file : FileId) (w : ℕ → ℕ) (l i j : ℕ) → part_of file.0 (suc l) j (folded w (suc l) j) ≡ t (name.Part file (suc l) j) → (i ≡ 2 * j) ⊎ (i ≡ 2 * j + 1) → IsTwo (folded w l i) → IsParent t (name.Part file (suc l) j) (name.Part file l i)
over_part t file w l i j live (inl e) two =
    let two' = subst (λ i. IsTwo (folded w l i)) e two in
    let g = two_above w l j (inl two') in
    let z : suc l - 1 ≡ l = omega arith in
    subst (λ i. IsParent t (name.Part file (suc l) j) (name.Part file l i)) (sym e) (record {
      parent = unfolded_side file.0 (suc l) j (Two (folded w l (2 * j)) (folded w l (2 * j + 1)));
      child = unfolded_side file.0 (suc l - 1) (2 * j) (folded w l (2 * j));
      live = sym live ∙ ap (part_of file.0 (suc l) j) g;
      above = inl refl;
      named = side_name file.0 (suc l - 1) (2 * j) (folded w l (2 * j)) two' ∙ ap (λ k. Some (name.Part file k (2 * j))) z;
    })
over_part t file w l i j live (inr e) two =
    let two' = subst (λ i. IsTwo (folded w l i)) e two in
    let g = two_above w l j (inr two') in
    let z : suc l - 1 ≡ l = omega arith in
    subst (λ i. IsParent t (name.Part file (suc l) j) (name.Part file l i)) (sym e) (record {
      parent = unfolded_side file.0 (suc l) j (Two (folded w l (2 * j)) (folded w l (2 * j + 1)));
      child = unfolded_side file.0 (suc l - 1) (2 * j + 1) (folded w l (2 * j + 1));
      live = sym live ∙ ap (part_of file.0 (suc l) j) g;
      above = inr refl;
      named = side_name file.0 (suc l - 1) (2 * j + 1) (folded w l (2 * j + 1)) two' ∙ ap (λ k. Some (name.Part file k (2 * j + 1))) z;
    })

-- a part that is seen can't stand under one that is missing
orphan : (old : Shown) (e : Drafted) (c : Resident) (n q : Name) (m : Node) (o : Option Change) (r : Option Held) → Pictures old c → IsTree old → IsParent old q n → held_node c q ≡ None → held_node c n ≡ r → there_by (known_by o r) ≡ Some m
    → ((y : Change) → o ≡ Some y → IsSome r ⊎ (old n ≡ None)) → ⊥
orphan old e c n q m o (Some h) pic tree parent none he at resident =
    let p = (pic.parents n q h he parent).1 in
    let P : Option Held → Type 0 = λ o. IsSome o in
    let f : false ≡ true = subst P none p in cc
orphan old e c n q m (Some y) None pic tree parent none he at resident = elim (resident y refl) [
  | inl r ↦ (let f : false ≡ true = r in cc)
  | inr r ↦ (let live = tree.below q n parent.parent parent.child parent.live parent.above parent.named in cc)
]
orphan old e c n q m None None pic tree parent none he at resident = cc

half_of : (l i j : ℕ) → (i ≡ 2 * j) ⊎ (i ≡ 2 * j + 1) → 2 * j ≤ i
half_of l i j (inl e) = omega (arith, e)
half_of l i j (inr e) = omega (arith, e)

module _ (old new made : Shown) (file : FileId) (v w : ℕ → ℕ) (d e : Drafted) (c : Resident) (s : Side) (x : EntryFields) (pic : Versioned old new file v d c) (tree : IsTree made) (rev : Reversions new made file w) (wr : IsWritten old d e c file w s x) where
  by_kind : (P : Name → Type 0) → P (name.Entry file) → ((l i : ℕ) → 1 ≤ l → Within 16 0 l i → P (name.Part file l i)) → ((n : Name) → IsKept file new made n → P n) → (n : Name) → P n
  by_kind P top part kept n = elim (kind new made file v w pic.is pic.versions rev n) [
    | inl h ↦ subst P (sym h) top
    | inr h ↦ elim h [
      | inl h ↦ subst P (sym h.2) (part h.0 h.1 h.3 h.4)
      | inr h ↦ kept n h
    ]
  ]

  same : (n : Name) → IsKept file new made n → drafted e n ≡ drafted d n
  same n k = wr.kept n k.outside k.entry

  was : (n : Name) (m : Node) → IsKept file new made n → seen e c n ≡ Some m → seen d c n ≡ Some m
  was n m k at = sym (seen_same d e c n (same n k)) ∙ at

  is_other : (n : Name) (m : Node) → IsKept file new made n → seen e c n ≡ Some m → IsOfOtherFile file n
  is_other n m k at = (k.like m (pic.drafts.nodes n m (was n m k at))).0

  nodes_after : (n : Name) (m : Node) → seen e c n ≡ Some m → IsLike (made n) m
  nodes_after = by_kind (λ n. (m : Node) → seen e c n ≡ Some m → IsLike (made n) m)
      (λ m at.
      let q : node.Entry (entry_with s x) ≡ m = (let z = sym wr.is ∙ at in cc) in
      let L : Option Unfolded → Node → Type 0 = λ o m. IsLike o m in
      subst (L (made (name.Entry file))) q (subst (λ o. L o (node.Entry (entry_with s x))) (sym (rev.others (name.Entry file) tt))
      (top_set file.0 (whole file.0 v) (folded w 16 0) s x (new (name.Entry file)) pic.versions.entry (pic.drafts.nodes (name.Entry file) (node.Entry x) wr.was) wr.side.like)))
      (λ l i some h m at.
      let L : Option Unfolded → Type 0 = λ o. IsLike o m in
      subst L (sym (rev.versions.parts l i (within_fits l i h))) (like_with file l i (folded w l i) m ((wr.under.parts l i some h).node m at)))
      (λ n k m at. (k.like m (pic.drafts.nodes n m (was n m k at))).1)

  hashes_after : (n : Name) (k : Name) (m : Node) (h : Hash32) → seen e c n ≡ Some m → Holds m k h → WasHash old c k h
  hashes_after = by_kind (λ n. (k : Name) (m : Node) (h : Hash32) → seen e c n ≡ Some m → Holds m k h → WasHash old c k h)
      (λ k m h at holds.
      let q : m ≡ node.Entry (entry_with s x) = (let z = sym wr.is ∙ at in cc) in
      let H : Node → Type 0 = λ m. Holds m k h in
      let f = λ (hs : Holds (node.Entry x) k h). pic.drafts.hashes (name.Entry file) k (node.Entry x) h wr.was hs in
      elim (subst H q holds) as (λ _. WasHash old c k h) [
        | inl a ↦ f (inl a)
        | inr a ↦ elim a as (λ _. WasHash old c k h) [
          | inl b ↦ f (inr (inl b))
          | inr b ↦ elim (body_hash s x.id x.body k h b) as (λ _. WasHash old c k h) [
            | inl g ↦ f (inr (inr g))
            | inr g ↦ side_true old c file w 16 0 (top_part x.id) k s h (ap (λ f. name.Part f 16 0) wr.id) wr.side g
          ]
        ]
      ])
      (λ l i some h k m x at holds. (wr.under.parts l i some h).hashes m k x at holds)
      (λ n kept k m h at holds. pic.drafts.hashes n k m h (was n m kept at) holds)

  -- what is no part of the file is seen as before
  seen_after : (p : Name) → IsOfOtherFile file p → IsSome (seen d c p) → IsSome (seen e c p)
  seen_after = by_kind (λ p. IsOfOtherFile file p → IsSome (seen d c p) → IsSome (seen e c p))
      (λ o there. is_there (seen e c (name.Entry file)) (node.Entry (entry_with s x)) wr.is)
      (λ l i some h o there. absurd (o refl))
      (λ n k o there. (let P : Option Node → Type 0 = λ o. IsSome o in subst P (sym (seen_same d e c n (same n k))) there))

  missing_over : (l i j : ℕ) (m : Node) (k : Option (Option Node)) → known e c (name.Part file (suc l) j) ≡ k → 1 ≤ l → Within 16 0 l i → Within 16 0 (suc l) j → (i ≡ 2 * j) ⊎ (i ≡ 2 * j + 1) → IsTwo (folded w l i) → IsTwo (folded w (suc l) j) → seen e c (name.Part file l i) ≡ Some m
      → IsSome (there_by k)
  missing_over l i j m (Some (Some n)) ke some h up half two twos at = refl
  missing_over l i j m (Some None) ke some h up half two twos at = absurd ((wr.under.parts (suc l) j (omega arith) up).gone ke twos)
  missing_over l i j m None ke some h up half two twos at =
      let q = wr.under.parts (suc l) j (omega arith) up in
      let n = wr.under.parts l i some h in
      let parent = over_part old file w l i j (q.away ke) half two in
      absurd (orphan old e c (name.Part file l i) (name.Part file (suc l) j) m (drafted e (name.Part file l i)) (held_node c (name.Part file l i)) pic.drafts.before pic.was parent (unknown e c (name.Part file (suc l) j) ke).1 refl at n.resident)

  -- the part or entry over a part that is seen is seen
  over_seen : (l i : ℕ) (q : Name) (m : Node) → 1 ≤ l → Within 16 0 l i → IsDirectlyOver file l i q → IsTwo (folded w l i) → seen e c (name.Part file l i) ≡ Some m → IsSome (seen e c q)
  over_seen l i q m some h (inl o) two at = let P : Name → Type 0 = λ q. IsSome (seen e c q) in subst P (sym o.1) (is_there (seen e c (name.Entry file)) (node.Entry (entry_with s x)) wr.is)
  over_seen l i q m some h (inr o) two at =
      let j = o.0 in
      let P : Name → Type 0 = λ q. IsSome (seen e c q) in
      let fits = fits_up l i j o.1 (half_of l i j o.3) (within_fits l i h) in
      let up : Within 16 0 (suc l) j = record { level = omega (arith, o.1); from = omega arith; to = fits } in
      let two' = elim o.3 as (λ _. IsTwo (folded w l (2 * j)) ⊎ IsTwo (folded w l (2 * j + 1))) [ inl z ↦ inl (subst (λ k. IsTwo (folded w l k)) z two) | inr z ↦ inr (subst (λ k. IsTwo (folded w l k)) z two) ] in
      let twos = subst IsTwo (sym (two_above w l j two')) tt in
      subst P (sym o.2) (missing_over l i j m (known e c (name.Part file (suc l) j)) refl some h up o.3 two twos at)

  part_two : (l i : ℕ) (m : Node) → 1 ≤ l → Within 16 0 l i → seen e c (name.Part file l i) ≡ Some m → IsTwo (folded w l i)
  part_two l i m some h at = two_node file l i (folded w l i) m ((wr.under.parts l i some h).node m at)

  parents_after : (n p : Name) (m : Node) → seen e c n ≡ Some m → IsParent made p n → (parent_after e c n ≡ Some p) × IsSome (seen e c p)
  parents_after = by_kind (λ n. (p : Name) (m : Node) → seen e c n ≡ Some m → IsParent made p n → (parent_after e c n ≡ Some p) × IsSome (seen e c p))
      (λ p m at is.
      let b = parent_back new made file w p (name.Entry file) tree rev tt is in
      let g = pic.drafts.parents (name.Entry file) p (node.Entry x) wr.was b in
      (wr.over ∙ g.0, seen_after p (other_parent new file v p (name.Entry file) pic.is pic.versions b tt) g.1))
      (λ l i some h p m at is.
      let two = part_two l i m some h at in
      let o = (wr.under.parts l i some h).over m at in
      let q = part_parent made file w l i o.0 rev.versions o.2 (within_fits l i h) two in
      let z : p ≡ o.0 = tree.once (name.Part file l i) p o.0 is q in
      let P : Name → Type 0 = λ q. IsSome (seen e c q) in
      (o.1 ∙ ap Some (sym z), subst P (sym z) (over_seen l i o.0 m some h o.2 two at)))
      (λ n k p m at is.
      let other = is_other n m k at in
      let b = parent_back new made file w p n tree rev other is in
      let g = pic.drafts.parents n p m (was n m k at) b in
      (above_same d e c n (same n k) ∙ g.0, seen_after p (other_parent new file v p n pic.is pic.versions b other) g.1))

  was_tied : (n p : Name) (m : Node) → seen d c n ≡ Some m → parent_after d c n ≡ Some p → IsParent new p n
  was_tied n p m at up = elim (pic.drafts.tied n p m at up) [ inl i ↦ i | inr below ↦ absurd below ]

  tied_after : (n p : Name) (m : Node) → seen e c n ≡ Some m → parent_after e c n ≡ Some p → IsParent made p n
  tied_after = by_kind (λ n. (p : Name) (m : Node) → seen e c n ≡ Some m → parent_after e c n ≡ Some p → IsParent made p n)
      (λ p m at is. parent_forth new made file v w p (name.Entry file) pic.is pic.versions rev tt (was_tied (name.Entry file) p (node.Entry x) wr.was (sym wr.over ∙ is)))
      (λ l i some h p m at is.
      let o = (wr.under.parts l i some h).over m at in
      let z : o.0 ≡ p = (let a = sym o.1 ∙ is in cc) in
      let P : Name → Type 0 = λ q. IsParent made q (name.Part file l i) in
      subst P z (part_parent made file w l i o.0 rev.versions o.2 (within_fits l i h) (part_two l i m some h at)))
      (λ n k p m at is. parent_forth new made file v w p n pic.is pic.versions rev (is_other n m k at) (was_tied n p m (was n m k at) (sym (above_same d e c n (same n k)) ∙ is)))

  gone_after : (n : Name) → IsNodeName n → known e c n ≡ Some None → made n ≡ None
  gone_after = by_kind (λ n. IsNodeName n → known e c n ≡ Some None → made n ≡ None)
      (λ is ke. absurd (seen_there e c (name.Entry file) (node.Entry (entry_with s x)) (Some None) ke refl wr.is))
      (λ l i some h is ke. rev.versions.parts l i (within_fits l i h) ∙ none_of file.0 l i (folded w l i) ((wr.under.parts l i some h).gone ke))
      (λ n k is ke. k.gone is (pic.drafts.gone n is (sym (known_same d e c n (same n k)) ∙ ke)))

  stays_by : (n : Name) (o : Option Unfolded) → new n ≡ o → known d c n ≡ None → option_map (reversioned file.0 (whole file.0 w)) o ≡ o
  stays_by n None at ke = refl
  stays_by n (Some u) at ke =
      let K : Name → Type 0 = λ n. known d c n ≡ None in
      let N : Name → Type 0 = λ n. new n ≡ Some u in
      ap Some (unchanged old new d c file (whole file.0 w) pic.drafts pic.is (is_there (seen d c (name.Entry file)) (node.Entry x) wr.was) u
      (λ m named. (let q = pic.is.own n m u at named in (subst N (sym q) at, subst K (sym q) ke))))

  away_after : (n : Name) → IsNodeName n → known e c n ≡ None → made n ≡ old n
  away_after = by_kind (λ n. IsNodeName n → known e c n ≡ None → made n ≡ old n)
      (λ is ke. absurd (seen_there e c (name.Entry file) (node.Entry (entry_with s x)) None ke refl wr.is))
      (λ l i some h is ke. rev.versions.parts l i (within_fits l i h) ∙ (wr.under.parts l i some h).away ke)
      (λ n k is ke.
      let kd = sym (known_same d e c n (same n k)) ∙ ke in
      elim (k.away is) [
        | inl h ↦ h ∙ pic.drafts.away n is kd
        | inr h ↦ rev.others n h ∙ stays_by n (new n) refl kd ∙ pic.drafts.away n is kd
      ])

  resident_after : (n : Name) (y : Change) → drafted e n ≡ Some y → IsSome (held_node c n) ⊎ (old n ≡ None)
  resident_after = by_kind (λ n. (y : Change) → drafted e n ≡ Some y → IsSome (held_node c n) ⊎ (old n ≡ None))
      wr.resident
      (λ l i some h. (wr.under.parts l i some h).resident)
      (λ n k y at. pic.drafts.resident n y (sym (same n k) ∙ at))

  -- the draft pictures the table with the new versions
  pub drafts_after : Drafts old made e c
  drafts_after = record {
    before = pic.drafts.before;
    nodes = nodes_after;
    hashes = λ n k m h. hashes_after n k m h;
    parents = parents_after;
    tied = λ n p m at up. inl (tied_after n p m at up);
    hangs = λ n p m at below. absurd below;
    gone = gone_after;
    away = away_after;
    resident = resident_after;
    out = tt;
  }

-- ---- what the last step of a plan writes

pub file_seen : (o : Option Node) → IsFileNode o → (x : EntryFields) × (o ≡ Some (node.Entry x))
file_seen None h = absurd h
file_seen (Some (node.Part p)) h = absurd h
file_seen (Some (node.Entry x)) h = (x, refl)

body_same : (b : Body) (s : Side) → side_of_body b ≡ Some s → body_with s b ≡ b
body_same (Dir top) s e = cc
body_same (File n k versions) s e = let q : versions ≡ s = cc in ap (File n k) (sym q)

entry_same : (x : EntryFields) (s : Side) → side_of_body x.body ≡ Some s → entry_with s x ≡ x
entry_same x s e = ap (λ b. record x { body = b }) (body_same x.body s e)

entry_resident : (r : Option Held) (o : Option Change) (m : Node) (A : Type 0) → there_by (known_by o r) ≡ Some m → ((y : Change) → o ≡ Some y → IsSome r ⊎ A) → IsSome r ⊎ A
entry_resident r (Some y) m A at h = h y refl
entry_resident (Some h) None m A at f = inl refl
entry_resident None None m A at f = cc

module _ (old new : Shown) (file : FileId) (v w : ℕ → ℕ) (d d1 : Drafted) (c : Resident) (s t : Side) (pic : Versioned old new file v d c) (x : EntryFields) (was : seen d c (name.Entry file) ≡ Some (node.Entry x)) (is : side_seen (seen d c (name.Entry file)) ≡ Some s)
    (frame : DifferWithin d d1 file 16 0) (made : Under old w d1 c file 16 0 × SideAt old c file w 16 0 t) where
  body_is : side_of_body x.body ≡ Some s
  body_is = sym (ap side_seen was) ∙ is

  id_is : x.id ≡ file
  id_is = ap id_of (like_top (new (name.Entry file)) file.0 (folded v 16 0) x s pic.versions.entry (pic.drafts.nodes (name.Entry file) (node.Entry x) was) body_is).id_is

  entry_kept : drafted d1 (name.Entry file) ≡ drafted d (name.Entry file)
  entry_kept = frame (name.Entry file) (λ q. q)

  resident_is : IsSome (held_node c (name.Entry file)) ⊎ (old (name.Entry file) ≡ None)
  resident_is = entry_resident (held_node c (name.Entry file)) (drafted d (name.Entry file)) (node.Entry x) (old (name.Entry file) ≡ None) was (pic.drafts.resident (name.Entry file))

  -- the side of all versions stayed
  pub left : t ≡ s → IsWritten old d d1 c file w t x
  left e = record {
    under = made.0;
    side = made.1;
    kept = λ n out entry. frame n out;
    was = was;
    id = id_is;
    is = seen_same d d1 c (name.Entry file) entry_kept ∙ was ∙ ap (λ x. Some (node.Entry x)) (sym (entry_same x t (body_is ∙ ap Some (sym e))));
    over = above_same d d1 c (name.Entry file) entry_kept;
    resident = λ y at. resident_is;
  }

  -- the side of all versions was set in the entry
  pub set : (e : Drafted) → ((n : Name) → same_name (name.Entry file) n ≡ false → drafted e n ≡ drafted d1 n)
      → ((x : EntryFields) → seen d1 c (name.Entry file) ≡ Some (node.Entry x) → drafted e (name.Entry file) ≡ Some (set_to (parent_after d1 c (name.Entry file)) (node.Entry (entry_with t x)))) → IsWritten old d e c file w t x
  set e same entry =
      let at = entry x (seen_same d d1 c (name.Entry file) entry_kept ∙ was) in
      record {
        under = under_frame old w d1 e c file 16 0 (λ k j h. same (name.Part file k j) refl) made.0;
        side = made.1;
        kept = λ n out isnt. same n (not_same (name.Entry file) n (λ q. isnt (sym q))) ∙ frame n out;
        was = was;
        id = id_is;
        is = ap (λ o. there_by (known_by o (held_node c (name.Entry file)))) at;
        over = ap (λ o. parent_by o (held_node c (name.Entry file))) at ∙ above_same d d1 c (name.Entry file) entry_kept;
        resident = λ y z. resident_is;
      }

-- ---- the entry, whatever is pictured

file_kept : (x : EntryFields) (s : Side) (o r : Option Node) → o ≡ Some (node.Entry x) → IsFileNode o → r ≡ Some (node.Entry (entry_with s x)) → IsFileNode r
file_kept x s o r oe h re = subst IsFileNode (sym re) (by x.body (subst IsFileNode oe h))
  where
    by : (b : Body) → IsFileBody b → IsFileBody (body_with s b)
    by (Dir top) h = h
    by (File n k versions) h = tt

module _ (file : FileId) (d d1 : Drafted) (c : Resident) (s t : Side) (is : side_seen (seen d c (name.Entry file)) ≡ Some s) (frame : DifferWithin d d1 file 16 0) where
  pub left_entry : t ≡ s → (x : EntryFields) → seen d c (name.Entry file) ≡ Some (node.Entry x) → HasEntryWith d1 c file x
  left_entry e x was =
      let b : side_of_body x.body ≡ Some s = sym (ap side_seen was) ∙ is in
      (s, seen_same d d1 c (name.Entry file) (frame (name.Entry file) (λ q. q)) ∙ was ∙ ap (λ x. Some (node.Entry x)) (sym (entry_same x s b)))

  pub set_entry : (e : Drafted) → ((x : EntryFields) → seen d1 c (name.Entry file) ≡ Some (node.Entry x) → drafted e (name.Entry file) ≡ Some (set_to (parent_after d1 c (name.Entry file)) (node.Entry (entry_with t x))))
      → (x : EntryFields) → seen d c (name.Entry file) ≡ Some (node.Entry x) → HasEntryWith e c file x
  set_entry e entry x was =
      let at = entry x (seen_same d d1 c (name.Entry file) (frame (name.Entry file) (λ q. q)) ∙ was) in
      (t, ap (λ o. there_by (known_by o (held_node c (name.Entry file)))) at)

pub file_after : (file : FileId) (d e : Drafted) (c : Resident) → IsFileNode (seen d c (name.Entry file)) → ((x : EntryFields) → seen d c (name.Entry file) ≡ Some (node.Entry x) → HasEntryWith e c file x) → IsFileNode (seen e c (name.Entry file))
file_after file d e c h f =
    let x = file_seen (seen d c (name.Entry file)) h in
    let r = f x.0 x.1 in
    file_kept x.0 r.0 (seen d c (name.Entry file)) (seen e c (name.Entry file)) x.1 h r.1

pub others_after : (file : FileId) (d d1 e : Drafted) → DifferWithin d d1 file 16 0 → ((n : Name) → same_name (name.Entry file) n ≡ false → drafted e n ≡ drafted d1 n)
    → (n : Name) → (IsPartWithin file 16 0 n → ⊥) → (n ≡ name.Entry file → ⊥) → drafted e n ≡ drafted d n
others_after file d d1 e frame same n out isnt = same n (not_same (name.Entry file) n (λ q. isnt (sym q))) ∙ frame n out
