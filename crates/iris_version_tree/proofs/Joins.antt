-- One part, when its halves are set.
use Rattle.std.proofs.Common.{◌≡◌, ◌==◌, ◌⊎◌, ◌+◌, ◌-◌, ◌*◌, inl, inr, ℕ, suc, Bool, true, false, cond, Option, Some, None, refl, ap, sym, ◌∙◌, subst, arith}
use Rattle.std.specs.Prelude.{IsSome}
use Rattle.std.proofs.lemmas.Bool.{eqb-true, eq-eqb}
use Rattle.iris_name.specs.Names.{same_name}
use Rattle.iris_name.specs.NameLaws.{same_name-refl}
use Rattle.iris_name.specs.declared.name.FileId.{FileId}
use Rattle.iris_name.specs.declared.name.Hash32.{Hash32}
use Rattle.iris_name.specs.declared.name.Name.{Name}
use Rattle.iris_name.specs.declared.name.Name.TheVariants as name
use Rattle.iris_node.specs.declared.node.Side.{Side}
use Rattle.iris_node.specs.declared.node.Side.TheVariants.{Fold as Same, Below}
use Rattle.iris_node.specs.declared.node.Node.{Node}
use Rattle.iris_node.specs.declared.node.Node.TheVariants as node
use Rattle.iris_node.specs.Fields.{PartFields}
use Rattle.iris_node.specs.Rules.{AreUnequalSides as Apart}
use Rattle.iris_shape.specs.Folds.{Fold, One, Two, folded}
use Rattle.iris_shape.specs.FoldLaws.{Differ}
use Rattle.iris_shape.specs.Sides.{part_of}
use Rattle.iris_node.specs.Unfolded.{Unfolded}
use Rattle.iris_shape.proofs.FoldProofs.{folded_halves}
use Rattle.iris_cache.specs.declared.held.Held.{Held}
use Rattle.iris_cache.specs.declared.draft.Change.{Change}
use Rattle.iris_cache.specs.Rehash.{low_part, high_part}
use Rattle.iris_cache.specs.Resident.{Resident, held_node}
use Rattle.iris_cache.specs.Drafted.{Drafted, drafted, known_by, set_to, taken_away}
use Rattle.iris_node.specs.Trees.{Shown}
use Rattle.iris_cache.specs.Pictures.{Pictures, IsLike, Holds, SideHolds, IsHashOf, WasHash}
use Rattle.iris_version_tree.specs.Sides.{common_of, IsBelowSide}
use Rattle.iris_version_tree.specs.Reached.{IsTwo, IsSideOf, IsDirectlyOver}
use Rattle.iris_version_tree.specs.Ranges.{IsNodeWith, AtPart, SideAt, IsKnownBelow}
use Rattle.iris_version_tree.proofs.Tables.{same_one}

-- ---- folds of halves

pub one_side : (g : Fold) (u : ℕ) → g ≡ One u → IsSideOf g (Same u)
one_side g u e = let P : Fold → Type 0 = λ g. IsSideOf g (Same u) in subst P (sym e) refl

differ_ones : (g h : Fold) (u : ℕ) → g ≡ One u → h ≡ One u → Differ g h → ⊥
differ_ones (One a) (One b) u x y d = let p : a ≡ u = cc in let q : b ≡ u = cc in d (p ∙ sym q)
differ_ones (One a) (Two b c) u x y d = cc
differ_ones (Two a b) h u x y d = cc

pub join_ones : (w : ℕ → ℕ) (k l i u : ℕ) → l ≡ suc k → IsSideOf (folded w k (2 * i)) (Same u) → IsSideOf (folded w k (2 * i + 1)) (Same u) → folded w l i ≡ One u
join_ones w k l i u e a b =
    let x = same_one (folded w k (2 * i)) u a in
    let y = same_one (folded w k (2 * i + 1)) u b in
    ap (λ l. folded w l i) e ∙ elim (folded_halves w k i) [
      | inl d ↦ absurd (differ_ones (folded w k (2 * i)) (folded w k (2 * i + 1)) u x y d.0)
      | inr o ↦ o.3 ∙ (sym o.1 ∙ x)
    ]

one_same : (g : Fold) (s : Side) (u : ℕ) → g ≡ One u → IsSideOf g s → s ≡ Same u
one_same (One v) (Same w) u e h = let q : v ≡ u = cc in ap Same (h ∙ q)
one_same (One v) (Below x) u e h = absurd h
one_same (Two a b) s u e h = cc

common_same : (u : ℕ) → common_of (Same u) (Same u) ≡ Some u
common_same u = ap (λ b. cond b (Some u) None) (eq-eqb u u refl)

pub join_apart : (w : ℕ → ℕ) (k l i : ℕ) (low high : Side) → l ≡ suc k → common_of low high ≡ None → IsSideOf (folded w k (2 * i)) low → IsSideOf (folded w k (2 * i + 1)) high
    → folded w l i ≡ Two (folded w k (2 * i)) (folded w k (2 * i + 1))
join_apart w k l i low high e none a b =
    ap (λ l. folded w l i) e ∙ elim (folded_halves w k i) [
      | inl d ↦ d.1
      | inr o ↦ (let x = one_same (folded w k (2 * i)) low o.0 o.1 a in
          let y = one_same (folded w k (2 * i + 1)) high o.0 o.2 b in
          let c : common_of low high ≡ Some o.0 = ap (λ s. common_of s high) x ∙ ap (common_of (Same o.0)) y ∙ common_same o.0 in cc)
    ]

common-fold_by : (x y u : ℕ) (t : Bool) → (x == y) ≡ t → cond t (Some x) None ≡ Some u → (Same x ≡ Same u) × (Same y ≡ Same u)
common-fold_by x y u true e h = let p : x ≡ u = cc in let q : y ≡ u = sym (eqb-true x y e) ∙ p in (ap Same p, ap Same q)
common-fold_by x y u false e h = cc

pub common-fold : (a b : Side) (u : ℕ) → common_of a b ≡ Some u → (a ≡ Same u) × (b ≡ Same u)
common-fold (Same x) (Same y) u h = common-fold_by x y u _ refl h
common-fold (Same x) (Below b) u h = cc
common-fold (Below a) s u h = cc

-- two sides without a common version may be halves of a part
pub common-apart : (a b : Side) → common_of a b ≡ None → Apart a b
common-apart (Same x) (Same y) h = λ e. let c : common_of (Same x) (Same y) ≡ Some x = ap (λ y. common_of (Same x) (Same y)) (sym e) ∙ common_same x in let q : Some x ≡ None = sym c ∙ h in cc
common-apart (Same x) (Below b) h = tt
common-apart (Below a) s h = tt

-- ---- what stands at a part's name

no_node : (file : FileId) (l i x : ℕ) (n : Node) → IsNodeWith file l i (One x) n → ⊥
no_node file l i x (node.Entry e) h = h
no_node file l i x (node.Part p) h = h.halves

module _ (old : Shown) (c : Resident) (file : FileId) (l i : ℕ) (w : Option Held) where
  -- where a fold is even, nothing is seen, so another version may stand there
  pub at_even : (x u : ℕ) (o : Option Change) → AtPart old c file l i (One x) o w → AtPart old c file l i (One u) o w
  at_even x u o at = record {
    node = λ n e. absurd (no_node file l i x n (at.node n e));
    hashes = at.hashes;
    over = at.over;
    gone = λ e two. two;
    away = at.away;
    resident = at.resident;
  }

  resident_by : (g : Fold) (o : Option Change) (w : Option Held) → ((x : Change) → o ≡ Some x → IsSome w ⊎ (old (name.Part file l i) ≡ None)) → (known_by o w ≡ None → part_of file.0 l i g ≡ old (name.Part file l i)) → (IsTwo g → IsSome (known_by o w))
      → IsSome w ⊎ (old (name.Part file l i) ≡ None)
  resident_by g (Some x) w resident away there = resident x refl
  resident_by g None (Some h) resident away there = inl refl
  resident_by (One x) None None resident away there = inr (sym (away refl))
  resident_by (Two a b) None None resident away there = let e : false ≡ true = there tt in cc

  -- a part that is written is resident, or wasn't live before
  pub is_resident : (g : Fold) (o : Option Change) → AtPart old c file l i g o w → (IsTwo g → IsSome (known_by o w)) → IsSome w ⊎ (old (name.Part file l i) ≡ None)
  is_resident g o at there = resident_by g o w at.resident at.away there

  -- a part that was taken away
  pub at_removed : (g : Fold) (o : Option Change) (u : ℕ) → AtPart old c file l i g o w → (IsTwo g → IsSome (known_by o w)) → AtPart old c file l i (One u) (Some taken_away) w
  at_removed g o u at there = record {
    node = λ n e. cc;
    hashes = λ n m x e. cc;
    over = λ n e. cc;
    gone = λ e two. two;
    away = λ e. cc;
    resident = λ x e. is_resident g o at there;
  }

-- a hash that a half holds was its part's before
pub side_true : (old : Shown) (c : Resident) (file : FileId) (w : ℕ → ℕ) (k j : ℕ) (part m : Name) (s : Side) (x : Hash32) → part ≡ name.Part file k j → SideAt old c file w k j s → SideHolds part s m x → WasHash old c m x
side_true old c file w k j part m (Same u) x e at holds = absurd holds
side_true old c file w k j part m (Below h) x e at holds =
    let n : m ≡ name.Part file k j = holds.0 ∙ e in
    let P : Name → Type 0 = λ m. WasHash old c m x in
    subst P (sym n) (at.hash x (ap Below (sym holds.1)))

-- a part that was set
pub at_set : (old : Shown) (c : Resident) (file : FileId) (l i : ℕ) (w : Option Held) (g : Fold) (o : Option Change) (v : ℕ → ℕ) (k : ℕ) (q : Name) (low high : Side) → l ≡ suc k
    → AtPart old c file l i g o w → (IsTwo g → IsSome (known_by o w)) → IsDirectlyOver file l i q → SideAt old c file v k (2 * i) low → SideAt old c file v k (2 * i + 1) high
    → AtPart old c file l i (Two (folded v k (2 * i)) (folded v k (2 * i + 1))) (Some (set_to (Some q) (node.Part (record { file = file; level = l; index = i; low = low; high = high })))) w
at_set old c file l i w g o v k q low high e at there over a b =
    let p : PartFields = record { file = file; level = l; index = i; low = low; high = high } in
    let z : l - 1 ≡ k = omega (arith, e) in
    let P : Node → Type 0 = λ n. IsNodeWith file l i (Two (folded v k (2 * i)) (folded v k (2 * i + 1))) n in
    let own : P (node.Part p) = record { file_is = refl; level_is = refl; index_is = refl; halves = (a.like, b.like) } in
    let true_hashes = λ (m : Name) (x : Hash32) (h : Holds (node.Part p) m x).
    elim h as (λ _. WasHash old c m x) [
      | inl h ↦ side_true old c file v k (2 * i) (low_part p) m low x (ap (λ k. name.Part file k (2 * i)) z) a h
      | inr h ↦ side_true old c file v k (2 * i + 1) (high_part p) m high x (ap (λ k. name.Part file k (2 * i + 1)) z) b h
    ] in
    record {
      node = λ n is. (let q : node.Part p ≡ n = cc in subst P q own);
      hashes = λ n m x is h. (let q : n ≡ node.Part p = cc in true_hashes m x (subst (λ n. Holds n m x) q h));
      over = λ n is. (q, refl, over);
      gone = λ is two. cc;
      away = λ is. cc;
      resident = λ x is. is_resident old c file l i w g o at there;
    }

-- ---- how the drafts of a join follow from what it wrote

pub written : (d e : Drafted) (n : Name) (x : Change) → ((q : Name) → drafted e q ≡ cond (same_name n q) (Some x) (drafted d q)) → drafted e n ≡ Some x
written d e n x h = h n ∙ ap (λ t. cond t (Some x) (drafted d n)) (same_name-refl n)

-- a side that is a hash had its part seen or taken away
pub there_below : (g : Fold) (s : Side) (o : Option (Option Node)) → IsSideOf g s → IsKnownBelow s o → IsTwo g → IsSome o
there_below (One x) s o like there two = absurd two
there_below (Two a b) (Same u) o like there two = absurd like
there_below (Two a b) (Below h) o like there two = there

pub even_side : (old : Shown) (c : Resident) (file : FileId) (w : ℕ → ℕ) (l i u : ℕ) → folded w l i ≡ One u → SideAt old c file w l i (Same u)
even_side old c file w l i u e = record { like = one_side (folded w l i) u e; hash = λ h is. cc }

two_below : (g : Fold) (s : Side) → IsTwo g → IsBelowSide s → IsSideOf g s
two_below (One v) s two below = absurd two
two_below (Two a b) (Same w) two below = absurd below
two_below (Two a b) (Below h) two below = tt

not_live : (o : Option Unfolded) (h : Hash32) → o ≡ None → IsHashOf o h
not_live o h none = λ u e. let q = sym none ∙ e in cc

-- any hash of a name that isn't live was its hash
never_was : (old : Shown) (c : Resident) (n : Name) (x : Hash32) → Pictures old c → old n ≡ None → WasHash old c n x
never_was old c n x pic none = (
  λ settled. not_live (old n) x none,
  λ h g p at up above. absurd (subst (λ o. IsLike o h.node) none (pic.nodes n h at)),
)

-- the side of a part that was set
pub set_side : (old : Shown) (c : Resident) (file : FileId) (v w : ℕ → ℕ) (l i : ℕ) (was made : Side) → Pictures old c → IsTwo (folded w l i) → SideAt old c file v l i was → IsSome (held_node c (name.Part file l i)) ⊎ (old (name.Part file l i) ≡ None)
    → IsBelowSide made → (IsBelowSide was → made ≡ was) → ((h : Hash32) → made ≡ Below h → (IsBelowSide was → ⊥) → IsSome (held_node c (name.Part file l i)) → WasHash old c (name.Part file l i) h)
    → SideAt old c file w l i made
set_side old c file v w l i (Below x) made pic two at resident below kept hash = record {
  like = two_below (folded w l i) made two below;
  hash = λ h is. at.hash h (sym (kept tt) ∙ is);
}
set_side old c file v w l i (Same x) made pic two at resident below kept hash = record {
  like = two_below (folded w l i) made two below;
  hash = λ h is. elim resident [
    | inl r ↦ hash h is (λ b. b) r
    | inr r ↦ never_was old c (name.Part file l i) h pic r
  ];
}
