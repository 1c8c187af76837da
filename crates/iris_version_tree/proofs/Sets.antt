-- One level of a change of versions.
use Rattle.std.proofs.Common.{◌≡◌, ◌⊎◌, ◌+◌, ◌*◌, ◌<◌, inl, inr, ℕ, suc, true, false, Option, Some, None, refl, sym, ◌∙◌, subst, arith}
use Rattle.std.specs.Prelude.{IsSome}
use Rattle.iris_name.specs.declared.name.FileId.{FileId}
use Rattle.iris_name.specs.declared.name.Hash32.{Hash32}
use Rattle.iris_name.specs.declared.name.Name.TheVariants as name
use Rattle.iris_node.specs.declared.node.Side.{Side}
use Rattle.iris_node.specs.declared.node.Side.TheVariants.{Fold as Same, Below}
use Rattle.iris_node.specs.declared.node.Node.{Node}
use Rattle.iris_node.specs.declared.node.Node.TheVariants as node
use Rattle.iris_node.specs.Fields.{PartFields}
use Rattle.iris_shape.specs.Folds.{Fold, One, Two, folded}
use Rattle.iris_shape.specs.FoldLaws.{IsUnder}
use Rattle.iris_shape.proofs.FoldProofs.{folded_same, folded_even, folded_at, folded-suc, join_one}
use Rattle.iris_cache.specs.declared.held.Held.{Held}
use Rattle.iris_cache.specs.declared.draft.Change.{Change}
use Rattle.iris_cache.specs.Rehash.{low_part, high_part}
use Rattle.iris_cache.specs.Resident.{Resident, held_node}
use Rattle.iris_cache.specs.Drafted.{Drafted, drafted, seen, known, known_by, there_by}
use Rattle.iris_node.specs.Trees.{Shown}
use Rattle.iris_cache.specs.Pictures.{SideHolds}
use Rattle.iris_version_tree.specs.Sides.{part_seen, AreHalvesOf}
use Rattle.iris_version_tree.specs.Reached.{IsTwo, IsSideOf, Reached}
use Rattle.iris_version_tree.specs.Ranges.{AreHalves, IsPartWith, IsNodeWith, AtPart, Under, SideAt, IsKnownBelow}
use Rattle.iris_version_tree.proofs.Tables.{LikePart, same_one, halves_of_two}
use Rattle.iris_version_tree.proofs.Walks.{low_linked, high_linked}
use Rattle.iris_version_tree.proofs.Hashes.{low_name, high_name}
use Rattle.iris_version_tree.proofs.Joins.{one_side, at_even, even_side}
use Rattle.iris_version_tree.proofs.Spans.{sub}

-- ---- where nothing is written

-- parts outside of the change stay
pub under_same : (old : Shown) (v w : ℕ → ℕ) (d : Drafted) (c : Resident) (file : FileId) (l i : ℕ) → ((p : ℕ) → IsUnder l i p → v p ≡ w p) → Under old v d c file l i → Under old w d c file l i
under_same old v w d c file l i same u = record {
  parts = λ k j some h.
      let s = λ (p : ℕ) (q : IsUnder k j p). same p (sub l i k j p h q) in
      subst (λ g. AtPart old c file k j g (drafted d (name.Part file k j)) (held_node c (name.Part file k j))) (folded_same v w k j s) (u.parts k j some h);
}

pub side_same : (old : Shown) (v w : ℕ → ℕ) (c : Resident) (file : FileId) (l i : ℕ) (s : Side) → ((p : ℕ) → IsUnder l i p → v p ≡ w p) → SideAt old c file v l i s → SideAt old c file w l i s
side_same old v w c file l i s same at = record { like = subst (λ g. IsSideOf g s) (folded_same v w l i same) at.like; hash = at.hash }

-- a fold that changes whole
pub under_even : (old : Shown) (v w : ℕ → ℕ) (d : Drafted) (c : Resident) (file : FileId) (l i x u : ℕ) → folded v l i ≡ One x → ((p : ℕ) → IsUnder l i p → w p ≡ u) → Under old v d c file l i → Under old w d c file l i
under_even old v w d c file l i x u e all under = record {
  parts = λ k j some h.
      let o = drafted d (name.Part file k j) in
      let r = held_node c (name.Part file k j) in
      let a = folded_even v k j x (λ p q. folded_at v l i x p e (sub l i k j p h q)) in
      let b = folded_even w k j u (λ p q. all p (sub l i k j p h q)) in
      subst (λ g. AtPart old c file k j g o r) (sym b) (at_even old c file k j r x u o (subst (λ g. AtPart old c file k j g o r) a (under.parts k j some h)));
}

pub under_place : (old : Shown) (w : ℕ → ℕ) (d : Drafted) (c : Resident) (file : FileId) (l i : ℕ) → l ≡ 0 → Under old w d c file l i
under_place old w d c file l i z = record { parts = λ k j some h. absurd (omega (arith, some, h.level, z)) }

-- ---- the halves of a side

record AreParts (file : FileId) (v : ℕ → ℕ) (k i : ℕ) (o : Option Node) (low high : Side) : Type 0 where
  part : PartFields
  is_seen : o ≡ Some (node.Part part)
  like : LikePart file v k i part
  low_is : low ≡ part.low
  high_is : high ≡ part.high

record AreEven (v : ℕ → ℕ) (k i : ℕ) (low high : Side) : Type 0 where
  version : ℕ
  low_is : low ≡ Same version
  high_is : high ≡ Same version
  low_one : folded v k (2 * i) ≡ One version
  high_one : folded v k (2 * i + 1) ≡ One version

like_of : (file : FileId) (v : ℕ → ℕ) (k i : ℕ) (p : PartFields) → IsTwo (folded v (suc k) i) → IsPartWith file (suc k) i (folded v (suc k) i) p → LikePart file v k i p
like_of file v k i p two h =
    let e = halves_of_two v k i two in
    let s = subst (λ g. AreHalves g p) e h.halves in
    record { file_is = h.file_is; level_is = h.level_is; index_is = h.index_is; two = e; low = s.0; high = s.1 }

below_two : (g : Fold) (h : Hash32) → IsSideOf g (Below h) → IsTwo g
below_two (One x) h at = absurd at
below_two (Two a b) h at = tt

halved_by : (old : Shown) (c : Resident) (file : FileId) (v : ℕ → ℕ) (k i : ℕ) (h : Hash32) (low high : Side) (x : Option (Option Node)) → IsTwo (folded v (suc k) i)
    → ((n : Node) → there_by x ≡ Some n → IsNodeWith file (suc k) i (folded v (suc k) i) n) → (x ≡ Some None → ⊥) → IsSome x → AreHalvesOf (Below h) (part_seen (there_by x)) low high → AreParts file v k i (there_by x) low high
halved_by old c file v k i h low high None two nodes gone some are = let e : false ≡ true = some in cc
halved_by old c file v k i h low high (Some None) two nodes gone some are = absurd (gone refl)
halved_by old c file v k i h low high (Some (Some (node.Entry e))) two nodes gone some are = absurd (nodes (node.Entry e) refl)
halved_by old c file v k i h low high (Some (Some (node.Part p))) two nodes gone some are =
    record { part = p; is_seen = refl; like = like_of file v k i p two (nodes (node.Part p) refl); low_is = are.0; high_is = are.1 }

halved : (old : Shown) (c : Resident) (file : FileId) (v : ℕ → ℕ) (k i : ℕ) (s low high : Side) (o : Option Change) (w : Option Held) → AtPart old c file (suc k) i (folded v (suc k) i) o w → IsSideOf (folded v (suc k) i) s
    → AreHalvesOf s (part_seen (there_by (known_by o w))) low high → IsKnownBelow s (known_by o w) → AreEven v k i low high ⊎ AreParts file v k i (there_by (known_by o w)) low high
halved old c file v k i (Same x) low high o w at like are known =
    let b = join_one (folded v k (2 * i)) (folded v k (2 * i + 1)) x (sym (folded-suc v k i) ∙ same_one (folded v (suc k) i) x like) in
    inl (record { version = x; low_is = are.0; high_is = are.1; low_one = b.0; high_one = b.1 })
halved old c file v k i (Below h) low high o w at like are known =
    let two = below_two (folded v (suc k) i) h like in
    inr (halved_by old c file v k i h low high (known_by o w) two at.node (λ e. at.gone e two) known are)

-- sides of halves, with their hashes
even_half : (old : Shown) (c : Resident) (file : FileId) (v : ℕ → ℕ) (k j x : ℕ) (s : Side) → s ≡ Same x → folded v k j ≡ One x → SideAt old c file v k j s
even_half old c file v k j x s e g = subst (SideAt old c file v k j) (sym e) (even_side old c file v k j x g)

low_half : (old : Shown) (c : Resident) (file : FileId) (v : ℕ → ℕ) (k i : ℕ) (o : Option Change) (w : Option Held) (p : PartFields) (s : Side) → AtPart old c file (suc k) i (folded v (suc k) i) o w → there_by (known_by o w) ≡ Some (node.Part p) → LikePart file v k i p → s ≡ p.low → SideAt old c file v k (2 * i) s
low_half old c file v k i o w p s at is like e = subst (SideAt old c file v k (2 * i)) (sym e) (record {
  like = like.low;
  hash = λ h below. (let P : Side → Type 0 = λ s. SideHolds (low_part p) s (name.Part file k (2 * i)) h in
      at.hashes (node.Part p) (name.Part file k (2 * i)) h is (inl (subst P (sym below) (low_name file v k i p like, refl))));
})

high_half : (old : Shown) (c : Resident) (file : FileId) (v : ℕ → ℕ) (k i : ℕ) (o : Option Change) (w : Option Held) (p : PartFields) (s : Side) → AtPart old c file (suc k) i (folded v (suc k) i) o w → there_by (known_by o w) ≡ Some (node.Part p) → LikePart file v k i p → s ≡ p.high → SideAt old c file v k (2 * i + 1) s
high_half old c file v k i o w p s at is like e = subst (SideAt old c file v k (2 * i + 1)) (sym e) (record {
  like = like.high;
  hash = λ h below. (let P : Side → Type 0 = λ s. SideHolds (high_part p) s (name.Part file k (2 * i + 1)) h in
      at.hashes (node.Part p) (name.Part file k (2 * i + 1)) h is (inr (subst P (sym below) (high_name file v k i p like, refl))));
})

pub half_sides : (old : Shown) (c : Resident) (file : FileId) (v : ℕ → ℕ) (k i : ℕ) (s low high : Side) (o : Option Change) (w : Option Held) → AtPart old c file (suc k) i (folded v (suc k) i) o w → IsSideOf (folded v (suc k) i) s
    → AreHalvesOf s (part_seen (there_by (known_by o w))) low high → IsKnownBelow s (known_by o w) → SideAt old c file v k (2 * i) low × SideAt old c file v k (2 * i + 1) high
half_sides old c file v k i s low high o w at like are known = elim (halved old c file v k i s low high o w at like are known) [
  | inl e ↦ (even_half old c file v k (2 * i) e.version low e.low_is e.low_one, even_half old c file v k (2 * i + 1) e.version high e.high_is e.high_one)
  | inr p ↦ (low_half old c file v k i o w p.part low at p.is_seen p.like p.low_is, high_half old c file v k i o w p.part high at p.is_seen p.like p.high_is)
]

even_reached : (d : Drafted) (c : Resident) (file : FileId) (v : ℕ → ℕ) (k j x : ℕ) (s : Side) → s ≡ Same x → folded v k j ≡ One x → Reached d c file v k j s
even_reached d c file v k j x s e g = subst (Reached d c file v k j) (sym e) (record { like = one_side (folded v k j) x g; linked = tt })

-- what is reached of the halves
pub half_reached : (old : Shown) (d : Drafted) (c : Resident) (file : FileId) (v : ℕ → ℕ) (k i : ℕ) (s low high : Side) → k < 16 → AtPart old c file (suc k) i (folded v (suc k) i) (drafted d (name.Part file (suc k) i)) (held_node c (name.Part file (suc k) i)) → IsSideOf (folded v (suc k) i) s
    → AreHalvesOf s (part_seen (seen d c (name.Part file (suc k) i))) low high → IsKnownBelow s (known d c (name.Part file (suc k) i)) → Reached d c file v k (2 * i) low × Reached d c file v k (2 * i + 1) high
half_reached old d c file v k i s low high lt at like are known = elim (halved old c file v k i s low high (drafted d (name.Part file (suc k) i)) (held_node c (name.Part file (suc k) i)) at like are known) [
  | inl e ↦ (even_reached d c file v k (2 * i) e.version low e.low_is e.low_one, even_reached d c file v k (2 * i + 1) e.version high e.high_is e.high_one)
  | inr p ↦ (
    record { like = subst (IsSideOf (folded v k (2 * i))) (sym p.low_is) p.like.low; linked = low_linked d c file v k i p.part low p.like lt p.is_seen (sym p.low_is) },
    record { like = subst (IsSideOf (folded v k (2 * i + 1))) (sym p.high_is) p.like.high; linked = high_linked d c file v k i p.part high p.like lt p.is_seen (sym p.high_is) },
  )
]
