-- A part set after its halves.
use Rattle.std.proofs.Common.{◌≡◌, ◌+◌, ◌*◌, ◌<◌, ◌≤◌, ◌^◌, inl, inr, ℕ, suc, None, refl, ap, sym, ◌∙◌, subst, false, arith}
use Rattle.std.proofs.lemmas.Bool.{cases_lt}
use Rattle.iris_name.specs.Names.{same_name}
use Rattle.iris_name.specs.declared.name.FileId.{FileId}
use Rattle.iris_name.specs.declared.name.Name.{Name}
use Rattle.iris_name.specs.declared.name.Name.TheVariants as name
use Rattle.iris_node.specs.declared.node.Side.{Side}
use Rattle.iris_node.specs.declared.node.Side.TheVariants.{Fold as Same, Below}
use Rattle.iris_shape.specs.Folds.{folded}
use Rattle.iris_cache.specs.declared.held.Short.{Short}
use Rattle.iris_cache.specs.declared.held.Short.TheVariants.{Need, NoMemory}
use Rattle.iris_cache.specs.Resident.{Resident, held_node}
use Rattle.iris_cache.specs.Drafted.{Drafted, drafted, seen, known, known_by, there_by}
use Rattle.iris_node.specs.Trees.{Shown}
use Rattle.iris_version_tree.specs.Needs.{Covers}
use Rattle.iris_version_tree.specs.Sides.{part_seen, AreHalvesOf, IsNeedOf}
use Rattle.iris_version_tree.specs.Reached.{IsDirectlyOver, IsLinkedSide}
use Rattle.iris_version_tree.specs.Ranges.{Within, IsPartWithin, DifferWithin, AtPart, Under, IsKnownBelow, Missing, IsMissing, Joins, Turns}
use Rattle.iris_version_tree.proofs.Levels.{pow-pos}
use Rattle.iris_version_tree.proofs.Spans.{not_same, self, split, apart, up_low, up_high, down}
use Rattle.iris_version_tree.proofs.Sets.{half_sides, half_reached}

level_of : Name → ℕ
level_of (name.Entry e) = 0
level_of (name.Part g k j) = k
level_of (name.Block g p) = 0

-- another level is another name
other : (file : FileId) (l i k j : ℕ) → k ≤ l → same_name (name.Part file (suc l) i) (name.Part file k j) ≡ false
unfolding level_of
other file l i k j h = not_same (name.Part file (suc l) i) (name.Part file k j) (λ e. let x : suc l ≡ k = ap level_of e in absurd (omega (arith, x, h)))

-- parts within one, after a change elsewhere
pub under_frame : (old : Shown) (v : ℕ → ℕ) (d e : Drafted) (c : Resident) (file : FileId) (l i : ℕ) → ((k j : ℕ) → Within l i k j → drafted e (name.Part file k j) ≡ drafted d (name.Part file k j)) → Under old v d c file l i → Under old v e c file l i
under_frame old v d e c file l i same u = record {
  parts = λ k j some h. subst (λ o. AtPart old c file k j (folded v k j) o (held_node c (name.Part file k j))) (sym (same k j h)) (u.parts k j some h);
}

known_same : (d e : Drafted) (c : Resident) (n : Name) → drafted e n ≡ drafted d n → known e c n ≡ known d c n
known_same d e c n q = ap (λ o. known_by o (held_node c n)) q

module _ (old : Shown) (d d1 d2 d3 : Drafted) (c : Resident) (file : FileId) (v w : ℕ → ℕ) (k i : ℕ) (s low high a b made : Side) where
  set_step : AreHalvesOf s (part_seen (seen d c (name.Part file (suc k) i))) low high → IsKnownBelow s (known d c (name.Part file (suc k) i))
      → Turns old d d1 c file v w k (2 * i) low a → DifferWithin d d1 file k (2 * i) → Turns old d1 d2 c file v w k (2 * i + 1) high b → DifferWithin d1 d2 file k (2 * i + 1)
      → Joins old d2 d3 c file v w (suc k) i s a b made → ((n : Name) → same_name (name.Part file (suc k) i) n ≡ false → drafted d3 n ≡ drafted d2 n)
      → Turns old d d3 c file v w (suc k) i s made
  set_step are there TA FA TB FB J F3 pic had u at =
      let n = name.Part file (suc k) i in
      let r = held_node c n in
      let top = u.parts (suc k) i (omega arith) (self (suc k) i) in
      let sides = half_sides old c file v k i s low high (drafted d n) r top at.like are there in
      let left = TA pic had (record { parts = λ m j some h. u.parts m j some (up_low k i m j h) }) sides.0 in
      let keeps1 = λ (m j : ℕ) (h : Within k (2 * i + 1) m j). FA (name.Part file m j) (λ q. apart k i m j q.1 h) in
      let under1 = under_frame old v d d1 c file k (2 * i + 1) keeps1 (record { parts = λ m j some h. u.parts m j some (up_high k i m j h) }) in
      let right = TB pic had under1 sides.1 in
      let top1 = FA n (λ q. omega (arith, q.1.level)) in
      let top2 = FB n (λ q. omega (arith, q.1.level)) in
      let same = top2 ∙ top1 in
      let atop = subst (λ o. AtPart old c file (suc k) i (folded v (suc k) i) o r) (sym same) top in
      let made' = J k refl pic had atop at (subst (IsKnownBelow s) (sym (known_same d d2 c n same)) there) left.1 right.1 in
      let Q : ℕ → ℕ → Type 0 = λ m j. AtPart old c file m j (folded w m j) (drafted d3 (name.Part file m j)) (held_node c (name.Part file m j)) in (
        record {
          parts = λ m j some h. elim (split k i m j h) [
            | inl e ↦ subst (λ m. Q m j) (sym e.0) (subst (λ j. Q (suc k) j) (sym e.1) made'.0)
            | inr x ↦ elim x [
              | inl h ↦ (let q = F3 (name.Part file m j) (other file k i m j h.level) ∙ FB (name.Part file m j) (λ q. apart k i m j h q.1) in
                  subst (λ o. AtPart old c file m j (folded w m j) o (held_node c (name.Part file m j))) (sym q) (left.0.parts m j some h))
              | inr h ↦ (let q = F3 (name.Part file m j) (other file k i m j h.level) in
                  subst (λ o. AtPart old c file m j (folded w m j) o (held_node c (name.Part file m j))) (sym q) (right.0.parts m j some h))
            ]
          ];
        },
        made'.1,
      )

-- only what lies within the part differs
frame_step : (d d1 d2 d3 : Drafted) (file : FileId) (k i : ℕ) → DifferWithin d d1 file k (2 * i) → DifferWithin d1 d2 file k (2 * i + 1)
    → ((n : Name) → same_name (name.Part file (suc k) i) n ≡ false → drafted d3 n ≡ drafted d2 n) → DifferWithin d d3 file (suc k) i
frame_step d d1 d2 d3 file k i FA FB F3 n out =
    F3 n (not_same (name.Part file (suc k) i) n (λ e. out (subst (IsPartWithin file (suc k) i) e (refl, self (suc k) i, omega arith))))
    ∙ FB n (λ q. out (up-high n q)) ∙ FA n (λ q. out (up-low n q))
  where
    up-low : (n : Name) → IsPartWithin file k (2 * i) n → IsPartWithin file (suc k) i n
    up-low (name.Entry e) q = absurd q
    up-low (name.Part g m j) q = (q.0, up_low k i m j q.1, q.2)
    up-low (name.Block g p) q = absurd q

    up-high : (n : Name) → IsPartWithin file k (2 * i + 1) n → IsPartWithin file (suc k) i n
    up-high (name.Entry e) q = absurd q
    up-high (name.Part g m j) q = (q.0, up_high k i m j q.1, q.2)
    up-high (name.Block g p) q = absurd q

-- at a level that is one more
pub set_level : (old : Shown) (d d1 d2 d3 : Drafted) (c : Resident) (file : FileId) (v w : ℕ → ℕ) (l k i : ℕ) (s low high a b made : Side) → l ≡ suc k
    → AreHalvesOf s (part_seen (seen d c (name.Part file l i))) low high → IsKnownBelow s (known d c (name.Part file l i))
    → Turns old d d1 c file v w k (2 * i) low a → DifferWithin d d1 file k (2 * i) → Turns old d1 d2 c file v w k (2 * i + 1) high b → DifferWithin d1 d2 file k (2 * i + 1)
    → Joins old d2 d3 c file v w l i s a b made → ((n : Name) → same_name (name.Part file l i) n ≡ false → drafted d3 n ≡ drafted d2 n)
    → Turns old d d3 c file v w l i s made
set_level old d d1 d2 d3 c file v w l k i s low high a b made e are there TA FA TB FB J F3 =
    let A : ℕ → Type 0 = λ l. AreHalvesOf s (part_seen (seen d c (name.Part file l i))) low high in
    let K : ℕ → Type 0 = λ l. IsKnownBelow s (known d c (name.Part file l i)) in
    let G : ℕ → Type 0 = λ l. Joins old d2 d3 c file v w l i s a b made in
    let H : ℕ → Type 0 = λ l. (n : Name) → same_name (name.Part file l i) n ≡ false → drafted d3 n ≡ drafted d2 n in
    let R : ℕ → Type 0 = λ l. Turns old d d3 c file v w l i s made in
    subst R (sym e) (set_step old d d1 d2 d3 c file v w k i s low high a b made (subst A e are) (subst K e there) TA FA TB FB (subst G e J) (subst H e F3))

pub frame_level : (d d1 d2 d3 : Drafted) (file : FileId) (l k i : ℕ) → l ≡ suc k → DifferWithin d d1 file k (2 * i) → DifferWithin d1 d2 file k (2 * i + 1)
    → ((n : Name) → same_name (name.Part file l i) n ≡ false → drafted d3 n ≡ drafted d2 n) → DifferWithin d d3 file l i
frame_level d d1 d2 d3 file l k i e FA FB F3 =
    let H : ℕ → Type 0 = λ l. (n : Name) → same_name (name.Part file l i) n ≡ false → drafted d3 n ≡ drafted d2 n in
    let R : ℕ → Type 0 = λ l. DifferWithin d d3 file l i in
    subst R (sym e) (frame_step d d1 d2 d3 file k i FA FB (subst H e F3))

-- ---- what is missing

-- a part that overlaps a range covers a place of it
overlap : (f p low high : ℕ) → f < p → low < p → f < high → low < high → (place : ℕ) × (low ≤ place) × (place < high) × (f ≤ place) × (place < p)
overlap f p low high a b c d = elim (cases_lt f low) [ inl h ↦ (low, omega arith, d, omega (arith, h), b) | inr h ↦ (f, h, c, omega arith, a) ]

pub covering : (l i low high : ℕ) → low < (i + 1) * 2 ^ l → i * 2 ^ l < high → low < high → Covers l i low high
covering l i low high a b d =
    let s : i * 2 ^ l < (i + 1) * 2 ^ l = omega (arith, pow-pos l) in
    let o = overlap (i * 2 ^ l) ((i + 1) * 2 ^ l) low high s a b d in
    record { place = o.0; from = o.1; to = o.2; under = record { from = o.3; to = o.4 } }

-- the part itself is missing
pub missing_here : (d : Drafted) (c : Resident) (file : FileId) (l i : ℕ) (s : Side) (low high : ℕ) (e : Short) → 1 ≤ l → Covers l i low high → IsNeedOf s (name.Part file l i) e → known d c (name.Part file l i) ≡ None → IsMissing d c file l i s low high e
missing_here d c file l i (Same x) low high e some covers need none = absurd need
missing_here d c file l i (Below h) low high e some covers need none =
    let P : Short → Type 0 = λ e. IsMissing d c file l i (Below h) low high e in
    subst P (sym need) (record {
      level = l;
      index = i;
      hash = h;
      named = refl;
      expected = refl;
      some = some;
      within = self l i;
      covers = covers;
      missing = none;
      reached = λ old v u r. r;
    })

relink : (d e : Drafted) (c : Resident) (file : FileId) (l i : ℕ) (s : Side) → ((q : Name) → IsDirectlyOver file l i q → drafted e q ≡ drafted d q) → IsLinkedSide d c file l i s → IsLinkedSide e c file l i s
relink d e c file l i (Same x) same h = tt
relink d e c file l i (Below x) same h = record { parent = h.parent; node = h.node; is_seen = ap (λ o. there_by (known_by o (held_node c h.parent))) (same h.parent h.over) ∙ h.is_seen; holds = h.holds; over = h.over }

-- what stands over a part of one half isn't within the other
over_out : (file : FileId) (k i m j : ℕ) (q : Name) → IsDirectlyOver file m j q → Within k (2 * i + 1) m j → IsPartWithin file k (2 * i) q → ⊥
over_out file k i m j q (inl o) w h = subst (IsPartWithin file k (2 * i)) o.1 h
over_out file k i m j q (inr o) w h =
    let x = subst (IsPartWithin file k (2 * i)) o.2 h in
    apart k i m j (down k (2 * i) m o.0 j x.1 o.3) w

-- a part under the lower half is missing
pub missing_low : (d : Drafted) (c : Resident) (file : FileId) (l k i : ℕ) (s a b : Side) (low high : ℕ) (e : Short) → l ≡ suc k → k < 16 → AreHalvesOf s (part_seen (seen d c (name.Part file l i))) a b → IsKnownBelow s (known d c (name.Part file l i))
    → IsMissing d c file k (2 * i) a low high e → IsMissing d c file l i s low high e
missing_low d c file l k i s a b low high NoMemory z lt are there m = tt
missing_low d c file l k i s a b low high (Need n x) z lt are there m =
    let R : ℕ → Type 0 = λ l. Missing d c file l i s low high n x in
    let A : ℕ → Type 0 = λ l. AreHalvesOf s (part_seen (seen d c (name.Part file l i))) a b in
    let K : ℕ → Type 0 = λ l. IsKnownBelow s (known d c (name.Part file l i)) in
    subst R (sym z) (record {
      level = m.level;
      index = m.index;
      hash = m.hash;
      named = m.named;
      expected = m.expected;
      some = m.some;
      within = up_low k i m.level m.index m.within;
      covers = m.covers;
      missing = m.missing;
      reached = λ old v u r. m.reached old v (record { parts = λ m j some h. u.parts m j some (up_low k i m j h) })
          (half_reached old d c file v k i s a b lt (u.parts (suc k) i (omega arith) (self (suc k) i)) r.like (subst A z are) (subst K z there)).0;
    })

-- a part under the upper half is missing, after the lower half was set
pub missing_high : (d e : Drafted) (c : Resident) (file : FileId) (l k i : ℕ) (s a b : Side) (low high : ℕ) (x : Short) → l ≡ suc k → k < 16 → DifferWithin d e file k (2 * i) → AreHalvesOf s (part_seen (seen d c (name.Part file l i))) a b → IsKnownBelow s (known d c (name.Part file l i))
    → IsMissing e c file k (2 * i + 1) b low high x → IsMissing d c file l i s low high x
missing_high d e c file l k i s a b low high NoMemory z lt F are there m = tt
missing_high d e c file l k i s a b low high (Need n x) z lt F are there m =
    let R : ℕ → Type 0 = λ l. Missing d c file l i s low high n x in
    let A : ℕ → Type 0 = λ l. AreHalvesOf s (part_seen (seen d c (name.Part file l i))) a b in
    let K : ℕ → Type 0 = λ l. IsKnownBelow s (known d c (name.Part file l i)) in
    let keeps = λ (m j : ℕ) (h : Within k (2 * i + 1) m j). F (name.Part file m j) (λ q. apart k i m j q.1 h) in
    subst R (sym z) (record {
      level = m.level;
      index = m.index;
      hash = m.hash;
      named = m.named;
      expected = m.expected;
      some = m.some;
      within = up_high k i m.level m.index m.within;
      covers = m.covers;
      missing = sym (known_same d e c (name.Part file m.level m.index) (keeps m.level m.index m.within)) ∙ m.missing;
      reached = λ old v u r.
          let under = under_frame old v d e c file k (2 * i + 1) keeps (record { parts = λ m j some h. u.parts m j some (up_high k i m j h) }) in
          let h = (half_reached old d c file v k i s a b lt (u.parts (suc k) i (omega arith) (self (suc k) i)) r.like (subst A z are) (subst K z there)).1 in
          let at = m.reached old v under (record { like = h.like; linked = relink d e c file k (2 * i + 1) b (λ q o. F q (over_out file k i k (2 * i + 1) q o (self k (2 * i + 1)))) h.linked }) in
          record { like = at.like; linked = relink e d c file m.level m.index (Below m.hash) (λ q o. sym (F q (over_out file k i m.level m.index q o m.within))) at.linked };
    })
