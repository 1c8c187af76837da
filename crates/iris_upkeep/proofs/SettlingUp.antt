-- Settling from the leaves up: what each step leaves, and why the steps suffice.
use Rattle.std.proofs.Common.{◌≡◌, ◌<◌, ◌≤◌, ◌+◌, ◌*◌, ◌||◌, ◌++◌, ◌⊎◌, inl, inr, ℕ, zero, suc, Bool, true, false, List, [], ◌∷◌, Option, Some, None, IsSome, refl, ap, sym, ◌∙◌, subst, arith, length, true≢false, is_some, length-append}
use Rattle.std.specs.Prelude.{IsSomeAnd, unwrap_or as option_unwrap_or}
use Rattle.std.specs.Option.{option_map}
use Rattle.std.specs.Map.{keys_of}
use Rattle.std.specs.List.{list_any, IsDistinct, AllByRecursion}
use Rattle.std.proofs.lemmas.List.Folds.{list_any-append}
use Rattle.std.proofs.lemmas.Map.Keys.{IsDistinct-cons}
use Rattle.std.proofs.lemmas.Map.Made.{length-le_from_is_member}
use Rattle.std.proofs.lemmas.Map.Entries.{length-keys_of}
use Rattle.iris_name.specs.Names.{same_name}
use Rattle.iris_name.specs.NameLaws.{same_name_equiv, same_name-true}
use Rattle.iris_name.specs.declared.name.Name.{Name}
use Rattle.iris_node.specs.Trees.{Shown, IsTree}
use Rattle.iris_node.specs.Unfolded.{hash}
use Rattle.iris_cache.specs.declared.held.Held.{Held}
use Rattle.iris_cache.specs.Applied.{is_above_within, IsSelfOrAncestor}
use Rattle.iris_cache.specs.Held.{points, settled_so}
use Rattle.iris_cache.specs.Laws.{AreFormed}
use Rattle.iris_cache.specs.Pictures.{Pictures}
use Rattle.iris_cache.specs.Rehash.{with_hash}
use Rattle.iris_cache.specs.Resident.{Resident, held_node, map_if, resident_parent, parent_in}
use Rattle.iris_cache.specs.Settled.{Settles}
use Rattle.iris_cache.proofs.Rising.{or-split, or-left, or-right, above-none, above-same}
use Rattle.iris_cache.proofs.Settling.{set-hash-keeps}
use Rattle.iris_cache.proofs.TrueNodes.{settled-true}
use Rattle.iris_upkeep.specs.declared.descent.What.TheVariants.{Unsettled}
use Rattle.iris_upkeep.specs.Marks.{HasMark, IsAtOrBelow, IsMarked, HoldsHashOf}
use Rattle.iris_upkeep.specs.SettlesInto.{StaysOrIsTold}
use Rattle.iris_upkeep.proofs.WaysDown.{IsWayDown, way-up, size-at, differ, held-by, marked-member, way-distinct, way-marked, way-more}
use Rattle.iris_upkeep.proofs.Stepped.{Stepped, loose-stepped, parent-stepped, IsOver, over-stepped, not-both, pointed, held-of, over-member}

-- ---- one node is settled

module _ (t : Shown) (c e : Resident) (n : Name) (h : Held) (pic : Pictures t c) (tree : IsTree t) (formed : AreFormed t) (at : held_node c n ≡ Some h) (loose : h.settled ≡ false)
    (ready : (q : Name) (g : Held) → held_node c q ≡ Some g → g.parent ≡ Some n → g.settled ≡ true)
    (is : (q : Name) → held_node e q ≡ map_if (points (resident_parent c n) q) (with_hash n (hash h.node)) (map_if (same_name n q) settled_so (held_node c q))) where
  one-pictures : Pictures t e
  one-pictures = set-hash-keeps t c e n (hash h.node) pic formed (λ u live. ap (option_map hash) (settled-true t c n u h pic tree formed at live ready)) ready is

  of-parent : resident_parent c n ≡ h.parent
  of-parent = ap parent_in at

  -- what is settled stays wholly
  stays : (q : Name) (g : Held) → held_node c q ≡ Some g → g.settled ≡ true → held_node e q ≡ Some g
  stays q g s k = is q ∙ by (points (resident_parent c n) q) (same_name n q) refl refl
    where
      by : (b d : Bool) → points (resident_parent c n) q ≡ b → same_name n q ≡ d → Stepped b d n (hash h.node) (held_node c q) ≡ Some g
      by false false p d = s
      by true false p d = absurd (true≢false (sym (pic.rising n q h g at (sym of-parent ∙ pointed (resident_parent c n) q p) s k) ∙ loose))
      by b true p d =
          let same : h ≡ g = ap (λ (o : Option Held). option_unwrap_or o h) (sym at ∙ ap (held_node c) (same_name-true n q d) ∙ s) in absurd (true≢false (sym k ∙ ap (λ (z : Held). z.settled) (sym same) ∙ loose))

  marked-stays : (q : Name) → same_name n q ≡ false → IsMarked Unsettled c q → IsMarked Unsettled e q
  marked-stays q apart m = subst (λ o. IsSomeAnd o (HasMark Unsettled)) (sym (is q)) (loose-stepped (points (resident_parent c n) q) (same_name n q) n (hash h.node) (held_node c q) apart m)

  parent-stays : (q : Name) → resident_parent e q ≡ resident_parent c q
  parent-stays q = ap parent_in (is q) ∙ parent-stepped (points (resident_parent c n) q) (same_name n q) n (hash h.node) (held_node c q)

  over-now : IsOver e n
  over-now = subst (λ o. IsSomeAnd o (λ g. g.settled ≡ true)) (sym (is n)) (over-stepped (points (resident_parent c n) n) (same_name n n) n (hash h.node) h (held_node c n) (same_name_equiv.refl n) at)

  over-stays : (q : Name) → IsOver c q → IsOver e q
  over-stays q o = let r = held-of (λ g. g.settled ≡ true) (held_node c q) o in subst (λ z. IsSomeAnd z (λ g. g.settled ≡ true)) (sym (stays q r.0 r.1 r.2)) r.2

  way-stays : (from : Name) (xs : List Name) (a : Name) → size-at t n ≤ size-at t a → IsWayDown t c Unsettled from xs a → IsWayDown t e Unsettled from xs a
  way-stays from [] a le w = w
  way-stays from (p ∷ ps) a le w =
      let up = w.2 in
      let lt : size-at t n < size-at t p = omega (arith, le, up) in
      let next : size-at t n ≤ size-at t p = omega (arith, lt) in
      (marked-stays p (differ (size-at t) n p lt) w.0, parent-stays a ∙ w.1, up, way-stays from ps p next w.3)

-- ---- each node is settled once

-- no name comes again
abbrev AreNew : List Name → Type 0
AreNew [] = Unit {0}
AreNew (d ∷ ds) = (list_any (same_name d) ds ≡ false) × AreNew ds

either-false : (a b : Bool) → (a || b) ≡ false → (a ≡ false) × (b ≡ false)
either-false true b h = absurd (true≢false h)
either-false false b h = (refl, h)

apart-from : (n : Name) (xs : List Name) → list_any (same_name n) xs ≡ false → AllByRecursion (λ y. same_name n y ≡ false) xs
apart-from n [] h = tt
apart-from n (x ∷ xs) h = let r = either-false (same_name n x) (list_any (same_name n) xs) h in (r.0, apart-from n xs r.1)

both-distinct : (ds ys : List Name) → AreNew ds → ((q : Name) → list_any (same_name q) ds ≡ true → list_any (same_name q) ys ≡ false) → IsDistinct same_name ys → IsDistinct same_name (ds ++ ys)
both-distinct [] ys new apart y = y
both-distinct (d ∷ ds) ys new apart y =
    IsDistinct-cons same_name d (ds ++ ys)
    (apart-from d (ds ++ ys) (list_any-append (same_name d) ds ys ∙ ap (λ b. b || list_any (same_name d) ys) new.0 ∙ apart d (or-left (same_name d d) (list_any (same_name d) ds) (same_name_equiv.refl d))))
    (both-distinct ds ys new.1 (λ q h. apart q (or-right (same_name q d) (list_any (same_name q) ds) h)) y)

-- what stands at a step of the walk: what was settled, and the way to where it is
pub record Progress (t : Shown) (old c : Resident) (from at : Name) (step : ℕ) : Type 0 where
  pub pictures : Pictures t c
  pub still : (q : Name) (g : Held) → held_node old q ≡ Some g → g.settled ≡ true → held_node c q ≡ Some g
  pub parents : (q : Name) → resident_parent c q ≡ resident_parent old q
  pub outside : (q : Name) → (IsAtOrBelow old q from → ⊥) → held_node c q ≡ held_node old q
  pub marked : IsMarked Unsettled c at
  pub done : List Name
  pub above : List Name
  pub steps : step ≡ 2 * length done + length above
  pub way : IsWayDown t c Unsettled from above at
  pub new : AreNew done
  pub over : (q : Name) → list_any (same_name q) done ≡ true → IsOver c q

-- what stands at the end
pub record Settling (t : Shown) (old c : Resident) (from : Name) : Type 0 where
  pub pictures : Pictures t c
  pub still : (q : Name) (g : Held) → held_node old q ≡ Some g → g.settled ≡ true → held_node c q ≡ Some g
  pub parents : (q : Name) → resident_parent c q ≡ resident_parent old q
  pub outside : (q : Name) → (IsAtOrBelow old q from → ⊥) → StaysOrIsTold old c from q
  pub over : (g : Held) → held_node c from ≡ Some g → g.settled ≡ true

pub begins : (t : Shown) (c : Resident) (from : Name) → Pictures t c → IsMarked Unsettled c from → Progress t c c from from 0
begins t c from pic m = record { pictures = pic; still = λ q g at s. at; parents = λ q. refl; outside = λ q far. refl; marked = m; done = []; above = []; steps = refl; way = refl; new = tt; over = λ q h. absurd (true≢false (sym h)) }

not-marked : (c : Resident) (g : Held) (o : Option Held) → (IsSomeAnd o (HasMark Unsettled) → ⊥) → o ≡ Some g → g.settled ≡ true
not-marked c g None m at = absurd (true≢false (ap (λ (z : Option Held). is_some z) (sym at)))
not-marked c g (Some h) m at = let same : h ≡ g = ap (λ (o : Option Held). option_unwrap_or o h) at in by h.settled refl
  where
    by : (b : Bool) → h.settled ≡ b → g.settled ≡ true
    by true e = ap (λ (z : Held). z.settled) (sym (ap (λ (o : Option Held). option_unwrap_or o h) at)) ∙ e
    by false e = absurd (m e)

pub at-once : (t : Shown) (c : Resident) (from : Name) → Pictures t c → (IsMarked Unsettled c from → ⊥) → Settling t c c from
at-once t c from pic m = record { pictures = pic; still = λ q g at s. at; parents = λ q. refl; outside = λ q far. inl refl; over = λ g at. not-marked c g (held_node c from) m at }

module _ (t : Shown) (old c : Resident) (from at : Name) (step : ℕ) (tree : IsTree t) (formed : AreFormed t) (so : Progress t old c from at step) where
  pub descends : (n : Name) → HoldsHashOf c at n → IsMarked Unsettled c n → Progress t old c from n (step + 1)
  descends n h m =
      let s = so.steps in
      record {
        pictures = so.pictures;
        still = so.still;
        parents = so.parents;
        outside = so.outside;
        marked = m;
        done = so.done;
        above = at ∷ so.above;
        steps = omega (arith, s);
        way = way-more t c so.pictures tree formed Unsettled from at n so.above so.marked so.way h m;
        new = so.new;
        over = so.over;
      }

  top-of : (above : List Name) → IsWayDown t c Unsettled from above at → resident_parent c at ≡ None → at ≡ from
  top-of [] w none = w
  top-of (p ∷ ps) w none = absurd (true≢false (ap (λ (o : Option Name). is_some o) (sym w.1 ∙ none)))

  -- no node but the one where it started is without a parent
  pub orphan-is-top : resident_parent c at ≡ None → at ≡ from
  orphan-is-top none = top-of so.above so.way none

  -- more steps than twice what is resident can't be
  pub bounded : step < 2 * length c.nodes
  bounded =
      let ys = at ∷ so.above in
      let apart : (q : Name) → list_any (same_name q) so.done ≡ true → list_any (same_name q) ys ≡ false = λ q h. by q (list_any (same_name q) ys) refl (so.over q h) in
      let d = both-distinct so.done ys so.new apart (way-distinct t c Unsettled from at so.above so.way) in
      let le : length (so.done ++ ys) ≤ length (keys_of c.nodes) = length-le_from_is_member same_name_equiv (so.done ++ ys) (keys_of c.nodes) d (λ q h. member q (or-split (list_any (same_name q) so.done) (list_any (same_name q) ys) (sym (list_any-append (same_name q) so.done ys) ∙ h))) in
      let a = length-append so.done ys in
      let k = length-keys_of c.nodes in
      let s = so.steps in
      omega (arith, le, a, k, s)
    where
      by : (q : Name) (b : Bool) → list_any (same_name q) (at ∷ so.above) ≡ b → IsOver c q → b ≡ false
      by q false e o = refl
      by q true e o = absurd (not-both (held_node c q) o (way-marked t c Unsettled from at so.above so.marked so.way q e))

      member : (q : Name) → (list_any (same_name q) so.done ≡ true) ⊎ (list_any (same_name q) (at ∷ so.above) ≡ true) → list_any (same_name q) (keys_of c.nodes) ≡ true
      member q (inl d) = over-member c q (so.over q d)
      member q (inr y) = marked-member Unsettled c q (way-marked t c Unsettled from at so.above so.marked so.way q y)

  module _ (e : Resident) (childless : (n : Name) → HoldsHashOf c at n → IsMarked Unsettled c n → ⊥) (settles : Settles c e at) where
    the-held : (h : Held) × (held_node c at ≡ Some h) × HasMark Unsettled h
    the-held = held-of (HasMark Unsettled) (held_node c at) so.marked

    ready : (q : Name) (g : Held) → held_node c q ≡ Some g → g.parent ≡ Some at → g.settled ≡ true
    ready q g s of = not-marked c g (held_node c q) (childless q (held-by t c so.pictures tree formed at q g (held_node c at) refl s of)) s

    is-so : (q : Name) → held_node e q ≡ map_if (points (resident_parent c at) q) (with_hash at (hash the-held.0.node)) (map_if (same_name at q) settled_so (held_node c q))
    is-so = settles the-held.0 the-held.1

    pub pictures-on : Pictures t e
    pictures-on = one-pictures t c e at the-held.0 so.pictures tree formed the-held.1 the-held.2 ready is-so

    pub still-on : (q : Name) (g : Held) → held_node old q ≡ Some g → g.settled ≡ true → held_node e q ≡ Some g
    still-on q g s k = stays t c e at the-held.0 so.pictures tree formed the-held.1 the-held.2 ready is-so q g (so.still q g s k) k

    over-here : IsOver e at
    over-here = over-now t c e at the-held.0 so.pictures tree formed the-held.1 the-held.2 ready is-so

    parents-on : (q : Name) → resident_parent e q ≡ resident_parent old q
    parents-on q = parent-stays t c e at the-held.0 so.pictures tree formed the-held.1 the-held.2 ready is-so q ∙ so.parents q

    below-old : (q : Name) → IsAtOrBelow c q from → IsAtOrBelow old q from
    below-old q b = (b.0, sym (above-same (resident_parent c) (resident_parent old) so.parents b.0 (Some q) from) ∙ b.1)

    here-below : IsAtOrBelow old at from
    here-below = below-old at (way-up t c Unsettled from at so.above so.way)

    here-apart : (q : Name) → (IsAtOrBelow old q from → ⊥) → same_name at q ≡ false
    here-apart q far = by (same_name at q) refl
      where
        by : (b : Bool) → same_name at q ≡ b → b ≡ false
        by false s = refl
        by true s = absurd (far (subst (λ n. IsAtOrBelow old n from) (same_name-true at q s) here-below))

    told-by : (b d : Bool) (q : Name) → d ≡ false → b ≡ false → held_node c q ≡ held_node old q → Stepped b d at (hash the-held.0.node) (held_node c q) ≡ held_node old q
    told-by true d q x y s = absurd (true≢false y)
    told-by false true q x y s = absurd (true≢false x)
    told-by false false q x y s = s

    told : (q : Name) → (IsAtOrBelow old q from → ⊥) → at ≡ from → StaysOrIsTold old e from q
    told q far same = by (points (resident_parent c at) q) (same_name at q) refl (here-apart q far)
      where
        by : (b d : Bool) → points (resident_parent c at) q ≡ b → same_name at q ≡ false → StaysOrIsTold old e from q
        by false d p s = inl (is-so q ∙ told-by (points (resident_parent c at) q) (same_name at q) q s p (so.outside q far))
        by true d p s = inr (
          ap (resident_parent old) (sym same) ∙ sym (so.parents at) ∙ pointed (resident_parent c at) q p,
          (
            hash the-held.0.node,
            is-so q ∙ ap (λ b. Stepped b (same_name at q) at (hash the-held.0.node) (held_node c q)) p ∙ ap (λ d. Stepped true d at (hash the-held.0.node) (held_node c q)) s
                ∙ ap (λ n. option_map (with_hash n (hash the-held.0.node)) (held_node c q)) same ∙ ap (option_map (with_hash from (hash the-held.0.node))) (so.outside q far),
          ),
        )

    pub ends : at ≡ from → Settling t old e from
    ends same = record {
      pictures = pictures-on;
      still = still-on;
      parents = parents-on;
      outside = λ q far. told q far same;
      over = λ g s. let r = held-of (λ h. h.settled ≡ true) (held_node e at) over-here in
          ap (λ (o : Option Held). (option_unwrap_or o g).settled) (sym s ∙ ap (held_node e) (sym same) ∙ r.1) ∙ r.2;
    }

    not-again : list_any (same_name at) so.done ≡ false
    not-again = by (list_any (same_name at) so.done) refl
      where
        by : (b : Bool) → list_any (same_name at) so.done ≡ b → b ≡ false
        by false h = refl
        by true h = absurd (not-both (held_node c at) (so.over at h) so.marked)

    over-all : (q : Name) → list_any (same_name q) (at ∷ so.done) ≡ true → IsOver e q
    over-all q h = elim (or-split (same_name q at) (list_any (same_name q) so.done) h) [
      | inl s ↦ subst (IsOver e) (sym (same_name-true q at s)) over-here
      | inr d ↦ over-stays t c e at the-held.0 so.pictures tree formed the-held.1 the-held.2 ready is-so q (so.over q d)
    ]

    -- the parent is on the way
    up-apart : (r : Name) (rs : List Name) → IsWayDown t c Unsettled from (r ∷ rs) at → (q : Name) → (IsAtOrBelow old q from → ⊥) → points (resident_parent c at) q ≡ false
    up-apart r rs w q far = by (points (resident_parent c at) q) refl
      where
        by : (b : Bool) → points (resident_parent c at) q ≡ b → b ≡ false
        by false s = refl
        by true s =
            let same : r ≡ q = ap (λ (o : Option Name). option_unwrap_or o q) (sym w.1 ∙ pointed (resident_parent c at) q s) in
            absurd (far (subst (λ n. IsAtOrBelow old n from) same (below-old r (way-up t c Unsettled from r rs w.3))))

    climbs : (p : Name) (above : List Name) → IsWayDown t c Unsettled from above at → step ≡ 2 * length so.done + length above → resident_parent c at ≡ Some p → (at ≡ from → ⊥) → Progress t old e from p (step + 1)
    climbs p [] w s up apart = absurd (apart w)
    climbs p (r ∷ rs) w s up apart =
        let same : r ≡ p = ap (λ (o : Option Name). option_unwrap_or o p) (sym w.1 ∙ up) in
        let lt = w.2 in
        let le : size-at t at ≤ size-at t r = omega (arith, lt) in
        subst (λ k. Progress t old e from k (step + 1)) same (record {
          pictures = pictures-on;
          still = still-on;
          parents = parents-on;
          outside = λ q far. is-so q ∙ told-by (points (resident_parent c at) q) (same_name at q) q (here-apart q far) (up-apart r rs w q far) (so.outside q far);
          marked = marked-stays t c e at the-held.0 so.pictures tree formed the-held.1 the-held.2 ready is-so r (differ (size-at t) at r lt) w.0;
          done = at ∷ so.done;
          above = rs;
          steps = omega (arith, s);
          way = way-stays t c e at the-held.0 so.pictures tree formed the-held.1 the-held.2 ready is-so from rs r le w.3;
          new = (not-again, so.new);
          over = over-all;
        })

    pub ascends : (p : Name) → resident_parent c at ≡ Some p → (at ≡ from → ⊥) → Progress t old e from p (step + 1)
    ascends p up apart = climbs p so.above so.way so.steps up apart

-- ---- all at and below a settled node are settled

some-held : (o : Option Held) → IsSome o → (g : Held) × (o ≡ Some g)
some-held None s = absurd (true≢false (sym s))
some-held (Some g) s = (g, refl)

module _ (t : Shown) (c : Resident) (from : Name) (pic : Pictures t c) (over : (g : Held) → held_node c from ≡ Some g → g.settled ≡ true) where
  below-step : (k : ℕ) (q : Name) (h : Held) (o : Option Name) → resident_parent c q ≡ o → held_node c q ≡ Some h → is_above_within (resident_parent c) k o from ≡ true
      → ((p : Name) (g : Held) → is_above_within (resident_parent c) k (Some p) from ≡ true → held_node c p ≡ Some g → g.settled ≡ true) → h.settled ≡ true
  below-step k q h None up at r ih = absurd (true≢false (sym r ∙ above-none (resident_parent c) k from))
  below-step k q h (Some p) up at r ih =
      let of : h.parent ≡ Some p = ap parent_in (sym at) ∙ up in
      let g = some-held (held_node c p) ((pic.parents q p h at (pic.tied q p h at of)).1) in
      pic.rising q p h g.0 at of g.1 (ih p g.0 r g.1)

  below-within : (k : ℕ) (q : Name) (h : Held) → is_above_within (resident_parent c) k (Some q) from ≡ true → held_node c q ≡ Some h → h.settled ≡ true
  below-within zero q h r at = absurd (true≢false (sym r))
  below-within (suc k) q h r at = elim (or-split (same_name q from) (is_above_within (resident_parent c) k (resident_parent c q) from) r) [
    | inl s ↦ over h (ap (held_node c) (sym (same_name-true q from s)) ∙ at)
    | inr u ↦ below-step k q h (resident_parent c q) refl at u (λ p g. below-within k p g)
  ]

  pub settled-below : (q : Name) (h : Held) → IsSelfOrAncestor (resident_parent c) q from → held_node c q ≡ Some h → h.settled ≡ true
  settled-below q h up at = below-within up.0 q h up.1 at

pub settled-all : (t : Shown) (old c : Resident) (from : Name) → Settling t old c from → (q : Name) (h : Held) → IsAtOrBelow old q from → held_node c q ≡ Some h → h.settled ≡ true
settled-all t old c from s q h b at = settled-below t c from s.pictures s.over q h (b.0, above-same (resident_parent c) (resident_parent old) s.parents b.0 (Some q) from ∙ b.1) at
