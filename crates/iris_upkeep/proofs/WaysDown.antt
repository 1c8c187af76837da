-- Ways down from a node through what is resident: in a pictured tree no name comes twice, so a way isn't longer than what is resident.
use Rattle.std.proofs.Common.{◌≡◌, ◌<◌, ◌≤◌, ◌+◌, inl, inr, ℕ, suc, Bool, true, false, List, [], ◌∷◌, Option, Some, None, refl, ap, sym, ◌∙◌, subst, arith, length, true≢false, is_some}
use Rattle.std.specs.Prelude.{IsSomeAnd}
use Rattle.std.specs.Map.{keys_of}
use Rattle.std.specs.List.{list_any, IsDistinct, AllByRecursion}
use Rattle.std.proofs.lemmas.Map.Keys.{IsDistinct-cons}
use Rattle.std.proofs.lemmas.Map.Made.{is_some-lookup, length-le_from_is_member}
use Rattle.std.proofs.lemmas.Map.Entries.{length-keys_of}
use Rattle.iris_name.specs.Names.{same_name}
use Rattle.iris_name.specs.NameLaws.{same_name_equiv, same_name-true}
use Rattle.iris_name.specs.declared.name.Name.{Name}
use Rattle.iris_node.specs.Trees.{Shown, IsTree, IsParent, IsAbove}
use Rattle.iris_node.specs.Unfolded.{Unfolded, Absent, Folder, Leaf, Even, Split, Stored}
use Rattle.iris_cache.specs.declared.held.Held.{Held}
use Rattle.iris_cache.specs.Applied.{is_above_within}
use Rattle.iris_cache.specs.Laws.{AreFormed}
use Rattle.iris_cache.specs.Pictures.{Holds, Pictures}
use Rattle.iris_cache.specs.Resident.{Resident, held_node, resident_parent, parent_in}
use Rattle.iris_cache.proofs.Children.{held-child}
use Rattle.iris_cache.proofs.Rising.{or-left, or-right, or-split}
use Rattle.iris_cache.proofs.TrueNodes.{child-held}
use Rattle.iris_upkeep.specs.declared.descent.What.{What}
use Rattle.iris_upkeep.specs.Children.{HasHash}
use Rattle.iris_upkeep.specs.Marks.{HasMark, IsAtOrBelow, IsMarked, HoldsHashOf}

-- how much lies at and below an unfolded node
size : Unfolded → ℕ
size (Folder id name less more inside) = suc (size less + size more + size inside)
size (Leaf id name less more length counter versions) = suc (size less + size more + size versions)
size (Split file level index low high) = suc (size low + size high)
size Absent = 0
size (Even version) = 0
size (Stored version bytes) = 0

size-above : (u w : Unfolded) → IsAbove u w → size w < size u
unfolding size
size-above (Folder id name less more inside) w (inl e) = let a = ap size e in omega (arith, a)
size-above (Folder id name less more inside) w (inr (inl e)) = let a = ap size e in omega (arith, a)
size-above (Folder id name less more inside) w (inr (inr e)) = let a = ap size e in omega (arith, a)
size-above (Leaf id name less more length counter versions) w (inl e) = let a = ap size e in omega (arith, a)
size-above (Leaf id name less more length counter versions) w (inr (inl e)) = let a = ap size e in omega (arith, a)
size-above (Leaf id name less more length counter versions) w (inr (inr e)) = let a = ap size e in omega (arith, a)
size-above (Split file level index low high) w (inl e) = let a = ap size e in omega (arith, a)
size-above (Split file level index low high) w (inr e) = let a = ap size e in omega (arith, a)
size-above Absent w h = absurd h
size-above (Even v) w h = absurd h
size-above (Stored v bytes) w h = absurd h

size-in : Option Unfolded → ℕ
size-in None = 0
size-in (Some u) = size u

pub size-at : Shown → Name → ℕ
size-at t n = size-in (t n)

child-size : (t : Shown) (p n : Name) → IsTree t → IsParent t p n → size-at t n < size-at t p
unfolding size-at size-in
child-size t p n tree par =
    let lt = size-above par.parent par.child par.above in
    let a = ap size-in (tree.below p n par.parent par.child par.live par.above par.named) in
    let b = ap size-in par.live in
    omega (arith, lt, a, b)

pub differ : (f : Name → ℕ) (a b : Name) → f a < f b → same_name a b ≡ false
differ f a b lt = by (same_name a b) refl
  where
    by : (s : Bool) → same_name a b ≡ s → s ≡ false
    by false e = refl
    by true e = let h = ap f (same_name-true a b e) in absurd (omega (arith, lt, h))

marked-there : (what : What) (o : Option Held) → IsSomeAnd o (HasMark what) → is_some o ≡ true
marked-there what None m = absurd m
marked-there what (Some h) m = refl

pub marked-member : (what : What) (c : Resident) (n : Name) → IsMarked what c n → list_any (same_name n) (keys_of c.nodes) ≡ true
marked-member what c n m = sym (is_some-lookup (same_name n) c.nodes) ∙ marked-there what (held_node c n) m

-- the names above one that a way came down by from another, each marked, each the parent of the one before it
abbrev pub IsWayDown : Shown → Resident → What → Name → List Name → Name → Type 0
IsWayDown t c what from [] at = at ≡ from
IsWayDown t c what from (p ∷ ps) at = IsMarked what c p × (resident_parent c at ≡ Some p) × (size-at t at < size-at t p) × IsWayDown t c what from ps p

module _ (t : Shown) (c : Resident) (what : What) (from : Name) where
  apart : (n at : Name) (xs : List Name) → size-at t n ≤ size-at t at → IsWayDown t c what from xs at → AllByRecursion (λ y. same_name n y ≡ false) xs
  apart n at [] le w = tt
  apart n at (p ∷ ps) le w =
      let a = w.2 in
      let lt : size-at t n < size-at t p = omega (arith, le, a) in
      let next : size-at t n ≤ size-at t p = omega (arith, lt) in
      (differ (size-at t) n p lt, apart n p ps next w.3)

  pub way-distinct : (at : Name) (xs : List Name) → IsWayDown t c what from xs at → IsDistinct same_name (at ∷ xs)
  unfolding IsDistinct
  way-distinct at [] w = IsDistinct-cons same_name at [] tt tt
  way-distinct at (p ∷ ps) w = IsDistinct-cons same_name at (p ∷ ps) (apart at at (p ∷ ps) (omega arith) w) (way-distinct p ps w.3)

  above-marked : (at : Name) (xs : List Name) → IsWayDown t c what from xs at → (q : Name) → list_any (same_name q) xs ≡ true → IsMarked what c q
  above-marked at [] w q h = absurd (true≢false (sym h))
  above-marked at (p ∷ ps) w q h =
      elim (or-split (same_name q p) (list_any (same_name q) ps) h) [ inl s ↦ subst (IsMarked what c) (sym (same_name-true q p s)) w.0 | inr r ↦ above-marked p ps w.3 q r ]

  pub way-marked : (at : Name) (xs : List Name) → IsMarked what c at → IsWayDown t c what from xs at → (q : Name) → list_any (same_name q) (at ∷ xs) ≡ true → IsMarked what c q
  way-marked at xs m w q h = elim (or-split (same_name q at) (list_any (same_name q) xs) h) [ inl s ↦ subst (IsMarked what c) (sym (same_name-true q at s)) m | inr r ↦ above-marked at xs w q r ]

  -- going up a way one comes to where it came from
  pub way-up : (at : Name) (xs : List Name) → IsWayDown t c what from xs at → IsAtOrBelow c at from
  way-up at [] w = (1, or-left (same_name at from) false (ap (same_name at) (sym w) ∙ same_name_equiv.refl at))
  way-up at (p ∷ ps) w =
      let r = way-up p ps w.3 in
      (suc r.0, or-right (same_name at from) (is_above_within (resident_parent c) r.0 (resident_parent c at) from) (ap (λ o. is_above_within (resident_parent c) r.0 o from) w.1 ∙ r.1))

  -- a way isn't longer than what is resident
  pub way-short : (at : Name) (xs : List Name) → IsMarked what c at → IsWayDown t c what from xs at → length xs < length c.nodes
  way-short at xs m w =
      let le : length (at ∷ xs) ≤ length (keys_of c.nodes) = length-le_from_is_member same_name_equiv (at ∷ xs) (keys_of c.nodes) (way-distinct at xs w) (λ q h. marked-member what c q (way-marked at xs m w q h)) in
      let k = length-keys_of c.nodes in
      omega (arith, le, k)

module _ (t : Shown) (c : Resident) (pic : Pictures t c) (tree : IsTree t) (formed : AreFormed t) where
  holds-parent : (p n : Name) (o : Option Held) → held_node c p ≡ o → IsSomeAnd o (λ h. HasHash (Holds h.node n)) → IsParent t p n
  holds-parent p n None e h = absurd h
  holds-parent p n (Some g) e h = held-child t p n g.node h.0 formed (pic.nodes p g e) h.1

  child-parent : (p n : Name) → HoldsHashOf c p n → IsParent t p n
  child-parent p n h = holds-parent p n (held_node c p) refl h

  parent-of : (what : What) (p n : Name) (o : Option Held) → held_node c n ≡ o → IsSomeAnd o (HasMark what) → IsParent t p n → parent_in o ≡ Some p
  parent-of what p n None e m par = absurd m
  parent-of what p n (Some g) e m par = (pic.parents n p g e par).0

  -- one step down
  pub way-more : (what : What) (from at n : Name) (xs : List Name) → IsMarked what c at → IsWayDown t c what from xs at → HoldsHashOf c at n → IsMarked what c n → IsWayDown t c what from (at ∷ xs) n
  way-more what from at n xs m w h k = let par = child-parent at n h in (m, parent-of what at n (held_node c n) refl k par, child-size t at n tree par, w)

  -- the parent of a resident node holds a hash of it
  pub held-by : (p n : Name) (h : Held) (o : Option Held) → held_node c p ≡ o → held_node c n ≡ Some h → h.parent ≡ Some p → IsSomeAnd o (λ g. HasHash (Holds g.node n))
  held-by p n h None e at of = let par = pic.tied n p h at of in absurd (true≢false (sym ((pic.parents n p h at par).1) ∙ ap (λ (o : Option Held). is_some o) e))
  held-by p n h (Some g) e at of = child-held t p n g.node formed (pic.nodes p g e) (pic.tied n p h at of)
