-- Ways up along parents: one that ends at a name needs no name twice, so it isn't longer than there are names.
use Rattle.std.proofs.Common.{◌≡◌, ◌||◌, ◌+◌, ◌-◌, ◌≤◌, ◌++◌, inl, inr, ℕ, zero, suc, Bool, true, false, List, [], ◌∷◌, Option, Some, None, refl, ap, sym, ◌∙◌, subst, arith, length, true≢false, is_some, length-append}
use Rattle.std.specs.Map.{keys_of}
use Rattle.std.specs.List.{list_any, IsDistinct, AllByRecursion}
use Rattle.std.proofs.lemmas.Map.Keys.{IsDistinct-tail, IsDistinct-cons}
use Rattle.std.proofs.lemmas.Map.Made.{is_some-lookup, length-le_from_is_member}
use Rattle.std.proofs.lemmas.Map.Entries.{length-keys_of}
use Rattle.std.proofs.lemmas.List.Folds.{list_any-append}
use Rattle.iris_name.specs.Names.{same_name}
use Rattle.iris_name.specs.NameLaws.{same_name_equiv, same_name-true}
use Rattle.iris_name.specs.declared.name.Name.{Name}
use Rattle.iris_cache.specs.declared.held.Held.{Held}
use Rattle.iris_cache.specs.declared.draft.Change.{Change}
use Rattle.iris_cache.specs.Pictures.{parent_by, parent_after}
use Rattle.iris_cache.specs.Drafted.{Drafted, drafted}
use Rattle.iris_cache.specs.Resident.{Resident, held_node}
use Rattle.iris_cache.specs.Applied.{is_above_within, IsSelfOrAncestor}
use Rattle.iris_cache.specs.Marked.{is_met_going_up}
use Rattle.iris_cache.proofs.Rising.{or-split, or-left, or-right, above-none}

abbrev size : List Name → ℕ
size [] = zero
size (x ∷ xs) = suc (size xs)

size-length : (xs : List Name) → size xs ≡ length xs
size-length [] = refl
size-length (x ∷ xs) = let h = size-length xs in omega (arith, h)

abbrev grown : ℕ → ℕ → ℕ
grown zero k = k
grown (suc j) k = suc (grown j k)

grown-sum : (j k : ℕ) → grown j k ≡ j + k
grown-sum zero k = omega arith
grown-sum (suc j) k = let h = grown-sum j k in omega (arith, h)

module _ (up : Name → Option Name) where
  -- the names below q on a way up from n
  abbrev IsWay : List Name → Name → Name → Type 0
  IsWay [] n q = n ≡ q
  IsWay (x ∷ xs) n q = (p : Name) × (x ≡ n) × (up n ≡ Some p) × IsWay xs p q

  way-above : (xs : List Name) (n q : Name) → IsWay xs n q → is_above_within up (suc (size xs)) (Some n) q ≡ true
  way-above [] n q w = or-left (same_name n q) false (ap (same_name n) (sym w) ∙ same_name_equiv.refl n)
  way-above (x ∷ xs) n q w = or-right (same_name n q) (is_above_within up (suc (size xs)) (up n) q) (ap (λ a. is_above_within up (suc (size xs)) a q) w.2 ∙ way-above xs w.0 q w.3)

  above-more : (k : ℕ) (at : Option Name) (q : Name) → is_above_within up k at q ≡ true → is_above_within up (suc k) at q ≡ true
  above-more zero at q h = absurd (true≢false (sym h))
  above-more (suc k) None q h = absurd (true≢false (sym h))
  above-more (suc k) (Some n) q h = elim (or-split (same_name n q) (is_above_within up k (up n) q) h)
      [ inl s ↦ or-left (same_name n q) (is_above_within up (suc k) (up n) q) s | inr r ↦ or-right (same_name n q) (is_above_within up (suc k) (up n) q) (above-more k (up n) q r) ]

  above-grown : (j k : ℕ) (at : Option Name) (q : Name) → is_above_within up k at q ≡ true → is_above_within up (grown j k) at q ≡ true
  above-grown zero k at q h = h
  above-grown (suc j) k at q h = above-more (grown j k) at q (above-grown j k at q h)

  -- a way with no name twice
  record Simple (n q : Name) : Type 0 where
    names : List Name
    way : IsWay names n q
    once : IsDistinct same_name names

  cut : (n q : Name) (xs : List Name) (p : Name) → IsWay xs p q → IsDistinct same_name xs → list_any (same_name n) xs ≡ true → Simple n q
  cut n q [] p w d h = absurd (true≢false (sym h))
  cut n q (x ∷ xs) p w d h = elim (or-split (same_name n x) (list_any (same_name n) xs) h)
      [ inl s ↦ record { names = x ∷ xs; way = subst (λ m. IsWay (x ∷ xs) m q) (sym (same_name-true n x s ∙ w.1)) w; once = d } | inr r ↦ cut n q xs w.0 w.3 (IsDistinct-tail same_name x xs d) r ]

  apart-next : (n x : Name) (xs : List Name) (b : Bool) → same_name n x ≡ b → (b || list_any (same_name n) xs) ≡ false → (list_any (same_name n) xs ≡ false → AllByRecursion (λ y. same_name n y ≡ false) xs) → AllByRecursion (λ y. same_name n y ≡ false) (x ∷ xs)
  apart-next n x xs true e h f = absurd (true≢false h)
  apart-next n x xs false e h f = (e, f h)

  apart : (n : Name) (xs : List Name) → list_any (same_name n) xs ≡ false → AllByRecursion (λ y. same_name n y ≡ false) xs
  apart n [] h = tt
  apart n (x ∷ xs) h = apart-next n x xs (same_name n x) refl h (apart n xs)

  extend : (n q p : Name) → up n ≡ Some p → Simple p q → Simple n q
  extend n q p u s = by (list_any (same_name n) s.names) refl
    where
      by : (b : Bool) → list_any (same_name n) s.names ≡ b → Simple n q
      by true e = cut n q s.names p s.way s.once e
      by false e = record { names = n ∷ s.names; way = (p, refl, u, s.way); once = IsDistinct-cons same_name n s.names (apart n s.names e) s.once }

  next : (k : ℕ) (n q : Name) (o : Option Name) → up n ≡ o → is_above_within up k o q ≡ true → ((p : Name) → is_above_within up k (Some p) q ≡ true → Simple p q) → Simple n q
  next k n q None u r ih = absurd (true≢false (sym r ∙ above-none up k q))
  next k n q (Some p) u r ih = extend n q p u (ih p r)

  simple : (k : ℕ) (n q : Name) → is_above_within up k (Some n) q ≡ true → Simple n q
  unfolding IsDistinct
  simple zero n q h = absurd (true≢false (sym h))
  simple (suc k) n q h = elim (or-split (same_name n q) (is_above_within up k (up n) q) h)
      [ inl s ↦ record { names = []; way = same_name-true n q s; once = tt } | inr r ↦ next k n q (up n) refl r (λ p t. simple k p q t) ]

  module _ (known : List Name) (all : (n p : Name) → up n ≡ Some p → list_any (same_name n) known ≡ true) where
    members : (xs : List Name) (n q : Name) → IsWay xs n q → (m : Name) → list_any (same_name m) xs ≡ true → list_any (same_name m) known ≡ true
    members [] n q w m h = absurd (true≢false (sym h))
    members (x ∷ xs) n q w m h = elim (or-split (same_name m x) (list_any (same_name m) xs) h)
        [ inl s ↦ all m w.0 (ap up (same_name-true m x s ∙ w.1) ∙ w.2) | inr r ↦ members xs w.0 q w.3 m r ]

    -- who is met at all is met within as many steps as there are names, and one
    within : (k : ℕ) (n q : Name) → is_above_within up k (Some n) q ≡ true → is_above_within up (length known + 1) (Some n) q ≡ true
    within k n q h =
        let s = simple k n q h in
        let le : length s.names ≤ length known = length-le_from_is_member same_name_equiv s.names known s.once (members s.names n q s.way) in
        let l = size-length s.names in
        let j = length known + 1 - suc (size s.names) in
        let e : grown j (suc (size s.names)) ≡ length known + 1 = grown-sum j (suc (size s.names)) ∙ omega (arith, le, l) in
        subst (λ f. is_above_within up f (Some n) q ≡ true) e (above-grown j (suc (size s.names)) (Some n) q (way-above s.names n q s.way))

known-by : (o : Option Change) (h : Option Held) (p : Name) → parent_by o h ≡ Some p → (is_some h || is_some o) ≡ true
known-by (Some v) None p e = refl
known-by (Some v) (Some h) p e = refl
known-by None (Some h) p e = refl
known-by None None p e = absurd (true≢false (sym (ap (λ (x : Option Name). is_some x) e)))

pub over-met : (d : Drafted) (c : Resident) (n q : Name) → IsSelfOrAncestor (parent_after d c) n q → is_met_going_up d c n q ≡ true
over-met d c n q over =
    let known = keys_of c.nodes ++ keys_of d.changes in
    let all : (m p : Name) → parent_after d c m ≡ Some p → list_any (same_name m) known ≡ true = λ m p e.
    list_any-append (same_name m) (keys_of c.nodes) (keys_of d.changes)
    ∙ ap (λ b. b || list_any (same_name m) (keys_of d.changes)) (sym (is_some-lookup (same_name m) c.nodes))
    ∙ ap (λ b. is_some (held_node c m) || b) (sym (is_some-lookup (same_name m) d.changes))
    ∙ known-by (drafted d m) (held_node c m) p e in
    let a = length-append (keys_of c.nodes) (keys_of d.changes) in
    let x = length-keys_of c.nodes in
    let y = length-keys_of d.changes in
    let e : length known + 1 ≡ length c.nodes + length d.changes + 1 = omega (arith, a, x, y) in
    subst (λ f. is_above_within (parent_after d c) f (Some n) q ≡ true) e (within (parent_after d c) known all over.0 n q over.1)
