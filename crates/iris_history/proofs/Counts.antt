-- How many distinct names can have a property.
use Rattle.std.proofs.Common.{◌≡◌, ◌<◌, ◌≤◌, ◌||◌, inl, inr, ℕ, zero, suc, List, [], ◌∷◌, length, map, Bool, true, false, true≢false, eqb, ◌⊎◌, refl, sym, ◌∙◌, ap, subst, arith}
use Rattle.std.proofs.lemmas.Bool.{eqb-true}
use Rattle.std.proofs.lemmas.List.{length-map}
use Rattle.std.proofs.lemmas.Bool.Decides.{eqb_tells}
use Rattle.std.proofs.lemmas.Map.Steps.{length-le_from_distinct_below}
use Rattle.std.specs.List.{AllByRecursion, IsDistinct, list_any}
use Rattle.iris_name.specs.declared.name.Name.{Name}
use Rattle.iris_name.specs.NameLaws.{same_name-refl}
use Rattle.iris_name.specs.Names.{same_name}
use Rattle.iris_history.specs.Crowding.{AreSeveral, AtLeast}

neither : (a b : Bool) → a || b ≡ false → (a ≡ false) × (b ≡ false)
neither true b h = absurd (true≢false h)
neither false b h = (refl, h)

either : (a b : Bool) → a || b ≡ true → (a ≡ true) ⊎ (b ≡ true)
either true b h = inl refl
either false b h = inr h

-- Where each name that has P is one of the first m in a row.
module _ (P : Name → Type 0) (name : ℕ → Name) (place : Name → ℕ) (m : ℕ) (named : (n : Name) → P n → (n ≡ name (place n)) × (place n < m)) where
  own : (n o : Name) → P n → P o → place n ≡ place o → same_name n o ≡ true
  own n o p q same = let e : n ≡ o = (named n p).0 ∙ ap name same ∙ sym (named o q).0 in subst (λ x. same_name n x ≡ true) e (same_name-refl n)

  fresh : (n : Name) → P n → (ns : List Name) → AreSeveral P ns → list_any (same_name n) ns ≡ false → AllByRecursion (λ c. eqb (place n) c ≡ false) (map place ns)
  fresh n p [] several none = tt
  fresh n p (o ∷ ns) several none = let each = neither _ _ none in (
    elim (eqb_tells (place n) (place o)) [
      | inl same ↦ absurd (true≢false (sym (own n o p several.0 same.1) ∙ each.0))
      | inr other ↦ other.0
    ],
    fresh n p ns several.2 each.1,
  )

  distinct : (ns : List Name) → AreSeveral P ns → IsDistinct eqb (map place ns)
  unfolding IsDistinct
  distinct [] several = tt
  distinct (n ∷ ns) several = (fresh n several.0 ns several.2 several.1, distinct ns several.2)

  within : (ns : List Name) → AreSeveral P ns → (q : ℕ) → list_any (eqb q) (map place ns) ≡ true → q < m
  within [] several q h = absurd (true≢false (sym h))
  within (n ∷ ns) several q h = elim (either _ _ h) [
    | inl same ↦ subst (λ c. c < m) (sym (eqb-true q (place n) same)) (named n several.0).1
    | inr later ↦ within ns several.2 q later
  ]

  few-length : (ns : List Name) → AreSeveral P ns → length ns ≤ m
  few-length ns several =
      let e : length (map place ns) ≡ length ns = length-map ns place in
      subst (λ l. l ≤ m) e (length-le_from_distinct_below (map place ns) m (distinct ns several) (within ns several))

  -- so at most m have P
  pub few : (count : ℕ) → m < count → AtLeast count P → ⊥
  few count less h = let le = few-length h.0 h.2 in absurd (omega (arith, less, h.1, le))

-- Names in a row: each of its own number, one of each number below the count.
module _ (name : ℕ → Name) (apart : (p q : ℕ) → q < p → same_name (name p) (name q) ≡ false) where
  pub row : ℕ → List Name
  row zero = []
  row (suc p) = name p ∷ row p

  row-length : (p : ℕ) → length (row p) ≡ p
  unfolding row
  row-length zero = refl
  row-length (suc p) = ap suc (row-length p)

  row-new : (p q : ℕ) → q ≤ p → list_any (same_name (name p)) (row q) ≡ false
  unfolding row
  row-new p zero le = refl
  row-new p (suc q) le = let e = apart p q le in let f = row-new p q (omega arith) in ap (λ b. b || list_any (same_name (name p)) (row q)) e ∙ f

  row-several : (P : Name → Type 0) (p : ℕ) → ((q : ℕ) → q < p → P (name q)) → AreSeveral P (row p)
  unfolding row
  row-several P zero each = tt
  row-several P (suc p) each = (each p (omega arith), row-new p p (omega arith), row-several P p (λ q lt. each q (omega arith)))

  -- so many of them have P
  pub many : (P : Name → Type 0) (count p : ℕ) → count ≤ p → ((q : ℕ) → q < p → P (name q)) → AtLeast count P
  many P count p le each = (row p, subst (λ l. count ≤ l) (sym (row-length p)) le, row-several P p each)
