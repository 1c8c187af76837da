-- The parent of what is being fetched stays resident.
use Rattle.std.proofs.Common.{◌≡◌, ◌⊎◌, inl, inr, ℕ, ◌∷◌, true, false, Option, Some, None, refl, sym, ◌∙◌, ap, subst}
use Rattle.std.specs.Prelude.{option_map}
use Rattle.iris_name.specs.declared.name.Name.{Name}
use Rattle.iris_name.specs.declared.note.Expect.{Expect}
use Rattle.iris_name.specs.History.{Past, Stamped}
use Rattle.iris_name.specs.Names.{same_name}
use Rattle.iris_history.specs.Kept.{Kept, shown_in}
use Rattle.iris_invariant.specs.Agrees.{Getting, Out, View}
use Rattle.iris_invariant.specs.Events.{touched, Elsewhere, Began, Moved, Still, Changed, Answered, Evicted}
use Rattle.iris_invariant.specs.ParentsResident.{ParentsResident, NoChildIsFetched}
use Rattle.iris_invariant.proofs.Events.{which, none_some}

module _ (k : Kept) (Links : k.Unfolded → Name → Type 0) (past : Past) (v v' : View) (h : ParentsResident k Links past v) where
  -- whatever ends or gives up at one name, with a note that leaves the table or without, where a resident name stays resident
  pub ends_homes : (n : Name) (past' : Past) → Elsewhere n v v' → ((q : Name) → shown_in k past' q ≡ shown_in k past q) → (v'.cell n).out ≡ None
      → ((v.cell n).resident ≡ true → (v'.cell n).resident ≡ true) → ParentsResident k Links past' v'
  ends_homes n past' el same none stays m p o expect u f d s l = home (which n p) (was (which n m)) where
    was : (n ≡ m) ⊎ (same_name n m ≡ false) → (v.cell p).resident ≡ true
    was (inl e) = absurd (none_some (v'.cell m).out o (subst (λ z. (v'.cell z).out ≡ None) e none) f)
    was (inr e) = h m p o expect u (sym (ap (λ c. c.out) (el.cell m e)) ∙ f) d (sym (same p) ∙ s) l

    home : (n ≡ p) ⊎ (same_name n p ≡ false) → (v.cell p).resident ≡ true → (v'.cell p).resident ≡ true
    home (inl e) r = subst (λ z. (v'.cell z).resident ≡ true) e (stays (subst (λ z. (v.cell z).resident ≡ true) (sym e) r))
    home (inr e) r = ap (λ c. c.resident) (el.cell p e) ∙ r

  -- what begins: a get whose parent is resident, or something else
  pub begins_homes : (n : Name) (o : Out) → Began n o v v'
      → ((expect : Expect) → o.doing ≡ Getting expect → (p : Name) (u : k.Unfolded) → shown_in k past p ≡ Some u → Links u n → (v.cell p).resident ≡ true) → ParentsResident k Links past v'
  begins_homes n o b new m p o' expect u f d s l = home (which n p) (was (which n m)) where
    some_same : (a b : Out) → Some a ≡ Some b → a ≡ b
    some_same a b e = cc

    was : (n ≡ m) ⊎ (same_name n m ≡ false) → (v.cell p).resident ≡ true
    was (inl e) = let same = some_same o o' (sym b.out ∙ subst (λ z. (v'.cell z).out ≡ Some o') (sym e) f) in
        new expect (subst (λ z. z.doing ≡ Getting expect) (sym same) d) p u s (subst (Links u) (sym e) l)
    was (inr e) = h m p o' expect u (sym (ap (λ c. c.out) (b.rest.cell m e)) ∙ f) d s l

    home : (n ≡ p) ⊎ (same_name n p ≡ false) → (v.cell p).resident ≡ true → (v'.cell p).resident ≡ true
    home (inl e) r = subst (λ z. (v'.cell z).resident ≡ true) e (b.resident ∙ subst (λ z. (v.cell z).resident ≡ true) (sym e) r)
    home (inr e) r = ap (λ c. c.resident) (b.rest.cell p e) ∙ r

  pub evict_homes : (n : Name) → Evicted n v v' → NoChildIsFetched k Links past v n → ParentsResident k Links past v'
  evict_homes n b free m p o expect u f d s l = home (which n p) where
    was : (v.cell m).out ≡ Some o
    was = by (which n m) where
      by : (n ≡ m) ⊎ (same_name n m ≡ false) → (v.cell m).out ≡ Some o
      by (inl e) = absurd (none_some (v'.cell m).out o (subst (λ z. (v'.cell z).out ≡ None) e b.out) f)
      by (inr e) = sym (ap (λ c. c.out) (b.rest.cell m e)) ∙ f

    home : (n ≡ p) ⊎ (same_name n p ≡ false) → (v'.cell p).resident ≡ true
    home (inl e) = absurd (free m o expect u was d (subst (λ z. shown_in k past z ≡ Some u) (sym e) s) l)
    home (inr e) = ap (λ c. c.resident) (b.rest.cell p e) ∙ h m p o expect u was d s l

  -- a call: a name that leads to it now either is changed, so resident, or led to it before
  pub call_homes : (who : ℕ) (x : Stamped) → Answered k past x who v v' → ParentsResident k Links (x ∷ past) v'
  call_homes who x b m p o expect u f d s l = home (b.moved p) where
    come : (c : Option Out) → option_map touched c ≡ Some o → (q : Out) × (c ≡ Some q) × (q.doing ≡ Getting expect)
    come None e = absurd (cc)
    come (Some q) e = (q, refl, let z : touched q ≡ o = cc in ap (λ y. y.doing) z ∙ d)

    was : Moved k past x m (v.cell m) (v'.cell m) → (q : Out) × ((v.cell m).out ≡ Some q) × (q.doing ≡ Getting expect)
    was (Still e c) = (o, sym (ap (λ z. z.out) c) ∙ f, d)
    was (Changed ne a is isn't out) = come (v.cell m).out (sym out ∙ f)

    home : Moved k past x p (v.cell p) (v'.cell p) → (v'.cell p).resident ≡ true
    home (Still e c) = let q = was (b.moved m) in ap (λ z. z.resident) c ∙ h m p q.0 expect u q.1 q.2 (sym e ∙ s) l
    home (Changed ne a is isn't out) = (is (ap (λ z. Rattle.std.specs.Prelude.is_some z) s)).resident
