-- The groups of resident blocks stand one behind another after an entry has changed places with another, come or gone.
use Rattle.std.proofs.Common.{◌≡◌, ◌≢◌, ◌⊎◌, inl, inr, ◌+◌, ◌≤◌, ◌<◌, ℕ, zero, suc, Bool, true, false, List, [], ◌∷◌, Option, Some, None, refl, ap, sym, ◌∙◌, subst, arith, length, get_or, slice_get, true≢false, is_some}
use Rattle.std.specs.Prelude.{swap}
use Rattle.std.proofs.lemmas.Bool.{cases_eq, cases_lt}
use Rattle.std.proofs.lemmas.Option.{slice_get_within, slice_get-get_or, get_or_from_slice_get}
use Rattle.std.proofs.lemmas.List.Edits.{swapped_from_swap, length-swap}
use Rattle.iris_name.specs.declared.name.Name.{Name}
use Rattle.iris_blocks.specs.declared.held.PageHeld.{PageHeld}
use Rattle.iris_blocks.specs.declared.groups.Ends.{Ends}
use Rattle.iris_blocks.specs.declared.groups.Group.{Group}
use Rattle.iris_blocks.specs.Groups.{group_of, is_first, is_in_two, is_in_three, IsParted, AreGroupedBut, AreGrouped, Leaves, JoinsIn}

-- ---- two places changed

module _ {X : Type 0} where
  -- the entry at k after i and j changed places, but for j: it was at j if k is i, and at k else
  pub swapped_from : (xs : List X) (i j k : ℕ) (e : X) → i < length xs → j < length xs → k ≢ j → slice_get (swap xs i j) k ≡ Some e
      → ((k ≡ i) × (slice_get xs j ≡ Some e)) ⊎ ((k ≢ i) × (slice_get xs k ≡ Some e))
  swapped_from xs i j k e li lj kj at =
      let s = swapped_from_swap xs (swap xs i j) i j e li lj refl in
      let here : get_or (swap xs i j) k e ≡ e = get_or_from_slice_get (swap xs i j) k e e at in
      let n = length-swap xs i j in
      let w = slice_get_within (swap xs i j) k e at in
      let lk : k < length xs = omega (arith, n, w) in
      elim (cases_eq k i) [
        | inl y ↦ inl (y, slice_get-get_or xs j e lj ∙ ap Some (sym s.0 ∙ ap (λ m. get_or (swap xs i j) m e) (sym y) ∙ here))
        | inr apart ↦ inr (apart, slice_get-get_or xs k e lk ∙ ap Some (sym (s.2 k apart kj) ∙ here))
      ]

  -- the entry that was at i is at j
  pub swapped_to : (xs : List X) (i j : ℕ) → i < length xs → j < length xs → slice_get (swap xs i j) j ≡ slice_get xs i
  swapped_to xs i j li lj = by (slice_get xs i) refl
    where
      some_entry : (ys : List X) → 0 < length ys → X
      some_entry [] lt = absurd (omega (arith, lt))
      some_entry (y ∷ ys) lt = y

      by : (o : Option X) → slice_get xs i ≡ o → slice_get (swap xs i j) j ≡ o
      by (Some e) at =
          let s = swapped_from_swap xs (swap xs i j) i j e li lj refl in
          let n = length-swap xs i j in
          slice_get-get_or (swap xs i j) j e (omega (arith, n, lj)) ∙ ap Some (s.1 ∙ get_or_from_slice_get xs i e e at)
      by None at = absurd (true≢false (ap is_some (sym (slice_get-get_or xs i (some_entry xs (omega (arith, li))) li) ∙ at)))

-- where the entry at i, left out, changes places with the one at j, what the others pass is as it was, if j lies on the same side as i
abbrev Entries : Type 0
Entries = List (Name × PageHeld)

parted_swap : (t : Group → Bool) (es : Entries) (c d i j : ℕ) → IsParted t es c i → i < length es → j < length es
    → (i ≢ j → (i < d → j < c) × (d ≤ i → c ≤ j)) → ((k : ℕ) → k ≢ j → k ≢ i → (k < d → k < c) × (d ≤ k → c ≤ k)) → IsParted t (swap es i j) d j
parted_swap t es c d i j p li lj near far = λ k e kj at.
    elim (swapped_from es i j k e li lj kj at) [
      | inl h ↦ (let ne : i ≢ j = λ y. kj (h.0 ∙ y) in
          let q = p j e (λ y. ne (sym y)) h.1 in
          (λ lt. q.0 ((near ne).0 (subst (λ m. m < d) h.0 lt)), λ le. q.1 ((near ne).1 (subst (λ m. d ≤ m) h.0 le))))
      | inr h ↦ (let q = p k e h.0 h.1 in (λ lt. q.0 ((far k kj h.0).0 lt), λ le. q.1 ((far k kj h.0).1 le)))
    ]

-- the same, at an end that stays
parted_beside : (t : Group → Bool) (es : Entries) (d i j : ℕ) → IsParted t es d i → i < length es → j < length es → (i ≢ j → (i < d → j < d) × (d ≤ i → d ≤ j)) → IsParted t (swap es i j) d j
parted_beside t es d i j p li lj near = parted_swap t es d d i j p li lj near (λ k kj ki. (λ lt. lt, λ le. le))

-- ---- an entry leaves

module _ (t : Group → Bool) (es fs : Entries) (end i now j : ℕ) (li : i < length es) (le : end ≤ length es) (l : Leaves es end i fs now j) where
  leaves_own : IsParted t es end i → IsParted t fs now j
  leaves_own p = elim (cases_lt i end) [
    | inl lt ↦ (let f = l.inside lt in
        let a = f.0 in let b = f.1 in
        subst (λ g. IsParted t g now j) (sym f.2)
        (parted_swap t es end now i j p li (omega (arith, a, b, le)) (λ ne. (λ x. omega (arith, a, b), λ x. absurd (ne (omega (arith, a, b, x, lt))))) (λ k kj ki. (λ x. omega (arith, a, x), λ x. omega (arith, a, b, x, kj)))))
    | inr ge ↦ (let f = l.outside ge in
        subst (λ g. IsParted t g now j) (sym f.2) (subst (λ m. IsParted t es m j) (sym f.0) (subst (λ m. IsParted t es end m) (sym f.1) p)))
  ]

  leaves_beside : (d : ℕ) → IsParted t es d i → (i < end → (i < d → now < d) × (d ≤ i → d ≤ now)) → IsParted t fs d j
  leaves_beside d p near = elim (cases_lt i end) [
    | inl lt ↦ (let f = l.inside lt in
        let a = f.0 in let b = f.1 in let n = near lt in
        subst (λ g. IsParted t g d j) (sym f.2)
        (parted_beside t es d i j p li (omega (arith, a, b, le)) (λ ne. (λ x. subst (λ m. m < d) (sym b) (n.0 x), λ x. subst (λ m. d ≤ m) (sym b) (n.1 x)))))
    | inr ge ↦ (let f = l.outside ge in subst (λ g. IsParted t g d j) (sym f.2) (subst (λ m. IsParted t es d m) (sym f.1) p))
  ]

module _ (es fs : Entries) (end i now j : ℕ) (li : i < length es) (le : end ≤ length es) (l : Leaves es end i fs now j) where
  pub leaves_length : length fs ≡ length es
  leaves_length = elim (cases_lt i end) [ inl lt ↦ ap length (l.inside lt).2 ∙ length-swap es i j | inr ge ↦ ap length (l.outside ge).2 ]

  -- it lies past the end then, within the list, and no further left than where the end is
  pub leaves_place : (now ≤ j) × (j < length fs) × (now ≤ end) × (end ≤ now + 1)
  leaves_place =
      let n = leaves_length in
      elim (cases_lt i end) [
        | inl lt ↦ (let a = (l.inside lt).0 in let b = (l.inside lt).1 in (omega (arith, b), omega (arith, a, b, n, le), omega (arith, a), omega (arith, a)))
        | inr ge ↦ (let a = (l.outside ge).0 in let b = (l.outside ge).1 in (omega (arith, a, b, ge), omega (arith, b, n, li), omega (arith, a), omega (arith, a)))
      ]

  pub leaves_carried : slice_get fs j ≡ slice_get es i
  leaves_carried = elim (cases_lt i end) [
    | inl lt ↦ (let f = l.inside lt in let a = f.0 in let b = f.1 in ap (λ g. slice_get g j) f.2 ∙ swapped_to es i j li (omega (arith, a, b, le)))
    | inr ge ↦ (let f = l.outside ge in ap (λ g. slice_get g j) f.2 ∙ ap (λ m. slice_get es m) f.1)
  ]

  -- from the first group: the others' ends stay
  pub leaves_first : (d x : ℕ) → AreGroupedBut es (record { waiting = end; dirty = d; loose = x }) i → AreGroupedBut fs (record { waiting = now; dirty = d; loose = x }) j
  leaves_first d x g =
      let p = leaves_place in
      let n = leaves_length in
      let one = g.first in let two = g.second in let three = g.third in
      let shrinks : now ≤ end = p.2 in
      record {
        waiting = leaves_own is_first es fs end i now j li le l g.waiting;
        dirty = leaves_beside is_in_two es fs end i now j li le l d g.dirty (λ lt. (λ a. (let b = (l.inside lt).0 in omega (arith, b, one)), λ a. absurd (omega (arith, a, lt, one))));
        loose = leaves_beside is_in_three es fs end i now j li le l x g.loose (λ lt. (λ a. (let b = (l.inside lt).0 in omega (arith, b, one, two)), λ a. absurd (omega (arith, a, lt, one, two))));
        first = omega (arith, one, shrinks);
        second = two;
        third = omega (arith, three, n);
      }

  -- from the second, where it isn't in the first
  pub leaves_second : (w x : ℕ) → w ≤ i → AreGroupedBut es (record { waiting = w; dirty = end; loose = x }) i → AreGroupedBut fs (record { waiting = w; dirty = now; loose = x }) j × (w ≤ j)
  leaves_second w x wi g =
      let p = leaves_place in
      let n = leaves_length in
      let one = g.first in let two = g.second in let three = g.third in
      let shrinks : now ≤ end = p.2 in
      let past : now ≤ j = p.0 in
      let keeps : w ≤ now = elim (cases_lt i end) [ inl lt ↦ (let a = (l.inside lt).0 in omega (arith, a, wi, lt)) | inr ge ↦ (let a = (l.outside ge).0 in omega (arith, a, one)) ] in (
        record {
          waiting = leaves_beside is_first es fs end i now j li le l w g.waiting (λ lt. (λ a. absurd (omega (arith, a, wi)), λ a. keeps));
          dirty = leaves_own is_in_two es fs end i now j li le l g.dirty;
          loose = leaves_beside is_in_three es fs end i now j li le l x g.loose (λ lt. (λ a. (let b = (l.inside lt).0 in omega (arith, b, two)), λ a. absurd (omega (arith, a, lt, two))));
          first = keeps;
          second = omega (arith, two, shrinks);
          third = omega (arith, three, n);
        },
        omega (arith, keeps, past),
      )

  -- from the third, where it is in none before
  pub leaves_third : (w d : ℕ) → d ≤ i → AreGroupedBut es (record { waiting = w; dirty = d; loose = end }) i → AreGroupedBut fs (record { waiting = w; dirty = d; loose = now }) j
  leaves_third w d di g =
      let p = leaves_place in
      let n = leaves_length in
      let one = g.first in let two = g.second in let three = g.third in
      let shrinks : now ≤ end = p.2 in
      let keeps : d ≤ now = elim (cases_lt i end) [ inl lt ↦ (let a = (l.inside lt).0 in omega (arith, a, di, lt)) | inr ge ↦ (let a = (l.outside ge).0 in omega (arith, a, two)) ] in
      record {
        waiting = leaves_beside is_first es fs end i now j li le l w g.waiting (λ lt. (λ a. absurd (omega (arith, a, di, one)), λ a. omega (arith, keeps, one)));
        dirty = leaves_beside is_in_two es fs end i now j li le l d g.dirty (λ lt. (λ a. absurd (omega (arith, a, di)), λ a. keeps));
        loose = leaves_own is_in_three es fs end i now j li le l g.loose;
        first = one;
        second = keeps;
        third = omega (arith, three, n, shrinks);
      }

-- ---- an entry joins

module _ (es fs : Entries) (end i now j : ℕ) (li : i < length es) (behind : end ≤ i) (l : JoinsIn es end i fs now j) where
  pub joins_length : length fs ≡ length es
  joins_length = ap length l.swapped ∙ length-swap es i j

  joins_within : j < length es
  joins_within = let a = l.last in omega (arith, a, behind, li)

  pub joins_carried : slice_get fs j ≡ slice_get es i
  joins_carried = ap (λ g. slice_get g j) l.swapped ∙ swapped_to es i j li joins_within

  joins_own : (t : Group → Bool) → IsParted t es end i → IsParted t fs now j
  joins_own t p =
      let a = l.last in let b = l.more in
      subst (λ g. IsParted t g now j) (sym l.swapped)
      (parted_swap t es end now i j p li joins_within (λ ne. (λ x. absurd (ne (omega (arith, a, b, x, behind))), λ x. omega (arith, a))) (λ k kj ki. (λ x. omega (arith, a, b, x, kj), λ x. omega (arith, b, x))))

  pub joins_beside : (t : Group → Bool) (d : ℕ) → IsParted t es d i → (i < d → end < d) → (d ≤ i → d ≤ end) → IsParted t fs d j
  joins_beside t d p before past =
      let a = l.last in
      subst (λ g. IsParted t g d j) (sym l.swapped)
      (parted_beside t es d i j p li joins_within (λ ne. (λ x. subst (λ m. m < d) (sym a) (before x), λ x. subst (λ m. d ≤ m) (sym a) (past x))))

  -- the third, from behind all
  pub joins_third : (w d : ℕ) → AreGroupedBut es (record { waiting = w; dirty = d; loose = end }) i → AreGroupedBut fs (record { waiting = w; dirty = d; loose = now }) j
  joins_third w d g =
      let one = g.first in let two = g.second in let three = g.third in
      let n = joins_length in let b = l.more in
      record {
        waiting = joins_beside is_first w g.waiting (λ x. absurd (omega (arith, x, behind, one, two))) (λ x. omega (arith, one, two));
        dirty = joins_beside is_in_two d g.dirty (λ x. absurd (omega (arith, x, behind, two))) (λ x. two);
        loose = joins_own is_in_three g.loose;
        first = one;
        second = omega (arith, two, b);
        third = omega (arith, b, n, li, behind);
      }

  -- the second, as the last of the third
  pub joins_second : (w x : ℕ) → i + 1 ≡ x → AreGroupedBut es (record { waiting = w; dirty = end; loose = x }) i → AreGroupedBut fs (record { waiting = w; dirty = now; loose = x }) j
  joins_second w x at g =
      let one = g.first in let two = g.second in let three = g.third in
      let n = joins_length in let b = l.more in
      record {
        waiting = joins_beside is_first w g.waiting (λ y. absurd (omega (arith, y, behind, one))) (λ y. one);
        dirty = joins_own is_in_two g.dirty;
        loose = joins_beside is_in_three x g.loose (λ y. omega (arith, at, behind)) (λ y. absurd (omega (arith, y, at)));
        first = omega (arith, one, b);
        second = omega (arith, b, at, behind);
        third = omega (arith, three, n);
      }

  -- the first, as the last of the second
  pub joins_first : (d x : ℕ) → i + 1 ≡ d → AreGroupedBut es (record { waiting = end; dirty = d; loose = x }) i → AreGroupedBut fs (record { waiting = now; dirty = d; loose = x }) j
  joins_first d x at g =
      let one = g.first in let two = g.second in let three = g.third in
      let n = joins_length in let b = l.more in
      record {
        waiting = joins_own is_first g.waiting;
        dirty = joins_beside is_in_two d g.dirty (λ y. omega (arith, at, behind)) (λ y. absurd (omega (arith, y, at)));
        loose = joins_beside is_in_three x g.loose (λ y. omega (arith, at, behind, two)) (λ y. absurd (omega (arith, y, at, two)));
        first = omega (arith, b, at, behind);
        second = two;
        third = omega (arith, three, n);
      }

-- ---- the entry that was left out

-- what the entry at i passes is what its place asks
pub record IsInPlace (ends : Ends) (i : ℕ) (g : Group) : Type 0 where
  pub waiting : (i < ends.waiting → is_first g ≡ true) × (ends.waiting ≤ i → is_first g ≡ false)
  pub dirty : (i < ends.dirty → is_in_two g ≡ true) × (ends.dirty ≤ i → is_in_two g ≡ false)
  pub loose : (i < ends.loose → is_in_three g ≡ true) × (ends.loose ≤ i → is_in_three g ≡ false)

pub entry_value : (a b : Name × PageHeld) → Some a ≡ Some b → group_of a.1 ≡ group_of b.1
entry_value a b e = ap (λ (o : Option (Name × PageHeld)). group_or (group_of a.1) o) e
  where
    group_or : Group → Option (Name × PageHeld) → Group
    group_or g None = g
    group_or g (Some x) = group_of x.1

pub parted_all : (t : Group → Bool) (es : Entries) (end i : ℕ) (e : Name × PageHeld) → IsParted t es end i → slice_get es i ≡ Some e → (i < end → t (group_of e.1) ≡ true) × (end ≤ i → t (group_of e.1) ≡ false) → IsParted t es end (length es)
parted_all t es end i e p at own = λ k x kn is.
    elim (cases_eq k i) [
      | inl y ↦ (let g : group_of x.1 ≡ group_of e.1 = entry_value x e (sym is ∙ ap (slice_get es) y ∙ at) in
          (λ lt. ap t g ∙ own.0 (subst (λ m. m < end) y lt), λ le. ap t g ∙ own.1 (subst (λ m. end ≤ m) y le)))
      | inr apart ↦ p k x apart is
    ]

pub grouped_all : (es : Entries) (ends : Ends) (i : ℕ) (e : Name × PageHeld) → AreGroupedBut es ends i → slice_get es i ≡ Some e → IsInPlace ends i (group_of e.1) → AreGrouped es ends
grouped_all es ends i e g at own = record {
  waiting = parted_all is_first es ends.waiting i e g.waiting at own.waiting;
  dirty = parted_all is_in_two es ends.dirty i e g.dirty at own.dirty;
  loose = parted_all is_in_three es ends.loose i e g.loose at own.loose;
  first = g.first;
  second = g.second;
  third = g.third;
}

pub parted_but : (t : Group → Bool) (es : Entries) (end i : ℕ) → IsParted t es end (length es) → IsParted t es end i
parted_but t es end i p = λ k e ki at. (let w = slice_get_within es k e at in p k e (λ y. omega (arith, y, w)) at)

-- any entry may be left out
pub grouped_but : (es : Entries) (ends : Ends) (i : ℕ) → AreGrouped es ends → AreGroupedBut es ends i
grouped_but es ends i g = record {
  waiting = parted_but is_first es ends.waiting i g.waiting;
  dirty = parted_but is_in_two es ends.dirty i g.dirty;
  loose = parted_but is_in_three es ends.loose i g.loose;
  first = g.first;
  second = g.second;
  third = g.third;
}

-- each entry of groups that stand where they belong is in place
pub in_place : (es : Entries) (ends : Ends) (i : ℕ) (e : Name × PageHeld) → AreGrouped es ends → slice_get es i ≡ Some e → IsInPlace ends i (group_of e.1)
in_place es ends i e g at =
    let w = slice_get_within es i e at in
    record { waiting = g.waiting i e (λ y. omega (arith, y, w)) at; dirty = g.dirty i e (λ y. omega (arith, y, w)) at; loose = g.loose i e (λ y. omega (arith, y, w)) at }

-- there is an entry at each place
pub entry_at : (es : Entries) (i : ℕ) → i < length es → (e : Name × PageHeld) × (slice_get es i ≡ Some e)
entry_at [] i lt = absurd (omega (arith, lt))
entry_at (e ∷ es) zero lt = (e, refl)
entry_at (e ∷ es) (suc i) lt = entry_at es i (omega (arith, lt))

pub entry_name : (a b : Name × PageHeld) → Some a ≡ Some b → a.0 ≡ b.0
entry_name a b e = ap (λ (o : Option (Name × PageHeld)). name_or a.0 o) e
  where
    name_or : Name → Option (Name × PageHeld) → Name
    name_or n None = n
    name_or n (Some x) = x.0

pub entry_held : (a b : Name × PageHeld) → Some a ≡ Some b → a.1 ≡ b.1
entry_held a b e = ap (λ (o : Option (Name × PageHeld)). held_or a.1 o) e
  where
    held_or : PageHeld → Option (Name × PageHeld) → PageHeld
    held_or h None = h
    held_or h (Some x) = x.1
