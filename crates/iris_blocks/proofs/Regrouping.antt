-- The groups after a block has come or gone, an edit of one, and where all pins of a caller are taken off.
use Rattle.std.proofs.Common.{◌≡◌, ◌≢◌, ◌⊎◌, inl, inr, ◌+◌, ◌-◌, ◌≤◌, ◌<◌, ◌++◌, ◌^◌, ℕ, zero, suc, Bool, true, false, cond, List, [], ◌∷◌, Option, Some, None, refl, ap, sym, ◌∙◌, subst, arith, length, get_or, set, slice_get, true≢false, is_some, length-append, map, get_or-set_same, get_or-set_other}
use Rattle.std.specs.Prelude.{◌&&◌, ◌↔◌, not, IsSome, IsSomeAnd, IfSome, swap_remove, nat_lt}
use Rattle.std.specs.List.{count_by, IsDistinct}
use Rattle.std.specs.Option.{option_map}
use Rattle.std.specs.Map.{lookup, keys_of}
use Rattle.std.proofs.lemmas.List.Sums.{sum_by-cons}
use Rattle.std.proofs.lemmas.Map.Entries.{lookup_from_place}
use Rattle.indexmap.specs.IndexMap.{IndexMap, IsUnique}
use Rattle.indexmap.proofs.CallerLemmas.{updates-with_value_at}
use Rattle.iris_name.specs.NameLaws.{same_name_equiv, same_name-true}
use Rattle.iris_cache.specs.Resident.{map_if}
use Rattle.std.proofs.lemmas.Map.Entries.{place_from_lookup}
use Rattle.iris_name.specs.Names.{same_name}
use Rattle.std.proofs.lemmas.Bool.{cases_eq, cases_lt, ltb-false, le-ltb}
use Rattle.std.proofs.lemmas.Nat.{and_le_l}
use Rattle.std.proofs.lemmas.List.{get_or-take, length-take, length-set}
use Rattle.std.proofs.lemmas.Option.{slice_get_within, slice_get-get_or, get_or_from_slice_get, slice_get-map}
use Rattle.indexmap.specs.Layout.{set_value_at}
use Rattle.iris_name.specs.declared.name.Name.{Name}
use Rattle.iris_blocks.specs.declared.held.PageHeld.{PageHeld}
use Rattle.iris_blocks.specs.declared.groups.Ends.{Ends}
use Rattle.iris_blocks.specs.declared.groups.Group.{Group}
use Rattle.iris_blocks.specs.declared.groups.Group.TheVariants.{Waiting, Sent, Loose, Kept}
use Rattle.iris_blocks.specs.Held.{unpinned_page, page_stay_by, page_stay_of}
use Rattle.iris_blocks.specs.Groups.{is_waiting, group_by, group_of, is_first, is_in_two, is_in_three, IsParted, AreGroupedBut, AreGrouped, AreGroupedTo, JoinsIn}
use Rattle.iris_blocks.proofs.Grouping.{swapped_from, parted_but, parted_all, entry_value, joins_beside, joins_carried, joins_length}

abbrev Entries : Type 0
Entries = List (Name × PageHeld)

-- ---- one comes

kept_in_front : {X : Type 0} (xs : List X) (e x : X) (k : ℕ) → k ≢ length xs → slice_get (xs ++ e ∷ []) k ≡ Some x → slice_get xs k ≡ Some x
kept_in_front [] e x zero ne at = absurd (ne refl)
kept_in_front [] e x (suc k) ne at = at
kept_in_front (y ∷ ys) e x zero ne at = at
kept_in_front (y ∷ ys) e x (suc k) ne at = kept_in_front ys e x k (λ i. ne (ap suc i)) at

parted_more : (t : Group → Bool) (es : Entries) (e : Name × PageHeld) (end : ℕ) → IsParted t es end (length es) → IsParted t (es ++ e ∷ []) end (length es)
parted_more t es e end p = λ k x ne at. p k x ne (kept_in_front es e x k ne at)

pub grouped_more : (es fs : Entries) (e : Name × PageHeld) (ends : Ends) → fs ≡ es ++ e ∷ [] → AreGrouped es ends → AreGroupedBut fs ends (length es)
grouped_more es fs e ends is g = subst (λ (l : Entries). AreGroupedBut l ends (length es)) (sym is) (record {
  waiting = parted_more is_first es e ends.waiting g.waiting;
  dirty = parted_more is_in_two es e ends.dirty g.dirty;
  loose = parted_more is_in_three es e ends.loose g.loose;
  first = g.first;
  second = g.second;
  third = let t = g.third in let n = length-append es (e ∷ []) in omega (arith, t, n);
})

-- ---- one goes

-- the entry at k, once the last stands in the place of the one at i
removed_from : {X : Type 0} (xs : List X) (i k : ℕ) (d e : X) → i < length xs → slice_get (swap_remove xs i d) k ≡ Some e
    → (k + 1 < length xs) × (((k ≡ i) × (slice_get xs (length xs - 1) ≡ Some e)) ⊎ ((k ≢ i) × (slice_get xs k ≡ Some e)))
removed_from xs i k d e li at =
    let last = get_or xs (length xs - 1) d in
    let ys = set xs i last in
    let w = slice_get_within (swap_remove xs i d) k e at in
    let n = length-take (length xs - 1) ys in
    let m = length-set xs i last in
    let short : k + 1 < length xs = omega (arith, w, n, m, li) in
    let here : get_or ys k e ≡ e = sym (get_or-take (length xs - 1) ys k e (omega (arith, short))) ∙ get_or_from_slice_get (swap_remove xs i d) k e e at in (
      short,
      elim (cases_eq k i) [
        | inl y ↦ inl (y, slice_get-get_or xs (length xs - 1) d (omega (arith, li)) ∙ ap Some (sym (get_or-set_same xs i last e li) ∙ ap (λ m. get_or ys m e) (sym y) ∙ here))
        | inr apart ↦ inr (apart, slice_get-get_or xs k e (omega (arith, short)) ∙ ap Some (sym (get_or-set_other xs i k last e apart) ∙ here))
      ],
    )

parted_less : (t : Group → Bool) (es : Entries) (end i : ℕ) (e : Name × PageHeld) → IsParted t es end i → end ≤ i → i < length es → (n : ℕ) → IsParted t (swap_remove es i e) end n
parted_less t es end i e p ge li n = λ k x kn at.
    let r = removed_from es i k e x li at in
    let short = r.0 in
    elim r.1 [
      | inl h ↦ (let y = h.0 in
          let q = p (length es - 1) x (λ z. omega (arith, z, y, short)) h.1 in
          (λ lt. absurd (omega (arith, lt, y, ge)), λ le. q.1 (omega (arith, ge, li))))
      | inr h ↦ p k x h.0 h.1
    ]

pub grouped_less : (es fs : Entries) (e : Name × PageHeld) (ends : Ends) (i : ℕ) → fs ≡ swap_remove es i e → length fs + 1 ≡ length es → AreGroupedBut es ends i → ends.loose ≤ i → i < length es → AreGrouped fs ends
grouped_less es fs e ends i is len g behind li =
    let one = g.first in let two = g.second in
    record {
      waiting = subst (λ (l : Entries). IsParted is_first l ends.waiting (length fs)) (sym is) (parted_less is_first es ends.waiting i e g.waiting (omega (arith, one, two, behind)) li (length fs));
      dirty = subst (λ (l : Entries). IsParted is_in_two l ends.dirty (length fs)) (sym is) (parted_less is_in_two es ends.dirty i e g.dirty (omega (arith, two, behind)) li (length fs));
      loose = subst (λ (l : Entries). IsParted is_in_three l ends.loose (length fs)) (sym is) (parted_less is_in_three es ends.loose i e g.loose behind li (length fs));
      first = one;
      second = two;
      third = omega (arith, behind, li, len);
    }

-- ---- one is edited

set_elsewhere : (es : Entries) (i k : ℕ) (w : PageHeld) → k ≢ i → slice_get (set_value_at es i w) k ≡ slice_get es k
set_elsewhere [] i k w ne = refl
set_elsewhere (e ∷ es) zero zero w ne = absurd (ne refl)
set_elsewhere (e ∷ es) zero (suc k) w ne = refl
set_elsewhere (e ∷ es) (suc i) zero w ne = refl
set_elsewhere (e ∷ es) (suc i) (suc k) w ne = set_elsewhere es i k w (λ y. ne (ap suc y))

pub set_here : (es : Entries) (i : ℕ) (n : Name) (h w : PageHeld) → slice_get es i ≡ Some (n, h) → slice_get (set_value_at es i w) i ≡ Some (n, w)
set_here [] i n h w at = absurd (true≢false (sym (ap is_some at)))
set_here (e ∷ es) zero n h w at = ap (λ (o : Option (Name × PageHeld)). option_map (λ (p : Name × PageHeld). (p.0, w)) o) at
set_here (e ∷ es) (suc i) n h w at = set_here es i n h w at

parted_set : (t : Group → Bool) (es : Entries) (end i : ℕ) (w : PageHeld) → IsParted t es end i → IsParted t (set_value_at es i w) end i
parted_set t es end i w p = λ k x ne at. p k x ne (sym (set_elsewhere es i k w ne) ∙ at)

length_set : (es : Entries) (i : ℕ) (w : PageHeld) → length (set_value_at es i w) ≡ length es
length_set [] i w = refl
length_set (e ∷ es) zero w = refl
length_set (e ∷ es) (suc i) w = ap suc (length_set es i w)

pub grouped_set : (es fs : Entries) (ends : Ends) (i : ℕ) (w : PageHeld) → fs ≡ set_value_at es i w → AreGroupedBut es ends i → AreGroupedBut fs ends i
grouped_set es fs ends i w is g = subst (λ (l : Entries). AreGroupedBut l ends i) (sym is) (record {
  waiting = parted_set is_first es ends.waiting i w g.waiting;
  dirty = parted_set is_in_two es ends.dirty i w g.dirty;
  loose = parted_set is_in_three es ends.loose i w g.loose;
  first = g.first;
  second = g.second;
  third = let t = g.third in let n = length_set es i w in omega (arith, t, n);
})

-- ---- pins are taken off

pins_first : (dirty out p q : Bool) → is_first (group_by dirty out p) ≡ is_first (group_by dirty out q)
pins_first true false p q = refl
pins_first true true p q = refl
pins_first false true p q = refl
pins_first false false true true = refl
pins_first false false true false = refl
pins_first false false false true = refl
pins_first false false false false = refl

pins_two : (dirty out p q : Bool) → is_in_two (group_by dirty out p) ≡ is_in_two (group_by dirty out q)
pins_two true false p q = refl
pins_two true true p q = refl
pins_two false true p q = refl
pins_two false false true true = refl
pins_two false false true false = refl
pins_two false false false true = refl
pins_two false false false false = refl

pins_three : (dirty out p q : Bool) → (p ≡ false → q ≡ false) → is_in_three (group_by dirty out p) ≡ true → is_in_three (group_by dirty out q) ≡ true
pins_three true false p q less h = refl
pins_three true true p q less h = refl
pins_three false true p q less h = absurd (true≢false (sym h))
pins_three false false true q less h = absurd (true≢false (sym h))
pins_three false false false q less h = ap (λ (b : Bool). is_in_three (group_by false false b)) (less refl)

fewer_pins : (who : ℕ) (h : PageHeld) → nat_lt 0 h.pins ≡ false → nat_lt 0 (unpinned_page who h).pins ≡ false
fewer_pins who h e =
    let none = ltb-false 0 h.pins e in
    let less = and_le_l h.pins (2 ^ 32 - 1 - 2 ^ who) in
    le-ltb 0 (unpinned_page who h).pins (omega (arith, none, less))

abbrev unpinned_entry : ℕ → Name × PageHeld → Name × PageHeld
unpinned_entry who e = (e.0, unpinned_page who e.1)

was_there : (who : ℕ) (o : Option (Name × PageHeld)) (x : Name × PageHeld) → option_map (unpinned_entry who) o ≡ Some x → (e : Name × PageHeld) × (o ≡ Some e) × (group_of x.1 ≡ group_of (unpinned_page who e.1))
was_there who None x e = absurd (true≢false (sym (ap is_some e)))
was_there who (Some e) x at = (e, refl, ap (λ (o : Option (Name × PageHeld)). group_or (group_of x.1) o) (sym at))
  where
    group_or : Group → Option (Name × PageHeld) → Group
    group_or g None = g
    group_or g (Some y) = group_of y.1

module _ (who : ℕ) (es fs : Entries) (is : fs ≡ map (unpinned_entry who) es) where
  unpinned_at : (k : ℕ) (x : Name × PageHeld) → slice_get fs k ≡ Some x → (e : Name × PageHeld) × (slice_get es k ≡ Some e) × (group_of x.1 ≡ group_of (unpinned_page who e.1))
  unpinned_at k x at = was_there who (slice_get es k) x (sym (ap (λ l. slice_get l k) is ∙ slice_get-map (unpinned_entry who) es k) ∙ at)

  unpinned_parted : (t : Group → Bool) → ((h : PageHeld) → t (group_of (unpinned_page who h)) ≡ t (group_of h)) → (end n m : ℕ) → length es ≤ n → IsParted t es end n → IsParted t fs end m
  unpinned_parted t same end n m le p = λ k x ne at.
      let u = unpinned_at k x at in
      let w = slice_get_within es k u.0 u.1 in
      let q = p k u.0 (λ y. omega (arith, y, w, le)) u.1 in
      let g : t (group_of x.1) ≡ t (group_of u.0.1) = ap t u.2 ∙ same u.0.1 in
      (λ lt. g ∙ q.0 lt, λ ge. g ∙ q.1 ge)

  -- all groups but the end of the third stand as they stood
  pub unpinned_grouped : (ends : Ends) → length fs ≡ length es → AreGrouped es ends → AreGroupedTo fs ends ends.loose
  unpinned_grouped ends len g = record {
    waiting = unpinned_parted is_first (λ h. pins_first h.dirty (is_some h.out) (nat_lt 0 (unpinned_page who h).pins) (nat_lt 0 h.pins)) ends.waiting (length es) (length fs) (omega arith) g.waiting;
    dirty = unpinned_parted is_in_two (λ h. pins_two h.dirty (is_some h.out) (nat_lt 0 (unpinned_page who h).pins) (nat_lt 0 h.pins)) ends.dirty (length es) (length fs) (omega arith) g.dirty;
    loose = λ k x lt at. (let u = unpinned_at k x at in
        let w = slice_get_within es k u.0 u.1 in
        let q = g.loose k u.0 (λ y. omega (arith, y, w)) u.1 in
        (λ l. ap is_in_three u.2 ∙ pins_three u.0.1.dirty (is_some u.0.1.out) (nat_lt 0 u.0.1.pins) (nat_lt 0 (unpinned_page who u.0.1).pins) (fewer_pins who u.0.1) (q.0 l), λ ge. absurd (omega (arith, ge, lt))));
    first = g.first;
    second = g.second;
    third = omega arith;
    within = let t = g.third in omega (arith, t, len);
  }

pub grouped_end : (es : Entries) (ends : Ends) (i : ℕ) → AreGroupedTo es ends i → length es ≤ i → AreGrouped es ends
grouped_end es ends i g le = record {
  waiting = g.waiting;
  dirty = g.dirty;
  loose = λ k e ne at. (let w = slice_get_within es k e at in g.loose k e (omega (arith, w, le)) at);
  first = g.first;
  second = g.second;
  third = let t = g.third in let w = g.within in omega (arith, t, w);
}

module _ (es : Entries) (ends : Ends) (i : ℕ) (g : AreGroupedTo es ends i) (e : Name × PageHeld) (at : slice_get es i ≡ Some e) where
  clean_at : is_in_two (group_of e.1) ≡ false
  clean_at =
      let w = slice_get_within es i e at in let two = g.second in let three = g.third in
      (g.dirty i e (λ y. omega (arith, y, w)) at).1 (omega (arith, two, three))

  -- an entry that is kept stays
  pub grouped_kept : is_in_three (group_of e.1) ≡ false → AreGroupedTo es ends (i + 1)
  grouped_kept kept =
      let w = slice_get_within es i e at in let three = g.third in
      record {
        waiting = g.waiting;
        dirty = g.dirty;
        loose = λ k x lt is. elim (cases_eq k i) [
          | inl y ↦ (let same : group_of x.1 ≡ group_of e.1 = entry_value x e (sym is ∙ ap (slice_get es) y ∙ at) in
              (λ l. absurd (omega (arith, l, y, three)), λ ge. ap is_in_three same ∙ kept))
          | inr apart ↦ g.loose k x (omega (arith, lt, apart)) is
        ];
        first = g.first;
        second = g.second;
        third = omega (arith, three);
        within = omega (arith, w);
      }

  -- an entry that can go changes places with the first that is kept
  module _ (fs : Entries) (now j : ℕ) (l : JoinsIn es ends.loose i fs now j) (loose : is_in_three (group_of e.1) ≡ true) where
    li : i < length es
    li = slice_get_within es i e at

    carried : slice_get fs j ≡ Some e
    carried = joins_carried es fs ends.loose i now j li g.third l ∙ at

    beside : (t : Group → Bool) (end : ℕ) → IsParted t es end (length es) → end ≤ ends.loose → t (group_of e.1) ≡ false → IsParted t fs end (length fs)
    beside t end p le apart =
        let three = g.third in let a = l.last in
        parted_all t fs end j e (joins_beside es fs ends.loose i now j li three l t end (parted_but t es end i p) (λ x. absurd (omega (arith, x, le, three))) (λ x. le)) carried
        ((λ x. absurd (omega (arith, x, a, le))), λ x. apart)

    first_so : (h : Group) → is_in_two h ≡ false → is_first h ≡ false
    first_so Waiting x = absurd (true≢false x)
    first_so Sent x = refl
    first_so Loose x = refl
    first_so Kept x = refl

    pub grouped_joined : AreGroupedTo fs (record { waiting = ends.waiting; dirty = ends.dirty; loose = now }) (i + 1)
    grouped_joined =
        let one = g.first in let two = g.second in let three = g.third in
        let a = l.last in let b = l.more in
        let n = joins_length es fs ends.loose i now j li three l in
        record {
          waiting = beside is_first ends.waiting g.waiting (omega (arith, one, two)) (first_so (group_of e.1) clean_at);
          dirty = beside is_in_two ends.dirty g.dirty two clean_at;
          loose = λ k x lt is. elim (cases_eq k j) [
            | inl y ↦ (let same : group_of x.1 ≡ group_of e.1 = entry_value x e (sym is ∙ ap (slice_get fs) y ∙ carried) in
                (λ m. ap is_in_three same ∙ loose, λ ge. absurd (omega (arith, ge, y, a, b))))
            | inr apart ↦ elim (swapped_from es i j k x li (omega (arith, a, three, li)) apart (sym (ap (λ f. slice_get f k) l.swapped) ∙ is)) [
              | inl h ↦ (let y = h.0 in
                  let q = g.loose j x (omega (arith, y, apart, a, three)) h.1 in
                  (λ m. absurd (omega (arith, m, y, apart, a, b, three)), λ ge. q.1 (omega (arith, a))))
              | inr h ↦ (let ne = h.0 in
                  let q = g.loose k x (omega (arith, lt, ne)) h.1 in
                  (λ m. q.0 (omega (arith, m, apart, a, b)), λ ge. q.1 (omega (arith, ge, b))))
            ]
          ];
          first = one;
          second = omega (arith, two, b);
          third = omega (arith, b, three);
          within = omega (arith, n, li);
        }

-- ---- what the groups tell

group_dirty : (dirty out pinned : Bool) → is_in_two (group_by dirty out pinned) ≡ dirty
group_dirty true false p = refl
group_dirty true true p = refl
group_dirty false true p = refl
group_dirty false false true = refl
group_dirty false false false = refl

-- as many pass a test as stand in front, where those in front pass it and no others
count_front : {X : Type 0} (test : X → Bool) (xs : List X) (end : ℕ) → end ≤ length xs → ((k : ℕ) (x : X) → slice_get xs k ≡ Some x → (k < end → test x ≡ true) × (end ≤ k → test x ≡ false)) → count_by test xs ≡ end
count_front test [] end le p = omega (arith, le)
count_front test (x ∷ xs) zero le p =
    let rest = count_front test xs 0 (omega arith) (λ k y at. (λ lt. absurd (omega (arith, lt)), λ ge. (p (suc k) y at).1 (omega arith))) in
    let here : count_by test (x ∷ xs) ≡ 0 + count_by test xs = sum_by-cons (λ y. cond (test y) 1 0) x xs ∙ ap (λ (b : Bool). cond b 1 0 + count_by test xs) ((p 0 x refl).1 (omega arith)) in
    omega (arith, rest, here)
count_front test (x ∷ xs) (suc end) le p =
    let rest = count_front test xs end (omega (arith, le)) (λ k y at. (λ lt. (p (suc k) y at).0 (omega (arith, lt)), λ ge. (p (suc k) y at).1 (omega (arith, ge)))) in
    let here : count_by test (x ∷ xs) ≡ 1 + count_by test xs = sum_by-cons (λ y. cond (test y) 1 0) x xs ∙ ap (λ (b : Bool). cond b 1 0 + count_by test xs) ((p 0 x refl).0 (omega arith)) in
    omega (arith, rest, here)

pub count_dirty : (es : Entries) (ends : Ends) → AreGrouped es ends → count_by (λ (e : Name × PageHeld). e.1.dirty) es ≡ ends.dirty
count_dirty es ends g = count_front (λ (e : Name × PageHeld). e.1.dirty) es ends.dirty (let two = g.second in let three = g.third in omega (arith, two, three))
    (λ k e at. (let w = slice_get_within es k e at in
    let q = g.dirty k e (λ y. omega (arith, y, w)) at in
    let d = group_dirty e.1.dirty (is_some e.1.out) (nat_lt 0 e.1.pins) in
    (λ lt. sym d ∙ q.0 lt, λ ge. sym d ∙ q.1 ge)))

-- a look-up finds what stands at a place
waits_not : (dirty out pinned : Bool) → is_first (group_by dirty out pinned) ≡ (dirty && not out)
waits_not true false p = refl
waits_not true true p = refl
waits_not false true p = refl
waits_not false false true = refl
waits_not false false false = refl

pub waiting_here : (es : Entries) (ends : Ends) (e : Name × PageHeld) → AreGrouped es ends → 0 < ends.waiting → slice_get es 0 ≡ Some e → is_waiting e.1 ≡ true
waiting_here es ends e g some at =
    let w = slice_get_within es 0 e at in
    sym (waits_not e.1.dirty (is_some e.1.out) (nat_lt 0 e.1.pins)) ∙ (g.waiting 0 e (λ y. omega (arith, y, w)) at).0 some

none_by : (P : PageHeld → Type 0) (es : Entries) (n : Name) (o : Option PageHeld) → lookup (same_name n) es ≡ o → ((k : ℕ) (e : Name × PageHeld) → slice_get es k ≡ Some e → P e.1) → IfSome o P
none_by P es n None is all = tt
none_by P es n (Some h) is all = let f = place_from_lookup (same_name n) es h is in all f.0 (f.1, h) f.2

pub waiting_none : (es : Entries) (ends : Ends) → AreGrouped es ends → ends.waiting ≡ 0 → (q : Name) → IfSome (lookup (same_name q) es) (λ h. is_waiting h ≡ false)
waiting_none es ends g none q = none_by (λ h. is_waiting h ≡ false) es q (lookup (same_name q) es) refl
    (λ k e at. (let w = slice_get_within es k e at in sym (waits_not e.1.dirty (is_some e.1.out) (nat_lt 0 e.1.pins)) ∙ (g.waiting k e (λ y. omega (arith, y, w)) at).1 (omega (arith, none))))

goes_by : (dirty out pinned : Bool) → is_in_two (group_by dirty out pinned) ≡ false → is_in_three (group_by dirty out pinned) ≡ true → page_stay_by out dirty pinned ≡ None
goes_by true false p two three = absurd (true≢false two)
goes_by true true p two three = absurd (true≢false two)
goes_by false true p two three = absurd (true≢false (sym three))
goes_by false false true two three = absurd (true≢false (sym three))
goes_by false false false two three = refl

stays_by : (dirty out pinned : Bool) → (is_in_two (group_by dirty out pinned) ≡ true) ⊎ (is_in_three (group_by dirty out pinned) ≡ false) → IsSome (page_stay_by out dirty pinned)
stays_by true false p h = refl
stays_by true true p h = refl
stays_by false true p h = refl
stays_by false false true h = refl
stays_by false false false h = elim h [ inl two ↦ absurd (true≢false (sym two)) | inr three ↦ absurd (true≢false three) ]

pub loose_here : (es : Entries) (ends : Ends) (e : Name × PageHeld) → AreGrouped es ends → ends.dirty < ends.loose → slice_get es ends.dirty ≡ Some e → page_stay_of e.1 ≡ None
loose_here es ends e g some at =
    let w = slice_get_within es ends.dirty e at in
    goes_by e.1.dirty (is_some e.1.out) (nat_lt 0 e.1.pins) ((g.dirty ends.dirty e (λ y. omega (arith, y, w)) at).1 (omega arith)) ((g.loose ends.dirty e (λ y. omega (arith, y, w)) at).0 some)

pub loose_none : (es : Entries) (ends : Ends) → AreGrouped es ends → ends.dirty ≡ ends.loose → (q : Name) → IfSome (lookup (same_name q) es) (λ h. IsSome (page_stay_of h))
loose_none es ends g none q = none_by (λ h. IsSome (page_stay_of h)) es q (lookup (same_name q) es) refl
    (λ k e at. (let w = slice_get_within es k e at in stays_by e.1.dirty (is_some e.1.out) (nat_lt 0 e.1.pins) (elim (cases_lt k ends.dirty) [
      | inl lt ↦ inl ((g.dirty k e (λ y. omega (arith, y, w)) at).0 lt)
      | inr ge ↦ inr ((g.loose k e (λ y. omega (arith, y, w)) at).1 (omega (arith, ge, none)))
    ])))

-- an entry can go exactly where it stands behind the dirty ones and among the first three groups
loose_by : (dirty out pinned : Bool) → page_stay_by out dirty pinned ≡ None → (is_in_two (group_by dirty out pinned) ≡ false) × (is_in_three (group_by dirty out pinned) ≡ true)
loose_by false false false s = (refl, refl)
loose_by false false true s = absurd (cc)
loose_by false true p s = absurd (cc)
loose_by true false p s = absurd (cc)
loose_by true true p s = absurd (cc)

pub loose_at : (es : Entries) (ends : Ends) (k : ℕ) (e : Name × PageHeld) → AreGrouped es ends → slice_get es k ≡ Some e → ((ends.dirty ≤ k) × (k < ends.loose)) ↔ (page_stay_of e.1 ≡ None)
loose_at es ends k e g at =
    let w = slice_get_within es k e at in
    let two = g.dirty k e (λ y. omega (arith, y, w)) at in
    let three = g.loose k e (λ y. omega (arith, y, w)) at in (
      λ r. goes_by e.1.dirty (is_some e.1.out) (nat_lt 0 e.1.pins) (two.1 r.0) (three.0 r.1),
      λ s.
          let b = loose_by e.1.dirty (is_some e.1.out) (nat_lt 0 e.1.pins) s in (
            elim (cases_lt k ends.dirty) [ inl lt ↦ absurd (true≢false (sym (two.0 lt) ∙ b.0)) | inr ge ↦ ge ],
            elim (cases_lt k ends.loose) [ inl lt ↦ lt | inr ge ↦ absurd (true≢false (sym b.1 ∙ three.1 ge)) ],
          ),
    )

map_so : (b : Bool) (f : PageHeld → PageHeld) (h : PageHeld) (o : Option PageHeld) → (b ≡ true → o ≡ Some h) → cond b (Some (f h)) o ≡ map_if b f o
map_so true f h o is = sym (ap (option_map f) (is refl))
map_so false f h o is = refl

-- an edit of the entry at i is one of what is held of its name
pub looked_up_set : {S : Type 0} (m : IndexMap Name PageHeld S) (i : ℕ) (n : Name) (h : PageHeld) (f : PageHeld → PageHeld) → IsUnique same_name m → slice_get m.entries i ≡ Some (n, h)
    → (q : Name) → lookup (same_name q) (set_value_at m.entries i (f h)) ≡ map_if (same_name n q) f (lookup (same_name q) m.entries)
looked_up_set m i n h f once at q =
    (updates-with_value_at m i (f h) same_name_equiv once n h at).0 q
    ∙ map_so (same_name n q) f h (lookup (same_name q) m.entries)
    (λ s. subst (λ x. lookup (same_name x) m.entries ≡ Some h) (same_name-true n q s) (lookup_from_place same_name_equiv m.entries i n h once at))

-- what stands at a place is held of its name
pub found_at : (P : PageHeld → Type 0) (es : Entries) (i : ℕ) (n : Name) (h : PageHeld) → IsDistinct same_name (keys_of es) → slice_get es i ≡ Some (n, h) → P h → IsSomeAnd (lookup (same_name n) es) P
found_at P es i n h once at p = subst (λ o. IsSomeAnd o P) (sym (lookup_from_place same_name_equiv es i n h once at)) p
