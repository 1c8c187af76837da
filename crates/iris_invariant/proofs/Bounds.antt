-- How many names are marked at most, after each event.
use Rattle.std.proofs.Common.{◌≡◌, ◌+◌, ◌||◌, ◌⊎◌, inl, inr, ℕ, List, [], ◌∷◌, length, Bool, true, false, true≢false, refl, sym, ◌∙◌, ap, subst, arith}
use Rattle.std.proofs.lemmas.Map.Made.{length-le_from_is_member}
use Rattle.std.specs.List.{AllByRecursion, IsDistinct, list_any}
use Rattle.iris_name.specs.declared.name.Name.{Name}
use Rattle.iris_name.specs.Names.{same_name}
use Rattle.iris_name.specs.NameLaws.{same_name-true, same_name-refl, same_name_equiv}
use Rattle.iris_history.specs.Crowding.{AreSeveral}
use Rattle.iris_history.specs.Kept.{Kept, is_block}
use Rattle.iris_invariant.specs.Agrees.{marked, Cell, View}
use Rattle.iris_invariant.specs.Bounds as l
use Rattle.iris_invariant.specs.Bounds.{AtMost, IsMarkedOf, IsChangedOf, MarksNoMore}
use Rattle.iris_invariant.specs.Events.{Elsewhere, Moved, Still, Changed}
use Rattle.iris_invariant.proofs.Events.{which, same_marked, neither, was_on}
use Rattle.iris_history.proofs.Steady.{true_false}

either : (a b : Bool) → (a || b) ≡ true → (a ≡ true) ⊎ (b ≡ true)
either true b h = inl refl
either false b h = inr h

-- whatever isn't in the second list isn't in the first
abbrev IsWithin : List Name → List Name → Type 0
IsWithin xs ns = (m : Name) → list_any (same_name m) ns ≡ false → list_any (same_name m) xs ≡ false

-- several names that have P or Q are several that have P, and several that have Q
record Parted (P Q : Name → Type 0) (ns : List Name) : Type 0 where
  ps : List Name
  qs : List Name
  have_p : AreSeveral P ps
  have_q : AreSeveral Q qs
  counted : length ps + length qs ≡ length ns
  ps_within : IsWithin ps ns
  qs_within : IsWithin qs ns

within_more : (n : Name) (xs ns : List Name) → IsWithin xs ns → IsWithin xs (n ∷ ns)
within_more n xs ns w m h = w m (neither (same_name m n) _ h).1

within_both : (n : Name) (xs ns : List Name) → IsWithin xs ns → IsWithin (n ∷ xs) (n ∷ ns)
within_both n xs ns w m h = let e = neither (same_name m n) _ h in ap (λ b. b || list_any (same_name m) xs) e.0 ∙ w m e.1

part : (P Q : Name → Type 0) (ns : List Name) → AreSeveral (λ n. P n ⊎ Q n) ns → Parted P Q ns
part P Q [] h = record { ps = []; qs = []; have_p = tt; have_q = tt; counted = refl; ps_within = λ m e. refl; qs_within = λ m e. refl }
part P Q (n ∷ ns) h = by h.0 (part P Q ns h.2) where
  by : P n ⊎ Q n → Parted P Q ns → Parted P Q (n ∷ ns)
  by (inl p) t = record {
    ps = n ∷ t.ps;
    qs = t.qs;
    have_p = (p, t.ps_within n h.1, t.have_p);
    have_q = t.have_q;
    counted = let c = t.counted in omega (arith, c);
    ps_within = within_both n t.ps ns t.ps_within;
    qs_within = within_more n t.qs ns t.qs_within;
  }
  by (inr q) t = record {
    ps = t.ps;
    qs = n ∷ t.qs;
    have_p = t.have_p;
    have_q = (q, t.qs_within n h.1, t.have_q);
    counted = let c = t.counted in omega (arith, c);
    ps_within = within_more n t.ps ns t.ps_within;
    qs_within = within_both n t.qs ns t.qs_within;
  }

sum_at_most : (P Q : Name → Type 0) (a b : ℕ) → AtMost a P → AtMost b Q → AtMost (a + b) (λ n. P n ⊎ Q n)
sum_at_most P Q a b f g ns h = let t = part P Q ns h in let p = f t.ps t.have_p in let q = g t.qs t.have_q in let c = t.counted in omega (arith, p, q, c)

each_several : (P Q : Name → Type 0) → ((n : Name) → P n → Q n) → (ns : List Name) → AreSeveral P ns → AreSeveral Q ns
each_several P Q f [] h = tt
each_several P Q f (n ∷ ns) h = (f n h.0, h.1, each_several P Q f ns h.2)

fewer_at_most : (P Q : Name → Type 0) (a : ℕ) → ((n : Name) → P n → Q n) → AtMost a Q → AtMost a P
fewer_at_most P Q a f g ns h = g ns (each_several P Q f ns h)

-- ---- lists

apart_from : (n : Name) (ns : List Name) → list_any (same_name n) ns ≡ false → AllByRecursion (λ m. same_name n m ≡ false) ns
apart_from n [] h = tt
apart_from n (m ∷ ns) h = let e = neither (same_name n m) _ h in (e.0, apart_from n ns e.1)

distinct : (P : Name → Type 0) (ns : List Name) → AreSeveral P ns → IsDistinct same_name ns
unfolding IsDistinct
distinct P [] h = tt
distinct P (n ∷ ns) h = (apart_from n ns h.1, distinct P ns h.2)

member_has : (P : Name → Type 0) (ns : List Name) → AreSeveral P ns → (q : Name) → list_any (same_name q) ns ≡ true → P q
member_has P [] h q e = absurd (true≢false (sym e))
member_has P (n ∷ ns) h q e = elim (either (same_name q n) _ e) [ inl s ↦ subst P (sym (same_name-true q n s)) h.0 | inr s ↦ member_has P ns h.2 q s ]

pub lists_count : l.ListsCount
lists_count kind v listed f ns h = length-le_from_is_member same_name_equiv ns listed (distinct _ ns h) (λ q e. f q (member_has _ ns h q e))

-- ---- events

pub calls_mark_at_most : (k : Kept) → l.CallsMarkAtMost k
calls_mark_at_most k kind before changed past x who v v' b f g =
    fewer_at_most (IsMarkedOf kind v') (λ n. IsMarkedOf kind v n ⊎ IsChangedOf kind k past x n) (before + changed) (λ n m. by n m (b.moved n)) (sum_at_most _ _ before changed f g) where
      by : (n : Name) → IsMarkedOf kind v' n → Moved k past x n (v.cell n) (v'.cell n) → IsMarkedOf kind v n ⊎ IsChangedOf kind k past x n
      by n m (Still s c) = inl (m.0, ap (λ z. marked z) (sym c) ∙ m.1)
      by n m (Changed ne was is isn't out) = inr (m.0, ne)

pub calls_keep_the_bound : (k : Kept) → l.CallsKeepTheBound k
calls_keep_the_bound k past x who v v' b f g = calls_mark_at_most k is_block 447 65 past x who v v' b f g

one_at_most : (n : Name) → AtMost 1 (λ q. n ≡ q)
one_at_most n [] h = omega arith
one_at_most n (q ∷ []) h = omega arith
one_at_most n (q ∷ r ∷ ns) h = absurd (true_false (same_name q r) (subst (λ z. same_name q z ≡ true) (sym h.0 ∙ h.2.0) (same_name-refl q)) (neither (same_name q r) _ h.1).0)

pub mends_mark_one : (k : Kept) → l.MendsMarkOne k
mends_mark_one k kind before past n v v' b f =
    fewer_at_most (IsMarkedOf kind v') (λ q. IsMarkedOf kind v q ⊎ (n ≡ q)) (before + 1) (λ q m. by q m (which n q)) (sum_at_most _ _ before 1 f (one_at_most n)) where
      by : (q : Name) → IsMarkedOf kind v' q → (n ≡ q) ⊎ (same_name n q ≡ false) → IsMarkedOf kind v q ⊎ (n ≡ q)
      by q m (inl e) = inr e
      by q m (inr d) = inl (m.0, ap (λ z. marked z) (sym (b.rest.cell q d)) ∙ m.1)

elsewhere_no_more : (n : Name) (v v' : View) → Elsewhere n v v' → (marked (v'.cell n) ≡ true → marked (v.cell n) ≡ true) → MarksNoMore v v'
elsewhere_no_more n v v' el f q m = by (which n q) where
  by : (n ≡ q) ⊎ (same_name n q ≡ false) → marked (v.cell q) ≡ true
  by (inl e) = subst (λ z. marked (v.cell z) ≡ true) e (f (subst (λ z. marked (v'.cell z) ≡ true) (sym e) m))
  by (inr d) = ap (λ z. marked z) (sym (el.cell q d)) ∙ m

same_no_more : (n : Name) (v v' : View) → Elsewhere n v v' → (v'.cell n).dirty ≡ (v.cell n).dirty → (v'.cell n).doomed ≡ (v.cell n).doomed → MarksNoMore v v'
same_no_more n v v' el d e = elsewhere_no_more n v v' el (λ m. sym (same_marked (v.cell n) (v'.cell n) d e) ∙ m)

less_marked : (c c' : Cell) → (c'.dirty ≡ true → c.dirty ≡ true) → (c'.doomed ≡ true → c.doomed ≡ true) → marked c' ≡ true → marked c ≡ true
less_marked c c' f g m = elim (either c'.dirty c'.doomed m) [ inl d ↦ ap (λ z. z || c.doomed) (f d) | inr d ↦ by c.dirty (g d) ] where
  by : (b : Bool) → c.doomed ≡ true → (b || c.doomed) ≡ true
  by true e = refl
  by false e = e

pub others_mark_nothing : l.OthersMarkNothing
others_mark_nothing = record {
  begins = λ n o v v' b. same_no_more n v v' b.rest b.dirty b.doomed;
  withdraws = λ n v v' b. same_no_more n v v' b.rest b.dirty b.doomed;
  settles = λ n v v' b. same_no_more n v v' b.rest b.dirty b.doomed;
  brings = λ n o v v' b. same_no_more n v v' b.rest b.dirty b.doomed;
  stores = λ n o ok v v' b. elsewhere_no_more n v v' b.rest (less_marked (v.cell n) (v'.cell n) (λ d. was_on _ _ (sym b.dirty ∙ d)) (λ d. sym b.doomed ∙ d));
  discards = λ n o ok v v' b. elsewhere_no_more n v v' b.rest (less_marked (v.cell n) (v'.cell n) (λ d. sym b.dirty ∙ d) (λ d. was_on _ _ (sym b.doomed ∙ d)));
  asks = λ who v v' b n m. ap (λ z. marked z) (sym (b.cell n)) ∙ m;
  evicts = λ n v v' b. elsewhere_no_more n v v' b.rest (less_marked (v.cell n) (v'.cell n) (λ d. absurd (true_false _ d b.dirty)) (λ d. sym b.doomed ∙ d));
}
