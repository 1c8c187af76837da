-- Marks up the parents.
use Rattle.std.proofs.Common.{inl, inr, ◌⊎◌, ◌≤◌, subst, slice_get, is_some, ◌≡◌, ◌||◌, ◌+◌, ◌-◌, ◌<◌, ℕ, zero, suc, Bool, true, false, Option, Some, None, refl, ap, sym, ◌∙◌, arith, length}
use Rattle.iris_name.specs.Names.{same_name}
use Rattle.iris_name.specs.NameLaws.{same_name-true}
use Rattle.iris_name.specs.declared.name.Name.{Name}
use Rattle.iris_cache.specs.declared.held.Held.{Held}
use Rattle.iris_cache.specs.Held.{moved_node, touched_after}
use Rattle.iris_cache.specs.Resident.{Resident, held_node, map_if, parent_in}
use Rattle.iris_cache.specs.Applied.{is_above_within, Changed, Differs}
use Rattle.iris_cache.specs.Marked.{Marks, MarksOne, is_met_going_up}
use Rattle.iris_cache.specs.Pictures.{parent_by, parent_after}
use Rattle.iris_cache.specs.Drafted.{Drafted, drafted}
use Rattle.iris_cache.proofs.Drafts.{among, among-more, among-all, place-held}
use Rattle.iris_node.specs.declared.node.Node.{Node}
use Rattle.std.specs.Map.{keys_of}
use Rattle.std.specs.List.{IsDistinct}
use Rattle.iris_cache.specs.declared.draft.Change.{Change}

touched-twice : (o : Option ℕ) (t : Bool) → touched_after o (touched_after o t) ≡ touched_after o t
touched-twice None t = refl
touched-twice (Some w) t = refl

moved-twice : (h : Held) → moved_node (moved_node h) ≡ moved_node h
moved-twice h = let f : Bool → Held = λ t. record h { dirty = true; settled = false; touched = t } in ap f (touched-twice h.out h.touched)

-- to mark twice is to mark once
pub moved_if-twice : (b a : Bool) (o : Option Held) → map_if a moved_node (map_if b moved_node o) ≡ map_if (b || a) moved_node o
moved_if-twice true true None = refl
moved_if-twice true true (Some h) = ap Some (moved-twice h)
moved_if-twice true false o = refl
moved_if-twice false a o = refl

-- a mark leaves the parent
pub parent-moved_if : (b : Bool) (o : Option Held) → parent_in (map_if b moved_node o) ≡ parent_in o
parent-moved_if true None = refl
parent-moved_if true (Some h) = refl
parent-moved_if false o = refl

-- nothing is above nothing
pub above-none : (up : Name → Option Name) (k : ℕ) (q : Name) → is_above_within up k None q ≡ false
above-none up zero q = refl
above-none up (suc k) q = refl

fuel : (n i : ℕ) → i < n → n - i ≡ suc (n - (i + 1))
fuel n i h = omega arith

-- one step up: what is left to mark after it, over what it marked, is what was left before
pub marks_step : (up : Name → Option Name) (n i : ℕ) (here q : Name) (g g' : Name → Option Held) → i < n
    → ((q : Name) → g' q ≡ map_if (same_name here q) moved_node (g q))
    → map_if (is_above_within up (n - (i + 1)) (up here) q) moved_node (g' q) ≡ map_if (is_above_within up (n - i) (Some here) q) moved_node (g q)
marks_step up n i here q g g' lt is =
    ap (map_if (is_above_within up (n - (i + 1)) (up here) q) moved_node) (is q)
    ∙ moved_if-twice (same_name here q) (is_above_within up (n - (i + 1)) (up here) q) (g q)
    ∙ sym (ap (λ k. map_if (is_above_within up k (Some here) q) moved_node (g q)) (fuel n i lt))

-- the same parents give the same names above
pub above-same : (u v : Name → Option Name) → ((q : Name) → u q ≡ v q) → (k : ℕ) (at : Option Name) (q : Name) → is_above_within u k at q ≡ is_above_within v k at q
above-same u v same zero at q = refl
above-same u v same (suc k) None q = refl
above-same u v same (suc k) (Some n) q = ap (λ b. same_name n q || b) (ap (λ a. is_above_within u k a q) (same n) ∙ above-same u v same k (v n) q)

-- a mark leaves the parent with the changes made
pub parent-marked : (c : Option Change) (b : Bool) (o p : Option Held) → p ≡ map_if b moved_node o → parent_by c p ≡ parent_by c o
parent-marked None b o p is = ap parent_in is ∙ parent-moved_if b o
parent-marked (Some change) b o p is = refl

-- what differs from a marked node differs from the node
differs-in : (k : Option Node) (b : Bool) (o : Option Held) → Differs k (map_if b moved_node o) → Differs k o
differs-in None b o d = d
differs-in (Some k) true None d = d
differs-in (Some k) false None d = d
differs-in (Some k) true (Some h) d = d
differs-in (Some k) false (Some h) d = d

differs-out : (k : Option Node) (b : Bool) (o : Option Held) → Differs k o → Differs k (map_if b moved_node o)
differs-out None b o d = d
differs-out (Some k) true None d = d
differs-out (Some k) false None d = d
differs-out (Some k) true (Some h) d = d
differs-out (Some k) false (Some h) d = d

pub or-split : (a b : Bool) → (a || b) ≡ true → (a ≡ true) ⊎ (b ≡ true)
or-split true b h = inl refl
or-split false b h = inr h

pub or-left : (a b : Bool) → a ≡ true → (a || b) ≡ true
or-left a b h = ap (λ x. x || b) h

pub or-right : (a b : Bool) → b ≡ true → (a || b) ≡ true
or-right true b h = refl
or-right false b h = h

-- what the first i changes marked
pub record SoFar (d : Drafted) (old cur : Resident) (i : ℕ) (q : Name) : Type 0 where
  pub marked : Bool
  pub is : held_node cur q ≡ map_if marked moved_node (held_node old q)
  pub from : marked ≡ true → (n : Name) × Changed (drafted d n) (held_node old n) × (is_met_going_up d old n q ≡ true)
  pub all : (n : Name) → among i d.changes n ≡ true → Changed (drafted d n) (held_node old n) → is_met_going_up d old n q ≡ true → marked ≡ true

module _ (d : Drafted) (old cur new : Resident) (i : ℕ) (n : Name) (v : Change)
    (once : IsDistinct same_name (keys_of d.changes)) (at : slice_get d.changes i ≡ Some (n, v))
    (so : (q : Name) → SoFar d old cur i q) (count : length cur.nodes ≡ length old.nodes) where
  same-parents : (q : Name) → parent_after d cur q ≡ parent_after d old q
  same-parents q = parent-marked (drafted d q) ((so q).marked) (held_node old q) (held_node cur q) ((so q).is)

  same-met : (q : Name) → is_met_going_up d cur n q ≡ is_met_going_up d old n q
  same-met q = above-same (parent_after d cur) (parent_after d old) same-parents _ (Some n) q ∙ ap (λ k. is_above_within (parent_after d old) (k + length d.changes + 1) (Some n) q) count

  here : drafted d n ≡ Some v
  here = place-held d.changes i n v once at

  changed-here : Differs v.node (held_node cur n) → Changed (drafted d n) (held_node old n)
  changed-here f = subst (λ o. Changed o (held_node old n)) (sym here) (differs-in v.node ((so n).marked) (held_node old n) (subst (Differs v.node) ((so n).is) f))

  differs-here : (m : Name) → same_name m n ≡ true → Changed (drafted d m) (held_node old m) → Differs v.node (held_node cur n)
  differs-here m s f =
      subst (Differs v.node) (sym ((so n).is)) (differs-out v.node ((so n).marked) (held_node old n)
      (subst (λ o. Changed o (held_node old n)) here (subst (λ k. Changed (drafted d k) (held_node old k)) (same_name-true m n s) f)))

  one-step : MarksOne d cur new n (Differs v.node (held_node cur n)) → (q : Name) → SoFar d old new (i + 1) q
  one-step (inl (f, is)) q =
      let s = so q in
      let m = is_met_going_up d old n q in
      record {
        marked = s.marked || m;
        is = is q ∙ ap (λ b. map_if b moved_node (held_node cur q)) (same-met q) ∙ ap (map_if m moved_node) s.is ∙ moved_if-twice s.marked m (held_node old q);
        from = λ t. elim (or-split s.marked m t) [ inl a ↦ s.from a | inr b ↦ (n, changed-here f, b) ];
        all = λ k a x u. elim (or-split (among i d.changes k) (same_name k n) (sym (among-more d.changes i n v k at) ∙ a))
            [ inl e ↦ or-left s.marked m (s.all k e x u) | inr e ↦ or-right s.marked m (subst (λ p. is_met_going_up d old p q ≡ true) (same_name-true k n e) u) ];
      }
  one-step (inr (never, is)) q =
      let s = so q in
      record {
        marked = s.marked;
        is = is q ∙ s.is;
        from = s.from;
        all = λ k a x u. elim (or-split (among i d.changes k) (same_name k n) (sym (among-more d.changes i n v k at) ∙ a))
            [ inl e ↦ s.all k e x u | inr e ↦ absurd (never (differs-here k e x)) ];
      }

pub step-marks : (d : Drafted) (old cur new : Resident) (i : ℕ) (n : Name) (v : Change) → IsDistinct same_name (keys_of d.changes) → slice_get d.changes i ≡ Some (n, v)
    → ((q : Name) → SoFar d old cur i q) → length cur.nodes ≡ length old.nodes → MarksOne d cur new n (Differs v.node (held_node cur n)) → (q : Name) → SoFar d old new (i + 1) q
step-marks d old cur new i n v once at so count one q = one-step d old cur new i n v once at so count one q

changed-there : (o : Option Change) (h : Option Held) → Changed o h → is_some o ≡ true
changed-there None h f = absurd f
changed-there (Some v) h f = refl

pub end-marks : (d : Drafted) (old cur : Resident) (i : ℕ) → length d.changes ≤ i → (q : Name) → SoFar d old cur i q → Marks d old cur q
end-marks d old cur i le q s = record {
  marked = s.marked;
  is = s.is;
  from = s.from;
  all = λ n f u. s.all n (among-all d.changes i n le ∙ changed-there (drafted d n) (held_node old n) f) f u;
}
