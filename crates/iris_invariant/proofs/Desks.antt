-- The calls of desks and cache, as their contracts tell them, make the events of the view.
use Rattle.std.proofs.Common.{◌≡◌, ◌⊎◌, inl, inr, ℕ, ◌==◌, Bool, true, false, cond, not, ◌&&◌, Option, Some, None, refl, sym, ◌∙◌, ap, subst, arith}
use Rattle.std.proofs.lemmas.Grind.{common_steps}
use Rattle.iris_name.specs.declared.name.Name.{Name}
use Rattle.iris_name.specs.Names.{same_name}
use Rattle.iris_name.specs.NameLaws.{same_name-refl}
use Rattle.iris_cache.specs.declared.held.Held.{Held}
use Rattle.iris_cache.specs.Held.{finished_node, stay_of, stay_by}
use Rattle.iris_cache.specs.Resident.{map_if}
use Rattle.iris_invariant.specs.Agrees.{Out, View}
use Rattle.iris_invariant.specs.Cells.{cell_of, dirty_in, settled_in, Tied}
use Rattle.iris_invariant.specs.Desks as d
use Rattle.iris_invariant.specs.Desks.{Desks, view_of, pinned_in}
use Rattle.iris_invariant.specs.Events as e
use Rattle.iris_invariant.specs.Events.{Elsewhere, SamePins, Began, Withdrawn}
use Rattle.iris_invariant.proofs.Cache.{finished_so, unknown_stays}
use Rattle.iris_history.proofs.Steady.{unchosen}

chosen : {A : Type 0} (n : Name) (x y : A) → cond (same_name n n) x y ≡ x
chosen n x y = ap (λ b. cond b x y) (same_name-refl n)

cells : (g h : Option Held) (a b : Bool) (o p : Option Out) → h ≡ g → b ≡ a → p ≡ o → cell_of h b p ≡ cell_of g a o
cells g h a b o p e f i = ap (λ z. cell_of z b p) e ∙ (ap (λ z. cell_of g z p) f ∙ ap (λ z. cell_of g a z) i)

not_kept : (keep a : Bool) (n q : Name) (x : Bool) → same_name n q ≡ false → cond (keep && (a && same_name n q)) true x ≡ x
not_kept keep a n q x s = ap (λ z. cond (keep && (a && z)) true x) s ∙ by keep a where
  by : (k b : Bool) → cond (k && (b && false)) true x ≡ x
  by true true = refl
  by true false = refl
  by false b = refl

module _ (held held' : Name → Option Held) (s s' : Desks) (n : Name) where
  abbrev v : View
  v = view_of held s

  abbrev v' : View
  v' = view_of held' s'

  -- something begins at a desk, and in the cache where the name is resident; else the cache is as it was
  pub begins_in_cache : (o : Out) (f : Held → Held) → ((h : Held) → (f h).dirty ≡ h.dirty) → ((h : Held) → (f h).settled ≡ h.settled) → ((h : Held) → (f h).pins ≡ h.pins)
      → d.BeginsAtDesk n o s s' → ((q : Name) → held' q ≡ map_if (same_name n q) f (held q)) → Began n o v v'
  begins_in_cache o f fd fs fp b c = record {
    rest = record {
      cell = λ q m. cells (held q) (held' q) (s.doomed q) (s'.doomed q) (s.out q) (s'.out q) (c q ∙ unchosen (same_name n q) _ _ m) (b.doomed q) (b.out q ∙ unchosen (same_name n q) _ _ m);
      asked = b.asked;
      kept = λ w q m. b.kept w q;
      pinned = λ w q m. ap (pinned_in w) (c q ∙ unchosen (same_name n q) _ _ m);
    };
    pins = record { kept = λ w. b.kept w n; pinned = λ w. ap (pinned_in w) here ∙ pin w (held n) };
    out = b.out n ∙ chosen n _ _;
    resident = ap (λ z. Rattle.std.specs.Prelude.is_some z) here ∙ some (held n);
    dirty = ap dirty_in here ∙ dirt (held n);
    doomed = b.doomed n;
    settled = ap settled_in here ∙ set (held n);
  } where
    here : held' n ≡ Rattle.std.specs.Option.option_map f (held n)
    here = c n ∙ chosen n _ _

    pin : (w : ℕ) (h : Option Held) → pinned_in w (Rattle.std.specs.Option.option_map f h) ≡ pinned_in w h
    pin w None = refl
    pin w (Some h) = ap (λ p. not (Rattle.std.specs.Prelude.bit_and p (Rattle.std.specs.Prelude.◌^◌ 2 w) == 0)) (fp h)

    some : (h : Option Held) → Rattle.std.specs.Prelude.is_some (Rattle.std.specs.Option.option_map f h) ≡ Rattle.std.specs.Prelude.is_some h
    some None = refl
    some (Some h) = refl

    dirt : (h : Option Held) → dirty_in (Rattle.std.specs.Option.option_map f h) ≡ dirty_in h
    dirt None = refl
    dirt (Some h) = fd h

    set : (h : Option Held) → settled_in (Rattle.std.specs.Option.option_map f h) ≡ settled_in h
    set None = refl
    set (Some h) = fs h

  -- a put ends at the desk, and in the cache where it knows of it; else the cache is as it was
  pub put_ends : (o : Out) (ok : Bool) → s.out n ≡ Some o → Tied (held n) (s.out n) → (o.touched ≡ false → settled_in (held n) ≡ true)
      → d.Ends n o.who false s s'
      → ((q : Name) → same_name n q ≡ false → held' q ≡ held q)
      → ((h : Held) → held n ≡ Some h → (held' n ≡ Some (finished_node (ok && not o.touched) h)) ⊎ ((h.out ≡ None) × (held' n ≡ Some h)))
      → (held n ≡ None → held' n ≡ None)
      → e.Stored n o ok v v'
  put_ends o ok f t st b c known absent = record {
    rest = record {
      cell = λ q m. cells (held q) (held' q) (s.doomed q) (s'.doomed q) (s.out q) (s'.out q) (c q m) (b.doomed q) (b.out q ∙ unchosen (same_name n q) _ _ m);
      asked = b.asked;
      kept = λ w q m. b.kept w q;
      pinned = λ w q m. ap (pinned_in w) (c q m);
    };
    pins = record { kept = λ w. b.kept w n; pinned = λ w. (by (held n) refl).3 w };
    out = b.out n ∙ chosen n _ _;
    resident = (by (held n) refl).0;
    dirty = (by (held n) refl).1;
    doomed = b.doomed n;
    settled = (by (held n) refl).2;
  } where
    Is : Option Held → Type 0
    Is g = (Rattle.std.specs.Prelude.is_some (held' n) ≡ Rattle.std.specs.Prelude.is_some g) × (dirty_in (held' n) ≡ cond (ok && not o.touched) false (dirty_in g)) × (settled_in (held' n) ≡ settled_in g) × ((w : ℕ) → pinned_in w (held' n) ≡ pinned_in w g)

    tied : (g : Held) → held n ≡ Some g → Tied (Some g) (Some o)
    tied g e = subst (λ z. Tied z (Some o)) e (subst (Tied (held n)) f t)

    never : (b : Bool) → cond b false false ≡ false
    never true = refl
    never false = refl

    by : (g : Option Held) → held n ≡ g → Is (held n)
    by None e = subst Is (sym e) (let z = absent e in (ap (λ h. Rattle.std.specs.Prelude.is_some h) z, ap dirty_in z ∙ sym (never (ok && not o.touched)), ap settled_in z, λ w. ap (pinned_in w) z))
    by (Some g) e = subst Is (sym e) (elim (known g e) [
      | inl z ↦ (ap (λ h. Rattle.std.specs.Prelude.is_some h) z, ap dirty_in z ∙ finished_so g o ok (tied g e) (λ u. sym (ap settled_in e) ∙ st u), ap settled_in z, λ w. ap (pinned_in w) z)
      | inr z ↦ (ap (λ h. Rattle.std.specs.Prelude.is_some h) z.1, ap dirty_in z.1 ∙ sym (unknown_stays g o ok (tied g e) z.0), ap settled_in z.1, λ w. ap (pinned_in w) z.1)
    ])

-- what the cache lets go is what the marks let go, where nothing is out for it at a desk
pub lets_go : (h : Held) → stay_of h ≡ None → (h.dirty ≡ false) × (h.out ≡ None) × ((w : ℕ) → pinned_in w (Some h) ≡ false)
lets_go h e = by (Rattle.std.specs.Prelude.is_some h.out) h.dirty (Rattle.std.specs.Prelude.nat_lt 0 h.kids) (Rattle.std.specs.Prelude.nat_lt 0 h.pins) refl refl refl e where
  none : (o : Option ℕ) → Rattle.std.specs.Prelude.is_some o ≡ false → o ≡ None
  none None i = refl
  none (Some x) i = absurd (cc)

  no_pins : (p : ℕ) → Rattle.std.specs.Prelude.nat_lt 0 p ≡ false → p ≡ 0
  no_pins p i = grind (arith, common_steps)

  by : (o d k p : Bool) → Rattle.std.specs.Prelude.is_some h.out ≡ o → h.dirty ≡ d → Rattle.std.specs.Prelude.nat_lt 0 h.pins ≡ p → stay_by o d k p ≡ None
      → (h.dirty ≡ false) × (h.out ≡ None) × ((w : ℕ) → pinned_in w (Some h) ≡ false)
  by true d k p i j l e = absurd (cc)
  by false true k p i j l e = absurd (cc)
  by false false true p i j l e = absurd (cc)
  by false false false true i j l e = absurd (cc)
  by false false false false i j l e = (j, none h.out i, λ w. ap (λ z. not (Rattle.std.specs.Prelude.bit_and z (Rattle.std.specs.Prelude.◌^◌ 2 w) == 0)) (no_pins h.pins l) ∙ zero_and (Rattle.std.specs.Prelude.◌^◌ 2 w)) where
    zero_and : (m : ℕ) → not (Rattle.std.specs.Prelude.bit_and 0 m == 0) ≡ false
    zero_and m = refl
