-- Each event keeps that the core agrees with the history.
use Rattle.std.proofs.Common.{◌≡◌, ◌≢◌, ◌⊎◌, inl, inr, ℕ, ◌+◌, List, ◌∷◌, Bool, true, false, cond, not, ◌&&◌, ◌||◌, Option, Some, None, refl, sym, ◌∙◌, ap, subst, IsSome, IsNone}
use Rattle.std.proofs.lemmas.Bool.Decides.{eqb_tells}
use Rattle.iris_name.specs.declared.name.Name.{Name}
use Rattle.iris_name.specs.declared.note.Answer.{Answer}
use Rattle.iris_name.specs.declared.note.Expect.{Expect}
use Rattle.iris_name.specs.History.{Past, Stamped, oldest, begun}
use Rattle.iris_name.specs.Names.{same_name}
use Rattle.iris_name.specs.NameLaws.{same_name-true, same_name-symm}
use Rattle.iris_history.specs.Kept.{Kept, Carries, shown_in}
use Rattle.iris_history.specs.Legal.{Rules, is_transfer_of, IsLawful}
use Rattle.iris_history.specs.StatusLaws.{got, putted, dropped_note}
use Rattle.iris_invariant.specs.Agrees as a
use Rattle.iris_invariant.specs.Agrees.{marked, MarkListed, Doing, Getting, Putting, Dropping, Settling, Out, Cell, View, Mark, Touch, WasRight, is_challenge, Gets, StaysRight, Going, IsAsked, SettledUnlessMarked, PinnedIfKept, Agrees, Stands}
use Rattle.iris_invariant.specs.Events as e
use Rattle.iris_invariant.specs.Events.{IsKeptDirty, IsKeptDoomed, touched, Elsewhere, SamePins, Began, Withdrawn, SettlingEnded, Brings, Pinned, Inserted, Passed, Brought, Moved, Still, Changed, Answered, Asked, Evicted, Mended}
use Rattle.iris_history.proofs.Steady.{true_false, no_both}
use Rattle.iris_history.proofs.NoteStatus.{passes_by, drop_live}
use Rattle.iris_invariant.proofs.Names.{then_now, mark_stays, going_stays, got_live}
use Rattle.iris_invariant.proofs.Ends.{mark_got, mark_put, mark_drop, got_lawful, put_lawful, drop_lawful, left}

-- what isn't taken away was there
pub was_on : (u b : Bool) → cond u false b ≡ true → b ≡ true
was_on true b e = absurd (cc)
was_on false b e = e

on_touched : (ok touched : Bool) → touched ≡ true → (ok && not touched) ≡ false
on_touched true true t = refl
on_touched false true t = refl
on_touched ok false t = absurd (cc)

carried_live : (k : Kept) (n : Name) (u : Option k.Unfolded) (bytes : List ℕ) → Carries k n u bytes → IsSome u
carried_live k n None bytes h = absurd h
carried_live k n (Some u) bytes h = refl

-- a name is that one or another
pub which : (n q : Name) → (n ≡ q) ⊎ (same_name n q ≡ false)
which n q = by (same_name n q) refl where
  by : (b : Bool) → same_name n q ≡ b → (n ≡ q) ⊎ (same_name n q ≡ false)
  by true e = inl (same_name-true n q e)
  by false e = inr e

pub which_caller : (who w : ℕ) → (w ≡ who) ⊎ (w ≢ who)
which_caller who w = elim (eqb_tells w who) [ inl h ↦ inl h.1 | inr h ↦ inr h.1 ]

pub none_some : {A : Type 0} (o : Option A) (x : A) → o ≡ None → o ≡ Some x → ⊥
none_some o x e f = let g = sym e ∙ f in cc

pub same_marked : (c c' : Cell) → c'.dirty ≡ c.dirty → c'.doomed ≡ c.doomed → marked c' ≡ marked c
same_marked c c' d e = ap (λ z. z || c'.doomed) d ∙ ap (λ z. c.dirty || z) e

pub same_listed : (c c' : Cell) → c'.resident ≡ c.resident → c'.dirty ≡ c.dirty → c'.doomed ≡ c.doomed → MarkListed c → MarkListed c'
same_listed c c' r d e l = record { dirty = λ z. r ∙ l.dirty (sym d ∙ z); doomed = λ z. r ∙ l.doomed (sym e ∙ z) }

pub or_false : (a b : Bool) → a ≡ false → b ≡ false → (a || b) ≡ false
or_false a b e f = ap (λ z. z || b) e ∙ f

pub or_left : (a b : Bool) → a ≡ true → (a || b) ≡ true
or_left true b e = refl
or_left false b e = absurd (cc)

pub or_right : (a b : Bool) → b ≡ true → (a || b) ≡ true
or_right true b e = refl
or_right false b e = e

pub neither : (a b : Bool) → (a || b) ≡ false → (a ≡ false) × (b ≡ false)
neither true b e = absurd (cc)
neither false b e = (refl, e)

pub not_true : (b : Bool) → (b ≡ true → ⊥) → b ≡ false
not_true true f = absurd (f refl)
not_true false f = refl

module _ (k : Kept) (r : Rules) (opened : ℕ) (past : Past) (v v' : View) (h : Agrees k r opened past v) where
  -- one name alone changes, under no note or under a transfer of it
  module _ (n : Name) (el : Elsewhere n v v') where
    -- under no note
    pub quietly : Mark k n past (v'.cell n).resident (marked (v'.cell n)) → ((o : Out) → (v'.cell n).out ≡ Some o → Going k r opened n past (v'.cell n) o × IsAsked o (v'.asked o.who))
        → MarkListed (v'.cell n) → SettledUnlessMarked (v'.cell n) → ((w : ℕ) → PinnedIfKept k n past (v'.kept w n) (v'.pinned w n) (v'.cell n).resident) → Agrees k r opened past v'
    quietly mark outs list set pins = record { marks = λ q. marks q (which n q); outs = λ q o f. (out q (which n q) o f).0; asks = λ q o f. (out q (which n q) o f).1; listed = λ q. lists q (which n q); settled = λ q. settle q (which n q); pins = λ w q. pin w q (which n q) } where
      marks : (q : Name) → (n ≡ q) ⊎ (same_name n q ≡ false) → Mark k q past (v'.cell q).resident (marked (v'.cell q))
      marks q (inl s) = subst (λ z. Mark k z past (v'.cell z).resident (marked (v'.cell z))) s mark
      marks q (inr d) = subst (λ c. Mark k q past c.resident (marked c)) (sym (el.cell q d)) (h.marks q)

      out : (q : Name) → (n ≡ q) ⊎ (same_name n q ≡ false) → (o : Out) → (v'.cell q).out ≡ Some o → Going k r opened q past (v'.cell q) o × IsAsked o (v'.asked o.who)
      out q (inl s) = subst (λ z. (o : Out) → (v'.cell z).out ≡ Some o → Going k r opened z past (v'.cell z) o × IsAsked o (v'.asked o.who)) s outs
      out q (inr d) = λ o f. let f' = sym (ap (λ c. c.out) (el.cell q d)) ∙ f in
          (subst (λ c. Going k r opened q past c o) (sym (el.cell q d)) (h.outs q o f'), subst (IsAsked o) (sym (el.asked o.who)) (h.asks q o f'))

      lists : (q : Name) → (n ≡ q) ⊎ (same_name n q ≡ false) → MarkListed (v'.cell q)
      lists q (inl s) = subst (λ z. MarkListed (v'.cell z)) s list
      lists q (inr d) = subst MarkListed (sym (el.cell q d)) (h.listed q)

      settle : (q : Name) → (n ≡ q) ⊎ (same_name n q ≡ false) → SettledUnlessMarked (v'.cell q)
      settle q (inl s) = subst (λ z. SettledUnlessMarked (v'.cell z)) s set
      settle q (inr d) = subst SettledUnlessMarked (sym (el.cell q d)) (h.settled q)

      pin : (w : ℕ) (q : Name) → (n ≡ q) ⊎ (same_name n q ≡ false) → PinnedIfKept k q past (v'.kept w q) (v'.pinned w q) (v'.cell q).resident
      pin w q (inl s) = subst (λ z. PinnedIfKept k z past (v'.kept w z) (v'.pinned w z) (v'.cell z).resident) s (pins w)
      pin w q (inr d) = λ kept live. let old = h.pins w q (sym (el.kept w q d) ∙ kept) live in (ap (λ c. c.resident) (el.cell q d) ∙ old.0, el.pinned w q d ∙ old.1)

    same_pins : SamePins n v v' → (v'.cell n).resident ≡ (v.cell n).resident → (x : Past) → shown_in k x n ≡ shown_in k past n → (w : ℕ) → PinnedIfKept k n x (v'.kept w n) (v'.pinned w n) (v'.cell n).resident
    same_pins p res x same w kept live = let old = h.pins w n (sym (p.kept w) ∙ kept) (subst IsSome same live) in (res ∙ old.0, p.pinned w ∙ old.1)

  -- a transfer of a name ends by its note
  module _ (n : Name) (el : Elsewhere n v v') (x : Stamped) (transfer : (q : Name) → same_name n q ≡ false → is_transfer_of q x.note ≡ false)
      (table : (q : Name) → shown_in k (x ∷ past) q ≡ shown_in k past q) where
    pub noted : Mark k n (x ∷ past) (v'.cell n).resident (marked (v'.cell n)) → (v'.cell n).out ≡ None
        → MarkListed (v'.cell n) → SettledUnlessMarked (v'.cell n) → ((w : ℕ) → PinnedIfKept k n (x ∷ past) (v'.kept w n) (v'.pinned w n) (v'.cell n).resident) → Agrees k r opened (x ∷ past) v'
    noted mark none list set pins = record { marks = λ q. marks q (which n q); outs = λ q. out q (which n q); asks = λ q. ask q (which n q); listed = λ q. lists q (which n q); settled = λ q. settle q (which n q); pins = λ w q. pin w q (which n q) } where
      marks : (q : Name) → (n ≡ q) ⊎ (same_name n q ≡ false) → Mark k q (x ∷ past) (v'.cell q).resident (marked (v'.cell q))
      marks q (inl s) = subst (λ z. Mark k z (x ∷ past) (v'.cell z).resident (marked (v'.cell z))) s mark
      marks q (inr d) = subst (λ c. Mark k q (x ∷ past) c.resident (marked c)) (sym (el.cell q d)) (mark_stays k q x past _ _ (passes_by k q past x (transfer q d) (table q)) (table q) (h.marks q))

      out : (q : Name) → (n ≡ q) ⊎ (same_name n q ≡ false) → (o : Out) → (v'.cell q).out ≡ Some o → Going k r opened q (x ∷ past) (v'.cell q) o
      out q (inl s) = λ o f. absurd (none_some (v'.cell q).out o (subst (λ z. (v'.cell z).out ≡ None) s none) f)
      out q (inr d) = λ o f. subst (λ c. Going k r opened q (x ∷ past) c o) (sym (el.cell q d))
          (going_stays k q r opened x past (v.cell q) o (transfer q d) (table q) (h.outs q o (sym (ap (λ c. c.out) (el.cell q d)) ∙ f)))

      ask : (q : Name) → (n ≡ q) ⊎ (same_name n q ≡ false) → (o : Out) → (v'.cell q).out ≡ Some o → IsAsked o (v'.asked o.who)
      ask q (inl s) = λ o f. absurd (none_some (v'.cell q).out o (subst (λ z. (v'.cell z).out ≡ None) s none) f)
      ask q (inr d) = λ o f. subst (IsAsked o) (sym (el.asked o.who)) (h.asks q o (sym (ap (λ c. c.out) (el.cell q d)) ∙ f))

      lists : (q : Name) → (n ≡ q) ⊎ (same_name n q ≡ false) → MarkListed (v'.cell q)
      lists q (inl s) = subst (λ z. MarkListed (v'.cell z)) s list
      lists q (inr d) = subst MarkListed (sym (el.cell q d)) (h.listed q)

      settle : (q : Name) → (n ≡ q) ⊎ (same_name n q ≡ false) → SettledUnlessMarked (v'.cell q)
      settle q (inl s) = subst (λ z. SettledUnlessMarked (v'.cell z)) s set
      settle q (inr d) = subst SettledUnlessMarked (sym (el.cell q d)) (h.settled q)

      pin : (w : ℕ) (q : Name) → (n ≡ q) ⊎ (same_name n q ≡ false) → PinnedIfKept k q (x ∷ past) (v'.kept w q) (v'.pinned w q) (v'.cell q).resident
      pin w q (inl s) = subst (λ z. PinnedIfKept k z (x ∷ past) (v'.kept w z) (v'.pinned w z) (v'.cell z).resident) s (pins w)
      pin w q (inr d) = λ kept live. let old = h.pins w q (sym (el.kept w q d) ∙ kept) (subst IsSome (table q) live) in (ap (λ c. c.resident) (el.cell q d) ∙ old.0, el.pinned w q d ∙ old.1)

  -- something begins
  pub begin_keeps : (n : Name) (o : Out) → Began n o v v' → Going k r opened n past (v'.cell n) o → IsAsked o (v'.asked o.who) → Agrees k r opened past v'
  begin_keeps n o b g q = quietly n b.rest
      (subst (λ z. Mark k n past (v'.cell n).resident z) (sym (same_marked (v.cell n) (v'.cell n) b.dirty b.doomed)) (subst (λ z. Mark k n past z (marked (v.cell n))) (sym b.resident) (h.marks n)))
      (λ o' f. subst (λ z. Going k r opened n past (v'.cell n) z × IsAsked z (v'.asked z.who)) (some_same o o' (sym b.out ∙ f)) (g, q))
      (same_listed (v.cell n) (v'.cell n) b.resident b.dirty b.doomed (h.listed n))
      (λ res m. b.settled ∙ h.settled n (sym b.resident ∙ res) (sym (same_marked (v.cell n) (v'.cell n) b.dirty b.doomed) ∙ m))
      (same_pins n b.rest b.pins b.resident past refl)
    where
      some_same : (o o' : Out) → Some o ≡ Some o' → o ≡ o'
      some_same o o' e = cc

  -- something is given up without a note
  pub given_up_keeps : (n : Name) → Withdrawn n v v' → Agrees k r opened past v'
  given_up_keeps n b = quietly n b.rest
      (subst (λ z. Mark k n past (v'.cell n).resident z) (sym (same_marked (v.cell n) (v'.cell n) b.dirty b.doomed)) (subst (λ z. Mark k n past z (marked (v.cell n))) (sym b.resident) (h.marks n)))
      (λ o f. absurd (none_some (v'.cell n).out o b.out f))
      (same_listed (v.cell n) (v'.cell n) b.resident b.dirty b.doomed (h.listed n))
      (λ res m. b.settled ∙ h.settled n (sym b.resident ∙ res) (sym (same_marked (v.cell n) (v'.cell n) b.dirty b.doomed) ∙ m))
      (same_pins n b.rest b.pins b.resident past refl)

  pub settled_keeps : (n : Name) → SettlingEnded n v v' → Agrees k r opened past v'
  settled_keeps n b = quietly n b.rest
      (subst (λ z. Mark k n past (v'.cell n).resident z) (sym (same_marked (v.cell n) (v'.cell n) b.dirty b.doomed)) (subst (λ z. Mark k n past z (marked (v.cell n))) (sym b.resident) (h.marks n)))
      (λ o f. absurd (none_some (v'.cell n).out o b.out f))
      (same_listed (v.cell n) (v'.cell n) b.resident b.dirty b.doomed (h.listed n))
      (λ res m. b.settled (h.settled n (sym b.resident ∙ res) (sym (same_marked (v.cell n) (v'.cell n) b.dirty b.doomed) ∙ m)))
      (same_pins n b.rest b.pins b.resident past refl)

  -- a name leaves
  pub evict_keeps : (n : Name) → Evicted n v v' → Agrees k r opened past v'
  evict_keeps n b = quietly n b.rest (mark (h.marks n)) (λ o f. absurd (none_some (v'.cell n).out o b.out f))
      (record { dirty = λ z. absurd (true_false _ z b.dirty); doomed = λ z. b.resident }) (λ res m. absurd (true_false _ res b.resident))
      (λ w kept live. (let old = h.pins w n (sym (b.pins.kept w) ∙ kept) live in absurd (true_false _ old.1 (b.unpinned w)))) where
        same : marked (v'.cell n) ≡ marked (v.cell n)
        same = same_marked (v.cell n) (v'.cell n) (b.dirty ∙ sym b.clean) b.doomed

        kept_absent : (v.cell n).resident ≡ true → marked (v.cell n) ≡ true → ⊥
        kept_absent res m = by (v.cell n).doomed refl where
          by : (z : Bool) → (v.cell n).doomed ≡ z → ⊥
          by true e = true_false _ res ((h.listed n).doomed e)
          by false e = true_false _ m (or_false (v.cell n).dirty (v.cell n).doomed b.clean e)

        mark : Mark k n past (v.cell n).resident (marked (v.cell n)) → Mark k n past (v'.cell n).resident (marked (v'.cell n))
        mark (a.Clean m c) = a.Clean (same ∙ m) c
        mark (a.Gone z m gone nd) = a.Gone b.resident (same ∙ m) gone nd
        mark (a.Dirty s z m un) = absurd (kept_absent z m)
        mark (a.Unsure z m u) = absurd (kept_absent z m)
        mark (a.Doomed z m d) = a.Doomed b.resident (same ∙ m) d

  -- of a live name nothing is listed as doomed
  undoomed : (n : Name) → IsSome (shown_in k past n) → (v.cell n).doomed ≡ false
  undoomed n live = not_true _ (λ e. by e (h.marks n)) where
    by : (v.cell n).doomed ≡ true → Mark k n past (v.cell n).resident (marked (v.cell n)) → ⊥
    by e (a.Dirty s z m un) = true_false _ z ((h.listed n).doomed e)
    by e (a.Unsure z m u) = true_false _ z ((h.listed n).doomed e)
    by e (a.Clean m c) = true_false _ (or_right (v.cell n).dirty _ e) m
    by e (a.Doomed z m d) = no_both k n _ live d.gone
    by e (a.Gone z m gone nd) = no_both k n _ live gone

  -- a block is mended
  pub mend_keeps : (n : Name) → Mended k past n v v' → Agrees k r opened past v'
  mend_keeps n b = quietly n b.rest (a.Unsure b.resident mk b.unsure) (λ o f. absurd (none_some (v'.cell n).out o b.out f))
      (record { dirty = λ z. b.resident; doomed = λ z. absurd (true_false _ z (b.doomed ∙ undoomed n b.unsure.live)) }) (λ res m. absurd (true_false _ mk m))
      (λ w kept live. (let old = h.pins w n (sym (b.kept w) ∙ kept) live in (b.resident, b.pinned w old.1))) where
        mk : marked (v'.cell n) ≡ true
        mk = or_left (v'.cell n).dirty _ b.dirty

  -- a request is kept
  pub ask_keeps : (who : ℕ) → Asked who v v' → Agrees k r opened past v'
  ask_keeps who b = record {
    marks = λ n. subst (λ c. Mark k n past c.resident (marked c)) (sym (b.cell n)) (h.marks n);
    outs = outs;
    asks = asks;
    listed = λ n. subst MarkListed (sym (b.cell n)) (h.listed n);
    settled = λ n. subst SettledUnlessMarked (sym (b.cell n)) (h.settled n);
    pins = λ w n kept live. (let old = h.pins w n (sym (b.kept w n) ∙ kept) live in (ap (λ c. c.resident) (b.cell n) ∙ old.0, b.pinned w n ∙ old.1));
  } where
    back : (n : Name) (o : Out) → (v'.cell n).out ≡ Some o → (v.cell n).out ≡ Some o
    back n o f = sym (ap (λ c. c.out) (b.cell n)) ∙ f

    outs : (n : Name) (o : Out) → (v'.cell n).out ≡ Some o → Going k r opened n past (v'.cell n) o
    outs n o f = subst (λ c. Going k r opened n past c o) (sym (b.cell n)) (h.outs n o (back n o f))

    asks : (n : Name) (o : Out) → (v'.cell n).out ≡ Some o → IsAsked o (v'.asked o.who)
    asks n o f = subst (IsAsked o) (sym (b.asked o.who (b.idle n o (back n o f)))) (h.asks n o (back n o f))

  -- what is gone is absent
  absent : (n : Name) → IsNone (shown_in k past n) → (v.cell n).resident ≡ false
  absent n gone = by (h.marks n) where
    by : Mark k n past (v.cell n).resident (marked (v.cell n)) → (v.cell n).resident ≡ false
    by (a.Dirty s z m un) = absurd (no_both k n _ s gone)
    by (a.Unsure z m u) = absurd (no_both k n _ u.live gone)
    by (a.Clean m c) = absurd (no_both k n _ c.live gone)
    by (a.Doomed z m d) = z
    by (a.Gone z m gg nd) = z

  swap : (n q : Name) → same_name n q ≡ false → same_name q n ≡ false
  swap n q s = same_name-symm q n ∙ s

  module _ (n : Name) (o : Out) (f : (v.cell n).out ≡ Some o) where
    g : Going k r opened n past (v.cell n) o
    g = h.outs n o f

    module _ (expect : Expect) (d : o.doing ≡ Getting expect) (answer : Answer) where
      abbrev x : Stamped
      x = got opened o.who o.since n answer

      -- a get is noted, and given up
      pub got_given_up : Withdrawn n v v' → IsLawful k r opened past (begun past x) x.note × Agrees k r opened (x ∷ past) v'
      got_given_up b = (
        got_lawful k r n opened past (v.cell n) o g expect d answer,
        noted n b.rest x (swap n) (λ q. refl)
            (subst (λ z. Mark k n (x ∷ past) (v'.cell n).resident z) (sym (same_marked (v.cell n) (v'.cell n) b.dirty b.doomed)) (mark_got k r n opened past (v.cell n) o g expect d answer (v'.cell n).resident (λ m. b.resident) (λ gone. b.resident ∙ absent n gone) (h.marks n)))
            b.out (same_listed (v.cell n) (v'.cell n) b.resident b.dirty b.doomed (h.listed n)) (λ res m. b.settled ∙ h.settled n (sym b.resident ∙ res) (sym (same_marked (v.cell n) (v'.cell n) b.dirty b.doomed) ∙ m)) (same_pins n b.rest b.pins b.resident (x ∷ past) refl),
      )

      gets : Gets k n past (is_challenge o.request n) (v.cell n) o.touched
      gets = subst (StaysRight k n past (is_challenge o.request n) (v.cell n) o.touched) d g.now

      -- a get is noted, and its answer is kept
      pub got_kept : Brought n o v v' → IsLawful k r opened past (begun past x) x.note × Agrees k r opened (x ∷ past) v'
      got_kept b = (
        got_lawful k r n opened past (v.cell n) o g expect d answer,
        noted n b.rest x (swap n) (λ q. refl)
            (subst (λ z. Mark k n (x ∷ past) (v'.cell n).resident z) (sym (same_marked (v.cell n) (v'.cell n) b.dirty b.doomed)) (mark_got k r n opened past (v.cell n) o g expect d answer (v'.cell n).resident (same b.brings) (gone b.brings) (h.marks n)))
            b.out (list b.brings) (set b.brings) (λ w. pin w (which_caller o.who w)),
      ) where
        Is : Type 0
        Is = Brings o.who o.touched (v.cell n) (v'.cell n) (λ w. v.pinned w n) (λ w. v'.pinned w n)

        same : Is → (marked (v.cell n)) ≡ true → (v'.cell n).resident ≡ (v.cell n).resident
        same (Pinned z z' s p q) m = z' ∙ sym z
        same (Inserted z t z' s p) m = absurd (true_false _ m (gets.unmarked t))
        same (Passed z t z') m = z' ∙ sym z

        gone : Is → IsNone (shown_in k past n) → (v'.cell n).resident ≡ false
        gone (Pinned z z' s p q) m = absurd (true_false _ z (absent n m))
        gone (Inserted z t z' s p) m = absurd (no_both k n _ (got_live k n r opened past (v.cell n) o expect d t g) m)
        gone (Passed z t z') m = z'

        off : o.touched ≡ false → ((v.cell n).dirty ≡ false) × ((v.cell n).doomed ≡ false)
        off t = neither (v.cell n).dirty (v.cell n).doomed (gets.unmarked t)

        list : Is → MarkListed (v'.cell n)
        list (Pinned z z' s p q) = same_listed (v.cell n) (v'.cell n) (z' ∙ sym z) b.dirty b.doomed (h.listed n)
        list (Inserted z t z' s p) = record { dirty = λ w. z'; doomed = λ w. absurd (true_false _ w (b.doomed ∙ (off t).1)) }
        list (Passed z t z') = same_listed (v.cell n) (v'.cell n) (z' ∙ sym z) b.dirty b.doomed (h.listed n)

        set : Is → SettledUnlessMarked (v'.cell n)
        set (Pinned z z' s p q) = λ res m. s ∙ h.settled n z (sym (same_marked (v.cell n) (v'.cell n) b.dirty b.doomed) ∙ m)
        set (Inserted z t z' s p) = λ res m. s
        set (Passed z t z') = λ res m. absurd (true_false _ res z')

        mine : Is → IsSome (shown_in k past n) → ((v'.cell n).resident ≡ true) × (v'.pinned o.who n ≡ true)
        mine (Pinned z z' s p q) live = (z', p)
        mine (Inserted z t z' s p) live = (z', p)
        mine (Passed z t z') live = absurd (true_false _ (gets.present t live) z)

        other : Is → (w : ℕ) → w ≢ o.who → (v.cell n).resident ≡ true → v.pinned w n ≡ true → ((v'.cell n).resident ≡ true) × (v'.pinned w n ≡ true)
        other (Pinned z z' s p q) w ne res old = (z', q w ne ∙ old)
        other (Inserted z t z' s p) w ne res old = absurd (true_false _ res z)
        other (Passed z t z') w ne res old = absurd (true_false _ res z)

        pin : (w : ℕ) → (w ≡ o.who) ⊎ (w ≢ o.who) → PinnedIfKept k n (x ∷ past) (v'.kept w n) (v'.pinned w n) (v'.cell n).resident
        pin w (inl e) = subst (λ z. PinnedIfKept k n (x ∷ past) (v'.kept z n) (v'.pinned z n) (v'.cell n).resident) (sym e) (λ kept live. mine b.brings live)
        pin w (inr ne) = λ kept live. (let old = h.pins w n (sym (b.others w ne) ∙ kept) live in other b.brings w ne old.0 old.1)

    -- a put is noted
    module _ (bytes : List ℕ) (d : o.doing ≡ Putting bytes) (ok : Bool) where
      abbrev y : Stamped
      y = putted opened o.who o.since n bytes ok

      pub put_keeps : e.Stored n o ok v v' → IsLawful k r opened past (begun past y) y.note × Agrees k r opened (y ∷ past) v'
      put_keeps b = (
        put_lawful k r n opened past (v.cell n) o g bytes d ok,
        noted n b.rest y (swap n) (λ q. refl)
            (subst (λ z. Mark k n (y ∷ past) (v'.cell n).resident z) (sym marks) (subst (λ z. Mark k n (y ∷ past) z (left ok o.touched (marked (v.cell n)))) (sym b.resident) (mark_put k r n opened past (v.cell n) o g bytes d ok (h.marks n))))
            b.out (record { dirty = λ z. b.resident ∙ (h.listed n).dirty (was_on (ok && not o.touched) (v.cell n).dirty (sym b.dirty ∙ z)); doomed = λ z. b.resident ∙ (h.listed n).doomed (sym b.doomed ∙ z) })
            (λ res m. b.settled ∙ now.1 (went ok o.touched (marked (v.cell n)) now.0 (sym marks ∙ m))) (same_pins n b.rest b.pins b.resident (y ∷ past) refl),
      ) where
        now : ((marked (v.cell n)) ≡ true) × (o.touched ≡ false → (v.cell n).settled ≡ true)
        now = subst (StaysRight k n past (is_challenge o.request n) (v.cell n) o.touched) d g.now

        went : (ok touched marked : Bool) → marked ≡ true → left ok touched marked ≡ false → touched ≡ false
        went ok false marked m e = refl
        went true true marked m e = absurd (true_false marked m e)
        went false true marked m e = absurd (true_false marked m e)

        first : WasRight k r n o.request o.crowded (Putting bytes) (oldest (opened + o.since) past)
        first = subst (λ z. WasRight k r n o.request o.crowded z (oldest (opened + o.since) past)) d g.first

        live : (ok && not o.touched) ≡ true → IsSome (shown_in k past n)
        live e = by g.touch where
          by : Touch k n (opened + o.since) past o.touched → IsSome (shown_in k past n)
          by (a.Untouched t st) = subst IsSome (then_now k n (opened + o.since) past g.began st) (carried_live k n _ bytes first.0)
          by (a.Touched t ns) = absurd (true_false _ e (on_touched ok o.touched t))

        marks : marked (v'.cell n) ≡ left ok o.touched (marked (v.cell n))
        marks = ap (λ z. z || (v'.cell n).doomed) b.dirty ∙ (ap (λ z. cond (ok && not o.touched) false (v.cell n).dirty || z) b.doomed ∙ by (ok && not o.touched) (λ e. undoomed n (live e))) where
          by : (u : Bool) → (u ≡ true → (v.cell n).doomed ≡ false) → (cond u false (v.cell n).dirty || (v.cell n).doomed) ≡ cond u false (marked (v.cell n))
          by true f = f refl
          by false f = refl

    -- a discard is noted
    module _ (d : o.doing ≡ Dropping) (ok : Bool) where
      abbrev z : Stamped
      z = dropped_note opened o.who o.since n ok

      pub drop_keeps : e.Discarded n o ok v v' → IsLawful k r opened past (begun past z) z.note × Agrees k r opened (z ∷ past) v'
      drop_keeps b = (
        drop_lawful k r n opened past (v.cell n) o g d ok,
        noted n b.rest z (swap n) (λ q. refl) mark b.out
            (record { dirty = λ w. b.resident ∙ (h.listed n).dirty (sym b.dirty ∙ w); doomed = λ w. b.resident ∙ (h.listed n).doomed (was_on (ok && not o.touched) (v.cell n).doomed (sym b.doomed ∙ w)) })
            (λ res m. unsettled mark res m) (same_pins n b.rest b.pins b.resident (z ∷ past) refl),
      ) where
        first : WasRight k r n o.request o.crowded Dropping (oldest (opened + o.since) past)
        first = subst (λ w. WasRight k r n o.request o.crowded w (oldest (opened + o.since) past)) d g.first

        gone : (ok && not o.touched) ≡ true → IsNone (shown_in k past n)
        gone e = by g.touch where
          by : Touch k n (opened + o.since) past o.touched → IsNone (shown_in k past n)
          by (a.Untouched t st) = subst IsNone (then_now k n (opened + o.since) past g.began st) first.0.gone
          by (a.Touched t ns) = absurd (true_false _ e (on_touched ok o.touched t))

        marks : marked (v'.cell n) ≡ left ok o.touched (marked (v.cell n))
        marks = ap (λ w. w || (v'.cell n).doomed) b.dirty ∙ (ap (λ w. (v.cell n).dirty || w) b.doomed ∙ by (ok && not o.touched) (λ e. not_true _ (λ t. true_false _ ((h.listed n).dirty t) (absent n (gone e))))) where
          by : (u : Bool) → (u ≡ true → (v.cell n).dirty ≡ false) → ((v.cell n).dirty || cond u false (v.cell n).doomed) ≡ cond u false (marked (v.cell n))
          by true f = ap (λ w. w || false) (f refl)
          by false f = refl

        mark : Mark k n (z ∷ past) (v'.cell n).resident (marked (v'.cell n))
        mark = subst (λ u. Mark k n (z ∷ past) (v'.cell n).resident u) (sym marks) (subst (λ u. Mark k n (z ∷ past) u (left ok o.touched (marked (v.cell n)))) (sym b.resident) (mark_drop k r n opened past (v.cell n) o g d ok (h.marks n)))

        unsettled : Mark k n (z ∷ past) (v'.cell n).resident (marked (v'.cell n)) → (v'.cell n).resident ≡ true → (marked (v'.cell n)) ≡ false → (v'.cell n).settled ≡ true
        unsettled (a.Clean m c) res f = absurd ((drop_live k n past opened o.who o.since ok c.live).clean c)
        unsettled (a.Gone ab m gn nd) res f = absurd (true_false _ res ab)
        unsettled (a.Dirty s ab m un) res f = absurd (true_false _ m f)
        unsettled (a.Unsure ab m u) res f = absurd (true_false _ m f)
        unsettled (a.Doomed ab m dd) res f = absurd (true_false _ m f)
