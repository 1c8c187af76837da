-- An entered call keeps that the core agrees with the history.
use Rattle.std.proofs.Common.{◌≡◌, ◌≢◌, ◌⊎◌, inl, inr, ℕ, ◌∷◌, Bool, true, false, Option, Some, None, refl, sym, ◌∙◌, ap, subst, IsSome, IsNone}
use Rattle.std.specs.Prelude.{option_map}
use Rattle.iris_name.specs.declared.name.Name.{Name}
use Rattle.iris_name.specs.declared.request.Reply.{Reply}
use Rattle.iris_name.specs.declared.request.Request.{Request}
use Rattle.iris_name.specs.History.{Past, Stamped}
use Rattle.iris_history.specs.Kept.{Kept, shown_in}
use Rattle.iris_history.specs.Legal.{Rules}
use Rattle.iris_history.specs.StatusLaws.{called}
use Rattle.iris_history.proofs.Steady.{true_false}
use Rattle.iris_history.proofs.NoteStatus.{passes_by}
use Rattle.iris_invariant.specs.Agrees.{marked, MarkListed, Out, View, Mark, Going, IsAsked, SettledUnlessMarked, PinnedIfKept, Agrees}
use Rattle.iris_invariant.specs.Events.{IsKeptDirty, IsKeptDoomed, touched, Moved, Still, Changed, Answered}
use Rattle.iris_invariant.proofs.Names.{mark_stays, mark_changed, going_stays, going_changed}
use Rattle.iris_invariant.proofs.Begins.{resident_live}
use Rattle.iris_invariant.proofs.Events.{which_caller, or_left, or_right}

module _ (k : Kept) (r : Rules) (opened : ℕ) (past : Past) (v v' : View) (h : Agrees k r opened past v) where
  -- a call is entered
  pub call_keeps : (who : ℕ) (request : Request) (reply : Reply) → let x = called opened who request reply in Answered k past x who v v' → Agrees k r opened (x ∷ past) v'
  call_keeps who request reply b = record { marks = λ n. marks n (b.moved n); outs = λ n. outs n (b.moved n); asks = λ n. asks n (b.moved n); listed = λ n. list n (b.moved n); settled = λ n. set n (b.moved n); pins = λ w n. pin w n (which_caller who w) (b.moved n) } where
    x : Stamped
    x = called opened who request reply

    on : (n : Name) → shown_in k (x ∷ past) n ≢ shown_in k past n → (IsSome (shown_in k past n) → (v.cell n).resident ≡ true) → (IsSome (shown_in k (x ∷ past) n) → IsKeptDirty (v'.cell n)) → (IsNone (shown_in k (x ∷ past) n) → IsKeptDoomed (v'.cell n)) → marked (v'.cell n) ≡ true
    on n ne was is isn't = by (shown_in k (x ∷ past) n) refl where
      by : (o : Option k.Unfolded) → shown_in k (x ∷ past) n ≡ o → marked (v'.cell n) ≡ true
      by None e = or_right (v'.cell n).dirty _ (isn't (subst IsNone (sym e) refl)).doomed
      by (Some u) e = or_left (v'.cell n).dirty _ (is (subst IsSome (sym e) refl)).dirty

    lives : (o : Option k.Unfolded) → IsSome o ⊎ IsNone o
    lives None = inr refl
    lives (Some u) = inl refl

    list : (n : Name) → Moved k past x n (v.cell n) (v'.cell n) → MarkListed (v'.cell n)
    list n (Still s c) = subst MarkListed (sym c) (h.listed n)
    list n (Changed ne was is isn't out) = elim (lives (shown_in k (x ∷ past) n)) [
      | inl l ↦ record { dirty = λ z. (is l).resident; doomed = λ z. absurd (true_false _ z (is l).doomed) }
      | inr l ↦ record { dirty = λ z. absurd (true_false _ z (isn't l).dirty); doomed = λ z. (isn't l).resident }
    ]

    marks : (n : Name) → Moved k past x n (v.cell n) (v'.cell n) → Mark k n (x ∷ past) (v'.cell n).resident (marked (v'.cell n))
    marks n (Still s c) = subst (λ z. Mark k n (x ∷ past) z.resident (marked z)) (sym c) (mark_stays k n x past _ _ (passes_by k n past x refl s) s (h.marks n))
    marks n (Changed ne was is isn't out) = mark_changed k n opened who request reply past _ _ ne (λ l. (is l).resident) (λ l. (isn't l).resident) (on n ne was is isn't)

    come : (n : Name) (c : Option Out) (o : Out) → option_map touched c ≡ Some o → (p : Out) × (c ≡ Some p) × (touched p ≡ o)
    come n None o e = absurd (cc)
    come n (Some p) o e = (p, refl, cc)

    outs : (n : Name) → Moved k past x n (v.cell n) (v'.cell n) → (o : Out) → (v'.cell n).out ≡ Some o → Going k r opened n (x ∷ past) (v'.cell n) o
    outs n (Still s c) = λ o f. let f' = sym (ap (λ z. z.out) c) ∙ f in
        subst (λ z. Going k r opened n (x ∷ past) z o) (sym c) (going_stays k n r opened x past (v.cell n) o refl s (h.outs n o f'))
    outs n (Changed ne was is isn't out) = λ o f. let p = come n (v.cell n).out o (sym out ∙ f) in
        subst (Going k r opened n (x ∷ past) (v'.cell n)) p.2 (going_changed k n r opened x past (v.cell n) (v'.cell n) p.0 refl ne was (λ l. (is l).resident) (on n ne was is isn't) (h.outs n p.0 p.1))

    asks : (n : Name) → Moved k past x n (v.cell n) (v'.cell n) → (o : Out) → (v'.cell n).out ≡ Some o → IsAsked o (v'.asked o.who)
    asks n (Still s c) = λ o f. let f' = sym (ap (λ z. z.out) c) ∙ f in subst (IsAsked o) (sym (b.asked o.who (b.idle n o f'))) (h.asks n o f')
    asks n (Changed ne was is isn't out) = λ o f. let p = come n (v.cell n).out o (sym out ∙ f) in
        subst (λ z. IsAsked z (v'.asked z.who)) p.2 (subst (λ q. IsAsked (touched p.0) q) (sym (b.asked p.0.who (b.idle n p.0 p.1))) (h.asks n p.0 p.1))

    set : (n : Name) → Moved k past x n (v.cell n) (v'.cell n) → SettledUnlessMarked (v'.cell n)
    set n (Still s c) = subst SettledUnlessMarked (sym c) (h.settled n)
    set n (Changed ne was is isn't out) = λ res f. absurd (true_false _ (on n ne was is isn't) f)

    pin : (w : ℕ) (n : Name) → (w ≡ who) ⊎ (w ≢ who) → Moved k past x n (v.cell n) (v'.cell n) → PinnedIfKept k n (x ∷ past) (v'.kept w n) (v'.pinned w n) (v'.cell n).resident
    pin w n (inl e) mv = λ kept live. absurd (true_false _ kept (ap (λ z. v'.kept z n) e ∙ b.freed n))
    pin w n (inr ne) (Still s c) = λ kept live. let k' = sym (b.kept w n ne) ∙ kept in let old = h.pins w n k' (subst IsSome s live) in let res = ap (λ z. z.resident) c ∙ old.0 in
        (res, b.pinned w n ne k' old.0 res ∙ old.1)
    pin w n (inr ne) (Changed df was is isn't out) = λ kept live. let k' = sym (b.kept w n ne) ∙ kept in ((is live).resident, here (v.cell n).resident k' (is live).resident refl) where
      here : (z : Bool) → v.kept w n ≡ true → (v'.cell n).resident ≡ true → (v.cell n).resident ≡ z → v'.pinned w n ≡ true
      here true k' res e = b.pinned w n ne k' e res ∙ (h.pins w n k' (resident_live k n past _ _ (h.marks n) e)).1
      here false k' res e = b.again w n ne k' e res
