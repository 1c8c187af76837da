-- A core that starts from a saved state agrees with each history that the state saves, and saves what it agrees with.
use Rattle.std.proofs.Common.{◌≡◌, ℕ, ◌||◌, length, Bool, true, false, refl, sym, ◌∙◌, ap}
use Rattle.iris_name.specs.declared.name.Name.{Name}
use Rattle.iris_name.specs.History.{Past}
use Rattle.iris_history.specs.Kept.{Kept}
use Rattle.iris_history.specs.Legal.{Rules}
use Rattle.iris_invariant.specs.Agrees as a
use Rattle.iris_invariant.specs.Agrees.{marked, MarkListed, Out, Cell, View, Mark, Going, SettledUnlessMarked, Agrees}
use Rattle.iris_invariant.specs.Saves as s
use Rattle.iris_invariant.specs.Saves.{Saved, Started}
use Rattle.iris_history.proofs.Steady.{true_false}
use Rattle.iris_invariant.proofs.Events.{none_some, not_true, or_left, or_right, neither}

-- start
pub start_agrees : (k : Kept) (r : Rules) (past : Past) (held doomed : Name → Bool) (v : View) → ((n : Name) → Saved k n past (held n) (doomed n)) → Started held doomed v
    → Agrees k r (length past) past v
start_agrees k r past held doomed v saved b = record {
  marks = λ n. mark n (saved n);
  outs = λ n o f. absurd (none_some (v.cell n).out o (b.out n) f);
  asks = λ n o f. absurd (none_some (v.cell n).out o (b.out n) f);
  listed = λ n. record { dirty = λ d. b.resident n ∙ (sym (b.dirty n) ∙ d); doomed = λ d. b.resident n ∙ list n (sym (b.doomed_ n) ∙ d) (saved n) };
  settled = λ n res f. absurd (true_false _ (b.dirty n ∙ (sym (b.resident n) ∙ res)) (neither (v.cell n).dirty (v.cell n).doomed f).0);
  pins = λ w n kept. absurd (true_false _ kept (b.kept w n));
} where
  list : (n : Name) → doomed n ≡ true → Saved k n past (held n) (doomed n) → held n ≡ false
  list n d (s.Dirty h e live un) = absurd (true_false _ d e)
  list n d (s.Unsure h e u) = absurd (true_false _ d e)
  list n d (s.Clean h e c) = h
  list n d (s.Doomed h e dd) = h
  list n d (s.Gone h e g nd) = h

  on : (n : Name) → held n ≡ true → marked (v.cell n) ≡ true
  on n h = or_left (v.cell n).dirty _ (b.dirty n ∙ h)

  off : (n : Name) → held n ≡ false → doomed n ≡ false → marked (v.cell n) ≡ false
  off n h e = ap (λ z. z || (v.cell n).doomed) (b.dirty n ∙ h) ∙ (b.doomed_ n ∙ e)

  mark : (n : Name) → Saved k n past (held n) (doomed n) → Mark k n past (v.cell n).resident (marked (v.cell n))
  mark n (s.Dirty h e live un) = a.Dirty live (b.resident n ∙ h) (on n h) un
  mark n (s.Unsure h e u) = a.Unsure (b.resident n ∙ h) (on n h) u
  mark n (s.Clean h e c) = a.Clean (off n h e) c
  mark n (s.Doomed h e d) = a.Doomed (b.resident n ∙ h) (or_right (v.cell n).dirty _ (b.doomed_ n ∙ e)) d
  mark n (s.Gone h e g nd) = a.Gone (b.resident n ∙ h) (off n h e) g nd

-- save: what is dirty, and what is listed as doomed
pub save_saves : (k : Kept) (r : Rules) (opened : ℕ) (past : Past) (v : View) → Agrees k r opened past v → (n : Name) → Saved k n past (v.cell n).dirty (v.cell n).doomed
save_saves k r opened past v h n = by (h.marks n) where
  l : MarkListed (v.cell n)
  l = h.listed n

  present : (v.cell n).resident ≡ true → (v.cell n).doomed ≡ false
  present r = not_true _ (λ d. true_false _ r (l.doomed d))

  left_one : (d e : Bool) → (d || e) ≡ true → e ≡ false → d ≡ true
  left_one true e m f = refl
  left_one false e m f = absurd (true_false e m f)

  right_one : (d e : Bool) → (d || e) ≡ true → d ≡ false → e ≡ true
  right_one true e m f = absurd (cc)
  right_one false e m f = m

  by : Mark k n past (v.cell n).resident (marked (v.cell n)) → Saved k n past (v.cell n).dirty (v.cell n).doomed
  by (a.Dirty live r m un) = s.Dirty (left_one _ _ m (present r)) (present r) live un
  by (a.Unsure r m u) = s.Unsure (left_one _ _ m (present r)) (present r) u
  by (a.Clean m c) = let f = neither (v.cell n).dirty (v.cell n).doomed m in s.Clean f.0 f.1 c
  by (a.Doomed z m d) = let f = not_true (v.cell n).dirty (λ t. true_false _ (l.dirty t) z) in s.Doomed f (right_one _ _ m f) d
  by (a.Gone z m g nd) = let f = neither (v.cell n).dirty (v.cell n).doomed m in s.Gone f.0 f.1 g nd
