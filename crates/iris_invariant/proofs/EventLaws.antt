-- The laws of events, from the lemmas on each.
use Rattle.std.proofs.Common.{◌≡◌, inl, inr, ℕ, false, Some, sym, ◌∙◌, subst}
use Rattle.iris_name.specs.declared.name.Name.{Name}
use Rattle.iris_name.specs.History.{Past}
use Rattle.iris_history.specs.Kept.{Kept}
use Rattle.iris_history.specs.Legal.{Rules}
use Rattle.iris_invariant.specs.Agrees.{marked, Getting, Putting, Dropping, Settling, Out, View, Mark, IsAsked, Agrees}
use Rattle.iris_invariant.specs.Beginnings.{begun_out}
use Rattle.iris_invariant.specs.EventLaws as l
use Rattle.iris_invariant.specs.Events.{Began}
use Rattle.iris_invariant.proofs.Begins.{begins_get, begins_put, begins_drop, begins_settle}
use Rattle.iris_invariant.proofs.Calls.{call_keeps}
use Rattle.iris_invariant.proofs.Events.{same_marked, begin_keeps, given_up_keeps, settled_keeps, evict_keeps, mend_keeps, ask_keeps, got_given_up, got_kept, put_keeps, drop_keeps}

module _ (k : Kept) (r : Rules) where
  pub quiet_stands : l.GoingOnStands k r
  quiet_stands opened past v v' f (inl bad) = inl bad
  quiet_stands opened past v v' f (inr h) = inr (h.0, f h.1)

  pub note_stands : l.GoingOnByStands k r
  note_stands past x v v' f (inl bad) = inl (inr bad)
  note_stands past x v v' f (inr h) = let g = f h.1 in inr ((g.0, h.0), g.1)

  -- the mark of a name for which something begins
  mark_at : (opened : ℕ) (past : Past) (v v' : View) (n : Name) (o : Out) → Began n o v v' → Agrees k r opened past v → Mark k n past (v'.cell n).resident (marked (v'.cell n))
  mark_at opened past v v' n o b h = subst (λ z. Mark k n past (v'.cell n).resident z) (sym (same_marked (v.cell n) (v'.cell n) b.dirty b.doomed)) (subst (λ z. Mark k n past z (marked (v.cell n))) (sym b.resident) (h.marks n))

  marked_at : (v v' : View) (n : Name) (o : Out) → Began n o v v' → marked (v'.cell n) ≡ marked (v.cell n)
  marked_at v v' n o b = same_marked (v.cell n) (v'.cell n) b.dirty b.doomed

  pub gets_begin : l.GetsBegin k r
  gets_begin opened past v v' who since n request expect e m b h = let o : Out = begun_out who since (Some request) (Getting expect) false in
      begin_keeps k r opened past v v' h n o b
      (begins_get k n r opened past who since (Some request) e (v'.cell n) expect (mark_at opened past v v' n o b h) (marked_at v v' n o b ∙ m.unmarked) m.live m.expected m.reached (λ ch. b.resident ∙ m.absent ch))
      (inr (b.rest.asked who ∙ m.asked))

  pub puts_begin : l.PutsBegin k r
  puts_begin opened past v v' who since n request bytes crowded e m c b h = let o : Out = begun_out who since request (Putting bytes) crowded in
      begin_keeps k r opened past v v' h n o b
      (begins_put k n r opened past who since request e (v'.cell n) bytes crowded (mark_at opened past v v' n o b h) (marked_at v v' n o b ∙ m.marked_) (b.settled ∙ m.settled) m.live m.carried c.waits)
      (subst (λ q. IsAsked o q) (sym (b.rest.asked who)) c.asked)

  pub discards_begin : l.DiscardsBegin k r
  discards_begin opened past v v' who since n request crowded e m c b h = let o : Out = begun_out who since request Dropping crowded in
      begin_keeps k r opened past v v' h n o b
      (begins_drop k n r opened past who since request e (v'.cell n) crowded (mark_at opened past v v' n o b h) (marked_at v v' n o b ∙ m.marked_) m.gone c.waits)
      (subst (λ q. IsAsked o q) (sym (b.rest.asked who)) c.asked)

  pub settlings_begin : l.SettlingsBegin k r
  settlings_begin opened past v v' who since n request crowded e c b h = let o : Out = begun_out who since request Settling crowded in
      begin_keeps k r opened past v v' h n o b (begins_settle k n r opened past who since request e (v'.cell n) crowded)
      (subst (λ q. IsAsked o q) (sym (b.rest.asked who)) c.asked)

  pub withdrawals_keep : l.WithdrawalsKeep k r
  withdrawals_keep opened past v v' n b h = given_up_keeps k r opened past v v' h n b

  pub settlings_keep : l.SettlingsKeep k r
  settlings_keep opened past v v' n b h = settled_keeps k r opened past v v' h n b

  pub fruitless_gets_keep : l.FruitlessGetsKeep k r
  fruitless_gets_keep opened past v v' n o expect answer f d b h = got_given_up k r opened past v v' h n o f expect d answer b

  pub fruitful_gets_keep : l.FruitfulGetsKeep k r
  fruitful_gets_keep opened past v v' n o expect answer f d b h = got_kept k r opened past v v' h n o f expect d answer b

  pub puts_keep : l.PutsKeep k r
  puts_keep opened past v v' n o bytes ok f d b h = put_keeps k r opened past v v' h n o f bytes d ok b

  pub discards_keep : l.DiscardsKeep k r
  discards_keep opened past v v' n o ok f d b h = drop_keeps k r opened past v v' h n o f d ok b

  pub asks_keep : l.AsksKeep k r
  asks_keep opened past v v' who b h = ask_keeps k r opened past v v' h who b

  pub evictions_keep : l.EvictionsKeep k r
  evictions_keep opened past v v' n b h = evict_keeps k r opened past v v' h n b

  pub mends_keep : l.MendsKeep k r
  mends_keep opened past v v' n b h = mend_keeps k r opened past v v' h n b

  pub calls_keep : l.CallsKeep k r
  calls_keep opened past v v' who request reply lawful b h = (lawful, call_keeps k r opened past v v' h who request reply b)
