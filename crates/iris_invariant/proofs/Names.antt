-- One name under one note more: its mark and what is out for it.
use Rattle.std.proofs.Common.{◌≡◌, ◌≢◌, ℕ, zero, suc, ◌+◌, ◌-◌, ◌≤◌, [], ◌∷◌, length, drop, Bool, true, false, Option, Some, None, refl, sym, ◌∙◌, subst, arith, IsSome, IsNone}
use Rattle.iris_name.specs.declared.name.Name.{Name}
use Rattle.iris_name.specs.declared.request.Request.{Request}
use Rattle.iris_name.specs.declared.request.Reply.{Reply}
use Rattle.iris_name.specs.History.{Past, Stamped, oldest, AllSince}
use Rattle.iris_history.specs.Answers.{Last, Nothing, Stored, Gone, last_of}
use Rattle.iris_history.specs.Kept.{Kept, shown_in}
use Rattle.iris_history.specs.Legal.{Rules, is_transfer_of, ComesAfter}
use Rattle.iris_history.specs.Status.{IsSteady, IsStored, IsClean}
use Rattle.iris_history.proofs.Pasts.{AllSince-map, AllSince-now, AllSince-at, BeganBy, last_began, oldest_more}
use Rattle.iris_history.specs.StatusLaws.{KeepsStatus, called}
use Rattle.iris_invariant.specs.Agrees as a
use Rattle.iris_invariant.specs.Agrees.{marked, Doing, Getting, Putting, Dropping, Settling, Out, Cell, Mark, Touch, Untouched, Touched, WasRight, is_challenge, Gets, StaysRight, Going}
use Rattle.iris_history.proofs.Steady.{true_false, last_kept, steady_more, steady_less, steady_broken, steady_later}
use Rattle.iris_history.proofs.NoteStatus.{call_changes, call_takes}

pub length_oldest : (b : ℕ) (past : Past) → b ≤ length past → length (oldest b past) ≡ b
length_oldest b past h = omega (length-drop (length past - b) past, arith, h) where
  length-drop : (m : ℕ) (q : Past) → length (drop m q) ≡ length q - m
  length-drop zero q = omega arith
  length-drop (suc m) [] = omega arith
  length-drop (suc m) (x ∷ q) = omega (arith, length-drop m q)

module _ (k : Kept) (n : Name) where
  -- what the name stood for when it began, where it is untouched since
  pub then_now : (b : ℕ) (past : Past) → b ≤ length past → IsSteady k n b past → shown_in k (oldest b past) n ≡ shown_in k past n
  then_now b past le h = AllSince-at (λ p. shown_in k p n ≡ shown_in k past n) b past h le

  -- 'The same as in the history in which it began in every prefix since', and 'the same as now' say one thing
  pub steady_then : (b : ℕ) (past : Past) → b ≤ length past → IsSteady k n b past → AllSince (λ p. shown_in k p n ≡ shown_in k (oldest b past) n) b past
  steady_then b past le h = AllSince-map (λ p. shown_in k p n ≡ shown_in k past n) (λ p. shown_in k p n ≡ shown_in k (oldest b past) n) (λ p e. e ∙ sym (then_now b past le h)) b past h

  pub then_steady : (b : ℕ) (past : Past) → AllSince (λ p. shown_in k p n ≡ shown_in k (oldest b past) n) b past → IsSteady k n b past
  then_steady b past h = let e = AllSince-now (λ p. shown_in k p n ≡ shown_in k (oldest b past) n) b past h in
      AllSince-map (λ p. shown_in k p n ≡ shown_in k (oldest b past) n) (λ p. shown_in k p n ≡ shown_in k past n) (λ p f. f ∙ sym e) b past h

  -- a name that was touched since a transfer of it began isn't clean
  pub touched_unclean : (b : ℕ) (past : Past) → b ≤ length past → ComesAfter n b past → (IsSteady k n b past → ⊥) → IsClean k n past → ⊥
  touched_unclean b past le alone ne c = by (last_of n past) early c.stored where
    early : BeganBy b (last_of n past)
    early = subst (λ m. BeganBy m (last_of n past)) (length_oldest b past le) (subst (λ l. BeganBy (length (oldest b past)) l) (sym (last_kept n b past le alone)) (last_began n (oldest b past)))

    by : (l : Last) → BeganBy b l → IsStored k n past l → ⊥
    by Nothing e s = s
    by (Stored since bytes ok) e s = ne (steady_later k n since b past e s.1)
    by (Gone since ok) e s = s

  pub mark_stays : (x : Stamped) (past : Past) (resident marked : Bool) → KeepsStatus k n past x → shown_in k (x ∷ past) n ≡ shown_in k past n
      → Mark k n past resident marked → Mark k n (x ∷ past) resident marked
  mark_stays x past resident marked s e (a.Dirty live r m un) = a.Dirty (subst IsSome (sym e) live) r m (λ c. un (s.clean.1 c))
  mark_stays x past resident marked s e (a.Unsure r m u) = a.Unsure r m (s.unsure.0 u)
  mark_stays x past resident marked s e (a.Clean m c) = a.Clean m (s.clean.0 c)
  mark_stays x past resident marked s e (a.Doomed z m d) = a.Doomed z m (s.doomed.0 d)
  mark_stays x past resident marked s e (a.Gone z m g nd) = a.Gone z m (subst IsNone (sym e) g) (λ d. nd (s.doomed.1 d))

  -- after a call that changes what the name stands for
  pub mark_changed : (opened who : ℕ) (request : Request) (reply : Reply) (past : Past) (resident marked : Bool) → let x = called opened who request reply in
      shown_in k (x ∷ past) n ≢ shown_in k past n → (IsSome (shown_in k (x ∷ past) n) → resident ≡ true) → (IsNone (shown_in k (x ∷ past) n) → resident ≡ false) → marked ≡ true → Mark k n (x ∷ past) resident marked
  mark_changed opened who request reply past resident marked ne r a' m = by (shown_in k (x ∷ past) n) refl where
    x : Stamped
    x = called opened who request reply

    by : (o : Option k.Unfolded) → shown_in k (x ∷ past) n ≡ o → Mark k n (x ∷ past) resident marked
    by None e = a.Doomed (a' (subst IsNone (sym e) refl)) m (call_takes k n past opened who request reply ne (subst IsNone (sym e) refl)).doomed
    by (Some u) e = let s = subst IsSome (sym e) refl in a.Dirty s (r s) m (call_changes k n past opened who request reply ne s).clean

  pub touch_stays : (b : ℕ) (x : Stamped) (past : Past) (touched : Bool) → b ≤ length past → shown_in k (x ∷ past) n ≡ shown_in k past n → Touch k n b past touched → Touch k n b (x ∷ past) touched
  touch_stays b x past touched le e (Untouched f s) = Untouched f (steady_more k n b x past e s)
  touch_stays b x past touched le e (Touched f ns) = Touched f (λ s. ns (steady_less k n b x past le e s))

  pub alone_more : (b : ℕ) (x : Stamped) (past : Past) → is_transfer_of n x.note ≡ false → ComesAfter n b past → ComesAfter n b (x ∷ past)
  alone_more b x past t h = (λ e. absurd (true_false (is_transfer_of n x.note) e t), h)

  module _ (r : Rules) where
    pub first_stays : (b : ℕ) (x : Stamped) (past : Past) (asked : Option Request) (crowded : Bool) (doing : Doing) → b ≤ length past
        → WasRight k r n asked crowded doing (oldest b past) → WasRight k r n asked crowded doing (oldest b (x ∷ past))
    first_stays b x past asked crowded doing le f = subst (WasRight k r n asked crowded doing) (sym (oldest_more b x past le)) f

    pub now_stays : (x : Stamped) (past : Past) (challenge : Bool) (c : Cell) (touched : Bool) (doing : Doing) → shown_in k (x ∷ past) n ≡ shown_in k past n
        → StaysRight k n past challenge c touched doing → StaysRight k n (x ∷ past) challenge c touched doing
    now_stays x past challenge c touched (Getting expect) e h = record { unmarked = h.unmarked; present = λ t s. h.present t (subst IsSome e s); absent = h.absent }
    now_stays x past challenge c touched (Putting bytes) e h = h
    now_stays x past challenge c touched Dropping e h = h
    now_stays x past challenge c touched Settling e h = h

    -- a note that is no transfer of the name and leaves what it stands for
    pub going_stays : (opened : ℕ) (x : Stamped) (past : Past) (c : Cell) (o : Out)
        → is_transfer_of n x.note ≡ false → shown_in k (x ∷ past) n ≡ shown_in k past n
        → Going k r opened n past c o → Going k r opened n (x ∷ past) c o
    going_stays opened x past c o t e g = record {
      began = omega (arith, g.began);
      alone = alone_more (opened + o.since) x past t g.alone;
      first = first_stays (opened + o.since) x past o.request o.crowded o.doing g.began g.first;
      touch = touch_stays (opened + o.since) x past o.touched g.began e g.touch;
      now = now_stays x past (is_challenge o.request n) c o.touched o.doing e g.now;
    }

    abbrev pub touched : Out → Out
    touched o = record { who = o.who; since = o.since; request = o.request; doing = o.doing; crowded = o.crowded; touched = true }

    -- an untouched get's name is live
    pub got_live : (opened : ℕ) (past : Past) (c : Cell) (o : Out) (expect : _) → o.doing ≡ Getting expect → o.touched ≡ false
        → Going k r opened n past c o → IsSome (shown_in k past n)
    got_live opened past c o expect d f g = by g.touch where
      first : WasRight k r n o.request o.crowded (Getting expect) (oldest (opened + o.since) past)
      first = subst (λ z. WasRight k r n o.request o.crowded z (oldest (opened + o.since) past)) d g.first

      by : Touch k n (opened + o.since) past o.touched → IsSome (shown_in k past n)
      by (Untouched e s) = subst IsSome (then_now (opened + o.since) past g.began s) first.0.live
      by (Touched e ns) = absurd (true_false o.touched e f)

    -- a call that changes what the name stands for
    pub going_changed : (opened : ℕ) (x : Stamped) (past : Past) (c c' : Cell) (o : Out)
        → is_transfer_of n x.note ≡ false → shown_in k (x ∷ past) n ≢ shown_in k past n
        → (IsSome (shown_in k past n) → c.resident ≡ true) → (IsSome (shown_in k (x ∷ past) n) → c'.resident ≡ true) → marked c' ≡ true
        → Going k r opened n past c o → Going k r opened n (x ∷ past) c' (touched o)
    going_changed opened x past c c' o t ne was is m g = record {
      began = omega (arith, g.began);
      alone = alone_more (opened + o.since) x past t g.alone;
      first = first_stays (opened + o.since) x past o.request o.crowded o.doing g.began g.first;
      touch = Touched refl (steady_broken k n (opened + o.since) x past g.began ne);
      now = by o.doing refl;
    } where
      gets : (expect : _) → o.doing ≡ Getting expect → Gets k n past (is_challenge o.request n) c o.touched
      gets expect d = subst (StaysRight k n past (is_challenge o.request n) c o.touched) d g.now

      absent : (expect : _) → o.doing ≡ Getting expect → is_challenge o.request n ≡ false → ⊥
      absent expect d ch = let old = (gets expect d).absent ch in true_false c.resident (was (got_live opened past c o expect d old.1 g)) old.0

      by : (d : Doing) → o.doing ≡ d → StaysRight k n (x ∷ past) (is_challenge o.request n) c' true d
      by (Getting expect) d = record { unmarked = λ e. absurd (cc); present = λ e s. is s; absent = λ ch. absurd (absent expect d ch) }
      by (Putting bytes) d = (m, λ e. absurd (cc))
      by Dropping d = m
      by Settling d = tt
