-- What ends for a name: its note is lawful, and what its mark says then.
use Rattle.std.proofs.Common.{◌≡◌, ◌⊎◌, ℕ, ◌+◌, ◌≤◌, List, ◌∷◌, length, Bool, true, false, cond, not, ◌&&◌, Option, Some, None, refl, sym, ◌∙◌, ap, subst, IsSome, IsNone}
use Rattle.std.specs.Prelude.{IsSomeAnd}
use Rattle.iris_name.specs.declared.name.Name.{Name}
use Rattle.iris_name.specs.declared.note.Answer.{Answer}
use Rattle.iris_name.specs.declared.note.Expect.{Expect}
use Rattle.iris_name.specs.declared.note.Note.{Note}
use Rattle.iris_name.specs.declared.request.Cause.TheVariants.{StoreFailed, BadAnswer}
use Rattle.iris_name.specs.declared.request.Reply.TheVariants.{Refused}
use Rattle.iris_name.specs.declared.request.Request.{Request}
use Rattle.iris_name.specs.History.{Past, Stamped, oldest, began, begun, since_of, AllSince}
use Rattle.iris_name.specs.NameLaws.{same_name-refl}
use Rattle.iris_history.specs.Answers.{last_of, IsFailure, IsOther}
use Rattle.iris_history.specs.Kept.{Kept, Carries, shown_in}
use Rattle.iris_history.specs.Legal.{Rules, IsLawful, IsLicensed, BeginsInTurn}
use Rattle.iris_history.specs.Status.{IsSteady, IsClean, IsDirty, IsDoomed, IsUnsure}
use Rattle.iris_history.specs.StatusLaws.{Fetched, got, putted, dropped_note}
use Rattle.iris_invariant.specs.Agrees as a
use Rattle.iris_invariant.specs.Agrees.{marked, Doing, Getting, Putting, Dropping, Settling, Out, Cell, Mark, Touch, Untouched, Touched, WasRight, is_challenge, Gets, StaysRight, Going}
use Rattle.iris_history.proofs.Steady.{true_false, no_both, steady_none, none_steady, began_at}
use Rattle.iris_history.proofs.NoteStatus.{got_law, put_law, put_gone, drop_live, drop_gone}
use Rattle.iris_invariant.proofs.Names.{then_now, touched_unclean}

-- whether what ends takes the mark away
abbrev pub unmarks : Bool → Bool → Bool
unmarks ok touched = ok && not touched

-- the mark after a put or a discard
abbrev pub left : Bool → Bool → Bool → Bool
left ok touched marked = cond (unmarks ok touched) false marked

left_on : (ok touched marked : Bool) → touched ≡ true → left ok touched marked ≡ marked
left_on true true marked e = refl
left_on false true marked e = refl
left_on ok false marked e = absurd (cc)

left_failed : (ok touched marked : Bool) → ok ≡ false → left ok touched marked ≡ marked
left_failed false touched marked e = refl
left_failed true touched marked e = absurd (cc)

left_off : (ok touched marked : Bool) → ok ≡ true → touched ≡ false → left ok touched marked ≡ false
left_off true false marked e f = refl
left_off false touched marked e f = absurd (cc)
left_off true true marked e f = absurd (cc)

module _ (k : Kept) (r : Rules) (n : Name) (opened : ℕ) (past : Past) (c : Cell) (o : Out) (g : Going k r opened n past c o) where
  abbrev b : ℕ
  b = opened + o.since

  in_turn : BeginsInTurn opened n o.since past
  in_turn = (g.began, g.alone)

  first_of : (doing : Doing) → o.doing ≡ doing → WasRight k r n o.request o.crowded doing (oldest b past)
  first_of doing d = subst (λ z. WasRight k r n o.request o.crowded z (oldest b past)) d g.first

  now_of : (doing : Doing) → o.doing ≡ doing → StaysRight k n past (is_challenge o.request n) c o.touched doing
  now_of doing d = subst (StaysRight k n past (is_challenge o.request n) c o.touched) d g.now

  -- the history in which it began, as its note tells it
  pub begun_then : (note : Note) → since_of note (length past) ≡ o.since → begun past (record { note = note; opened = opened }) ≡ oldest b past
  begun_then note e = ap (λ m. oldest m past) (began_at opened past note (subst (λ s. opened + s ≤ length past) (sym e) g.began) ∙ ap (λ s. opened + s) e)

  module _ (expect : Expect) (d : o.doing ≡ Getting expect) (answer : Answer) where
    abbrev x : Stamped
    x = got opened o.who o.since n answer

    at : begun past x ≡ oldest b past
    at = begun_then x.note refl

    pub got_lawful : IsLawful k r opened past (begun past x) x.note
    got_lawful = (subst (IsClean k n) (sym at) (first_of (Getting expect) d).0, in_turn)

    -- the mark after a get: it stays, and what was unmarked may become resident
    pub mark_got : (resident : Bool) → ((marked c) ≡ true → resident ≡ c.resident) → (IsNone (shown_in k past n) → resident ≡ false) → Mark k n past c.resident (marked c) → Mark k n (x ∷ past) resident (marked c)
    mark_got resident same gone' = by where
      law : Fetched k n past x answer
      law = got_law k n past opened o.who o.since answer

      dirty : IsSome (shown_in k past n) → c.resident ≡ true → (marked c) ≡ true → Touch k n b past o.touched → Mark k n (x ∷ past) resident (marked c)
      dirty live res m (Touched t ns) = a.Dirty live (same m ∙ res) m (λ cl. touched_unclean k n b past g.began g.alone ns (law.clean.1 cl))
      dirty live res m (Untouched t s) = absurd (true_false (marked c) m ((now_of (Getting expect) d).unmarked t))

      by : Mark k n past c.resident (marked c) → Mark k n (x ∷ past) resident (marked c)
      by (a.Dirty live res m un) = a.Dirty live (same m ∙ res) m (λ cl. un (law.clean.1 cl))
      by (a.Unsure res m u) = dirty u.live res m g.touch
      by (a.Clean m cl) = a.Clean m (law.clean.0 cl)
      by (a.Doomed z m dd) = a.Doomed (gone' dd.gone) m (law.doomed.0 dd)
      by (a.Gone z m gone nd) = a.Gone (gone' gone) m gone (λ dd. nd (law.doomed.1 dd))

    -- what a caller's own get that failed, or is other, licenses
    pub failed_licenses : IsFailure answer → IsSomeAnd o.request (λ q. IsLicensed r opened o.who q (Refused (StoreFailed n)) (x ∷ past))
    failed_licenses f = by o.request (first_of (Getting expect) d).2 where
      by : (q : Option Request) → IsSomeAnd q (λ q. r.reaches (oldest b past) q n) → IsSomeAnd q (λ q. IsLicensed r opened o.who q (Refused (StoreFailed n)) (x ∷ past))
      by (Some q) h = (refl, (refl, same_name-refl n, f, subst (λ p. r.reaches p q n) (sym at) h))
      by None h = absurd h

    pub other_licenses : IsOther (last_of n past) answer → IsSomeAnd o.request (λ q. IsLicensed r opened o.who q (Refused (BadAnswer n)) (x ∷ past))
    other_licenses f = by o.request (first_of (Getting expect) d).2 where
      by : (q : Option Request) → IsSomeAnd q (λ q. r.reaches (oldest b past) q n) → IsSomeAnd q (λ q. IsLicensed r opened o.who q (Refused (BadAnswer n)) (x ∷ past))
      by (Some q) h = (refl, (refl, same_name-refl n, f, subst (λ p. r.reaches p q n) (sym at) h))
      by None h = absurd h

  module _ (bytes : List ℕ) (d : o.doing ≡ Putting bytes) (ok : Bool) where
    abbrev y : Stamped
    y = putted opened o.who o.since n bytes ok

    put_at : begun past y ≡ oldest b past
    put_at = begun_then y.note refl

    pub put_lawful : IsLawful k r opened past (begun past y) y.note
    put_lawful = let f = first_of (Putting bytes) d in
        (subst (λ p. Carries k n (shown_in k p n) bytes) (sym put_at) f.0, subst (λ p. IsDirty k n p ⊎ IsUnsure k n p) (sym put_at) f.1, in_turn)

    carried_live : (u : Option k.Unfolded) → Carries k n u bytes → IsSome u
    carried_live None h = absurd h
    carried_live (Some u) h = refl

    -- the mark after a put: it goes exactly where the put was answered ok and the name is untouched
    pub mark_put : Mark k n past c.resident (marked c) → Mark k n (y ∷ past) c.resident (left ok o.touched (marked c))
    mark_put mark = live_or mark where
      m : (marked c) ≡ true
      m = (now_of (Putting bytes) d).0

      start : began past y ≡ b
      start = began_at opened past y.note g.began

      on : c.resident ≡ true → left ok o.touched (marked c) ≡ (marked c) → IsSome (shown_in k past n) → ((ok ≡ true) × IsSteady k n b past → ⊥) → Mark k n (y ∷ past) c.resident (left ok o.touched (marked c))
      on res e s nay = a.Dirty s res (e ∙ m) (λ cl. (let h = (put_law k n past opened o.who o.since bytes ok s).clean.0 cl in nay (h.0, subst (λ z. IsSteady k n z past) start h.1)))

      live : c.resident ≡ true → IsSome (shown_in k past n) → (v : Bool) → ok ≡ v → Touch k n b past o.touched → Mark k n (y ∷ past) c.resident (left ok o.touched (marked c))
      live res s true e (Untouched t st) = a.Clean (left_off ok o.touched (marked c) e t) ((put_law k n past opened o.who o.since bytes ok s).clean.1 (e, subst (λ z. IsSteady k n z past) (sym start) st))
      live res s v e (Touched t ns) = on res (left_on ok o.touched (marked c) t) s (λ h. ns h.1)
      live res s false e (Untouched t st) = on res (left_failed ok o.touched (marked c) e) s (λ h. true_false ok h.0 e)

      gone : c.resident ≡ false → IsDoomed k n past → Touch k n b past o.touched → Mark k n (y ∷ past) c.resident (left ok o.touched (marked c))
      gone ab dd (Untouched t st) = absurd (no_both k n _ (subst IsSome (then_now k n b past g.began st) (carried_live _ (first_of (Putting bytes) d).0)) dd.gone)
      gone ab dd (Touched t ns) = a.Doomed ab (left_on ok o.touched (marked c) t ∙ m) ((put_gone k n past opened o.who o.since bytes ok dd.gone).doomed.0 dd)

      live_or : Mark k n past c.resident (marked c) → Mark k n (y ∷ past) c.resident (left ok o.touched (marked c))
      live_or (a.Dirty s res mm un) = live res s ok refl g.touch
      live_or (a.Unsure res mm u) = live res u.live ok refl g.touch
      live_or (a.Doomed ab mm dd) = gone ab dd g.touch
      live_or (a.Clean f cl) = absurd (true_false (marked c) m f)
      live_or (a.Gone ab f h nd) = absurd (true_false (marked c) m f)

    pub put_licenses : ok ≡ false → o.crowded ≡ true → IsSomeAnd o.request (λ q. IsLicensed r opened o.who q (Refused (StoreFailed n)) (y ∷ past))
    put_licenses f cr = by o.request ((first_of (Putting bytes) d).2 cr) where
      by : (q : Option Request) → IsSomeAnd q (λ q. r.waits (oldest b past) q) → IsSomeAnd q (λ q. IsLicensed r opened o.who q (Refused (StoreFailed n)) (y ∷ past))
      by (Some q) h = (refl, (refl, same_name-refl n, f, subst (λ p. r.waits p q) (sym put_at) h))
      by None h = absurd h

  module _ (d : o.doing ≡ Dropping) (ok : Bool) where
    abbrev z : Stamped
    z = dropped_note opened o.who o.since n ok

    drop_at : begun past z ≡ oldest b past
    drop_at = begun_then z.note refl

    pub drop_lawful : IsLawful k r opened past (begun past z) z.note
    drop_lawful = (subst (IsDoomed k n) (sym drop_at) (first_of Dropping d).0, in_turn)

    pub mark_drop : Mark k n past c.resident (marked c) → Mark k n (z ∷ past) c.resident (left ok o.touched (marked c))
    mark_drop mark = live_or mark where
      m : (marked c) ≡ true
      m = now_of Dropping d

      start : began past z ≡ b
      start = began_at opened past z.note g.began

      live : c.resident ≡ true → IsSome (shown_in k past n) → Touch k n b past o.touched → Mark k n (z ∷ past) c.resident (left ok o.touched (marked c))
      live res s (Untouched t st) = absurd (no_both k n _ s (subst IsNone (then_now k n b past g.began st) (first_of Dropping d).0.gone))
      live res s (Touched t ns) = a.Dirty s res (left_on ok o.touched (marked c) t ∙ m) (drop_live k n past opened o.who o.since ok s).clean

      still : c.resident ≡ false → IsDoomed k n past → left ok o.touched (marked c) ≡ (marked c) → ((ok ≡ true) × IsSteady k n b past → ⊥) → Mark k n (z ∷ past) c.resident (left ok o.touched (marked c))
      still ab dd e nay = a.Doomed ab (e ∙ m) ((drop_gone k n past opened o.who o.since ok dd.gone).1 (dd, λ h. nay (h.0, none_steady k n b past (subst (λ w. AllSince (λ p. IsNone (shown_in k p n)) w past) start h.1))))

      gone : c.resident ≡ false → IsDoomed k n past → (v : Bool) → ok ≡ v → Touch k n b past o.touched → Mark k n (z ∷ past) c.resident (left ok o.touched (marked c))
      gone ab dd true e (Untouched t st) = a.Gone ab (left_off ok o.touched (marked c) e t) dd.gone (λ now. ((drop_gone k n past opened o.who o.since ok dd.gone).0 now).1 (e, subst (λ w. AllSince (λ p. IsNone (shown_in k p n)) w past) (sym start) (steady_none k n b past dd.gone st)))
      gone ab dd v e (Touched t ns) = still ab dd (left_on ok o.touched (marked c) t) (λ h. ns h.1)
      gone ab dd false e (Untouched t st) = still ab dd (left_failed ok o.touched (marked c) e) (λ h. true_false ok h.0 e)

      live_or : Mark k n past c.resident (marked c) → Mark k n (z ∷ past) c.resident (left ok o.touched (marked c))
      live_or (a.Dirty s res mm un) = live res s g.touch
      live_or (a.Unsure res mm u) = live res u.live g.touch
      live_or (a.Doomed ab mm dd) = gone ab dd ok refl g.touch
      live_or (a.Clean f cl) = absurd (true_false (marked c) m f)
      live_or (a.Gone ab f h nd) = absurd (true_false (marked c) m f)

    pub drop_licenses : ok ≡ false → o.crowded ≡ true → IsSomeAnd o.request (λ q. IsLicensed r opened o.who q (Refused (StoreFailed n)) (z ∷ past))
    drop_licenses f cr = by o.request ((first_of Dropping d).1 cr) where
      by : (q : Option Request) → IsSomeAnd q (λ q. r.waits (oldest b past) q) → IsSomeAnd q (λ q. IsLicensed r opened o.who q (Refused (StoreFailed n)) (z ∷ past))
      by (Some q) h = (refl, (refl, same_name-refl n, f, subst (λ p. r.waits p q) (sym drop_at) h))
      by None h = absurd h
