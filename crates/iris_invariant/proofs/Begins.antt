-- What begins for a name.
use Rattle.std.proofs.Common.{◌≡◌, ◌⊎◌, inl, inr, ℕ, ◌+◌, ◌-◌, List, length, drop, Bool, true, false, Option, refl, sym, ap, subst, arith, IsSome, IsNone}
use Rattle.std.specs.Prelude.{IsSomeAnd}
use Rattle.iris_name.specs.declared.name.Name.{Name}
use Rattle.iris_name.specs.declared.note.Expect.{Expect}
use Rattle.iris_name.specs.declared.request.Request.{Request}
use Rattle.iris_name.specs.History.{Past, oldest}
use Rattle.iris_history.specs.Kept.{Kept, Carries, shown_in}
use Rattle.iris_history.specs.Legal.{Rules}
use Rattle.iris_history.specs.Status.{IsClean, IsDirty, IsDoomed, IsUnsure}
use Rattle.iris_history.proofs.Pasts.{comes_last}
use Rattle.iris_invariant.specs.Agrees as a
use Rattle.iris_invariant.specs.Agrees.{marked, Doing, Getting, Putting, Dropping, Settling, Out, Cell, Mark, Touch, Untouched, Touched, IsTrueOf, WasRight, is_challenge, Gets, StaysRight, Going}
use Rattle.iris_history.proofs.Steady.{true_false, no_both, steady_new}

pub oldest_now : (past : Past) (b : ℕ) → b ≡ length past → oldest b past ≡ past
oldest_now past b e = let z : length past - b ≡ 0 = omega (arith, e) in ap (λ m. drop m past) z

-- what is resident is live
pub resident_live : (k : Kept) (n : Name) (past : Past) (resident marked : Bool) → Mark k n past resident marked → resident ≡ true → IsSome (shown_in k past n)
resident_live k n past resident marked (a.Dirty live r m un) f = live
resident_live k n past resident marked (a.Unsure r m u) f = u.live
resident_live k n past resident marked (a.Clean m c) f = c.live
resident_live k n past resident marked (a.Doomed z m d) f = absurd (true_false resident f z)
resident_live k n past resident marked (a.Gone z m g nd) f = absurd (true_false resident f z)

module _ (k : Kept) (n : Name) where
  -- the readings of a mark
  pub unmarked_clean : (past : Past) (resident marked : Bool) → Mark k n past resident marked → marked ≡ false → IsSome (shown_in k past n) → IsClean k n past
  unmarked_clean past resident marked (a.Dirty live r m un) f s = absurd (true_false marked m f)
  unmarked_clean past resident marked (a.Unsure r m u) f s = absurd (true_false marked m f)
  unmarked_clean past resident marked (a.Clean m c) f s = c
  unmarked_clean past resident marked (a.Doomed z m d) f s = absurd (true_false marked m f)
  unmarked_clean past resident marked (a.Gone z m g nd) f s = absurd (no_both k n _ s g)

  pub marked_dirty : (past : Past) (resident marked : Bool) → Mark k n past resident marked → marked ≡ true → IsSome (shown_in k past n) → (resident ≡ true) × (IsDirty k n past ⊎ IsUnsure k n past)
  marked_dirty past resident marked (a.Dirty live r m un) f s = (r, inl (inl (live, un)))
  marked_dirty past resident marked (a.Unsure r m u) f s = (r, inr u)
  marked_dirty past resident marked (a.Clean m c) f s = absurd (true_false marked f m)
  marked_dirty past resident marked (a.Doomed z m d) f s = absurd (no_both k n _ s d.gone)
  marked_dirty past resident marked (a.Gone z m g nd) f s = absurd (true_false marked f m)

  pub marked_doomed : (past : Past) (resident marked : Bool) → Mark k n past resident marked → marked ≡ true → IsNone (shown_in k past n) → IsDoomed k n past
  marked_doomed past resident marked (a.Dirty live r m un) f g = absurd (no_both k n _ live g)
  marked_doomed past resident marked (a.Unsure r m u) f g = absurd (no_both k n _ u.live g)
  marked_doomed past resident marked (a.Clean m c) f g = absurd (true_false marked f m)
  marked_doomed past resident marked (a.Doomed z m d) f g = d
  marked_doomed past resident marked (a.Gone z m h nd) f g = absurd (true_false marked f m)

  pub unmarked_not_dirty : (past : Past) (resident marked : Bool) → Mark k n past resident marked → marked ≡ false → IsDirty k n past → ⊥
  unmarked_not_dirty past resident marked (a.Clean m c) f (inl h) = h.1 c
  unmarked_not_dirty past resident marked (a.Clean m c) f (inr d) = no_both k n _ c.live d.gone
  unmarked_not_dirty past resident marked (a.Gone z m g nd) f (inl h) = no_both k n _ h.0 g
  unmarked_not_dirty past resident marked (a.Gone z m g nd) f (inr d) = nd d
  unmarked_not_dirty past resident marked (a.Dirty live r m un) f h = true_false marked m f
  unmarked_not_dirty past resident marked (a.Unsure r m u) f h = true_false marked m f
  unmarked_not_dirty past resident marked (a.Doomed z m d) f h = true_false marked m f

  module _ (r : Rules) (opened : ℕ) (past : Past) (who since : ℕ) (request : Option Request) (e : opened + since ≡ length past) where
    here : oldest (opened + since) past ≡ past
    here = oldest_now past (opened + since) e

    abbrev pub new : Doing → Bool → Out
    new doing crowded = record { who = who; since = since; request = request; doing = doing; crowded = crowded; touched = false }

    begins : (c : Cell) (doing : Doing) (crowded : Bool) → WasRight k r n request crowded doing past → StaysRight k n past (is_challenge request n) c false doing → Going k r opened n past c (new doing crowded)
    begins c doing crowded f w = record {
      began = omega (arith, e);
      alone = comes_last n (opened + since) past (omega (arith, e));
      first = subst (WasRight k r n request crowded doing) (sym here) f;
      touch = Untouched refl (subst (λ b. Rattle.iris_history.specs.Status.IsSteady k n b past) (sym e) (steady_new k n past));
      now = w;
    }

    -- a get of a live name that is unmarked; unless it is a challenge, absent
    pub begins_get : (c : Cell) (expect : Expect) → Mark k n past c.resident (marked c) → (marked c) ≡ false → IsSome (shown_in k past n) → IsTrueOf k n expect (shown_in k past n)
        → IsSomeAnd request (λ q. r.reaches past q n) → (is_challenge request n ≡ false → c.resident ≡ false) → Going k r opened n past c (new (Getting expect) false)
    begins_get c expect mark m s t q ab = begins c (Getting expect) false (unmarked_clean past _ _ mark m s, t, q) (record { unmarked = λ f. m; present = λ f. absurd (cc); absent = λ ch. (ab ch, refl) })

    -- a put of a live name that is marked
    pub begins_put : (c : Cell) (bytes : List ℕ) (crowded : Bool) → Mark k n past c.resident (marked c) → (marked c) ≡ true → c.settled ≡ true → IsSome (shown_in k past n) → Carries k n (shown_in k past n) bytes
        → (crowded ≡ true → IsSomeAnd request (λ q. r.waits past q)) → Going k r opened n past c (new (Putting bytes) crowded)
    begins_put c bytes crowded mark m t s b q = begins c (Putting bytes) crowded (b, (marked_dirty past _ _ mark m s).1, q) (m, λ f. t)

    -- a discard of a gone name that is marked
    pub begins_drop : (c : Cell) (crowded : Bool) → Mark k n past c.resident (marked c) → (marked c) ≡ true → IsNone (shown_in k past n)
        → (crowded ≡ true → IsSomeAnd request (λ q. r.waits past q)) → Going k r opened n past c (new Dropping crowded)
    begins_drop c crowded mark m g q = begins c Dropping crowded (marked_doomed past _ _ mark m g, q) m

    pub begins_settle : (c : Cell) (crowded : Bool) → Going k r opened n past c (new Settling crowded)
    begins_settle c crowded = begins c Settling crowded tt tt
