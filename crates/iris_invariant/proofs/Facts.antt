-- What an agreeing core knows: of marks, of gets that are out, and of refusals.
use Rattle.std.proofs.Common.{◌≡◌, ◌⊎◌, inl, inr, ℕ, ◌+◌, List, [], ◌∷◌, Bool, true, false, Some, refl, subst, IsSome}
use Rattle.iris_name.specs.declared.name.Name.{Name}
use Rattle.iris_name.specs.declared.note.Expect.{Expect}
use Rattle.iris_name.specs.declared.request.Cause.{Cause}
use Rattle.iris_name.specs.declared.request.Reply.TheVariants.{Refused}
use Rattle.iris_name.specs.declared.request.Request.{Request}
use Rattle.iris_name.specs.History.{Past, oldest, begun}
use Rattle.iris_history.specs.Crowding.{AreSeveral, AtLeast, IsCrowded}
use Rattle.iris_history.specs.Kept.{Kept, is_block, shown_in}
use Rattle.iris_history.specs.Legal.{Rules, IsLicensed, IsLawful}
use Rattle.iris_history.specs.Status.{IsClean, IsDirty, IsUnsure}
use Rattle.iris_history.specs.Values.{IsRequest}
use Rattle.iris_history.specs.StatusLaws.{called}
use Rattle.iris_invariant.specs.Agrees as a
use Rattle.iris_invariant.specs.Agrees.{marked, MarkListed, Getting, Out, Cell, View, Mark, Touch, IsTrueOf, WasRight, is_challenge, Gets, StaysRight, Going, Agrees}
use Rattle.iris_history.proofs.Steady.{true_false}
use Rattle.iris_invariant.proofs.Names.{then_now, got_live}
use Rattle.iris_invariant.proofs.Begins.{unmarked_clean, unmarked_not_dirty}

-- what a mark says of a block, and of a node
pub marked_block : (k : Kept) (n : Name) (past : Past) (resident marked : Bool) → Mark k n past resident marked → marked ≡ true → IsDirty k n past ⊎ IsUnsure k n past
marked_block k n past resident marked (a.Dirty live r m un) f = inl (inl (live, un))
marked_block k n past resident marked (a.Unsure r m u) f = inr u
marked_block k n past resident marked (a.Clean m c) f = absurd (true_false marked f m)
marked_block k n past resident marked (a.Doomed z m d) f = inl (inr d)
marked_block k n past resident marked (a.Gone z m g nd) f = absurd (true_false marked f m)

pub marked_node : (k : Kept) (n : Name) (past : Past) (resident marked : Bool) → Mark k n past resident marked → marked ≡ true → is_block n ≡ false → IsDirty k n past
marked_node k n past resident marked m f nb = by (marked_block k n past resident marked m f) where
  by : IsDirty k n past ⊎ IsUnsure k n past → IsDirty k n past
  by (inl d) = d
  by (inr u) = absurd (true_false (is_block n) u.block nb)

several : (P Q : Name → Type 0) → ((n : Name) → P n → Q n) → (ns : List Name) → AreSeveral P ns → AreSeveral Q ns
several P Q f [] h = tt
several P Q f (n ∷ ns) h = (f n h.0, h.1, several P Q f ns h.2)

module _ (k : Kept) (r : Rules) (opened : ℕ) (past : Past) (v : View) (h : Agrees k r opened past v) where
  -- where no name is marked, none is dirty: a sync may be answered
  pub none_dirty : ((n : Name) → (marked (v.cell n)) ≡ false) → (n : Name) → IsDirty k n past → ⊥
  none_dirty f n = unmarked_not_dirty k n past _ _ (h.marks n) (f n)

  -- where so many are marked, the history is crowded
  pub crowded_blocks : AtLeast 448 (λ n. (is_block n ≡ true) × ((marked (v.cell n)) ≡ true)) → IsCrowded k past
  crowded_blocks c = inl (c.0, c.1, several _ _ (λ n m. (m.0, marked_block k n past _ _ (h.marks n) m.1)) c.0 c.2)

  pub crowded_nodes : AtLeast 2048 (λ n. (is_block n ≡ false) × ((marked (v.cell n)) ≡ true)) → IsCrowded k past
  crowded_nodes c = inr (c.0, c.1, several _ _ (λ n m. (m.0, marked_node k n past _ _ (h.marks n) m.1 m.0)) c.0 c.2)

  -- of a get that is no challenge's: its name is still live and clean, and absent, and its expectation is true now
  pub fetch_now : (n : Name) (o : Out) (expect : Expect) → (v.cell n).out ≡ Some o → o.doing ≡ Getting expect → is_challenge o.request n ≡ false
      → IsClean k n past × ((v.cell n).resident ≡ false) × IsTrueOf k n expect (shown_in k past n)
  fetch_now n o expect f d ch = (unmarked_clean k n past _ _ (h.marks n) (gets.unmarked t) live, (gets.absent ch).0, by g.touch) where
    g : Going k r opened n past (v.cell n) o
    g = h.outs n o f

    first : WasRight k r n o.request o.crowded (Getting expect) (oldest (opened + o.since) past)
    first = subst (λ z. WasRight k r n o.request o.crowded z (oldest (opened + o.since) past)) d g.first

    gets : Gets k n past (is_challenge o.request n) (v.cell n) o.touched
    gets = subst (StaysRight k n past (is_challenge o.request n) (v.cell n) o.touched) d g.now

    t : o.touched ≡ false
    t = (gets.absent ch).1

    live : IsSome (shown_in k past n)
    live = got_live k n r opened past (v.cell n) o expect d t g

    by : Touch k n (opened + o.since) past o.touched → IsTrueOf k n expect (shown_in k past n)
    by (a.Untouched e s) = subst (IsTrueOf k n expect) (then_now k n (opened + o.since) past g.began s) first.1
    by (a.Touched e ns) = absurd (true_false _ e t)

  -- what a plan lacks wasn't kept for its caller
  pub need_new : (w : ℕ) (n : Name) → (v.cell n).resident ≡ false → IsSome (shown_in k past n) → v.kept w n ≡ false
  need_new w n absent live = by (v.kept w n) refl where
    by : (z : Bool) → v.kept w n ≡ z → v.kept w n ≡ false
    by true e = absurd (true_false _ (h.pins w n e live).0 absent)
    by false e = e

-- a licensed refusal is lawful
pub refusal_lawful : (k : Kept) (r : Rules) (opened who : ℕ) (request : Request) (cause : Cause) (past : Past) → IsRequest request → IsLicensed r opened who request (Refused cause) past
    → let x = called opened who request (Refused cause) in IsLawful k r opened past (begun past x) x.note
refusal_lawful k r opened who request cause past is h = (inr h, is, tt)
