-- Whole events of two notes, and of an answer that passes: what `supply`, `stored` and `gone` do to what stands.
use Rattle.std.proofs.Common.{◌≡◌, ◌⊎◌, inl, inr, ℕ, ◌+◌, List, ◌∷◌, true, false, Option, Some, None, refl, sym, ◌∙◌, ap, subst, IsSome}
use Rattle.std.specs.Prelude.{IsSomeAnd}
use Rattle.iris_name.specs.declared.name.Name.{Name}
use Rattle.iris_name.specs.declared.note.Answer.{Answer}
use Rattle.iris_name.specs.declared.note.Answer.TheVariants.{Given}
use Rattle.iris_name.specs.declared.note.Expect.{Expect}
use Rattle.iris_name.specs.declared.request.Cause.{Cause}
use Rattle.iris_name.specs.declared.request.Cause.TheVariants.{StoreFailed, BadAnswer}
use Rattle.iris_name.specs.declared.request.Reply.TheVariants.{Refused}
use Rattle.iris_name.specs.declared.request.Request.{Request}
use Rattle.iris_name.specs.History.{Past, Stamped, begun, oldest}
use Rattle.iris_history.specs.Answers.{IsFailure}
use Rattle.iris_history.specs.Kept.{Kept}
use Rattle.iris_history.specs.Legal.{Rules, IsLawful, IsLegal, IsBad, IsLicensed}
use Rattle.iris_history.specs.Values.{IsRequest}
use Rattle.iris_history.specs.StatusLaws.{called, got, putted, dropped_note}
use Rattle.iris_invariant.specs.Agrees.{Getting, Putting, Dropping, Out, View, WasRight, Going, IsAsked, Agrees, Stands}
use Rattle.iris_invariant.specs.Answering.{IsRightAnswer}
use Rattle.iris_invariant.specs.Events as e
use Rattle.iris_invariant.specs.Events.{Withdrawn, Brought, Answered}
use Rattle.iris_invariant.specs.Readings.{PassesCheck, Spells, OneBlock}
use Rattle.iris_invariant.proofs.Ends.{failed_licenses, other_licenses, put_licenses, drop_licenses}
use Rattle.iris_invariant.proofs.Calls.{call_keeps}
use Rattle.iris_invariant.proofs.Events.{got_given_up, got_kept, put_keeps, drop_keeps}
use Rattle.iris_invariant.proofs.Facts.{refusal_lawful}
use Rattle.iris_invariant.proofs.Readings.{refused_other, passed_right, stood, stands}

-- the request that is asked is the one for which it is out
request_is : (o : Out) (asked : Option Request) (q : Request) → IsAsked o asked → asked ≡ Some q → IsSome o.request → o.request ≡ Some q
request_is o asked q (inl e) f s = absurd (let g = sym s ∙ ap (λ z. Rattle.std.specs.Prelude.is_some z) e in cc)
request_is o asked q (inr e) f s = sym e ∙ f

some_and : {A : Type 0} (P : A → Type 0) (o : Option A) → IsSomeAnd o P → IsSome o
some_and P None h = absurd h
some_and P (Some x) h = refl

at_some : {A : Type 0} (P : A → Type 0) (o : Option A) (x : A) → o ≡ Some x → IsSomeAnd o P → P x
at_some P o x e h = subst (λ z. IsSomeAnd z P) e h

-- a licensed refusal after a note
refused : (k : Kept) (r : Rules) (opened who : ℕ) (q : Request) (cause : Cause) (past : Past) (v1 v2 : View) → IsRequest q → IsLegal k r past → Agrees k r opened past v1
    → IsLicensed r opened who q (Refused cause) past → Answered k past (called opened who q (Refused cause)) who v1 v2 → Stands k r opened (called opened who q (Refused cause) ∷ past) v2
refused k r opened who q cause past v1 v2 is legal h l b = inr ((refusal_lawful k r opened who q cause past is l, legal), call_keeps k r opened past v1 v2 h who q (Refused cause) b)

module _ (k : Kept) (r : Rules) (Fits : Name → List ℕ → Type 0) (opened : ℕ) (past : Past) (v v1 v2 : View) (n : Name) (o : Out) (q : Request) (f : (v.cell n).out ≡ Some o) (a : v.asked o.who ≡ Some q) (is : IsRequest q) where
  module _ (expect : Expect) (d : o.doing ≡ Getting expect) (answer : Answer) where
    abbrev x : Stamped
    x = got opened o.who o.since n answer

    asked_for : (h : Agrees k r opened past v) → o.request ≡ Some q
    asked_for h = request_is o (v.asked o.who) q (h.asks n o f) a (some_and _ o.request (subst (λ z. WasRight k r n o.request o.crowded z (oldest (opened + o.since) past)) d (h.outs n o f).first).2)

    -- `supply` of a get that failed
    pub supply_failed : IsFailure answer → Withdrawn n v v1 → let c = called opened o.who q (Refused (StoreFailed n)) in Answered k (x ∷ past) c o.who v1 v2
        → Stands k r opened past v → Stands k r opened (c ∷ x ∷ past) v2
    supply_failed fl g b (inl bad) = inl (inr (inr bad))
    supply_failed fl g b (inr h) = let s = got_given_up k r opened past v v1 h.1 n o f expect d answer g in
        refused k r opened o.who q (StoreFailed n) (x ∷ past) v1 v2 is (s.0, h.0) s.1 (at_some _ o.request q (asked_for h.1) (failed_licenses k r n opened past (v.cell n) o (h.1.outs n o f) expect d answer fl)) b

    -- `supply` of an answer whose check failed
    pub supply_bad : Spells k r Fits → (IsFailure answer → ⊥) → ((bytes : List ℕ) → answer ≡ Given bytes → PassesCheck k Fits n expect bytes → ⊥) → Withdrawn n v v1
        → let c = called opened o.who q (Refused (BadAnswer n)) in Answered k (x ∷ past) c o.who v1 v2 → Stands k r opened past v → Stands k r opened (c ∷ x ∷ past) v2
    supply_bad sp nf np g b (inl bad) = inl (inr (inr bad))
    supply_bad sp nf np g b (inr h) = let s = got_given_up k r opened past v v1 h.1 n o f expect d answer g in
        let other = refused_other k r Fits n opened past (v.cell n) o expect answer (h.1.outs n o f) d sp h.0 nf np in
        refused k r opened o.who q (BadAnswer n) (x ∷ past) v1 v2 is (s.0, h.0) s.1 (at_some _ o.request q (asked_for h.1) (other_licenses k r n opened past (v.cell n) o (h.1.outs n o f) expect d answer other)) b

  -- `stored` of a crowded chore whose put failed
  pub stored_refused : (bytes : List ℕ) → o.doing ≡ Putting bytes → o.crowded ≡ true → e.Stored n o false v v1 → let y = putted opened o.who o.since n bytes false in
      let c = called opened o.who q (Refused (StoreFailed n)) in Answered k (y ∷ past) c o.who v1 v2 → Stands k r opened past v → Stands k r opened (c ∷ y ∷ past) v2
  stored_refused bytes d cr g b (inl bad) = inl (inr (inr bad))
  stored_refused bytes d cr g b (inr h) = let s = put_keeps k r opened past v v1 h.1 n o f bytes d false g in
      let wait = (subst (λ z. WasRight k r n o.request o.crowded z (oldest (opened + o.since) past)) d (h.1.outs n o f).first).2 cr in
      let ask = request_is o (v.asked o.who) q (h.1.asks n o f) a (some_and _ o.request wait) in
      refused k r opened o.who q (StoreFailed n) (putted opened o.who o.since n bytes false ∷ past) v1 v2 is (s.0, h.0) s.1
      (at_some _ o.request q ask (put_licenses k r n opened past (v.cell n) o (h.1.outs n o f) bytes d false refl cr)) b

  -- `gone` of a crowded chore whose discard failed
  pub gone_refused : o.doing ≡ Dropping → o.crowded ≡ true → e.Discarded n o false v v1 → let y = dropped_note opened o.who o.since n false in
      let c = called opened o.who q (Refused (StoreFailed n)) in Answered k (y ∷ past) c o.who v1 v2 → Stands k r opened past v → Stands k r opened (c ∷ y ∷ past) v2
  gone_refused d cr g b (inl bad) = inl (inr (inr bad))
  gone_refused d cr g b (inr h) = let s = drop_keeps k r opened past v v1 h.1 n o f d false g in
      let wait = (subst (λ z. WasRight k r n o.request o.crowded z (oldest (opened + o.since) past)) d (h.1.outs n o f).first).1 cr in
      let ask = request_is o (v.asked o.who) q (h.1.asks n o f) a (some_and _ o.request wait) in
      refused k r opened o.who q (StoreFailed n) (dropped_note opened o.who o.since n false ∷ past) v1 v2 is (s.0, h.0) s.1
      (at_some _ o.request q ask (drop_licenses k r n opened past (v.cell n) o (h.1.outs n o f) d false refl cr)) b

-- `supply` of an answer that passes: the history is bad, or it goes on, and the answer is right
pub supply_kept : (k : Kept) (r : Rules) (Fits : Name → List ℕ → Type 0) (opened : ℕ) (past : Past) (v v' : View) (n : Name) (o : Out) (expect : Expect) (bytes : List ℕ)
    → (v.cell n).out ≡ Some o → o.doing ≡ Getting expect → Spells k r Fits → OneBlock k → PassesCheck k Fits n expect bytes
    → (IsRightAnswer k n past o bytes → Brought n o v v') → let x = got opened o.who o.since n (Given bytes) in Stands k r opened past v
    → IsBad k r (x ∷ past) ⊎ (IsLegal k r (x ∷ past) × Agrees k r opened (x ∷ past) v' × IsRightAnswer k n past o bytes)
supply_kept k r Fits opened past v v' n o expect bytes f d sp one pass b (inl bad) = inl (inr bad)
supply_kept k r Fits opened past v v' n o expect bytes f d sp one pass b (inr h) =
    elim (passed_right k r Fits n opened past (v.cell n) o expect (Given bytes) g d sp one (lawful, h.0) bytes refl pass) [
      | inl bad ↦ inl bad
      | inr same ↦ (let right : IsRightAnswer k n past o bytes = record { u = (stood k r Fits n opened past (v.cell n) o expect (Given bytes) g d).0; is = same; now = stands k r Fits n opened past (v.cell n) o expect (Given bytes) g d } in
          let s = got_kept k r opened past v v' h.1 n o f expect d (Given bytes) (b right) in inr ((s.0, h.0), s.1, right))
    ] where
      g : Going k r opened n past (v.cell n) o
      g = h.1.outs n o f

      lawful : IsLawful k r opened past (begun past (got opened o.who o.since n (Given bytes))) (got opened o.who o.since n (Given bytes)).note
      lawful = Rattle.iris_invariant.proofs.Ends.got_lawful k r n opened past (v.cell n) o g expect d (Given bytes)
