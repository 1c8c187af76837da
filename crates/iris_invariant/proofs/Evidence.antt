-- What is kept goes on resting on a get of its caller.
use Rattle.std.proofs.Common.{◌≡◌, ◌≢◌, ◌⊎◌, inl, inr, ℕ, ◌∷◌, true, false, sym, ◌∙◌, ap, subst}
use Rattle.std.proofs.lemmas.Bool.Decides.{eqb_tells}
use Rattle.iris_name.specs.declared.name.Name.{Name}
use Rattle.iris_name.specs.declared.note.Answer.{Answer}
use Rattle.iris_name.specs.declared.note.Note.{Note}
use Rattle.iris_name.specs.declared.note.Note.TheVariants.{Call, Got, Put, Dropped}
use Rattle.iris_name.specs.declared.request.Reply.{Reply}
use Rattle.iris_name.specs.declared.request.Request.{Request}
use Rattle.iris_name.specs.History.{Past, Stamped, begun}
use Rattle.iris_name.specs.Names.{same_name}
use Rattle.iris_name.specs.NameLaws.{same_name-refl}
use Rattle.iris_history.specs.Kept.{Kept}
use Rattle.iris_history.specs.StatusLaws.{called, got}
use Rattle.iris_invariant.specs.Agrees.{Out, View}
use Rattle.iris_invariant.specs.Events.{Brought, Answered}
use Rattle.iris_invariant.specs.Evidence.{IsRecord, WasGot, Evidence}
use Rattle.iris_invariant.proofs.Events.{which}
use Rattle.iris_history.proofs.Steady.{true_false}

abbrev pub IsCallOf : ℕ → Note → Type 0
IsCallOf who (Call w request reply) = w ≡ who
IsCallOf who (Got w since m answer) = ⊥
IsCallOf who (Put w since m bytes ok) = ⊥
IsCallOf who (Dropped w since m ok) = ⊥

pub got_stays : (k : Kept) (who : ℕ) (n : Name) (past : Past) (x : Stamped) → (IsCallOf who x.note → ⊥) → WasGot k who n past → WasGot k who n (x ∷ past)
got_stays k who n past x other h = by x.note x.opened other where
  by : (note : Note) (opened : ℕ) → (IsCallOf who note → ⊥) → WasGot k who n (record { note = note; opened = opened } ∷ past)
  by (Call w request reply) opened f = (f, h)
  by (Got w since m answer) opened f = inr h
  by (Put w since m bytes ok) opened f = h
  by (Dropped w since m ok) opened f = h

-- a get that is right is the evidence for what is kept by it
pub kept_evidence : (k : Kept) (opened : ℕ) (past : Past) (v v' : View) (n : Name) (o : Out) (answer : Answer) → Brought n o v v' → let x = got opened o.who o.since n answer in
    IsRecord k n (begun past x) answer → Evidence k past v → Evidence k (x ∷ past) v'
kept_evidence k opened past v v' n o answer b is h who q kept = by (which n q) (eqb_tells who o.who) where
  x : Stamped
  x = got opened o.who o.since n answer

  old : v.kept who q ≡ true → WasGot k who q (x ∷ past)
  old e = got_stays k who q past x (λ z. z) (h who q e)

  by : (n ≡ q) ⊎ (same_name n q ≡ false) → (((Rattle.std.specs.Prelude.◌==◌ who o.who) ≡ true) × (who ≡ o.who)) ⊎ (((Rattle.std.specs.Prelude.◌==◌ who o.who) ≡ false) × (who ≢ o.who)) → WasGot k who q (x ∷ past)
  by (inl e) (inl w) = subst (λ z. WasGot k who z (x ∷ past)) e (inl (sym w.1, same_name-refl n, is))
  by (inl e) (inr w) = old (subst (λ z. v.kept who z ≡ true) e (sym (b.others who w.1) ∙ subst (λ z. v'.kept who z ≡ true) (sym e) kept))
  by (inr d) w = old (sym (b.rest.kept who q d) ∙ kept)

-- a call takes its caller's names away
pub call_evidence : (k : Kept) (opened who : ℕ) (request : Request) (reply : Reply) (past : Past) (v v' : View) → let x = called opened who request reply in
    Answered k past x who v v' → Evidence k past v → Evidence k (x ∷ past) v'
call_evidence k opened who request reply past v v' b h w q kept = by (eqb_tells w who) where
  x : Stamped
  x = called opened who request reply

  by : (((Rattle.std.specs.Prelude.◌==◌ w who) ≡ true) × (w ≡ who)) ⊎ (((Rattle.std.specs.Prelude.◌==◌ w who) ≡ false) × (w ≢ who)) → WasGot k w q (x ∷ past)
  by (inl e) = absurd (true_false _ kept (ap (λ z. v'.kept z q) e.1 ∙ b.freed q))
  by (inr ne) = got_stays k w q past x (λ e. ne.1 (sym e)) (h w q (sym (b.kept w q ne.1) ∙ kept))
