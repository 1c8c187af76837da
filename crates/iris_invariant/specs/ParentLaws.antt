-- The parent of a node that is being fetched stays resident, and what is kept goes on resting on a get of its caller, as
-- statements.
use Rattle.std.specs.Prelude.{ℕ, ◌≡◌, ◌∷◌, Bool, true, None, Some}
use Rattle.iris_name.specs.declared.name.Name.{Name}
use Rattle.iris_name.specs.declared.note.Answer.{Answer}
use Rattle.iris_name.specs.declared.note.Expect.{Expect}
use Rattle.iris_name.specs.declared.request.Reply.{Reply}
use Rattle.iris_name.specs.declared.request.Request.{Request}
use Rattle.iris_name.specs.History.{Past, Stamped, begun}
use Rattle.iris_history.specs.Kept.{Kept, shown_in}
use Rattle.iris_history.specs.Legal.{is_transfer_of}
use Rattle.iris_history.specs.StatusLaws.{called, got}
use Rattle.iris_invariant.specs.Agrees.{Getting, Out, View}
use Rattle.iris_invariant.specs.Events.{Elsewhere, Began, Brought, Answered, Evicted}
use Rattle.iris_invariant.specs.Evidence.{IsRecord, Evidence}
use Rattle.iris_invariant.specs.ParentsResident.{ParentsResident, NoChildIsFetched}

-- what leads to which name, by a test
abbrev pub leads : {U : Type 0} → (U → Name → Bool) → U → Name → Type 0
leads links u n = links u n ≡ true

-- Whatever leads to which name, the parents of what is being fetched stay resident: where something ends at one name, by a
-- note that leaves the table or by none, and the name stays resident if it was; where something begins, a get only below
-- resident parents; where a name is evicted of which no child is being fetched; and where a call is entered.
pub record ParentsStay (k : Kept) : Type 0 where
  pub ends : (links : k.Unfolded → Name → Bool) (past past' : Past) (n : Name) (v v' : View) → ParentsResident k (leads links) past v → Elsewhere n v v' → ((q : Name) → shown_in k past' q ≡ shown_in k past q)
      → (v'.cell n).out ≡ None → ((v.cell n).resident ≡ true → (v'.cell n).resident ≡ true) → ParentsResident k (leads links) past' v'
  pub begins : (links : k.Unfolded → Name → Bool) (past : Past) (n : Name) (o : Out) (v v' : View) → ParentsResident k (leads links) past v → Began n o v v'
      → ((expect : Expect) → o.doing ≡ Getting expect → (p : Name) (u : k.Unfolded) → shown_in k past p ≡ Some u → links u n ≡ true → (v.cell p).resident ≡ true) → ParentsResident k (leads links) past v'
  pub evicts : (links : k.Unfolded → Name → Bool) (past : Past) (n : Name) (v v' : View) → ParentsResident k (leads links) past v → Evicted n v v' → NoChildIsFetched k (leads links) past v n → ParentsResident k (leads links) past v'
  pub calls : (links : k.Unfolded → Name → Bool) (past : Past) (x : Stamped) (who : ℕ) (v v' : View) → ParentsResident k (leads links) past v → Answered k past x who v v' → ParentsResident k (leads links) (x ∷ past) v'

-- What is kept rests on a right get of its caller since that caller's last call: a get that is right is evidence for what is
-- kept by it; a call takes its caller's names away; and any transfer leaves the evidence that there was.
pub record EvidenceStays (k : Kept) : Type 0 where
  pub gets : (opened : ℕ) (past : Past) (v v' : View) (n : Name) (o : Out) (answer : Answer) → Brought n o v v' → let x = got opened o.who o.since n answer in
      IsRecord k n (begun past x) answer → Evidence k past v → Evidence k (x ∷ past) v'
  pub calls : (opened who : ℕ) (request : Request) (reply : Reply) (past : Past) (v v' : View) → let x = called opened who request reply in
      Answered k past x who v v' → Evidence k past v → Evidence k (x ∷ past) v'
  pub others : (past : Past) (x : Stamped) (n : Name) (v v' : View) → is_transfer_of n x.note ≡ true → ((who : ℕ) (q : Name) → v'.kept who q ≡ true → v.kept who q ≡ true) → Evidence k past v → Evidence k (x ∷ past) v'
