-- What becomes of an answer of the store: it is kept, or the call for which it came is refused.
use Rattle.std.specs.Prelude.{ℕ, ◌≡◌, ◌⊎◌, ◌+◌, ◌∷◌, List, true, false, Some}
use Rattle.iris_name.specs.declared.name.Name.{Name}
use Rattle.iris_name.specs.declared.note.Answer.{Answer}
use Rattle.iris_name.specs.declared.note.Answer.TheVariants.{Given}
use Rattle.iris_name.specs.declared.note.Expect.{Expect}
use Rattle.iris_name.specs.declared.request.Cause.{Cause}
use Rattle.iris_name.specs.declared.request.Cause.TheVariants.{StoreFailed, BadAnswer}
use Rattle.iris_name.specs.declared.request.Reply.TheVariants.{Refused}
use Rattle.iris_name.specs.declared.request.Request.{Request}
use Rattle.iris_name.specs.History.{Past, Stamped, oldest}
use Rattle.iris_history.specs.Answers.{IsFailure, IsOther, last_of}
use Rattle.iris_history.specs.Kept.{Kept, shown_in}
use Rattle.iris_history.specs.Legal.{Rules, IsLegal, IsBad}
use Rattle.iris_history.specs.StatusLaws.{called, got, putted, dropped_note}
use Rattle.iris_history.specs.Values.{IsRequest}
use Rattle.iris_invariant.specs.Agrees.{Getting, Putting, Dropping, Out, View, Agrees, Stands}
use Rattle.iris_invariant.specs.Events.{Withdrawn, Brought, Stored, Discarded, Answered}
use Rattle.iris_invariant.specs.Readings.{PassesCheck, Spells, OneBlock}

-- The bytes are the record of what the name stood for when the get began; untouched, of what it stands for now.
pub record IsRightAnswer (k : Kept) (n : Name) (past : Past) (o : Out) (bytes : List ℕ) : Type 0 where
  pub u : k.Unfolded
  pub is : bytes ≡ k.spelled n u
  pub now : o.touched ≡ false → shown_in k past n ≡ Some u

-- this is out for the name, and its caller asks this request
pub record IsOutFor (v : View) (n : Name) (o : Out) (request : Request) : Type 0 where
  pub out : (v.cell n).out ≡ Some o
  pub asked : v.asked o.who ≡ Some request
  pub values : IsRequest request

-- a note, and the refusal of a caller's request after it, keep that the core stands
abbrev pub RefusesAfter : Kept → Rules → Past → Stamped → ℕ → Request → Cause → View → View → View → Type 0
RefusesAfter k r past x who request cause v v1 v2 = let c = called x.opened who request (Refused cause) in
    Answered k (x ∷ past) c who v1 v2 → Stands k r x.opened past v → Stands k r x.opened (c ∷ x ∷ past) v2

-- an answer is no failure, and no bytes of it pass the check
pub record FailsCheck (k : Kept) (Fits : Name → List ℕ → Type 0) (n : Name) (expect : Expect) (answer : Answer) : Type 0 where
  pub came : IsFailure answer → ⊥
  pub wrong : (bytes : List ℕ) → answer ≡ Given bytes → PassesCheck k Fits n expect bytes → ⊥

-- What an answer to a get shows, by what its name stood for when the get began. That record passes, and is no other answer; one
-- that fails its check is other; and one that passes is the record, or makes the history bad.
pub record AnswerShows (k : Kept) (r : Rules) (Fits : Name → List ℕ → Type 0) (opened : ℕ) (past : Past) (n : Name) (o : Out) (expect : Expect) (answer : Answer) : Type 0 where
  pub u : k.Unfolded
  pub stood : shown_in k (oldest (opened + o.since) past) n ≡ Some u
  pub passes : PassesCheck k Fits n expect (k.spelled n u)
  pub right : answer ≡ Given (k.spelled n u) → IsOther (last_of n past) answer → ⊥
  pub refused : FailsCheck k Fits n expect answer → IsOther (last_of n past) answer
  pub passed : (bytes : List ℕ) → answer ≡ Given bytes → PassesCheck k Fits n expect bytes → IsBad k r (got opened o.who o.since n answer ∷ past) ⊎ (bytes ≡ k.spelled n u)

abbrev pub AnswersShow : Kept → Rules → (Name → List ℕ → Type 0) → Type 0
AnswersShow k r Fits = Spells k r Fits → OneBlock k → (opened : ℕ) (past : Past) (v : View) (n : Name) (o : Out) (expect : Expect) (answer : Answer) → IsLegal k r past → Agrees k r opened past v
    → (v.cell n).out ≡ Some o → o.doing ≡ Getting expect → AnswerShows k r Fits opened past n o expect answer

-- the call of a get that failed, or whose answer fails its check, is refused
abbrev pub FailedGetsRefuse : Kept → Rules → Type 0
FailedGetsRefuse k r = (opened : ℕ) (past : Past) (v v1 v2 : View) (n : Name) (o : Out) (request : Request) (expect : Expect) (answer : Answer) → IsOutFor v n o request → o.doing ≡ Getting expect
    → IsFailure answer → Withdrawn n v v1 → RefusesAfter k r past (got opened o.who o.since n answer) o.who request (StoreFailed n) v v1 v2

abbrev pub BadAnswersRefuse : Kept → Rules → (Name → List ℕ → Type 0) → Type 0
BadAnswersRefuse k r Fits = Spells k r Fits → (opened : ℕ) (past : Past) (v v1 v2 : View) (n : Name) (o : Out) (request : Request) (expect : Expect) (answer : Answer) → IsOutFor v n o request → o.doing ≡ Getting expect
    → FailsCheck k Fits n expect answer → Withdrawn n v v1 → RefusesAfter k r past (got opened o.who o.since n answer) o.who request (BadAnswer n) v v1 v2

-- the call of a crowded put, or of a crowded discard, that failed is refused
abbrev pub FailedPutsRefuse : Kept → Rules → Type 0
FailedPutsRefuse k r = (opened : ℕ) (past : Past) (v v1 v2 : View) (n : Name) (o : Out) (request : Request) (bytes : List ℕ) → IsOutFor v n o request → o.doing ≡ Putting bytes
    → o.crowded ≡ true → Stored n o false v v1 → RefusesAfter k r past (putted opened o.who o.since n bytes false) o.who request (StoreFailed n) v v1 v2

abbrev pub FailedDiscardsRefuse : Kept → Rules → Type 0
FailedDiscardsRefuse k r = (opened : ℕ) (past : Past) (v v1 v2 : View) (n : Name) (o : Out) (request : Request) → IsOutFor v n o request → o.doing ≡ Dropping
    → o.crowded ≡ true → Discarded n o false v v1 → RefusesAfter k r past (dropped_note opened o.who o.since n false) o.who request (StoreFailed n) v v1 v2

-- bytes that pass are right, and are kept; or they make the history bad
abbrev pub PassingAnswersStay : Kept → Rules → (Name → List ℕ → Type 0) → Type 0
PassingAnswersStay k r Fits = Spells k r Fits → OneBlock k → (opened : ℕ) (past : Past) (v v' : View) (n : Name) (o : Out) (expect : Expect) (bytes : List ℕ) → (v.cell n).out ≡ Some o → o.doing ≡ Getting expect
    → PassesCheck k Fits n expect bytes → (IsRightAnswer k n past o bytes → Brought n o v v') → Stands k r opened past v
    → let x = got opened o.who o.since n (Given bytes) in IsBad k r (x ∷ past) ⊎ (IsLegal k r (x ∷ past) × Agrees k r opened (x ∷ past) v' × IsRightAnswer k n past o bytes)
