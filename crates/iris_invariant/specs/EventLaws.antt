-- Each event of the core keeps that it agrees with the history, as statements.
use Rattle.std.specs.Prelude.{ℕ, ◌≡◌, ◌+◌, ◌∷◌, List, length, Bool, false, Option, Some}
use Rattle.iris_name.specs.declared.name.Name.{Name}
use Rattle.iris_name.specs.declared.note.Answer.{Answer}
use Rattle.iris_name.specs.declared.note.Expect.{Expect}
use Rattle.iris_name.specs.declared.request.Request.{Request}
use Rattle.iris_name.specs.declared.request.Reply.{Reply}
use Rattle.iris_name.specs.History.{Past, Stamped, begun}
use Rattle.iris_history.specs.Kept.{Kept}
use Rattle.iris_history.specs.Legal.{Rules, IsLawful}
use Rattle.iris_history.specs.StatusLaws.{called, got, putted, dropped_note}
use Rattle.iris_invariant.specs.Agrees.{Getting, Putting, Dropping, Settling, Out, View, Agrees, Stands}
use Rattle.iris_invariant.specs.Beginnings.{begun_out, MayGet, IsChoreFor, MayPut, MayDiscard}
use Rattle.iris_invariant.specs.Events.{Began, Withdrawn, SettlingEnded, Brought, Stored, Discarded, Answered, Asked, Evicted, Mended}

-- without a note: what agreed before agrees after
abbrev pub GoesOn : Kept → Rules → ℕ → Past → View → View → Type 0
GoesOn k r opened past v v' = Agrees k r opened past v → Agrees k r opened past v'

-- by a note: it is lawful, and what agreed with the history before it agrees with the one that it ends
abbrev pub GoesOnBy : Kept → Rules → Past → Stamped → View → View → Type 0
GoesOnBy k r past x v v' = Agrees k r x.opened past v → IsLawful k r x.opened past (begun past x) x.note × Agrees k r x.opened (x ∷ past) v'

-- so a core that stands goes on standing
abbrev pub GoingOnStands : Kept → Rules → Type 0
GoingOnStands k r = (opened : ℕ) (past : Past) (v v' : View) → GoesOn k r opened past v v' → Stands k r opened past v → Stands k r opened past v'

abbrev pub GoingOnByStands : Kept → Rules → Type 0
GoingOnByStands k r = (past : Past) (x : Stamped) (v v' : View) → GoesOnBy k r past x v v' → Stands k r x.opened past v → Stands k r x.opened (x ∷ past) v'

-- something begins where it may, at the end of the history
abbrev pub GetsBegin : Kept → Rules → Type 0
GetsBegin k r = (opened : ℕ) (past : Past) (v v' : View) (who since : ℕ) (n : Name) (request : Request) (expect : Expect) → opened + since ≡ length past
    → MayGet k r past v who n request expect → Began n (begun_out who since (Some request) (Getting expect) false) v v' → GoesOn k r opened past v v'

abbrev pub PutsBegin : Kept → Rules → Type 0
PutsBegin k r = (opened : ℕ) (past : Past) (v v' : View) (who since : ℕ) (n : Name) (request : Option Request) (bytes : List ℕ) (crowded : Bool) → opened + since ≡ length past
    → MayPut k past v n bytes → IsChoreFor r past v who request crowded → Began n (begun_out who since request (Putting bytes) crowded) v v' → GoesOn k r opened past v v'

abbrev pub DiscardsBegin : Kept → Rules → Type 0
DiscardsBegin k r = (opened : ℕ) (past : Past) (v v' : View) (who since : ℕ) (n : Name) (request : Option Request) (crowded : Bool) → opened + since ≡ length past
    → MayDiscard k past v n → IsChoreFor r past v who request crowded → Began n (begun_out who since request Dropping crowded) v v' → GoesOn k r opened past v v'

abbrev pub SettlingsBegin : Kept → Rules → Type 0
SettlingsBegin k r = (opened : ℕ) (past : Past) (v v' : View) (who since : ℕ) (n : Name) (request : Option Request) (crowded : Bool) → opened + since ≡ length past
    → IsChoreFor r past v who request crowded → Began n (begun_out who since request Settling crowded) v v' → GoesOn k r opened past v v'

-- something is given up without a note; a settling ends
abbrev pub WithdrawalsKeep : Kept → Rules → Type 0
WithdrawalsKeep k r = (opened : ℕ) (past : Past) (v v' : View) (n : Name) → Withdrawn n v v' → GoesOn k r opened past v v'

abbrev pub SettlingsKeep : Kept → Rules → Type 0
SettlingsKeep k r = (opened : ℕ) (past : Past) (v v' : View) (n : Name) → SettlingEnded n v v' → GoesOn k r opened past v v'

-- a get that is out is noted, and brings nothing; or what it brings is kept
abbrev pub FruitlessGetsKeep : Kept → Rules → Type 0
FruitlessGetsKeep k r = (opened : ℕ) (past : Past) (v v' : View) (n : Name) (o : Out) (expect : Expect) (answer : Answer) → (v.cell n).out ≡ Some o → o.doing ≡ Getting expect
    → Withdrawn n v v' → GoesOnBy k r past (got opened o.who o.since n answer) v v'

abbrev pub FruitfulGetsKeep : Kept → Rules → Type 0
FruitfulGetsKeep k r = (opened : ℕ) (past : Past) (v v' : View) (n : Name) (o : Out) (expect : Expect) (answer : Answer) → (v.cell n).out ≡ Some o → o.doing ≡ Getting expect
    → Brought n o v v' → GoesOnBy k r past (got opened o.who o.since n answer) v v'

-- a put, or a discard, that is out is noted
abbrev pub PutsKeep : Kept → Rules → Type 0
PutsKeep k r = (opened : ℕ) (past : Past) (v v' : View) (n : Name) (o : Out) (bytes : List ℕ) (ok : Bool) → (v.cell n).out ≡ Some o → o.doing ≡ Putting bytes
    → Stored n o ok v v' → GoesOnBy k r past (putted opened o.who o.since n bytes ok) v v'

abbrev pub DiscardsKeep : Kept → Rules → Type 0
DiscardsKeep k r = (opened : ℕ) (past : Past) (v v' : View) (n : Name) (o : Out) (ok : Bool) → (v.cell n).out ≡ Some o → o.doing ≡ Dropping
    → Discarded n o ok v v' → GoesOnBy k r past (dropped_note opened o.who o.since n ok) v v'

-- a request is asked; a name is evicted; an unsure block is mended
abbrev pub AsksKeep : Kept → Rules → Type 0
AsksKeep k r = (opened : ℕ) (past : Past) (v v' : View) (who : ℕ) → Asked who v v' → GoesOn k r opened past v v'

abbrev pub EvictionsKeep : Kept → Rules → Type 0
EvictionsKeep k r = (opened : ℕ) (past : Past) (v v' : View) (n : Name) → Evicted n v v' → GoesOn k r opened past v v'

abbrev pub MendsKeep : Kept → Rules → Type 0
MendsKeep k r = (opened : ℕ) (past : Past) (v v' : View) (n : Name) → Mended k past n v v' → GoesOn k r opened past v v'

-- a call with a lawful reply is entered
abbrev pub CallsKeep : Kept → Rules → Type 0
CallsKeep k r = (opened : ℕ) (past : Past) (v v' : View) (who : ℕ) (request : Request) (reply : Reply) → let x = called opened who request reply in
    IsLawful k r opened past (begun past x) x.note → Answered k past x who v v' → GoesOnBy k r past x v v'
