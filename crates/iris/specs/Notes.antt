-- What the notes of a session say of its calls, its transfers and its replies.
use Rattle.std.specs.Prelude.{◌≡◌, ◌⊎◌, ℕ, ◌+◌, List, [], ◌∷◌, ◌++◌, Bool, true, false, ◌||◌}
use Rattle.iris_name.specs.declared.note.Note.{Note}
use Rattle.iris_name.specs.declared.note.Note.TheVariants.{Call, Got, Put, Dropped}
use Rattle.iris_name.specs.declared.request.Request.{Request}
use Rattle.iris_name.specs.declared.request.Reply.{Reply}
use Rattle.iris_name.specs.declared.request.Reply.TheVariants.{Refused}
use Rattle.iris_history.specs.Answers.{IsFailure}
use Rattle.iris_script.specs.Printing.{reply_line}
use Rattle.iris_store.specs.declared.Transfer.{Transfer}
use Rattle.iris_store.specs.declared.Transfer.TheVariants.{Got as GotFrom, Put as PutTo, Dropped as DroppedAt}

-- the requests of the calls, in order
abbrev pub requests_of : List Note → List Request
requests_of [] = []
requests_of (Call who request reply ∷ notes) = request ∷ requests_of notes
requests_of (Got who since name answer ∷ notes) = requests_of notes
requests_of (Put who since name bytes ok ∷ notes) = requests_of notes
requests_of (Dropped who since name ok ∷ notes) = requests_of notes

-- the replies of the calls, in order
abbrev pub replies_of : List Note → List Reply
replies_of [] = []
replies_of (Call who request reply ∷ notes) = reply ∷ replies_of notes
replies_of (Got who since name answer ∷ notes) = replies_of notes
replies_of (Put who since name bytes ok ∷ notes) = replies_of notes
replies_of (Dropped who since name ok ∷ notes) = replies_of notes

-- the transfers, in order
abbrev pub transfers_of : List Note → List Transfer
transfers_of [] = []
transfers_of (Call who request reply ∷ notes) = transfers_of notes
transfers_of (Got who since name answer ∷ notes) = GotFrom name answer ∷ transfers_of notes
transfers_of (Put who since name bytes ok ∷ notes) = PutTo name bytes ok ∷ transfers_of notes
transfers_of (Dropped who since name ok ∷ notes) = DroppedAt name ok ∷ transfers_of notes

-- each note is this caller's
abbrev pub AllBy : ℕ → List Note → Type 0
AllBy caller [] = Unit {0}
AllBy caller (Call who request reply ∷ notes) = (who ≡ caller) × AllBy caller notes
AllBy caller (Got who since name answer ∷ notes) = (who ≡ caller) × AllBy caller notes
AllBy caller (Put who since name bytes ok ∷ notes) = (who ≡ caller) × AllBy caller notes
AllBy caller (Dropped who since name ok ∷ notes) = (who ≡ caller) × AllBy caller notes

-- some get failed
abbrev pub AnyGetFailed : List Note → Type 0
AnyGetFailed [] = ⊥
AnyGetFailed (Call who request reply ∷ notes) = AnyGetFailed notes
AnyGetFailed (Got who since name answer ∷ notes) = IsFailure answer ⊎ AnyGetFailed notes
AnyGetFailed (Put who since name bytes ok ∷ notes) = AnyGetFailed notes
AnyGetFailed (Dropped who since name ok ∷ notes) = AnyGetFailed notes

-- whether a reply is a refusal
abbrev pub is_refused : Reply → Bool
is_refused (Refused cause) = true
is_refused _ = false

-- whether some reply is
abbrev pub any_refused : List Reply → Bool
any_refused [] = false
any_refused (reply ∷ replies) = is_refused reply || any_refused replies

-- the lines of a client's replies, numbered from n
abbrev pub printed_from : ℕ → ℕ → List Reply → List ℕ
printed_from client n [] = []
printed_from client n (reply ∷ replies) = reply_line client n reply ++ printed_from client (n + 1) replies

-- the printing of a client's replies
abbrev pub printed : ℕ → List Reply → List ℕ
printed client replies = printed_from client 1 replies
