-- Which histories a portal may have: legal ones, and those that a forgery or a collision made bad.
use Rattle.std.specs.Prelude.{ℕ, ◌+◌, ◌≤◌, ◌≡◌, ◌⊎◌, [], ◌∷◌, length, Bool, true, false}
use Rattle.iris_name.specs.declared.name.Name.{Name}
use Rattle.iris_name.specs.declared.note.Note.{Note}
use Rattle.iris_name.specs.declared.note.Note.TheVariants.{Call, Got, Put, Dropped}
use Rattle.iris_name.specs.declared.request.Cause.{Cause}
use Rattle.iris_name.specs.declared.request.Cause.TheVariants.{StoreFailed, BadAnswer}
use Rattle.iris_name.specs.declared.request.Request.{Request}
use Rattle.iris_name.specs.declared.request.Reply.{Reply}
use Rattle.iris_name.specs.declared.request.Reply.TheVariants.{Refused}
use Rattle.iris_name.specs.History.{Past, begun}
use Rattle.iris_name.specs.Names.{same_name}
use Rattle.iris_history.specs.Answers.{last_of, IsOther, IsFailure}
use Rattle.iris_history.specs.Breaks.{Breaks}
use Rattle.iris_history.specs.Kept.{Kept, Carries, shown_in}
use Rattle.iris_history.specs.Status.{IsClean, IsDirty, IsDoomed, IsUnsure}
use Rattle.iris_history.specs.Values.{IsRequest, IsReply}

-- What is asked of calls: which reply is right after a past, which names a request reaches there, and whether it may be
-- refused because a put or a discard failed.
pub record Rules : Type 1 where
  pub replies : Past → Request → Reply → Type 0
  pub reaches : Past → Request → Name → Type 0
  pub waits : Past → Request → Type 0

-- a note that began in the history `at` licenses a refusal of the caller's request with this cause: it is the caller's own
-- transfer of the name that the cause tells; a get that failed or gave something other than was stored last, of a name
-- that the request reaches; or a put or discard that failed, where the request may wait for the store
abbrev pub Licenses : Rules → ℕ → Request → Cause → Past → Past → Note → Type 0
Licenses r who request (StoreFailed n) past at (Got caller since name answer) =
    (who ≡ caller) × (same_name n name ≡ true) × IsFailure answer × r.reaches at request n
Licenses r who request (BadAnswer n) past at (Got caller since name answer) =
    (who ≡ caller) × (same_name n name ≡ true) × IsOther (last_of n past) answer × r.reaches at request n
Licenses r who request (StoreFailed n) past at (Put caller since name bytes ok) =
    (who ≡ caller) × (same_name n name ≡ true) × (ok ≡ false) × r.waits at request
Licenses r who request (StoreFailed n) past at (Dropped caller since name ok) =
    (who ≡ caller) × (same_name n name ≡ true) × (ok ≡ false) × r.waits at request
Licenses r who request (StoreFailed n) past at (Call caller asked told) = ⊥
Licenses r who request (BadAnswer n) past at (Put caller since name bytes ok) = ⊥
Licenses r who request (BadAnswer n) past at (Dropped caller since name ok) = ⊥
Licenses r who request (BadAnswer n) past at (Call caller asked told) = ⊥

-- a refusal that is licensed by the note directly before it, of the same session
abbrev pub IsLicensed : Rules → ℕ → ℕ → Request → Reply → Past → Type 0
IsLicensed r opened who request (Refused cause) (x ∷ past) =
    (x.opened ≡ opened) × Licenses r who request cause past (begun past x) x.note
IsLicensed r opened who request (Refused cause) [] = ⊥
IsLicensed r opened who request _ past = ⊥

-- whether a note is a transfer of the name
abbrev pub is_transfer_of : Name → Note → Bool
is_transfer_of n (Call who request reply) = false
is_transfer_of n (Got who since name answer) = same_name n name
is_transfer_of n (Put who since name bytes ok) = same_name n name
is_transfer_of n (Dropped who since name ok) = same_name n name

-- each earlier transfer of the name was noted before this one began
abbrev pub ComesAfter : Name → ℕ → Past → Type 0
ComesAfter n began [] = Unit {0}
ComesAfter n began (x ∷ past) = (is_transfer_of n x.note ≡ true → length past + 1 ≤ began) × ComesAfter n began past

-- a transfer begins no later than where it stands, and after each earlier one of its name
abbrev pub BeginsInTurn : ℕ → Name → ℕ → Past → Type 0
BeginsInTurn opened n since past = (opened + since ≤ length past) × ComesAfter n (opened + since) past

-- A note that stands on this past, and began in the history `at`, is lawful: a call has the right reply, or a licensed
-- refusal; a get is of a clean name; a put carries the record of a name that is dirty or unsure; a discard is of a doomed
-- name; and transfers begin in their turn.
abbrev pub IsLawful : (k : Kept) → Rules → ℕ → Past → Past → Note → Type 0
IsLawful k r opened past at (Call who request reply) =
    (r.replies past request reply ⊎ IsLicensed r opened who request reply past) × IsRequest request × IsReply reply
IsLawful k r opened past at (Got who since n answer) = IsClean k n at × BeginsInTurn opened n since past
IsLawful k r opened past at (Put who since n bytes ok) =
    Carries k n (shown_in k at n) bytes × (IsDirty k n at ⊎ IsUnsure k n at) × BeginsInTurn opened n since past
IsLawful k r opened past at (Dropped who since n ok) = IsDoomed k n at × BeginsInTurn opened n since past

-- each note is lawful
abbrev pub IsLegal : (k : Kept) → Rules → Past → Type 0
IsLegal k r [] = Unit {0}
IsLegal k r (x ∷ past) = IsLawful k r x.opened past (begun past x) x.note × IsLegal k r past

-- there is a forgery or a collision on a legal past
abbrev pub IsBad : (k : Kept) → Rules → Past → Type 0
IsBad k r [] = ⊥
IsBad k r (x ∷ past) = (Breaks k past (begun past x) x.note × IsLegal k r (x ∷ past)) ⊎ IsBad k r past
