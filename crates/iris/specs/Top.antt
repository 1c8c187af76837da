-- A whole run of the registers, as its caller sees it.
use Rattle.std.specs.Prelude.{◌≡◌, ◌≢◌, ◌⊎◌, ℕ, ◌<◌, ◌≤◌, List, [], ◌∷◌, length, take, Option, Some, None}
use Rattle.iris_name.specs.declared.note.Note.{Note}
use Rattle.iris_name.specs.declared.note.Note.TheVariants.{Call, Got, Put, Dropped}
use Rattle.iris_name.specs.declared.request.Request.{Request}
use Rattle.iris_name.specs.History.{Past, past_of}
use Rattle.iris_name.specs.Hmac.{block_key}
use Rattle.iris_history.specs.Answers.{last_of, IsOther}
use Rattle.iris_script.specs.Cuts.{lines_of}
use Rattle.iris.specs.Lines.{AllSpell, IsFirstBad}
use Rattle.iris.specs.Registers.{BadRegisters, LegalRegisters}
use Rattle.iris.specs.Shape.{IsShaped}
use Rattle.iris.specs.Words.{AreWords}

-- the log has no notes, where it tells
abbrev pub IsEmptyLog : Option (List Note) → Type 0
IsEmptyLog None = Unit {0}
IsEmptyLog (Some notes) = notes ≡ []

-- all lines were served and their replies printed: status 0 or 1
abbrev pub IsPrinted : ℕ → Type 0
IsPrinted status = (status ≡ 0) ⊎ (status ≡ 1)

-- all lines were served: the replies are printed, or the sink failed
abbrev pub IsServed : ℕ → Type 0
IsServed status = IsPrinted status ⊎ (status ≡ 4)

-- no session was begun: bad words or a bad line, a source that failed, or a script that is too long
abbrev pub IsUnbegun : ℕ → Type 0
IsUnbegun status = (status ≡ 2) ⊎ (status ≡ 3) ⊎ (status ≡ 7)

-- no reply was printed
abbrev pub IsSilent : ℕ → Type 0
IsSilent status = IsUnbegun status ⊎ (status ≡ 8)

-- the source didn't fail and memory didn't run out
abbrev pub WentOn : ℕ → Type 0
WentOn status = (status ≢ 3) × (status ≢ 8)

-- the source was read to its end and its lines spell these requests, where that is told
abbrev pub WasRead : Option (List ℕ) → Option (List ℕ) → List Request → Type 0
WasRead None left requests = left ≡ None
WasRead (Some bytes) left requests = (left ≡ Some []) × AllSpell (lines_of bytes) requests

-- these requests are the first that the source's lines spell, or there are none, where that is told
abbrev pub AreFirst : Option (List ℕ) → List Request → Type 0
AreFirst None first = Unit {0}
AreFirst (Some bytes) first = (first ≡ []) ⊎ ((requests : List Request) × AllSpell (lines_of bytes) requests × (served : ℕ) × (first ≡ take served requests))

-- under the key of these words the session's history is bad, or legal
abbrev pub IsBadOrLegal : List (List ℕ) → List Note → Type 0
IsBadOrLegal words notes = (master : List ℕ) → AreWords words master
    → BadRegisters (block_key master) (past_of (notes ∷ [])) ⊎ LegalRegisters (block_key master) (past_of (notes ∷ []))

-- under the key of these words the session makes exactly the transfers that it should
abbrev pub HasItsTransfers : List (List ℕ) → List Note → Type 0
HasItsTransfers words notes = (master : List ℕ) → AreWords words master → IsShaped (block_key master) (past_of (notes ∷ []))

-- the words hold a key
abbrev pub HasKey : List (List ℕ) → Type 0
HasKey words = (master : List ℕ) × AreWords words master

-- the words hold no key
abbrev pub HasNoKey : List (List ℕ) → Type 0
HasNoKey words = (master : List ℕ) → AreWords words master → ⊥

-- The words hold a key, and line n of a script within its limit is the first that spells no request.
pub record HasBadLine (words : List (List ℕ)) (bytes : List ℕ) (n : ℕ) : Type 0 where
  pub key : HasKey words
  pub limit : length bytes ≤ 16777216
  pub first : IsFirstBad (lines_of bytes) n

-- The words hold a key, and the script is longer than its limit.
pub record IsTooLong (words : List (List ℕ)) (bytes : List ℕ) : Type 0 where
  pub key : HasKey words
  pub over : 16777216 < length bytes

-- the script is told, keeps its limit, and each of its lines spells a request
abbrev pub IsInForm : Option (List ℕ) → Type 0
IsInForm None = ⊥
IsInForm (Some bytes) = (length bytes ≤ 16777216) × (requests : List Request) × AllSpell (lines_of bytes) requests

-- a note that stands on this past is a get that gave something other than was stored last
abbrev pub IsOtherGet : Note → Past → Type 0
IsOtherGet (Got who since name answer) past = IsOther (last_of name past) answer
IsOtherGet (Call who request reply) past = ⊥
IsOtherGet (Put who since name bytes ok) past = ⊥
IsOtherGet (Dropped who since name ok) past = ⊥

-- some get of the past did
abbrev pub AnyOther : Past → Type 0
AnyOther [] = ⊥
AnyOther (x ∷ past) = IsOtherGet x.note past ⊎ AnyOther past

-- where no get gave something other: all done and nothing refused, or want of memory, or a bad history
abbrev pub IsDoneIfHonest : List ℕ → ℕ → List Note → Type 0
IsDoneIfHonest master status notes = ¬ AnyOther (past_of (notes ∷ [])) → (status ≡ 0) ⊎ (status ≡ 8) ⊎ BadRegisters (block_key master) (past_of (notes ∷ []))
