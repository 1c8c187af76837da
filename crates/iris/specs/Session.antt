-- What a stretch of a session does.
use Rattle.std.specs.Prelude.{◌≡◌, ◌⊎◌, ◌≤◌, ◌+◌, ◌*◌, ◌^◌, ℕ, List, [], ◌∷◌, length, take, Option, Some, None}
use Rattle.iris_name.specs.declared.note.Note.{Note}
use Rattle.iris_name.specs.declared.request.Request.{Request}
use Rattle.iris_name.specs.History.{past_of}
use Rattle.iris_name.specs.Told.{extended}
use Rattle.iris_store.specs.declared.Transfer.{Transfer}
use Rattle.iris.specs.Agrees.{Keeps}
use Rattle.iris.specs.declared.session.Session.{Session}
use Rattle.iris.specs.Notes.{requests_of, replies_of, transfers_of, AllBy, AnyGetFailed}
use Rattle.iris.specs.Outside.{IsFault}
use Rattle.iris.specs.Registers.{BadRegisters, LegalRegisters}
use Rattle.iris.specs.Said.{Said, saying_all}
use Rattle.iris.specs.Shape.{IsShaped}

-- The stretch served these requests: it noted their calls in order, with its transfers, which the link's traffic grew by,
-- and it said their replies. Where a get failed, the link's count tells.
pub record Serves (asked : List Request) (old new : Option (List Note)) (before after : Option (List Transfer)) (failed failed_now : ℕ) (said said_now : Said) : Type 0 where
  pub more : List Note
  pub notes : new ≡ extended old more
  pub traffic : after ≡ extended before (transfers_of more)
  pub callers : AllBy 1 more
  pub calls : requests_of more ≡ asked
  pub replies : said_now ≡ saying_all said (replies_of more)
  pub later : failed ≤ failed_now
  pub caused : AnyGetFailed more → IsFault failed failed_now

-- the session is bad or legal, where it is told
abbrev pub IsJudged : List ℕ → Option (List Note) → Type 0
IsJudged key None = Unit {0}
IsJudged key (Some notes) = BadRegisters key (past_of (notes ∷ [])) ⊎ LegalRegisters key (past_of (notes ∷ []))

-- the session has the shape that it should, where it is told
abbrev pub HasShape : List ℕ → Option (List Note) → Type 0
HasShape key None = Unit {0}
HasShape key (Some notes) = IsShaped key (past_of (notes ∷ []))

-- The stretch ended early for want of memory: it noted the calls of the first requests, and its transfers.
pub record Stops (key : List ℕ) (asked : List Request) (old new : Option (List Note)) (before after : Option (List Transfer)) : Type 0 where
  pub more : List Note
  pub notes : new ≡ extended old more
  pub traffic : after ≡ extended before (transfers_of more)
  pub callers : AllBy 1 more
  pub served : ℕ
  pub first : requests_of more ≡ take served asked
  pub judged : IsJudged key new

-- What the session keeps has its sizes, and agrees with its notes.
pub record IsSessionReady (key : List ℕ) (session : Session) (notes : Option (List Note)) : Type 0 where
  pub versions : length session.places.versions.items ≡ 65536
  pub kept : length session.places.kept.items ≡ 65536
  pub keeps : Keeps key session.places.counter session.noted session.places.versions.items session.places.kept.items notes

-- The session served at most n lines.
pub record ServedAtMost (n : ℕ) (session : Session) : Type 0 where
  pub counter : session.places.counter ≤ n
  pub noted : session.noted ≤ 2 * n
  pub count : session.replies.count ≤ n

-- The session's numbers are far below what a u64 holds.
abbrev pub IsFew : Session → Type 0
IsFew session = ServedAtMost (2 ^ 30) session

-- The session served at most one line more.
pub record IsOneMore (old new : Session) : Type 0 where
  pub counter : new.places.counter ≤ old.places.counter + 1
  pub noted : new.noted ≤ old.noted + 2
  pub count : new.replies.count ≤ old.replies.count + 1
