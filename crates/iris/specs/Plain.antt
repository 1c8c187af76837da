-- A whole run of the plain file system over a table, as its caller sees it.
use Rattle.std.specs.Prelude.{◌≡◌, ◌≢◌, ℕ, zero, suc, ◌==◌, List, [], ◌∷◌, ◌++◌, take, codes, Option, Some, None, Result, Ok, Err, if◌then◌else◌}
use Rattle.iris_name.specs.declared.request.Request.{Request}
use Rattle.iris_name.specs.declared.request.Reply.{Reply}
use Rattle.iris_name.specs.Hmac.{order_key}
use Rattle.iris_name.specs.Told.{extended}
use Rattle.iris_script.specs.Script.{AllAsk, IsFirst, IsNoRequest, NamesFarClient, script_lines}
use Rattle.iris_script.specs.declared.script.ScriptError.{ScriptError}
use Rattle.iris_script.specs.declared.script.ScriptError.TheVariants as script
use Rattle.iris_rows.specs.Changes.{stepped}
use Rattle.iris_table.specs.Replies.{TableReplies}
use Rattle.iris_rows.specs.Rows.{Table, empty_table}
use Rattle.iris.specs.declared.plain.Halt.{Halt}
use Rattle.iris.specs.declared.plain.Halt.TheVariants.{Stopped, FarClient}
use Rattle.iris.specs.declared.reading.ReadError.{ReadError}
use Rattle.iris.specs.declared.top.Stop.TheVariants.{BadWords, BadLine, Unread, Unwritten, TooLong, NoMemory}
use Rattle.iris.specs.Notes.{printed}
use Rattle.iris.specs.Outside.{IsFault}
use Rattle.iris.specs.Reading.{HasMoreThan, IsAtMostLeft}
use Rattle.iris.specs.Run.{stop_of_read, status_of, line_of}
use Rattle.iris.specs.Words.{IsCommand}

-- the replies to one client, in order
abbrev pub said_to : ℕ → List (ℕ × Reply) → List Reply
said_to client [] = []
said_to client (said ∷ more) = if said.0 == client then said.1 ∷ said_to client more else said_to client more

-- the replies to the first so many clients, client by client, each client's numbered from 1
abbrev pub printed_to : ℕ → List (ℕ × Reply) → List ℕ
printed_to zero replies = []
printed_to (suc clients) replies = printed_to clients replies ++ printed (suc clients) (said_to (suc clients) replies)

-- each call has a reply to its client, that is right for the table to which the calls before it led
abbrev pub AreRight : List ℕ → Table → List (ℕ × Request) → List (ℕ × Reply) → Type 0
AreRight key t [] replies = replies ≡ []
AreRight key t (call ∷ calls) [] = ⊥
AreRight key t (call ∷ calls) (said ∷ more) = (said.0 ≡ call.0) × TableReplies key t call.1 said.1 × AreRight key (stepped t call.1) calls more

-- the words are `plain` and the digits of that master key
abbrev pub ArePlain : List (List ℕ) → List ℕ → Type 0
ArePlain words master = IsCommand (codes "plain") words master

-- the words are no such
abbrev pub AreNotPlain : List (List ℕ) → Type 0
AreNotPlain words = (master : List ℕ) → ArePlain words master → ⊥

-- the source was read to its end and its lines ask these calls, where that is told
abbrev pub WasAsked : Option (List ℕ) → Option (List ℕ) → List (ℕ × Request) → Type 0
WasAsked None left calls = left ≡ None
WasAsked (Some bytes) left calls = (left ≡ Some []) × AllAsk (script_lines bytes) calls

-- All lines were served from the table of the beginning, with these replies.
pub record PlainServed (words : List (List ℕ)) (left left_now : Option (List ℕ)) (replies : List (ℕ × Reply)) : Type 0 where
  pub master : List ℕ
  pub spoken : ArePlain words master
  pub calls : List (ℕ × Request)
  pub asked : WasAsked left left_now calls
  pub limit : IsAtMostLeft left 16777216
  pub right : AreRight (order_key master) empty_table calls replies

-- what was written is the printing of all replies
abbrev pub IsPlainPrinted : List (List ℕ) → Option (List ℕ) → Option (List ℕ) → Option (List ℕ) → Option (List ℕ) → Type 0
IsPlainPrinted words left left_now written written_now =
    (replies : List (ℕ × Reply)) × PlainServed words left left_now replies × (written_now ≡ extended written (printed_to 16 replies))

-- what was written is the front of that printing
abbrev pub IsCutShort : List (List ℕ) → Option (List ℕ) → Option (List ℕ) → Option (List ℕ) → Option (List ℕ) → Type 0
IsCutShort words left left_now written written_now =
    (replies : List (ℕ × Reply)) × PlainServed words left left_now replies × ((n : ℕ) × (written_now ≡ extended written (take n (printed_to 16 replies))))

-- the first line that can't be served is this one, and bad so, where the script is told
abbrev pub FirstLine : (List ℕ → Type 0) → Option (List ℕ) → ℕ → Type 0
FirstLine Bad None n = Unit {0}
FirstLine Bad (Some bytes) n = IsFirst Bad (script_lines bytes) n

abbrev pub halt_of_read : ReadError → Halt
halt_of_read e = Stopped (stop_of_read e)

abbrev pub halt_of_script : ScriptError → Halt
halt_of_script (script.NotRequest line) = Stopped (BadLine line)
halt_of_script (script.Client line) = FarClient line
halt_of_script script.NoMemory = Stopped NoMemory

-- status and line of a run that ended so
abbrev pub ended_as : Result (Unit {0}) Halt → ℕ × ℕ
ended_as (Ok u) = (0, 0)
ended_as (Err (Stopped stop)) = (status_of (Err stop), line_of (Err stop))
ended_as (Err (FarClient line)) = (7, line)

-- the words are right, and the script is within its limit where it is told
abbrev pub IsBegun : List (List ℕ) → Option (List ℕ) → Type 0
IsBegun words left = ((master : List ℕ) × ArePlain words master) × IsAtMostLeft left 16777216

-- a run that ended so
abbrev pub IsPlainEnd : (words : List (List ℕ)) (left left_now : Option (List ℕ)) (unread unread_now : ℕ) (written written_now : Option (List ℕ)) (unwritten unwritten_now : ℕ) → Result (Unit {0}) Halt → Type 0
IsPlainEnd words left left_now unread unread_now written written_now unwritten unwritten_now (Ok u) = IsPlainPrinted words left left_now written written_now
IsPlainEnd words left left_now unread unread_now written written_now unwritten unwritten_now (Err (Stopped Unwritten)) =
    IsCutShort words left left_now written written_now × IsFault unwritten unwritten_now
IsPlainEnd words left left_now unread unread_now written written_now unwritten unwritten_now (Err (Stopped BadWords)) =
    AreNotPlain words × (written_now ≡ written)
IsPlainEnd words left left_now unread unread_now written written_now unwritten unwritten_now (Err (Stopped (BadLine n))) =
    IsBegun words left × FirstLine IsNoRequest left n × (n ≢ 0) × (written_now ≡ written)
IsPlainEnd words left left_now unread unread_now written written_now unwritten unwritten_now (Err (FarClient n)) =
    IsBegun words left × FirstLine NamesFarClient left n × (n ≢ 0) × (written_now ≡ written)
IsPlainEnd words left left_now unread unread_now written written_now unwritten unwritten_now (Err (Stopped Unread)) =
    ((master : List ℕ) × ArePlain words master) × IsFault unread unread_now × (written_now ≡ written)
IsPlainEnd words left left_now unread unread_now written written_now unwritten unwritten_now (Err (Stopped TooLong)) =
    ((master : List ℕ) × ArePlain words master) × HasMoreThan left 16777216 × (written_now ≡ written)
IsPlainEnd words left left_now unread unread_now written written_now unwritten unwritten_now (Err (Stopped NoMemory)) =
    ((master : List ℕ) × ArePlain words master) × (written_now ≡ written)
