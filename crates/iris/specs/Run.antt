-- How a run ends, case by case.
use Rattle.std.specs.Prelude.{◌≡◌, ◌≢◌, ◌⊎◌, ℕ, List, take, Bool, true, false, Option, Some, Result, Ok, Err}
use Rattle.iris_name.specs.declared.note.Note.{Note}
use Rattle.iris_name.specs.declared.request.Request.{Request}
use Rattle.iris_name.specs.Hmac.{block_key}
use Rattle.iris_name.specs.Told.{extended}
use Rattle.iris_script.specs.Cuts.{lines_of}
use Rattle.iris_store.specs.declared.Transfer.{Transfer}
use Rattle.iris.specs.declared.line.LineError.{LineError}
use Rattle.iris.specs.declared.line.LineError.TheVariants as line
use Rattle.iris.specs.declared.reading.ReadError.{ReadError}
use Rattle.iris.specs.declared.reading.ReadError.TheVariants as read
use Rattle.iris.specs.declared.top.Stop.{Stop}
use Rattle.iris.specs.declared.top.Stop.TheVariants.{BadWords, BadLine, Unread, Unwritten, TooLong, NoMemory}
use Rattle.iris.specs.Lines.{IsFirstBad, AllSpell}
use Rattle.iris.specs.Outside.{IsFault}
use Rattle.iris.specs.Reading.{HasMoreThan, IsAtMostLeft}
use Rattle.iris.specs.Said.{Said, silent}
use Rattle.iris.specs.Session.{Serves, Stops, IsJudged, HasShape}
use Rattle.iris.specs.Top.{WasRead, HasKey, HasNoKey}
use Rattle.iris.specs.Words.{AreWords}

abbrev pub stop_of_read : ReadError → Stop
stop_of_read read.Failed = Unread
stop_of_read read.TooLong = TooLong
stop_of_read read.NoMemory = NoMemory

abbrev pub stop_of_line : LineError → Stop
stop_of_line (line.NotRequest n) = BadLine n
stop_of_line line.NoMemory = NoMemory

-- the status of a run that ended so
abbrev pub status_of : Result Bool Stop → ℕ
status_of (Ok false) = 0
status_of (Ok true) = 1
status_of (Err BadWords) = 2
status_of (Err (BadLine n)) = 2
status_of (Err Unread) = 3
status_of (Err Unwritten) = 4
status_of (Err TooLong) = 7
status_of (Err NoMemory) = 8

-- the line that it speaks of
abbrev pub line_of : Result Bool Stop → ℕ
line_of (Err (BadLine n)) = n
line_of (Err BadWords) = 0
line_of (Err Unread) = 0
line_of (Err Unwritten) = 0
line_of (Err TooLong) = 0
line_of (Err NoMemory) = 0
line_of (Ok refused) = 0

-- All lines were served.
pub record Ran (words : List (List ℕ)) (left left_now : Option (List ℕ)) (traffic traffic_now : Option (List Transfer)) (failed failed_now : ℕ) (notes notes_now : Option (List Note)) (said : Said) : Type 0 where
  pub master : List ℕ
  pub spoken : AreWords words master
  pub requests : List Request
  pub read : WasRead left left_now requests
  pub limit : IsAtMostLeft left 16777216
  pub serves : Serves requests notes notes_now traffic traffic_now failed failed_now silent said
  pub judged : IsJudged (block_key master) notes_now
  pub shaped : HasShape (block_key master) notes_now

-- Nothing was noted, transferred or written.
pub record IsUntouched (written written_now : Option (List ℕ)) (traffic traffic_now : Option (List Transfer)) (notes notes_now : Option (List Note)) : Type 0 where
  pub none_written : written_now ≡ written
  pub no_traffic : traffic_now ≡ traffic
  pub no_notes : notes_now ≡ notes

-- Memory ran out in the session, after its lines were read.
pub record StoppedShort (words : List (List ℕ)) (left : Option (List ℕ)) (traffic traffic_now : Option (List Transfer)) (notes notes_now : Option (List Note)) : Type 0 where
  pub master : List ℕ
  pub spoken : AreWords words master
  pub requests : List Request
  pub spelled : (bytes : List ℕ) → left ≡ Some bytes → AllSpell (lines_of bytes) requests
  pub stops : Stops (block_key master) requests notes notes_now traffic traffic_now

-- a run that ended so
abbrev pub IsEnd : (words : List (List ℕ)) (left left_now : Option (List ℕ)) (unread unread_now : ℕ) (written written_now : Option (List ℕ)) (unwritten unwritten_now : ℕ) (traffic traffic_now : Option (List Transfer)) (failed failed_now : ℕ) (notes notes_now : Option (List Note)) → Result Bool Stop → Type 0
IsEnd words left left_now unread unread_now written written_now unwritten unwritten_now traffic traffic_now failed failed_now notes notes_now (Ok refused) =
    (said : Said) × Ran words left left_now traffic traffic_now failed failed_now notes notes_now said × (written_now ≡ extended written said.text) × (refused ≡ said.refused)
IsEnd words left left_now unread unread_now written written_now unwritten unwritten_now traffic traffic_now failed failed_now notes notes_now (Err Unwritten) =
    (said : Said) × Ran words left left_now traffic traffic_now failed failed_now notes notes_now said × ((n : ℕ) × (written_now ≡ extended written (take n said.text))) × IsFault unwritten unwritten_now
IsEnd words left left_now unread unread_now written written_now unwritten unwritten_now traffic traffic_now failed failed_now notes notes_now (Err BadWords) =
    HasNoKey words × IsUntouched written written_now traffic traffic_now notes notes_now
IsEnd words left left_now unread unread_now written written_now unwritten unwritten_now traffic traffic_now failed failed_now notes notes_now (Err (BadLine n)) =
    HasKey words × ((bytes : List ℕ) → left ≡ Some bytes → IsFirstBad (lines_of bytes) n) × (n ≢ 0) × IsAtMostLeft left 16777216 × IsUntouched written written_now traffic traffic_now notes notes_now
IsEnd words left left_now unread unread_now written written_now unwritten unwritten_now traffic traffic_now failed failed_now notes notes_now (Err Unread) =
    HasKey words × IsFault unread unread_now × IsUntouched written written_now traffic traffic_now notes notes_now
IsEnd words left left_now unread unread_now written written_now unwritten unwritten_now traffic traffic_now failed failed_now notes notes_now (Err TooLong) =
    HasKey words × HasMoreThan left 16777216 × IsUntouched written written_now traffic traffic_now notes notes_now
IsEnd words left left_now unread unread_now written written_now unwritten unwritten_now traffic traffic_now failed failed_now notes notes_now (Err NoMemory) =
    HasKey words × (written_now ≡ written) × (((notes_now ≡ notes) × (traffic_now ≡ traffic)) ⊎ StoppedShort words left traffic traffic_now notes notes_now)
