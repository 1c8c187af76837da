-- What was stored last of a name, and which answers of a store are other than that.
use Rattle.std.specs.Prelude.{ℕ, ◌≢◌, List, [], ◌∷◌, Bool, if◌then◌else◌}
use Rattle.iris_name.specs.declared.name.Name.{Name}
use Rattle.iris_name.specs.declared.note.Answer.{Answer}
use Rattle.iris_name.specs.declared.note.Answer.TheVariants.{Absent, Given, Failed}
use Rattle.iris_name.specs.declared.note.Note.{Note}
use Rattle.iris_name.specs.declared.note.Note.TheVariants.{Call, Got, Put, Dropped}
use Rattle.iris_name.specs.History.{Past, began}
use Rattle.iris_name.specs.Names.{same_name}

-- The last put or discard of a name in a past: how many notes there were when it began, what a put carried, and whether
-- it was answered ok.
pub data Last : Type 0 where
  Nothing : Last
  Stored : (began : ℕ) (bytes : List ℕ) (ok : Bool) → Last
  Gone : (began : ℕ) (ok : Bool) → Last

-- the last put or discard once a note that began so has come
abbrev pub last_by : Name → Note → ℕ → Last → Last
last_by n (Call who request reply) began last = last
last_by n (Got who since name answer) began last = last
last_by n (Put who since name bytes ok) began last = if same_name n name then Stored began bytes ok else last
last_by n (Dropped who since name ok) began last = if same_name n name then Gone began ok else last

-- the last put or discard of a name in a past
abbrev pub last_of : Name → Past → Last
last_of n [] = Nothing
last_of n (x ∷ past) = last_by n x.note (began past x) (last_of n past)

-- an answer that isn't what was stored last, whether that put was answered ok or not; after a discard, or where nothing
-- was put, absent is right and any bytes are other
abbrev pub IsOther : Last → Answer → Type 0
IsOther (Stored began bytes ok) Absent = Unit {0}
IsOther (Stored began bytes ok) (Given got) = got ≢ bytes
IsOther (Stored began bytes ok) Failed = ⊥
IsOther Nothing Absent = ⊥
IsOther Nothing (Given got) = Unit {0}
IsOther Nothing Failed = ⊥
IsOther (Gone began ok) Absent = ⊥
IsOther (Gone began ok) (Given got) = Unit {0}
IsOther (Gone began ok) Failed = ⊥

-- the get failed
abbrev pub IsFailure : Answer → Type 0
IsFailure Failed = Unit {0}
IsFailure Absent = ⊥
IsFailure (Given got) = ⊥
