-- What a contract sees of a source and of a sink in memory.
use Rattle.std.specs.Prelude.{ℕ, ◌+◌, ◌||◌, ◌++◌, nat_lt, min, Bool, List, length, drop, None, Result, if◌then◌else◌}
use Rattle.iris_name.specs.declared.want.Failed.{Failed}
use Rattle.iris_store.specs.Tally.{Answers, counted, is_to_fail}

-- Which calls are to fail, counted from 1, and how many calls and faults there were.
pub record Tally : Type 0 where
  pub failing : List ℕ
  pub calls : ℕ
  pub faults : ℕ

-- The bytes left, and how many a read gives at most.
pub record Tape : Type 0 where
  pub left : List ℕ
  pub most : ℕ
  pub tally : Tally

-- The bytes written, and how many there is room for in all.
pub record Sheet : Type 0 where
  pub written : List ℕ
  pub room : ℕ
  pub tally : Tally

-- whether the next call is one that is to fail
abbrev pub tally_fails_next : Tally → Bool
tally_fails_next tally = is_to_fail tally.failing tally.calls

-- the tally after a call that failed or not
abbrev pub tallied : Bool → Tally → Tally
tallied failed tally = record tally { calls = counted tally.calls; faults = (if failed then counted tally.faults else tally.faults) }

-- how many bytes the next read into a slice of this length takes
abbrev pub taken_next : Tape → ℕ → ℕ
taken_next tape room = if tally_fails_next tape.tally then 0 else min room (min tape.most (length tape.left))

-- the tape after the next read into a slice of this length
abbrev pub after_read : Tape → ℕ → Tape
after_read tape room = record tape { left = drop (taken_next tape room) tape.left; tally = tallied (tally_fails_next tape.tally) tape.tally }

-- whether the next write fails: it is to fail, or doesn't fit what is left
abbrev pub write_fails : Sheet → List ℕ → Bool
write_fails sheet piece = tally_fails_next sheet.tally || nat_lt sheet.room (length sheet.written + length piece)

-- the sheet after the next write; one that fails writes nothing
abbrev pub after_write : Sheet → List ℕ → Sheet
after_write sheet piece = let failed = write_fails sheet piece in
    record sheet { written = (if failed then sheet.written else sheet.written ++ piece); tally = tallied failed sheet.tally }

-- what a call answers that fails or not, and otherwise gives a
abbrev pub CallAnswers : {A : Type 0} → Bool → A → Result A Failed → Type 0
CallAnswers failed a result = Answers (record {}) None failed a result
