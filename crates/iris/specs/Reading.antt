-- A source that was read to its end.
use Rattle.std.specs.Prelude.{◌≡◌, ℕ, ◌<◌, ◌≤◌, List, [], length, Option, Some, None}
use Rattle.iris.specs.Outside.{IsFault}
use Rattle.iris.specs.declared.reading.ReadError.{ReadError}
use Rattle.iris.specs.declared.reading.ReadError.TheVariants.{Failed, TooLong, NoMemory}

-- these are all the bytes that were left, and none is left now, where that is told
abbrev pub IsAllOf : Option (List ℕ) → Option (List ℕ) → List ℕ → Type 0
IsAllOf None new bytes = new ≡ None
IsAllOf (Some left) new bytes = (bytes ≡ left) × (new ≡ Some [])

-- more bytes than that are left, where that is told
abbrev pub HasMoreThan : Option (List ℕ) → ℕ → Type 0
HasMoreThan None n = Unit {0}
HasMoreThan (Some left) n = n < length left

-- at most that many bytes are left, where that is told
abbrev pub IsAtMostLeft : Option (List ℕ) → ℕ → Type 0
IsAtMostLeft None n = Unit {0}
IsAtMostLeft (Some left) n = length left ≤ n

-- when a reading of at most that many bytes may end by an error, by the bytes left and the faults at its start and its end
abbrev pub MayEnd : Option (List ℕ) → ℕ → ℕ → ℕ → ReadError → Type 0
MayEnd left old new most Failed = IsFault old new
MayEnd left old new most TooLong = HasMoreThan left most
MayEnd left old new most NoMemory = Unit {0}
