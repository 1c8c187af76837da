-- What an honest store in memory has.
use Rattle.std.specs.Prelude.{◌≡◌, ℕ, Bool, true, false, List, Option, Some, Result, Ok, Err, if◌then◌else◌}
use Rattle.std.specs.Map.{lookup}
use Rattle.iris_name.specs.Names.{same_name}
use Rattle.iris_name.specs.declared.name.Name.{Name}
use Rattle.iris_store.specs.declared.StoreError.{StoreError}
use Rattle.iris_store.specs.declared.StoreError.TheVariants.{Failed, NoMemory}
use Rattle.iris_store.specs.Tally.{Answers, counted, is_to_fail}

-- The records by name, the calls that are to fail, and how many calls and faults there were.
pub record Shelf : Type 0 where
  pub records : List (Name × List ℕ)
  pub failing : List ℕ
  pub calls : ℕ
  pub faults : ℕ

-- what is stored under a name
abbrev pub stored_record : Shelf → Name → Option (List ℕ)
stored_record shelf n = lookup (same_name n) shelf.records

-- whether the next call is one that is to fail
abbrev pub fails_next : Shelf → Bool
fails_next shelf = is_to_fail shelf.failing shelf.calls

-- a call was counted, and a fault where it failed
pub record Counts (old new : Shelf) : Type 0 where
  pub failing : new.failing ≡ old.failing
  pub calls : new.calls ≡ counted old.calls
  pub faults : new.faults ≡ (if fails_next old then counted old.faults else old.faults)

-- what a call of the store answers that fails or not: instead of a, want of memory may come
abbrev pub StoreAnswers : {A : Type 0} → Bool → A → Result A StoreError → Type 0
StoreAnswers failed a result = Answers Failed (Some NoMemory) failed a result

-- a failure, or nothing that failed
abbrev pub failed_if : Bool → Result (Unit {0}) StoreError
failed_if true = Err Failed
failed_if false = Ok tt
