-- The commands of the program, by their words.
use Rattle.std.specs.Prelude.{◌≡◌, ◌≤◌, ◌⊎◌, ℕ, List}
use Rattle.iris.specs.Plain.{AreNotPlain}
use Rattle.iris.specs.Top.{HasNoKey}

-- the statuses by which a run ends
abbrev pub IsStatus : ℕ → Type 0
IsStatus status = (status ≤ 4) ⊎ (status ≡ 7) ⊎ (status ≡ 8)

-- the words are those of no command
abbrev pub HasNoCommand : List (List ℕ) → Type 0
HasNoCommand words = HasNoKey words × AreNotPlain words
