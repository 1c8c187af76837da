-- How many names are marked at most.
use Rattle.std.specs.Prelude.{ℕ, ◌≡◌, ◌≢◌, ◌+◌, ◌≤◌, ◌∷◌, List, length, Bool, true}
use Rattle.std.specs.List.{list_any}
use Rattle.iris_name.specs.declared.name.Name.{Name}
use Rattle.iris_name.specs.History.{Past, Stamped}
use Rattle.iris_name.specs.Names.{same_name}
use Rattle.iris_history.specs.Crowding.{AreSeveral}
use Rattle.iris_history.specs.Kept.{Kept, is_block, shown_in}
use Rattle.iris_invariant.specs.Agrees.{Out, View, marked}
use Rattle.iris_invariant.specs.Events.{Began, Withdrawn, SettlingEnded, Brought, Stored, Discarded, Answered, Asked, Evicted, Mended}
use Rattle.iris_invariant.specs.Knowledge.{IsMarkedBlock}

-- no more than so many distinct names have P
abbrev pub AtMost : ℕ → (Name → Type 0) → Type 0
AtMost count P = (ns : List Name) → AreSeveral P ns → length ns ≤ count

-- a marked name of some kind, and one that a note changes
abbrev pub IsMarkedOf : (Name → Bool) → View → Name → Type 0
IsMarkedOf kind v n = (kind n ≡ true) × (marked (v.cell n) ≡ true)

abbrev pub IsChangedOf : (Name → Bool) → (k : Kept) → Past → Stamped → Name → Type 0
IsChangedOf kind k past x n = (kind n ≡ true) × (shown_in k (x ∷ past) n ≢ shown_in k past n)

-- a list with each marked name of a kind has as many names at least
abbrev pub ListsCount : Type 0
ListsCount = (kind : Name → Bool) (v : View) (listed : List Name) → ((n : Name) → IsMarkedOf kind v n → list_any (same_name n) listed ≡ true) → AtMost (length listed) (IsMarkedOf kind v)

-- after a call no more names are marked than were before and than it changes
abbrev pub CallsMarkAtMost : Kept → Type 0
CallsMarkAtMost k = (kind : Name → Bool) (before changed : ℕ) (past : Past) (x : Stamped) (who : ℕ) (v v' : View) → Answered k past x who v v'
    → AtMost before (IsMarkedOf kind v) → AtMost changed (IsChangedOf kind k past x) → AtMost (before + changed) (IsMarkedOf kind v')

-- where fewer than 448 blocks are marked, and a call changes at most 65, at most 512 are marked after it
abbrev pub CallsKeepTheBound : Kept → Type 0
CallsKeepTheBound k = (past : Past) (x : Stamped) (who : ℕ) (v v' : View) → Answered k past x who v v'
    → AtMost 447 (IsMarkedBlock v) → AtMost 65 (IsChangedOf is_block k past x) → AtMost 512 (IsMarkedBlock v')

-- a mend marks one name at most
abbrev pub MendsMarkOne : Kept → Type 0
MendsMarkOne k = (kind : Name → Bool) (before : ℕ) (past : Past) (n : Name) (v v' : View) → Mended k past n v v' → AtMost before (IsMarkedOf kind v) → AtMost (before + 1) (IsMarkedOf kind v')

-- whatever is marked after was marked before
abbrev pub MarksNoMore : View → View → Type 0
MarksNoMore v v' = (n : Name) → marked (v'.cell n) ≡ true → marked (v.cell n) ≡ true

-- Every event but a call and a mend marks nothing.
pub record OthersMarkNothing : Type 0 where
  pub begins : (n : Name) (o : Out) (v v' : View) → Began n o v v' → MarksNoMore v v'
  pub withdraws : (n : Name) (v v' : View) → Withdrawn n v v' → MarksNoMore v v'
  pub settles : (n : Name) (v v' : View) → SettlingEnded n v v' → MarksNoMore v v'
  pub brings : (n : Name) (o : Out) (v v' : View) → Brought n o v v' → MarksNoMore v v'
  pub stores : (n : Name) (o : Out) (ok : Bool) (v v' : View) → Stored n o ok v v' → MarksNoMore v v'
  pub discards : (n : Name) (o : Out) (ok : Bool) (v v' : View) → Discarded n o ok v v' → MarksNoMore v v'
  pub asks : (who : ℕ) (v v' : View) → Asked who v v' → MarksNoMore v v'
  pub evicts : (n : Name) (v v' : View) → Evicted n v v' → MarksNoMore v v'
