-- What a step does to the files that it leaves: a file, a place and a version above 0 stand for one block for ever.
use Rattle.std.specs.Prelude.{◌≡◌, ◌⊎◌, ℕ, ◌<◌, ◌≤◌, List}
use Rattle.iris_name.specs.declared.request.Request.{Request}
use Rattle.iris_rows.specs.Rows.{File, Table}
use Rattle.iris_rows.specs.Changes.{after_requests}
use Rattle.iris_rows.specs.Sound.{IsSound}
use Rattle.iris_rows.specs.Standing.{StandsInTable}

-- a place is as it was, or a hole, or has a version above the old counter
abbrev pub IsLaterPlace : File → File → ℕ → Type 0
IsLaterPlace old new p = ((new.version p ≡ old.version p) × (new.block p ≡ old.block p)) ⊎ ((new.version p ≡ 0) ⊎ (old.counter < new.version p))

-- the counter doesn't fall, and each place is as it was, a hole, or new
pub record IsLater (old new : File) : Type 0 where
  pub counter : old.counter ≤ new.counter
  pub places : (p : ℕ) → IsLaterPlace old new p

-- a step makes files later, and never gives an id again
pub record Ages (old new : Table) : Type 0 where
  pub next : old.next ≤ new.next
  pub files : (i : ℕ) (f g : File) → StandsInTable i f old → StandsInTable i g new → IsLater f g
  pub fresh : (i : ℕ) (g : File) → StandsInTable i g new → old.next ≤ i ⊎ ((f : File) × StandsInTable i f old)

-- requests from a sound table age it
abbrev pub RequestsAge : Type 0
RequestsAge = (t : Table) (requests : List Request) → IsSound t → Ages t (after_requests t requests)

-- a file, a place and a version above 0 stand for one block, whatever requests come between
abbrev pub StandsForOneBlock : Type 0
StandsForOneBlock = (t : Table) (requests : List Request) (i : ℕ) (f g : File) (p : ℕ) → IsSound t → StandsInTable i f t → StandsInTable i g (after_requests t requests)
    → f.version p ≡ g.version p → 0 < g.version p → f.block p ≡ g.block p
