-- Which requests may be refused because a put or a discard failed: a sync always, a change where the history is crowded.
use Rattle.std.proofs.Common.{ℕ, List, [], arith}
use Rattle.iris_name.specs.declared.request.Request.{Request}
use Rattle.iris_name.specs.declared.request.Request.TheVariants.{Mkdir, Create, Write, Read, Resize, Stat, List as ListNames, Rename, Remove, Sync, Root, Reclaim, Probe}
use Rattle.iris_history.specs.Crowding.{IsCrowded, MayWaitForStore}
use Rattle.iris_history.proofs.ExamplesOfCrowding.{crowd, crowded_by_blocks, not_crowded}

-- in a history with 448 dirty blocks, and in one with 447
abbrev WaitsCrowded : Request → Type 0
WaitsCrowded request = MayWaitForStore (crowd 448 2047) [] request

abbrev WaitsBelow : Request → Type 0
WaitsBelow request = MayWaitForStore (crowd 447 2047) [] request

full : IsCrowded (crowd 448 2047) []
full = crowded_by_blocks 448 2047 (omega arith)

sync : WaitsCrowded Sync × WaitsBelow Sync
sync = (tt, tt)

changes : (t u : List ℕ) (offset : ℕ) → WaitsCrowded (Mkdir t) × WaitsCrowded (Create t) × WaitsCrowded (Write t offset u) × WaitsCrowded (Resize t offset)
    × WaitsCrowded (Rename t u) × WaitsCrowded (Remove t) × WaitsCrowded Reclaim
changes t u offset = (full, full, full, full, full, full, full)

changes_below : (t u : List ℕ) (offset : ℕ) → (WaitsBelow (Mkdir t) → ⊥) × (WaitsBelow (Create t) → ⊥) × (WaitsBelow (Write t offset u) → ⊥)
    × (WaitsBelow (Resize t offset) → ⊥) × (WaitsBelow (Rename t u) → ⊥) × (WaitsBelow (Remove t) → ⊥) × (WaitsBelow Reclaim → ⊥)
changes_below t u offset = (not_crowded [], not_crowded [], not_crowded [], not_crowded [], not_crowded [], not_crowded [], not_crowded [])

reads : (t u : List ℕ) (offset size : ℕ) → (WaitsCrowded (Read t offset size) → ⊥) × (WaitsCrowded (Stat t) → ⊥) × (WaitsCrowded (ListNames t u) → ⊥)
    × (WaitsCrowded Root → ⊥) × (WaitsCrowded (Probe offset) → ⊥)
reads t u offset size = (λ h. h, λ h. h, λ h. h, λ h. h, λ h. h)
