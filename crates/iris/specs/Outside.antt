-- What is told of the outside: bytes left to read, bytes written, and how often it failed.
use Rattle.std.specs.Prelude.{◌≡◌, ◌⊎◌, ℕ, ◌-◌, ◌<◌, ◌≤◌, ◌^◌, List, [], length, take, drop, Option, Some, None}

-- a read into a slice of this length took n bytes off the front of what was left, where that is told; none of a slice that
-- isn't empty is the end
abbrev pub IsPiece : Option (List ℕ) → Option (List ℕ) → ℕ → ℕ → List ℕ → Type 0
IsPiece None new room n piece = new ≡ None
IsPiece (Some bytes) new room n piece =
    (new ≡ Some (drop n bytes)) × (n ≤ length bytes) × (piece ≡ take n bytes) × (n ≡ 0 → 0 < room → bytes ≡ [])

-- a failure has raised the count, or it stands at its last value
abbrev pub IsFault : ℕ → ℕ → Type 0
IsFault old new = (old < new) ⊎ (2 ^ 64 - 1 ≤ new)
