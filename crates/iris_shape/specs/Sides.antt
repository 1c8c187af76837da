-- What the fold of a file's versions stands for in the store: one version, or a part with its two halves.
use Rattle.std.specs.Prelude.{ℕ, ◌+◌, ◌-◌, ◌*◌, Option, Some, None}
use Rattle.iris_node.specs.Unfolded.{Unfolded, Even, Split}
use Rattle.iris_shape.specs.Folds.{Fold, One, Two}

-- the side of the part of a level and an index, by the fold of its places
abbrev pub unfolded_side : ℕ → ℕ → ℕ → Fold → Unfolded
unfolded_side file level index (One version) = Even version
unfolded_side file level index (Two low high) = Split file level index (unfolded_side file (level - 1) (2 * index) low) (unfolded_side file (level - 1) (2 * index + 1) high)

-- the part of a level and an index, by the fold of its places: none where they have one version
abbrev pub part_of : ℕ → ℕ → ℕ → Fold → Option Unfolded
part_of file level index (One version) = None
part_of file level index (Two low high) = Some (unfolded_side file level index (Two low high))
