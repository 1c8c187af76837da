use Rattle.std.proofs.Common.{◌≡◌, ℕ, List, map, drop}
use Rattle.iris_records.specs.Walks.{IsLevel, all_owns, told as told_of}
use Rattle.iris_records.proofs.LevelRows.{SoFar}
use Rattle.iris_records.proofs.entries.level_of.Given as goal

abbrev pub invariant-loop-i : goal.invariant-loop-i
invariant-loop-i l = record {
  level : IsLevel l.level;
  owns : (order : List ℕ) → l.told ≡ map told_of (all_owns order l.items) → SoFar order l.depth l.items l.level.rows.items l.level.told.items (drop l.i l.items);
}
