use Rattle.std.proofs.Common.{◌≡◌, ℕ, ◌<◌, ◌+◌, ◌-◌, ◌/◌, length, Some}
use Rattle.std.specs.Prelude.{slice_get}
use Rattle.iris_rows.specs.FileChanges.{merged}
use Rattle.iris_rows.specs.Places.{block_at}
use Rattle.iris_rows.proofs.places.merged_pages.Given as goal

abbrev pub invariant-loop-place : goal.invariant-loop-place
invariant-loop-place l = record {
  long : length l.pages.items ≡ l.place - l.offset / 4096;
  pages : (k : ℕ) → k < length l.pages.items → slice_get l.pages.items k ≡ Some (merged l.offset l.bytes (l.offset / 4096 + k) (block_at l.places (l.offset / 4096 + k)));
}
