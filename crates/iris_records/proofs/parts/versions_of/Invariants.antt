use Rattle.std.proofs.Common.{◌≡◌, ◌<◌, ℕ, length, slice_index}
use Rattle.iris_rows.specs.Places.{version_at}
use Rattle.iris_records.proofs.parts.versions_of.Given as goal

abbrev pub invariant-loop-place : goal.invariant-loop-place
invariant-loop-place l = (length l.versions.items ≡ l.place) × ((p : ℕ) → p < l.place → slice_index l.versions.items p ≡ version_at l.row.places p)
