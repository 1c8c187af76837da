use Rattle.std.proofs.Common.{ℕ, ◌-◌, ◌≤◌}
use Rattle.iris_node.specs.Trees.{Shown}
use Rattle.iris_version_tree.specs.Versions.{Versioned, places}
use Rattle.iris_version_tree.specs.Needs.{AreHoles}
use Rattle.iris_version_tree.proofs.reading.first_written.Given as goal

-- all places from the first on are holes so far
abbrev pub invariant-loop-place : goal.invariant-loop-place
invariant-loop-place l = record {
  after : l.from ≤ l.place;
  within : l.place ≤ places;
  holes : (old new : Shown) (v : ℕ → ℕ) → Versioned old new l.file v l.draft l.cache → AreHoles v l.from l.place;
}

abbrev pub decreases-loop-place : goal.decreases-loop-place
decreases-loop-place l = places - l.place
