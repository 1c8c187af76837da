use Rattle.std.proofs.Common.{◌++◌, ℕ, List, drop}
use Rattle.iris_node.specs.Trees.{Shown}
use Rattle.iris_plain.specs.declared.checks.Seen.{Seen}
use Rattle.iris_treepaths.specs.Needs.{IsDirectory}
use Rattle.iris_paths.specs.Resolving.{Resolves}
use Rattle.iris_paths.specs.Pictured.{Pictured, IsInSight}
use Rattle.iris_paths.specs.declared.resolving.Found.{Found}
use Rattle.iris_paths.proofs.Reaching.{Reached}
use Rattle.iris_paths.proofs.resolving.follow.Given as goal

-- the names so far led to this entry
abbrev pub invariant-loop-name : goal.invariant-loop-name
invariant-loop-name l = record {
  sight : IsInSight l.draft l.cache l.at;
  dir : IsDirectory l.draft l.cache l.above;
  come : (key : List ℕ) (met : List (List ℕ) → Seen) (old new : Shown) (more : List (List ℕ)) (found : Found)
      → Pictured key met l.draft l.cache old new → Resolves new key (l.names ++ more) found → Reached new key (l.names ++ more) (drop l.name-index l.names ++ more) l.at l.above found;
}
