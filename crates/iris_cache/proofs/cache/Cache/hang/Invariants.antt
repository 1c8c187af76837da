use Rattle.std.proofs.Common.{◌≡◌, cond}
use Rattle.iris_name.specs.Names.{same_name}
use Rattle.iris_name.specs.declared.name.Name.{Name}
use Rattle.std.specs.Map.{lookup}
use Rattle.iris_cache.specs.Applied.{bare, hung}
use Rattle.iris_cache.proofs.Drafts.{among}
use Rattle.iris_cache.proofs.cache.Cache.hang.Given as goal

abbrev pub invariant-loop-i : goal.invariant-loop-i
invariant-loop-i l = record {
  nodes : (q : Name) → bare l.self q ≡ cond (among l.i l.changes.entries q) (hung (lookup (same_name q) l.changes.entries) (bare l.initial.self q)) (bare l.initial.self q);
  room : l.self.room ≡ l.initial.self.room;
}
