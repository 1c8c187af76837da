use Rattle.std.proofs.Common.{◌≡◌, None}
use Rattle.iris_name.specs.declared.name.Name.{Name}
use Rattle.iris_cache.specs.Held.{with_parent}
use Rattle.iris_cache.specs.Applied.{bare}
use Rattle.iris_cache.specs.Resident.{map_if}
use Rattle.iris_cache.proofs.Drafts.{among}
use Rattle.iris_cache.proofs.cache.Cache.unhang.Given as goal

abbrev pub invariant-loop-i : goal.invariant-loop-i
invariant-loop-i l = record {
  nodes : (q : Name) → bare l.self q ≡ map_if (among l.i l.changes.entries q) (with_parent None) (bare l.initial.self q);
  room : l.self.room ≡ l.initial.self.room;
}
