use Rattle.std.proofs.Common.{◌≡◌, length}
use Rattle.iris_name.specs.declared.name.Name.{Name}
use Rattle.iris_cache.proofs.Rising.{SoFar}
use Rattle.iris_cache.proofs.cache.Cache.mark_changed.Given as goal

abbrev pub invariant-loop-i : goal.invariant-loop-i
invariant-loop-i l = record {
  marks : (q : Name) → SoFar (record { changes = l.changes.entries }) l.initial.self l.self l.i q;
  room : l.self.room ≡ l.initial.self.room;
  count : length l.self.nodes ≡ length l.initial.self.nodes;
}
