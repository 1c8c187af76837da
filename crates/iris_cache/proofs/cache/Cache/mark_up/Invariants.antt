use Rattle.std.proofs.Common.{◌≡◌, ◌-◌, Some, length}
use Rattle.iris_name.specs.declared.name.Name.{Name}
use Rattle.iris_cache.specs.Held.{moved_node}
use Rattle.iris_cache.specs.Applied.{is_above_within}
use Rattle.iris_cache.specs.Pictures.{parent_after}
use Rattle.iris_cache.specs.Resident.{held_node, map_if}
use Rattle.iris_cache.proofs.cache.Cache.mark_up.Given as goal

-- what is left to mark, over what is marked, is what was to mark
abbrev pub invariant-loop-step : goal.invariant-loop-step
invariant-loop-step l = record {
  left : (q : Name) → map_if (is_above_within (parent_after (record { changes = l.changes.entries }) l.initial.self) (l.most - l.step) l.at q) moved_node (held_node l.self q) ≡ map_if (is_above_within (parent_after (record { changes = l.changes.entries }) l.initial.self) l.most (Some l.name) q) moved_node (held_node l.initial.self q);
  parents : (q : Name) → parent_after (record { changes = l.changes.entries }) l.self q ≡ parent_after (record { changes = l.changes.entries }) l.initial.self q;
  count : length l.self.nodes ≡ length l.initial.self.nodes;
  room : l.self.room ≡ l.initial.self.room;
}
