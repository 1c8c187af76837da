use Rattle.std.proofs.Common.{◌≡◌, length}
use Rattle.iris_name.specs.declared.name.Name.{Name}
use Rattle.iris_node.specs.Trees.{Shown, IsTree}
use Rattle.iris_cache.specs.Laws.{AreFormed}
use Rattle.iris_cache.specs.Pictures.{Pictures}
use Rattle.iris_cache.specs.Resident.{held_node}
use Rattle.iris_upkeep.specs.SettlesInto.{SettlesInto}
use Rattle.iris_upkeep.proofs.SettlingUp.{Progress}
use Rattle.iris_upkeep.proofs.settling.settle_all.Given as goal

abbrev pub invariant-loop-step : goal.invariant-loop-step
invariant-loop-step l = record {
  nodes : (q : Name) → SettlesInto (held_node l.initial.cache q) (held_node l.cache q);
  progress : (t : Shown) → Pictures t l.initial.cache → IsTree t → AreFormed t → Progress t l.initial.cache l.cache l.from l.at l.step;
  room : l.cache.room ≡ l.initial.cache.room;
  count : length l.cache.nodes ≡ length l.initial.cache.nodes;
}
