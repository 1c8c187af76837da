use Rattle.std.proofs.Common.{◌≡◌, List, length}
use Rattle.iris_name.specs.declared.name.Name.{Name}
use Rattle.iris_node.specs.Trees.{Shown, IsTree}
use Rattle.iris_cache.specs.Laws.{AreFormed}
use Rattle.iris_cache.specs.Pictures.{Pictures}
use Rattle.iris_upkeep.specs.Marks.{IsMarked}
use Rattle.iris_upkeep.proofs.WaysDown.{IsWayDown}
use Rattle.iris_upkeep.proofs.descent.lowest.Given as goal

-- it came to a marked node, in a pictured tree by a way of that many steps
abbrev pub invariant-loop-step : goal.invariant-loop-step
invariant-loop-step l = record {
  marked : IsMarked l.what l.cache l.at;
  way : (t : Shown) → Pictures t l.cache → IsTree t → AreFormed t → (xs : List Name) × (length xs ≡ l.step) × IsWayDown t l.cache l.what l.from xs l.at;
}
