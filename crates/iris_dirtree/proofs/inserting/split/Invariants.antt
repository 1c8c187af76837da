use Rattle.std.proofs.Common.{Bool}
use Rattle.iris_name.specs.declared.name.Name.{Name}
use Rattle.iris_node.specs.Rules.{IsLinkToNamed}
use Rattle.iris_node.specs.Trees.{Shown}
use Rattle.iris_shape.specs.Treap.{Treap}
use Rattle.iris_treepaths.specs.Crumbs.{AreNamed}
use Rattle.iris_dirtree.specs.Descents.{StandsBelow}
use Rattle.iris_treepaths.specs.Rows.{Row}
use Rattle.iris_dirtree.specs.Splits.{Splitting}
use Rattle.iris_dirtree.proofs.inserting.split.Given as goal

abbrev pub invariant-loop-step : goal.invariant-loop-step
invariant-loop-step l = record {
  low : AreNamed l.halves.low.items;
  high : AreNamed l.halves.high.items;
  linked : IsLinkToNamed l.at;
  splitting : (old new : Shown) → (home t : Treap Row) → (lasts : Name → Bool) → (q : Name) → StandsBelow old new l.cache home lasts l.draft q l.fn.top t
      → Splitting old new l.cache home lasts l.draft l.name t l.halves.low.items l.halves.high.items l.at;
}
