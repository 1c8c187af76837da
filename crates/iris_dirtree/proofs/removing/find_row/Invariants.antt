use Rattle.std.proofs.Common.{Bool}
use Rattle.iris_name.specs.declared.name.Name.{Name}
use Rattle.iris_node.specs.Rules.{IsLinkToNamed}
use Rattle.iris_node.specs.Trees.{Shown}
use Rattle.iris_shape.specs.Treap.{Treap}
use Rattle.iris_treepaths.specs.Crumbs.{AreNamed}
use Rattle.iris_dirtree.specs.Descents.{StandsBelow, Walked}
use Rattle.iris_treepaths.specs.Rows.{Row}
use Rattle.iris_dirtree.proofs.removing.find_row.Given as goal

abbrev pub invariant-loop-step : goal.invariant-loop-step
invariant-loop-step l = record {
  named : AreNamed l.path.items;
  linked : IsLinkToNamed l.at;
  walked : (old new : Shown) → (t : Treap Row) → (lasts : Name → Bool) → (p : Name) → StandsBelow old new l.cache t lasts l.draft p l.fn.top t → Walked old new l.cache lasts l.draft p l.name t l.path.items l.at;
}
