use Rattle.std.proofs.Common.{Bool, List}
use Rattle.iris_name.specs.declared.name.Name.{Name}
use Rattle.iris_node.specs.Rules.{IsLinkToNamed}
use Rattle.iris_node.specs.Trees.{Shown}
use Rattle.iris_shape.specs.Treap.{Treap}
use Rattle.iris_dirtree.specs.Merges.{Merging, IsRanked, ranked_link}
use Rattle.iris_treepaths.specs.Rows.{Row, up}
use Rattle.iris_treepaths.specs.Crumbs.{AreNamed}
use Rattle.iris_dirtree.proofs.removing.merge_sides.Given as goal

abbrev pub invariant-loop-step : goal.invariant-loop-step
invariant-loop-step l = record {
  named : AreNamed l.path.items;
  less : IsLinkToNamed (ranked_link l.less);
  more : IsLinkToNamed (ranked_link l.more);
  less_rank : IsRanked l.keys.order l.less;
  more_rank : IsRanked l.keys.order l.more;
  merging : (old new : Shown) → (home u : Treap Row) → (lasts : Name → Bool) → (met : List Row) → Merging old new l.cache home lasts l.draft (up l.keys.order) met u l.fn.path.items l.row.left l.row.right
      → Merging old new l.cache home lasts l.draft (up l.keys.order) met u l.path.items (ranked_link l.less) (ranked_link l.more);
}
