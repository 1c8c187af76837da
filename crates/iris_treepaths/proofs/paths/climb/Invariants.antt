use Rattle.std.proofs.Common.{◌≡◌, ◌<◌, ◌^◌, Bool, true, vec_len}
use Rattle.iris_name.specs.declared.name.Name.{Name}
use Rattle.iris_name.specs.declared.name.Name.TheVariants as name
use Rattle.iris_node.specs.Rules.{IsLinkToNamed}
use Rattle.iris_node.specs.Trees.{Shown}
use Rattle.iris_node.specs.Unfolded.{blocks}
use Rattle.iris_shape.specs.Treap.{Treap}
use Rattle.iris_cache.specs.Resident.{Resident}
use Rattle.iris_cache.specs.Drafted.{Drafted}
use Rattle.iris_treepaths.specs.Crumbs.{AreNamed, Rises}
use Rattle.iris_treepaths.specs.Nodes.{OnlyEntries}
use Rattle.iris_treepaths.specs.Paths.{Once}
use Rattle.iris_treepaths.specs.Rows.{Row, unfolded_rows}
use Rattle.iris_treepaths.proofs.paths.climb.Given as goal

abbrev pub invariant-loop-crumb : goal.invariant-loop-crumb
invariant-loop-crumb l = record {
  named : AreNamed l.path.items;
  linked : IsLinkToNamed l.link;
  risen : (old : Shown) → (c : Resident) → (home u : Treap Row) → (lasts : Name → Bool) → (d : Drafted) → Once u → blocks (unfolded_rows u) < 2 ^ 64 → lasts (name.Entry l.dir) ≡ true
      → Rises old c home lasts d l.fn.draft (name.Entry l.dir) u l.fn.path.items l.fn.end → Rises old c home lasts d l.draft (name.Entry l.dir) u l.path.items l.link;
  entries : OnlyEntries l.fn.draft l.draft;
}

abbrev pub decreases-loop-crumb : goal.decreases-loop-crumb
decreases-loop-crumb l = vec_len l.path
