use Rattle.std.proofs.Common.{◌≡◌, ◌≤◌, ◌+◌, ◌||◌, ◌&&◌, is_some, not, length}
use Rattle.iris_name.specs.Names.{same_name}
use Rattle.iris_name.specs.declared.name.Name.{Name}
use Rattle.indexmap.specs.IndexMap as map
use Rattle.indexmap.specs.IndexSet as set
use Rattle.iris_cache.specs.Drafted.{is_set}
use Rattle.iris_cache.proofs.Drafts.{among}
use Rattle.iris_cache.proofs.places.place_all.Given as goal

-- the names among the first i that are set and aren't resident have places too
abbrev pub invariant-loop-i : goal.invariant-loop-i
invariant-loop-i l = record {
  names : (q : Name) → set.contains same_name l.places q ≡ (set.contains same_name l.initial.places q || (among l.i l.changes.entries q && (is_set (map.get same_name l.changes q) && not (is_some (map.get same_name l.nodes q)))));
  len : length l.places.keys ≤ length l.initial.places.keys + l.i;
  spare : length l.changes.entries ≤ set.spare l.places + l.i;
}
