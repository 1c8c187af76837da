use Rattle.std.proofs.Common.{◌≡◌, ◌&&◌, cond, not}
use Rattle.std.specs.Option.{option_map}
use Rattle.std.specs.Map.{lookup, keys_of}
use Rattle.iris_name.specs.Names.{same_name}
use Rattle.iris_name.specs.declared.name.Name.{Name}
use Rattle.iris_cache.specs.Applied.{bare, node_written, node_of_change, spent}
use Rattle.iris_cache.specs.Drafted.{is_set}
use Rattle.iris_cache.specs.Resident.{has_room}
use Rattle.iris_cache.proofs.Drafts.{among}
use Rattle.iris_cache.proofs.cache.Cache.write.Given as goal

abbrev pub invariant-loop-i : goal.invariant-loop-i
invariant-loop-i l = record {
  nodes : (q : Name) → bare l.self q ≡ cond (among l.i l.initial.changes.entries q) (node_written (node_of_change (lookup (same_name q) l.initial.changes.entries)) (bare l.initial.self q)) (bare l.initial.self q);
  room : (q : Name) → has_room l.self q ≡ (has_room l.initial.self q && not (among l.i l.initial.changes.entries q && is_set (lookup (same_name q) l.initial.changes.entries)));
  changes : (q : Name) → lookup (same_name q) l.changes.entries ≡ cond (among l.i l.initial.changes.entries q) (option_map spent (lookup (same_name q) l.initial.changes.entries)) (lookup (same_name q) l.initial.changes.entries);
  keys : keys_of l.changes.entries ≡ keys_of l.initial.changes.entries;
}
