use Rattle.std.proofs.Common.{◌≡◌, ◌||◌, ◌&&◌, false}
use Rattle.std.specs.Map.{lookup}
use Rattle.iris_name.specs.Names.{same_name}
use Rattle.iris_name.specs.declared.name.Name.{Name}
use Rattle.iris_cache.specs.Idle.{is_idle, is_freed_by}
use Rattle.iris_cache.proofs.Drafts.{among}
use Rattle.iris_cache.proofs.idle.file_freed.Given as goal

-- of the first i, those that are freed are named too
abbrev pub invariant-loop-i : goal.invariant-loop-i
invariant-loop-i l = record {
  unsure : l.idle.unsure ≡ false → l.initial.idle.unsure ≡ false;
  names : l.idle.unsure ≡ false → (q : Name) → is_idle l.idle q ≡ (is_idle l.initial.idle q || (among l.i l.nodes.entries q && is_freed_by l.who (lookup (same_name q) l.nodes.entries)));
}
