use Rattle.std.proofs.Common.{◌≤◌, ◌+◌, is_some}
use Rattle.iris_cache.specs.Drafted.{drafted}
use Rattle.iris_cache.specs.Resident.{held_node}
use Rattle.iris_pool.specs.Filing.{is_held_after}
use Rattle.iris_pool.proofs.FiledNames.{FilesTo}
use Rattle.iris_pool.proofs.landing.file_nodes.Given as goal

-- the first names are filed, and there is room for as many fewer
abbrev pub invariant-loop-i : goal.invariant-loop-i
invariant-loop-i l = record {
  files : FilesTo (λ q. is_some (held_node l.cache q)) (λ q. is_held_after (drafted l.draft q) (is_some (held_node l.cache q))) l.draft.changes l.i l.initial.desks l.desks;
  room : l.initial.desks.room ≤ l.desks.room + l.i;
}
