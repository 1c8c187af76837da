use Rattle.std.proofs.Common.{rules}
use Rattle.iris_cache.specs.Resident.{Resident}
use Rattle.iris_cache.proofs.LinkCounts.{indexed-none}
use Rattle.iris_cache.proofs.DirtyNodes.{dirty-none}
use Rattle.iris_cache.proofs.IdleNodes.{idle-none}
use Rattle.iris_cache.proofs.cache.Cache.new.Goals as goal

pub invariant_of-result : goal.invariant_of-result
invariant_of-result c =
    let C : Resident = record { nodes = c.new.result.entries; room = c.new-2.result.keys } in
    record {
      sound = search rules;
      places = search rules;
      homed = search rules;
      indexed = indexed-none C c.new-3.result c.new.ensures.empty c.new-3.ensures.counts c.new-3.ensures.sums;
      idling = idle-none C c.new-4.result c.new.ensures.empty c.new-4.ensures.names;
      counted = dirty-none C c.new.ensures.empty;
    }
