use Rattle.std.proofs.Common.{◌≡◌, ◌≤◌, map, length, drop}
use Rattle.std.specs.Prelude.{All}
use Rattle.iris_node.specs.Rules.{IsBody}
use Rattle.iris_records.specs.Pieces.{Adds}
use Rattle.iris_records.specs.Walks.{inside_items, all_owns, told as told_of}
use Rattle.iris_records.proofs.records.put_items.Given as goal

abbrev pub invariant-loop-i : goal.invariant-loop-i
invariant-loop-i l = record {
  within : l.i ≤ length l.items;
  told : l.told.items ≡ map told_of (all_owns l.keys.order (drop l.i l.items));
  bodies : All (λ t. IsBody t.body) l.told.items;
  puts : Adds l.keys.block (λ n. inside_items l.keys.order n (drop l.i l.items)) l.initial.shelf l.shelf;
}

abbrev pub decreases-loop-i : goal.decreases-loop-i
decreases-loop-i l = l.i
