use Rattle.std.proofs.Common.{rules, ◌≡◌, true}
use Rattle.iris_node.specs.Tests.{is_entry}
use Rattle.iris_node.specs.Views.{entry_read}
use Rattle.iris_node.proofs.Deciding.{entry_kept}
use Rattle.iris_node.proofs.reading.entry_node.Goals as goal

pub invariant_of-result : goal.invariant_of-result
invariant_of-result c =
    let k : is_entry (entry_read c.in-Some.entry) ≡ true = search rules in
    rw c.in_ok-name.ensures.same (entry_kept (entry_read c.in-Some.entry) c.in_ok-name.ensures.utf8 k)
