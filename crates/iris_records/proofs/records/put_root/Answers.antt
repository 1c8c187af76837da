use Rattle.std.proofs.Common.{ap, sym, ◌∙◌}
use Rattle.sha2.specs.Sha256.{sha256}
use Rattle.iris_node.specs.Unfolded.{spelled_node as node_spelled}
use Rattle.iris_records.proofs.RecordsOfItems.{root_node, root_puts}
use Rattle.iris_records.proofs.TreapRecords.{if_ok, on_ok}
use Rattle.iris_records.proofs.records.put_root.Goals as goal

pub returns-clause-hash : goal.returns-clause-hash
returns-clause-hash c =
    if_ok c.put_node.result _ _ (λ h e inside f. ap (λ z. z.0) e ∙ sym (ap (λ z. sha256 (node_spelled z)) (root_node c.args.id c.of.result c.args.top inside (c.of.ensures ∙ c.new.ensures.bytes) f))) c.put_node.ensures.hash

pub returns-clause-puts : goal.returns-clause-puts
returns-clause-puts c =
    on_ok c.put_node.result _ _ (λ h inside key f. root_puts key c.args.id inside _ _ _ (root_node c.args.id c.of.result c.args.top inside (c.of.ensures ∙ c.new.ensures.bytes) f) h) c.put_node.ensures.puts
