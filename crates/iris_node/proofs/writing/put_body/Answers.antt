use Rattle.iris_node.proofs.Feeding.{fed_three}
use Rattle.iris_node.proofs.writing.put_body.Goals as goal

pub returns-in-File-clause-bytes : goal.returns-in-File-clause-bytes
returns-in-File-clause-bytes c =
    rw c.in-File.is (fed_three _ _ _ _ _ _ _ _ _ c.to_be_bytes.ensures c.to_be_bytes-in-File.ensures c.put.ensures.bytes c.put-in-File.ensures.bytes c.put_side.ensures.bytes)
