use Rattle.iris_records.proofs.PartRecords.{adds_twice}
use Rattle.iris_records.proofs.records.put_file.Goals as goal

pub returns-clause-puts : goal.returns-clause-puts
returns-clause-puts c = adds_twice c.args.keys.now.block _ _ _ _ _ c.in_ok-put_blocks.ensures (c.in_ok-versions.ensures.puts c.args.keys.now.block)
