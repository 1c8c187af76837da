use Rattle.iris_records.proofs.PartRecords.{adds_twice}
use Rattle.iris_records.proofs.records.put_roots.Goals as goal

pub returns-clause-puts : goal.returns-clause-puts
returns-clause-puts c =
    adds_twice c.args.keys.now.block _ _ _ _ _
    (adds_twice c.args.keys.now.block _ _ _ _ _ (adds_twice c.args.keys.now.block _ _ _ _ _ c.in_ok-trash.ensures.puts c.in_ok-visible.ensures.puts) (c.in_ok-trash-2.ensures.puts _ c.args.keys.now.block c.in_ok-trash.ensures.link))
    (c.in_ok-visible-2.ensures.puts _ c.args.keys.now.block c.in_ok-visible.ensures.link)
