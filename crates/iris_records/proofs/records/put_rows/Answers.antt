use Rattle.iris_records.proofs.RecordsOfItems.{all_items}
use Rattle.iris_records.proofs.TreapRecords.{on_ok}
use Rattle.iris_records.proofs.PartRecords.{adds_twice}
use Rattle.iris_records.proofs.records.put_rows.Goals as goal

pub put_directory-requires-clause-items : goal.put_directory-requires-clause-items
put_directory-requires-clause-items c = all_items c.args.items.now c.requires.fit

pub returns-clause-puts : goal.returns-clause-puts
returns-clause-puts c = on_ok c.put_directory.result _ _ (λ h. adds_twice c.args.keys.now.block _ _ _ _ _ c.in_ok-told.ensures.puts (h c.args.keys.now.block)) c.put_directory.ensures.puts
