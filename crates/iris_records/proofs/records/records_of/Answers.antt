use Rattle.std.proofs.Common.{subst, sym}
use Rattle.iris_records.specs.Records.{AreLive}
use Rattle.iris_rows.specs.Items.{table_over}
use Rattle.iris_records.proofs.RecordsOfItems.{visible_stored, trash_stored, records_live}
use Rattle.iris_records.proofs.records.records_of.Goals as goal

pub put_roots-requires-clause-visible : goal.put_roots-requires-clause-visible
put_roots-requires-clause-visible c = let s = c.requires.sound in visible_stored c.args.visible.now c.args.trash.now s.0 s.1.0 c.requires.visible s.1.1

pub put_roots-requires-clause-trash : goal.put_roots-requires-clause-trash
put_roots-requires-clause-trash c = let s = c.requires.sound in trash_stored c.args.visible.now c.args.trash.now s.0 s.1.0 c.requires.trash s.1.1

pub returns : goal.returns
returns c = λ next age.
    subst (λ z. AreLive c.args.keys.now (table_over c.args.visible.now c.args.trash.now next age) z) (sym c.into_vec.ensures.records)
    (records_live c.args.keys.now c.args.visible.now c.args.trash.now next age _ _ c.requires.visible c.requires.trash c.new-shelf.ensures c.into_vec.ensures.order c.in_ok-put_roots.ensures.puts)
