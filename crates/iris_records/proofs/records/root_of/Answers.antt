use Rattle.iris_records.proofs.RecordsOfItems.{visible_stored, trash_stored, root_is}
use Rattle.iris_records.proofs.records.root_of.Goals as goal

pub put_roots-requires-clause-visible : goal.put_roots-requires-clause-visible
put_roots-requires-clause-visible c = let s = c.requires.sound in visible_stored c.args.visible.now c.args.trash.now c.args.next s.0 c.requires.visible s.1

pub put_roots-requires-clause-trash : goal.put_roots-requires-clause-trash
put_roots-requires-clause-trash c = let s = c.requires.sound in trash_stored c.args.visible.now c.args.trash.now c.args.next s.0 c.requires.trash s.1

pub returns : goal.returns
returns c = λ age.
    root_is c.args.keys.now.order c.args.visible.now c.args.trash.now c.args.next age _ _ _ c.joined_hash.ensures c.in_ok-roots.ensures.visible c.in_ok-roots.ensures.trash
