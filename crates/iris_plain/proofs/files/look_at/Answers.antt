use Rattle.std.proofs.Common.{sym}
use Rattle.iris_plain.proofs.EntryLaws.{look_none, look_place}
use Rattle.iris_plain.proofs.files.look_at.Goals as goal

pub returns-in-None : goal.returns-in-None
returns-in-None c = look_none c.args.entries.now c.args.names.now (sym c.in-None.ensures)

pub returns-in-Some : goal.returns-in-Some
returns-in-Some c = (look_place c.args.entries.now c.args.names.now c.in-Some.place c.index-entries-place.result (sym c.in-Some.ensures)).1
