use Rattle.std.proofs.Common.{Some, sym, ap, ◌∙◌}
use Rattle.iris_cache.proofs.OwnNames.{entry_own}
use Rattle.iris_version_tree.proofs.Hashes.{file_named}
use Rattle.iris_version_tree.proofs.walk.file_entry.Goals as goal

pub returns-clause-own : goal.returns-clause-own
returns-clause-own c = entry_own c.args.draft.now c.args.cache.now c.args.file c.in-Some-Entry.entry c.sound.ensures c.sound-2.ensures (sym c.in-Some-Entry.ensures ∙ ap Some c.in-Some-Entry.field-0-is)

pub returns-clause-file : goal.returns-clause-file
returns-clause-file c =
    let at = sym c.in-Some-Entry.ensures ∙ ap Some c.in-Some-Entry.field-0-is in
    let own = entry_own c.args.draft.now c.args.cache.now c.args.file c.in-Some-Entry.entry c.sound.ensures c.sound-2.ensures at in
    file_named c.args.file c.in-Some-Entry.entry _ c.keeps_rules.ensures own at c.requires
