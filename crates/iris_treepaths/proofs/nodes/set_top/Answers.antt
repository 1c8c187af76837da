use Rattle.std.proofs.Common.{Some, sym, ap, ◌∙◌}
use Rattle.indexmap.proofs.MapLemmas.{OnOk-map}
use Rattle.iris_treepaths.proofs.Owned.{entry_own, put_top, put_frame}
use Rattle.iris_treepaths.proofs.nodes.set_top.Goals as goal

pub returns-clause-entry : goal.returns-clause-entry
returns-clause-entry c =
    let x = c.in-Some-Entry.entry in
    let at = sym c.in-Some-Entry.ensures ∙ ap Some c.in-Some-Entry.field-0-is in
    let own = entry_own c.args.draft.now c.args.cache.now c.args.dir x c.sound.ensures c.sound-2.ensures at in
    OnOk-map c.set.result _ _ (λ set e is. put_top c.args.draft.now c.set.new.self c.args.cache.now c.args.dir c.args.top x e c.in_ok-entry-in-Some-Entry.entry c.with_top.result c.parent-parent.result own at is c.in_ok-entry-in-Some-Entry.ensures c.with_top.ensures c.parent-parent.ensures set) c.set.ensures.names

pub returns-clause-frame : goal.returns-clause-frame
returns-clause-frame c =
    let x = c.in-Some-Entry.entry in
    let at = sym c.in-Some-Entry.ensures ∙ ap Some c.in-Some-Entry.field-0-is in
    let own = entry_own c.args.draft.now c.args.cache.now c.args.dir x c.sound.ensures c.sound-2.ensures at in
    OnOk-map c.set.result _ _ (λ set n off. put_frame c.args.draft.now c.set.new.self c.args.cache.now c.args.dir c.args.top x c.in_ok-entry-in-Some-Entry.entry c.with_top.result c.parent-parent.result n own c.in_ok-entry-in-Some-Entry.ensures c.with_top.ensures set off) c.set.ensures.names
