use Rattle.std.proofs.Common.{sym, ◌∙◌, ◌+◌, ◌-◌, length, take, drop, ap, subst, List}
use Rattle.iris_rows.specs.declared.item.Item.{Item}
use Rattle.iris_rows.specs.Items.{grown, IsForest}
use Rattle.iris_table.specs.Stops.{stop, room, first_inside}
use Rattle.iris_table.proofs.DirectoryRows.{opened_at, place_at, put_rows, put_forest}
use Rattle.iris_table.proofs.runs.put_at.Goals as goal

pub returns-clause-rows : goal.returns-clause-rows
returns-clause-rows c =
    let o = opened_at c.args.items.now.items c.args.names.now c.begin-from.result c.requires.parent (c.begin-from.ensures.value ∙ ap (λ xs. first_inside (take (length c.args.names.now - 1) c.args.names.now) (stop 0 (take (length c.args.names.now - 1) c.args.names.now) xs)) c.as_slice.ensures.value) in
    let p = place_at c.args.items.now.items c.args.names.now c.begin-from.result c.room.result c.index-names-depth.result c.requires.named c.index-names-depth.is (c.room.ensures.value ∙ ap (λ xs. room (length c.args.names.now - 1) c.index-names-depth.result (drop c.begin-from.result xs)) c.as_slice-2.ensures.value) in
    ap (grown 0) c.put_in.ensures ∙ put_rows c.args.items.now.items c.args.names.now c.begin-from.result (c.begin-from.result + c.room.result) c.args.run.items c.requires.named o c.requires.run p

pub returns-clause-forest : goal.returns-clause-forest
returns-clause-forest c f =
    let o = opened_at c.args.items.now.items c.args.names.now c.begin-from.result c.requires.parent (c.begin-from.ensures.value ∙ ap (λ xs. first_inside (take (length c.args.names.now - 1) c.args.names.now) (stop 0 (take (length c.args.names.now - 1) c.args.names.now) xs)) c.as_slice.ensures.value) in
    let p = place_at c.args.items.now.items c.args.names.now c.begin-from.result c.room.result c.index-names-depth.result c.requires.named c.index-names-depth.is (c.room.ensures.value ∙ ap (λ xs. room (length c.args.names.now - 1) c.index-names-depth.result (drop c.begin-from.result xs)) c.as_slice-2.ensures.value) in
    let Q : List Item → Type 0 = λ z. IsForest z in
    subst Q (sym c.put_in.ensures) (put_forest c.args.items.now.items c.args.names.now c.begin-from.result (c.begin-from.result + c.room.result) c.args.run.items c.requires.named o c.requires.run p f)
