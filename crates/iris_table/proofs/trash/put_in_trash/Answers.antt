use Rattle.std.proofs.Common.{◌≡◌, ◌∙◌, ◌++◌, ap, sym, subst, take, drop, List}
use Rattle.iris_rows.specs.declared.item.Item.{Item}
use Rattle.iris_rows.specs.Items.{grown, IsForest}
use Rattle.iris_table.specs.Stops.{room, first_name}
use Rattle.iris_table.proofs.DirectoryRows.{with_run, forest_with_run, trash_place}
use Rattle.iris_table.proofs.trash.put_in_trash.Goals as goal

pub returns-clause-rows : goal.returns-clause-rows
returns-clause-rows c =
    let p : c.room-at.result ≡ room 0 (first_name c.args.run.items) c.args.trash.now.items = trash_place c.args.run.items c.args.trash.now.items c.index.result.now c.room-at.result c.requires.run c.index.ensures (c.room-at.ensures.value ∙ ap (room 0 c.index.result.now.name) c.as_slice.ensures.value) in
    ap (grown 0) (c.put_in.ensures ∙ ap (λ k. take k c.args.trash.now.items ++ (c.args.run.items ++ drop k c.args.trash.now.items)) p) ∙ (with_run 0 (first_name c.args.run.items) c.args.run.items c.args.trash.now.items c.requires.run).rows

pub returns-clause-forest : goal.returns-clause-forest
returns-clause-forest c f =
    let p : c.room-at.result ≡ room 0 (first_name c.args.run.items) c.args.trash.now.items = trash_place c.args.run.items c.args.trash.now.items c.index.result.now c.room-at.result c.requires.run c.index.ensures (c.room-at.ensures.value ∙ ap (room 0 c.index.result.now.name) c.as_slice.ensures.value) in
    let Q : List Item → Type 0 = λ z. IsForest z in
    subst Q (sym (c.put_in.ensures ∙ ap (λ k. take k c.args.trash.now.items ++ (c.args.run.items ++ drop k c.args.trash.now.items)) p)) (forest_with_run 0 (first_name c.args.run.items) c.args.run.items c.args.trash.now.items c.requires.run f)
