use Rattle.std.proofs.Common.{◌-◌, length, refl, ◌∙◌, ap, ◌++◌, ◌∷◌, []}
use Rattle.iris_rows.specs.declared.item.Item.{Item}
use Rattle.iris_table.proofs.DirectoryRows.{leaf_run}
use Rattle.iris_table.proofs.runs.leaf.Goals as goal

pub returns-clause-run : goal.returns-clause-run
returns-clause-run c =
    let item : Item = record { depth = length c.args.names.now - 1; id = c.args.id; name = c.in_ok-name.name; file = c.args.file } in
    leaf_run c.args.names.now _ item c.index-names-depth.result c.requires (c.in_ok-push.ensures.items ∙ ap (λ xs. xs ++ item ∷ []) c.new-run.ensures.items) refl c.in_ok-name.ensures c.index-names-depth.is
