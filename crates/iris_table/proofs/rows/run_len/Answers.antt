use Rattle.std.proofs.Common.{sym, ◌∙◌, ◌+◌, ap, drop}
use Rattle.iris_table.specs.Stops.{deeper}
use Rattle.iris_table.proofs.RunAtDepth.{counted}
use Rattle.iris_table.proofs.rows.run_len.Goals as goal

pub returns-clause-value : goal.returns-clause-value
returns-clause-value c = counted c.args.items.now c.args.place c.run.result c.index-items-place.result c.requires c.index-items-place.is
    (c.run.ensures.value ∙ ap (λ i. deeper i.depth (drop (c.args.place + 1) c.args.items.now)) (sym c.index-items-place.is))
