use Rattle.std.proofs.Common.{sym, ◌∙◌, ap}
use Rattle.iris_plain.specs.Routes.{parent, is_top}
use Rattle.iris_plain.specs.Checks.{is_full, is_directory_seen}
use Rattle.iris_rows.specs.Changes.{seen_in, seen_row}
use Rattle.iris_table.specs.Stops.{met_in}
use Rattle.iris_table.specs.Served.{State, table_in}
use Rattle.iris_table.proofs.ServedStep.{new_dir}
use Rattle.iris_table.proofs.state.State.make.Goals as goal

pub insert-requires-clause-parent : goal.insert-requires-clause-parent
insert-requires-clause-parent c =
    (λ i. is_directory_seen (seen_row (met_in (ap (λ (s : State). s.visible) c.self.view_is i) (parent ((c.names-2.ensures ∙ sym c.names.ensures) i)))))
    ∙ new_dir (is_top c.names.result.now) (is_full c.args.self.now.age) (seen_in (table_in c.args.self.now) (parent c.names.result.now)) (seen_in (table_in c.args.self.now) c.names.result.now) (sym c.new_at.ensures ∙ c.in_default-new_at.is)
