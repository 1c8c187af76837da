use Rattle.std.proofs.Common.{◌≡◌, sym, ◌∙◌, ap, take, drop}
use Rattle.iris_name.specs.Paths.{names_of}
use Rattle.iris_plain.specs.Checks.{read_checks}
use Rattle.iris_plain.proofs.StepLaws.{right}
use Rattle.iris_name.specs.declared.request.Reply.TheVariants.{Bytes as BytesAre}
use Rattle.iris_rows.specs.Changes.{seen_in}
use Rattle.iris_table.specs.Stops.{met_in, file_met}
use Rattle.iris_rows.specs.Places.{file_of}
use Rattle.iris_table.specs.Served.{State, table_in}
use Rattle.iris_table.proofs.ServedStep.{bytes_met}
use Rattle.iris_table.proofs.state.State.read.Goals as goal

pub returns-in-Some-file_at : goal.returns-in-Some-file_at
returns-in-Some-file_at c = let t = table_in c.args.self.now in
    let m : file_met (met_in c.args.self.now.visible c.in-Some.path) ≡ _ = sym (λ i. file_met (met_in ((c.as_slice.ensures.value ∙ ap (λ (s : State). s.visible) c.self.view_is) i) (c.names-2.ensures i))) ∙ c.in-Some-file_at.ensures in
    right (names_of c.args.path.now) c.in-Some.path (c.in_ok-path.ensures ∙ c.in-Some.is) _ _ _
    (sym (λ i. read_checks ((c.seen.ensures ∙ ap (seen_in t) c.names.ensures) i) c.args.count) ∙ sym c.read_checks.ensures ∙ c.in_default-read_checks.is)
    (ap BytesAre (c.in_ok-read-in-Some-file_at.ensures ∙ ap (λ b. take c.args.count (drop c.args.offset b)) (sym (bytes_met t c.in-Some.path (file_of c.in-Some-file_at.file.now) m))))
