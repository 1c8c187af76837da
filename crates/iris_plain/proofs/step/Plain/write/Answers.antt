use Rattle.std.proofs.Common.{sym, ◌∙◌, ap, length}
use Rattle.iris_name.specs.Paths.{names_of}
use Rattle.iris_plain.specs.Checks.{write_checks}
use Rattle.iris_plain.specs.Files.{seen_at, bytes_changed, wrote}
use Rattle.iris_plain.specs.Entries.{kind_at, state_of_list, ListedEntries}
use Rattle.iris_plain.specs.Steps.{aged}
use Rattle.iris_plain.proofs.StepLaws.{next_err, next_ok, same_state, goes_on_by}
use Rattle.iris_plain.proofs.step.Plain.write.Goals as goal

pub returns-in-Some-write_checks-clause-step : goal.returns-in-Some-write_checks-clause-step
returns-in-Some-write_checks-clause-step c = next_err (names_of c.args.path.now) c.in-Some.path (c.in_ok-path.ensures ∙ c.in-Some.is) _ (state_of_list c.args.self.now) _ c.in-Some-write_checks.error
    (sym (λ i. write_checks ((c.seen-here.ensures ∙ ap (seen_at (kind_at c.args.self.now.entries)) c.names.ensures) i) c.args.offset (length c.args.bytes.now) (c.is_full.ensures i)) ∙ sym c.write_checks.ensures ∙ c.in-Some-write_checks.is)

pub returns-clause-step : goal.returns-clause-step
returns-clause-step c =
    next_ok (names_of c.args.path.now) c.in-Some.path (c.in_ok-path.ensures ∙ c.in-Some.is) _ (state_of_list c.args.self.now) _ _
    (sym (λ i. write_checks ((c.seen-here.ensures ∙ ap (seen_at (kind_at c.args.self.now.entries)) c.names.ensures) i) c.args.offset (length c.args.bytes.now) (c.is_full.ensures i)) ∙ sym c.write_checks.ensures ∙ c.in_default-write_checks.is)
    (goes_on_by _ (state_of_list c.args.self.now) (aged (bytes_changed c.in-Some.path (wrote c.args.offset c.args.bytes.now)) (state_of_list c.args.self.now)) _ (sym c.if-is_empty.ensures)
    (same_state c.args.self.now c.self.inside.entries.items c.write_at.new.entries.items c.self.inside.age (bytes_changed c.in-Some.path (wrote c.args.offset c.args.bytes.now)) (ap (λ (l : ListedEntries). l.entries) c.self.view_is) (ap (λ (l : ListedEntries). l.age) c.self.view_is)
    (λ q. c.in_ok-write_at.ensures.ok q ∙ ap (λ names. bytes_changed names (wrote c.args.offset c.args.bytes.now) (kind_at c.self.inside.entries.items) q) c.names-2.ensures)))
