use Rattle.std.proofs.Common.{◌≡◌, sym, ◌∙◌, ap}
use Rattle.iris_name.specs.Paths.{names_of}
use Rattle.iris_plain.specs.Checks.{resize_checks, size_of}
use Rattle.iris_plain.specs.Files.{seen_at, bytes_changed, resized_bytes}
use Rattle.iris_plain.specs.Entries.{kind_at, state_of_list, ListedEntries}
use Rattle.iris_plain.specs.Steps.{aged}
use Rattle.iris_plain.proofs.StepLaws.{next_err, next_ok, same_state, stays_same, goes_on}
use Rattle.iris_plain.proofs.step.Plain.resize.Goals as goal

pub returns-in-Some-resize_checks-clause-step : goal.returns-in-Some-resize_checks-clause-step
returns-in-Some-resize_checks-clause-step c = next_err (names_of c.args.path.now) c.in-Some.path (c.in_ok-path.ensures ∙ c.in-Some.is) _ (state_of_list c.args.self.now) _ c.in-Some-resize_checks.error
    (sym (λ i. resize_checks ((c.seen-here.ensures ∙ ap (seen_at (kind_at c.args.self.now.entries)) c.names.ensures) i) c.args.size (c.is_full.ensures i)) ∙ sym c.resize_checks.ensures ∙ c.in-Some-resize_checks.is)

pub returns-then-size-size_of-clause-step : goal.returns-then-size-size_of-clause-step
returns-then-size-size_of-clause-step c = next_ok (names_of c.args.path.now) c.in-Some.path (c.in_ok-path.ensures ∙ c.in-Some.is) _ (state_of_list c.args.self.now) (state_of_list c.args.self.now) _
    (sym (λ i. resize_checks ((c.seen-here.ensures ∙ ap (seen_at (kind_at c.args.self.now.entries)) c.names.ensures) i) c.args.size (c.is_full.ensures i)) ∙ sym c.resize_checks.ensures ∙ c.in_default-resize_checks.is)
    (stays_same c.args.size _ (state_of_list c.args.self.now) _ (c.if-size-size_of.true ∙ c.size_of.ensures ∙ ap size_of (c.seen-here.ensures ∙ ap (seen_at (kind_at c.args.self.now.entries)) c.names.ensures)))

pub returns-clause-step : goal.returns-clause-step
returns-clause-step c =
    let same : c.size_of.result ≡ size_of (seen_at (kind_at c.args.self.now.entries) c.in-Some.path) = c.size_of.ensures ∙ ap size_of (c.seen-here.ensures ∙ ap (seen_at (kind_at c.args.self.now.entries)) c.names.ensures) in
    next_ok (names_of c.args.path.now) c.in-Some.path (c.in_ok-path.ensures ∙ c.in-Some.is) _ (state_of_list c.args.self.now) _ _
    (sym (λ i. resize_checks ((c.seen-here.ensures ∙ ap (seen_at (kind_at c.args.self.now.entries)) c.names.ensures) i) c.args.size (c.is_full.ensures i)) ∙ sym c.resize_checks.ensures ∙ c.in_default-resize_checks.is)
    (goes_on c.args.size _ (state_of_list c.args.self.now) (aged (bytes_changed c.in-Some.path (resized_bytes c.args.size)) (state_of_list c.args.self.now)) _ (λ e. c.if-size-size_of.false (e ∙ sym same))
    (same_state c.args.self.now c.self.inside.entries.items c.resize_at.new.entries.items c.self.inside.age (bytes_changed c.in-Some.path (resized_bytes c.args.size)) (ap (λ (l : ListedEntries). l.entries) c.self.view_is) (ap (λ (l : ListedEntries). l.age) c.self.view_is)
    (λ q. c.in_ok-resize_at.ensures.ok q ∙ ap (λ names. bytes_changed names (resized_bytes c.args.size) (kind_at c.self.inside.entries.items) q) c.names-2.ensures)))
