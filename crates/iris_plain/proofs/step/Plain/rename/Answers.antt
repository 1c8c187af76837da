use Rattle.std.proofs.Common.{sym, ◌∙◌, ap, refl}
use Rattle.iris_name.specs.Paths.{names_of}
use Rattle.iris_plain.specs.Routes.{is_top, is_front}
use Rattle.iris_plain.specs.Checks.{move_checks, no_place, is_full, on_names}
use Rattle.iris_plain.specs.Files.{seen_at, shifted}
use Rattle.iris_plain.specs.Entries.{kind_at, state_of_list, ListedEntries}
use Rattle.iris_plain.specs.Steps.{aged, by_names}
use Rattle.iris_plain.proofs.StepLaws.{judged_err, judged_ok, next_err, next_ok, same_state, top_len}
use Rattle.iris_plain.proofs.step.Plain.rename.Goals as goal

pub returns-in-Some-move_checks-clause-reply : goal.returns-in-Some-move_checks-clause-reply
returns-in-Some-move_checks-clause-reply c = judged_err (names_of c.args.from.now) c.in-Some.from (c.in_ok-from.ensures ∙ c.in-Some.is) _ _ c.in-Some-move_checks.error
    (ap (λ o. on_names o (λ news. move_checks (is_top c.in-Some.from) (seen_at (kind_at c.args.self.now.entries) c.in-Some.from) (is_front c.in-Some.from news) (no_place (seen_at (kind_at c.args.self.now.entries)) (is_full c.args.self.now.age) news))) (c.in_ok-to.ensures ∙ c.in-Some-2.is)
    ∙ sym (λ i. move_checks ((c.is_empty.ensures ∙ top_len c.names-olds.result.now ∙ ap is_top c.names-olds.ensures) i) ((c.seen.ensures ∙ ap (seen_at (kind_at c.args.self.now.entries)) c.names-olds.ensures) i)
    ((c.is_below.ensures ∙ (λ j. is_front (c.names-olds.ensures j) (c.names-news.ensures j))) i) ((c.new_at-new.ensures ∙ ap (no_place (seen_at (kind_at c.args.self.now.entries)) (is_full c.args.self.now.age)) c.names-news.ensures) i))
    ∙ sym c.move_checks.ensures ∙ c.in-Some-move_checks.is)

pub returns-in-Some-move_checks-clause-step : goal.returns-in-Some-move_checks-clause-step
returns-in-Some-move_checks-clause-step c = next_err (names_of c.args.from.now) c.in-Some.from (c.in_ok-from.ensures ∙ c.in-Some.is) _ (state_of_list c.args.self.now) _ c.in-Some-move_checks.error
    (ap (λ o. on_names o (λ news. move_checks (is_top c.in-Some.from) (seen_at (kind_at c.args.self.now.entries) c.in-Some.from) (is_front c.in-Some.from news) (no_place (seen_at (kind_at c.args.self.now.entries)) (is_full c.args.self.now.age) news))) (c.in_ok-to.ensures ∙ c.in-Some-2.is)
    ∙ sym (λ i. move_checks ((c.is_empty.ensures ∙ top_len c.names-olds.result.now ∙ ap is_top c.names-olds.ensures) i) ((c.seen.ensures ∙ ap (seen_at (kind_at c.args.self.now.entries)) c.names-olds.ensures) i)
    ((c.is_below.ensures ∙ (λ j. is_front (c.names-olds.ensures j) (c.names-news.ensures j))) i) ((c.new_at-new.ensures ∙ ap (no_place (seen_at (kind_at c.args.self.now.entries)) (is_full c.args.self.now.age)) c.names-news.ensures) i))
    ∙ sym c.move_checks.ensures ∙ c.in-Some-move_checks.is)

pub returns-clause-reply : goal.returns-clause-reply
returns-clause-reply c = judged_ok (names_of c.args.from.now) c.in-Some.from (c.in_ok-from.ensures ∙ c.in-Some.is) _ _ _
    (ap (λ o. on_names o (λ news. move_checks (is_top c.in-Some.from) (seen_at (kind_at c.args.self.now.entries) c.in-Some.from) (is_front c.in-Some.from news) (no_place (seen_at (kind_at c.args.self.now.entries)) (is_full c.args.self.now.age) news))) (c.in_ok-to.ensures ∙ c.in-Some-2.is)
    ∙ sym (λ i. move_checks ((c.is_empty.ensures ∙ top_len c.names-olds.result.now ∙ ap is_top c.names-olds.ensures) i) ((c.seen.ensures ∙ ap (seen_at (kind_at c.args.self.now.entries)) c.names-olds.ensures) i)
    ((c.is_below.ensures ∙ (λ j. is_front (c.names-olds.ensures j) (c.names-news.ensures j))) i) ((c.new_at-new.ensures ∙ ap (no_place (seen_at (kind_at c.args.self.now.entries)) (is_full c.args.self.now.age)) c.names-news.ensures) i))
    ∙ sym c.move_checks.ensures ∙ c.in_default-move_checks.is) refl

pub returns-clause-step : goal.returns-clause-step
returns-clause-step c = next_ok (names_of c.args.from.now) c.in-Some.from (c.in_ok-from.ensures ∙ c.in-Some.is) _ (state_of_list c.args.self.now) _ _
    (ap (λ o. on_names o (λ news. move_checks (is_top c.in-Some.from) (seen_at (kind_at c.args.self.now.entries) c.in-Some.from) (is_front c.in-Some.from news) (no_place (seen_at (kind_at c.args.self.now.entries)) (is_full c.args.self.now.age) news))) (c.in_ok-to.ensures ∙ c.in-Some-2.is)
    ∙ sym (λ i. move_checks ((c.is_empty.ensures ∙ top_len c.names-olds.result.now ∙ ap is_top c.names-olds.ensures) i) ((c.seen.ensures ∙ ap (seen_at (kind_at c.args.self.now.entries)) c.names-olds.ensures) i)
    ((c.is_below.ensures ∙ (λ j. is_front (c.names-olds.ensures j) (c.names-news.ensures j))) i) ((c.new_at-new.ensures ∙ ap (no_place (seen_at (kind_at c.args.self.now.entries)) (is_full c.args.self.now.age)) c.names-news.ensures) i))
    ∙ sym c.move_checks.ensures ∙ c.in_default-move_checks.is)
    (same_state c.args.self.now c.self.inside.entries.items c.shift.new.entries.items c.self.inside.age (shifted c.in-Some.from c.in-Some-2.to) (ap (λ (l : ListedEntries). l.entries) c.self.view_is) (ap (λ (l : ListedEntries). l.age) c.self.view_is)
    (λ q. c.in_ok-shift.ensures.ok q ∙ (λ i. shifted (c.names-olds.ensures i) (c.names-news.ensures i) (kind_at c.self.inside.entries.items) q))
    ∙ sym (ap (λ o. by_names (state_of_list c.args.self.now) o (λ news. aged (shifted c.in-Some.from news) (state_of_list c.args.self.now))) (c.in_ok-to.ensures ∙ c.in-Some-2.is)))
