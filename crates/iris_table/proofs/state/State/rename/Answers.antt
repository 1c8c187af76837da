use Rattle.std.proofs.Common.{sym, ◌∙◌, ap}
use Rattle.iris_name.specs.Paths.{names_of}
use Rattle.iris_plain.specs.Routes.{is_top, is_front}
use Rattle.iris_plain.specs.Checks.{on_names, no_place, is_full, move_checks}
use Rattle.iris_plain.proofs.StepLaws.{judged_err, top_len, next_err}
use Rattle.iris_rows.specs.Changes.{seen_in}
use Rattle.iris_table.specs.Served.{table_in}
use Rattle.iris_table.proofs.state.State.rename.Goals as goal

pub returns-in-Some-move_checks-clause-reply : goal.returns-in-Some-move_checks-clause-reply
returns-in-Some-move_checks-clause-reply c = let t = table_in c.args.self.now in
    judged_err (names_of c.args.from.now) c.in-Some.from (c.in_ok-from.ensures ∙ c.in-Some.is) _ _ c.in-Some-move_checks.error
    (ap (λ o. on_names o (λ news. move_checks (is_top c.in-Some.from) (seen_in t c.in-Some.from) (is_front c.in-Some.from news) (no_place (seen_in t) (is_full c.args.self.now.age) news))) (c.in_ok-to.ensures ∙ c.in-Some-2.is)
    ∙ sym (λ i. move_checks ((c.is_empty.ensures ∙ top_len c.names-olds.result.now ∙ ap is_top c.names-olds.ensures) i) ((c.seen.ensures ∙ ap (seen_in t) c.names-olds.ensures) i)
    ((c.is_below.ensures ∙ (λ j. is_front (c.names-olds.ensures j) (c.names-news.ensures j))) i) ((c.new_at-new.ensures ∙ ap (no_place (seen_in t) (is_full c.args.self.now.age)) c.names-news.ensures) i))
    ∙ sym c.move_checks.ensures ∙ c.in-Some-move_checks.is)

pub returns-in-Some-move_checks-clause-step : goal.returns-in-Some-move_checks-clause-step
returns-in-Some-move_checks-clause-step c = let t = table_in c.args.self.now in
    next_err (names_of c.args.from.now) c.in-Some.from (c.in_ok-from.ensures ∙ c.in-Some.is) _ t _ c.in-Some-move_checks.error
    (ap (λ o. on_names o (λ news. move_checks (is_top c.in-Some.from) (seen_in t c.in-Some.from) (is_front c.in-Some.from news) (no_place (seen_in t) (is_full c.args.self.now.age) news))) (c.in_ok-to.ensures ∙ c.in-Some-2.is)
    ∙ sym (λ i. move_checks ((c.is_empty.ensures ∙ top_len c.names-olds.result.now ∙ ap is_top c.names-olds.ensures) i) ((c.seen.ensures ∙ ap (seen_in t) c.names-olds.ensures) i)
    ((c.is_below.ensures ∙ (λ j. is_front (c.names-olds.ensures j) (c.names-news.ensures j))) i) ((c.new_at-new.ensures ∙ ap (no_place (seen_in t) (is_full c.args.self.now.age)) c.names-news.ensures) i))
    ∙ sym c.move_checks.ensures ∙ c.in-Some-move_checks.is)
