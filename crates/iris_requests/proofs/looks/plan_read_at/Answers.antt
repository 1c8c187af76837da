use Rattle.std.proofs.Common.{◌∙◌, refl, sym, arith}
use Rattle.std.proofs.lemmas.Result.{err_from_is_err_and}
use Rattle.iris_name.specs.declared.request.PlainError.TheVariants.{BadPath, TooMuch}
use Rattle.iris_name.specs.declared.request.Request.TheVariants.{Read}
use Rattle.iris_name.specs.Paths.{names_of}
use Rattle.iris_plain.specs.Checks.{read_checks}
use Rattle.iris_requests.proofs.Answered.{answers_error, answers_unchanged}
use Rattle.iris_requests.proofs.BytesRead.{read_verdict, too_many}
use Rattle.iris_requests.proofs.NeededNames.{memory_short}
use Rattle.iris_requests.proofs.Replies.{bad_path, unchanged_after}
use Rattle.iris_rows.specs.Changes.{seen_in}
use Rattle.iris_requests.proofs.looks.plan_read_at.Goals as goal

pub returns-in_err-path_of-clause-short : goal.returns-in_err-path_of-clause-short
returns-in_err-path_of-clause-short c =
    let p = err_from_is_err_and c.from_residual.result c.from_residual.ensures.1 in
    rw (p.1, p.2) (memory_short c.args.keys.now (Read c.args.path.now c.args.offset c.args.count) c.args.cache.now c.args.blocks.now c.args.counters c.in_err-path_of.field-0.0 c.in_err-path_of.ensures.short)

pub returns-in-None-clause-leads : goal.returns-in-None-clause-leads
returns-in-None-clause-leads c = λ t s.
    answers_error c.args.keys.now.order t c.args.cache.now c.args.blocks.now c.args.counters s (Read c.args.path.now c.args.offset c.args.count) BadPath c.refused.result c.refused.ensures tt
    (bad_path (names_of c.args.path.now) (λ names. read_checks (seen_in t names) c.args.count) (sym c.in_ok-path_of.ensures.path ∙ c.in-None.is))

pub returns-then-count-gt-MOST_BYTES-clause-leads : goal.returns-then-count-gt-MOST_BYTES-clause-leads
returns-then-count-gt-MOST_BYTES-clause-leads c = λ t s.
    let spelled = sym c.in_ok-path_of.ensures.path ∙ c.in-Some.is in
    answers_error c.args.keys.now.order t c.args.cache.now c.args.blocks.now c.args.counters s (Read c.args.path.now c.args.offset c.args.count) TooMuch c.refused-then-count-gt-MOST_BYTES.result c.refused-then-count-gt-MOST_BYTES.ensures tt
    (read_verdict t c.args.path.now c.in-Some.path c.args.offset c.args.count (seen_in t c.in-Some.path) spelled refl ∙ too_many (seen_in t c.in-Some.path) c.args.count (omega arith))

pub returns-in_err-reply-in-Some-clause-short : goal.returns-in_err-reply-in-Some-clause-short
returns-in_err-reply-in-Some-clause-short c =
    let p = err_from_is_err_and c.from_residual-in_err-reply-in-Some.result c.from_residual-in_err-reply-in-Some.ensures.1 in
    rw (p.1, p.2) (c.in_err-reply-in-Some.ensures.short c.args.keys.now c.args.counters c.args.path.now (sym c.in_ok-path_of.ensures.path ∙ c.in-Some.is))

pub returns-in_ok-reply-in-Some-clause-leads : goal.returns-in_ok-reply-in-Some-clause-leads
returns-in_ok-reply-in-Some-clause-leads c = λ t s.
    let request = Read c.args.path.now c.args.offset c.args.count in
    let order = c.args.keys.now.order in
    let reply = c.in_ok-reply-in-Some.reply in
    answers_unchanged order t c.args.cache.now c.args.blocks.now c.args.counters s request reply c.unchanged.result c.unchanged.ensures
    (c.in_ok-reply-in-Some.ensures.replies order t c.args.counters c.args.path.now s (sym c.in_ok-path_of.ensures.path ∙ c.in-Some.is)) (unchanged_after t request reply refl)
