use Rattle.std.proofs.lemmas.Result.{err_from_is_err_and}
use Rattle.iris_requests.proofs.NewRows.{new_answers, new_short}
use Rattle.iris_requests.proofs.rows.plan_row.Goals as goal

pub returns-in_err-error-clause-short : goal.returns-in_err-error-clause-short
returns-in_err-error-clause-short c =
    let p = err_from_is_err_and c.from_residual.result c.from_residual.ensures.1 in
    rw (p.1, p.2) (λ b text e.
    new_short c.args.keys.now c.args.dir text c.args.path.now c.args.cache.now b c.args.counters e c.requires.some c.new-draft.result c.in_err-error.field-0.0 c.new-draft.ensures c.in_err-error.ensures.short)

pub returns-clause-leads : goal.returns-clause-leads
returns-clause-leads c = λ b text e.
    new_answers c.args.keys.now.order c.args.dir text c.args.path.now c.args.cache.now b c.args.counters c.grown.result e c.grown.ensures.next c.grown.ensures.age
    c.in_ok-error.error c.new-draft.result c.plan_make.new.draft c.changed.result c.new-draft.ensures c.changed.ensures c.in_ok-error.ensures.verdict c.in_ok-error.ensures.made
