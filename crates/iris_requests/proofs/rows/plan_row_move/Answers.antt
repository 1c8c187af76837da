use Rattle.std.proofs.lemmas.Result.{err_from_is_err_and}
use Rattle.iris_requests.proofs.MovedRows.{move_answers, move_short}
use Rattle.iris_requests.proofs.rows.plan_row_move.Goals as goal

pub returns-in_err-error-clause-short : goal.returns-in_err-error-clause-short
returns-in_err-error-clause-short c =
    let p = err_from_is_err_and c.from_residual.result c.from_residual.ensures.1 in
    rw (p.1, p.2) (λ b old new e f.
    move_short c.args.keys.now old new c.args.from.now c.args.to.now c.args.cache.now b c.args.counters e f c.requires.some c.new-draft.result c.new-draft.ensures c.in_err-error.field-0.0 c.in_err-error.ensures.short)

pub returns-clause-leads : goal.returns-clause-leads
returns-clause-leads c = λ b old new e f.
    move_answers c.args.keys.now.order old new c.args.cache.now b c.args.counters c.changed.result c.args.from.now c.args.to.now c.aged.result e f c.aged.ensures.next c.aged.ensures.age
    c.in_ok-error.error c.new-draft.result c.plan_rename.new.draft c.new-draft.ensures c.changed.ensures c.in_ok-error.ensures.verdict c.in_ok-error.ensures.moved
