use Rattle.std.proofs.Common.{◌≡◌, ◌∙◌, ap, sym, Some, length, arith}
use Rattle.std.proofs.lemmas.Grind.{common_steps}
use Rattle.std.proofs.lemmas.Result.{err_from_is_err_and, IfOk-weaker}
use Rattle.iris_requests.specs.Served.{new_at}
use Rattle.iris_requests.proofs.NeededNames.{memory_short}
use Rattle.iris_requests.proofs.NewRows.{new_nowhere, new_root, no_names}
use Rattle.iris_requests.proofs.rows.plan_new.Goals as goal

pub returns-in_err-path-clause-short : goal.returns-in_err-path-clause-short
returns-in_err-path-clause-short c =
    let p = err_from_is_err_and c.from_residual.result c.from_residual.ensures.1 in
    rw (p.1, p.2) (λ b. memory_short c.args.keys.now (new_at c.args.dir c.args.path.now) c.args.cache.now b c.args.counters c.in_err-path.field-0.0 c.in_err-path.ensures.short)

pub returns-in_default-clause-leads : goal.returns-in_default-clause-leads
returns-in_default-clause-leads c = λ b.
    new_nowhere c.args.keys.now.order c.args.dir c.args.path.now c.args.cache.now b c.args.counters c.refused.result c.refused.ensures (sym c.in_ok-path.ensures.path ∙ c.in_default.is)

pub returns-then-is_empty-clause-leads : goal.returns-then-is_empty-clause-leads
returns-then-is_empty-clause-leads c = λ b.
    let none : length c.in-Some.path ≡ 0 = grind (arith, common_steps) in
    new_root c.args.keys.now.order c.args.dir c.args.path.now c.args.cache.now b c.args.counters c.refused-then-is_empty.result c.refused-then-is_empty.ensures
    (sym c.in_ok-path.ensures.path ∙ c.in-Some.is ∙ ap Some (no_names c.in-Some.path none))

pub returns-clause-leads : goal.returns-clause-leads
returns-clause-leads c = IfOk-weaker c.plan_row.result _ _ (λ p h b. h b c.args.path.now (sym c.in_ok-path.ensures.path ∙ c.in-Some.is)) c.plan_row.ensures.leads
