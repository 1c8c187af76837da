use Rattle.std.proofs.Common.{◌≡◌, ◌∙◌, ap, sym, Some, length, arith}
use Rattle.std.proofs.lemmas.Grind.{common_steps}
use Rattle.std.proofs.lemmas.Result.{IfOk-weaker}
use Rattle.iris_requests.proofs.MovedRows.{move_from_nowhere, move_to_nowhere, move_root}
use Rattle.iris_requests.proofs.NewRows.{no_names}
use Rattle.iris_requests.proofs.rows.plan_move.Goals as goal

pub returns-in_default-clause-leads : goal.returns-in_default-clause-leads
returns-in_default-clause-leads c = λ b.
    move_from_nowhere c.args.keys.now.order c.args.from.now c.args.to.now c.args.cache.now b c.args.counters c.refused.result c.refused.ensures (sym c.in_ok-from.ensures.path ∙ c.in_default.is)

pub returns-in_default-2-clause-leads : goal.returns-in_default-2-clause-leads
returns-in_default-2-clause-leads c = λ b.
    move_to_nowhere c.args.keys.now.order c.args.from.now c.args.to.now c.args.cache.now b c.args.counters c.refused-in_default-2.result c.in-Some.from c.refused-in_default-2.ensures
    (sym c.in_ok-from.ensures.path ∙ c.in-Some.is) (sym c.in_ok-to.ensures.path ∙ c.in_default-2.is)

pub returns-then-is_empty-clause-leads : goal.returns-then-is_empty-clause-leads
returns-then-is_empty-clause-leads c = λ b.
    let none : length c.in-Some.from ≡ 0 = grind (arith, common_steps) in
    move_root c.args.keys.now.order c.args.from.now c.args.to.now c.args.cache.now b c.args.counters c.refused-then-is_empty.result c.in-Some-2.to c.refused-then-is_empty.ensures
    (sym c.in_ok-from.ensures.path ∙ c.in-Some.is ∙ ap Some (no_names c.in-Some.from none)) (sym c.in_ok-to.ensures.path ∙ c.in-Some-2.is)

pub returns-clause-leads : goal.returns-clause-leads
returns-clause-leads c = IfOk-weaker c.plan_row_move.result _ _ (λ p h b. h b c.args.from.now c.args.to.now (sym c.in_ok-from.ensures.path ∙ c.in-Some.is) (sym c.in_ok-to.ensures.path ∙ c.in-Some-2.is)) c.plan_row_move.ensures.leads
