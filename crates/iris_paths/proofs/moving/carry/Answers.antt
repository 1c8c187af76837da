use Rattle.std.proofs.Common.{ap}
use Rattle.std.proofs.lemmas.Result.{err_from_is_err_and}
use Rattle.iris_paths.proofs.Moved.{carries, carry_lacks}
use Rattle.iris_paths.proofs.moving.carry.Goals as goal

pub returns-in_err-plan_insert-clause-short : goal.returns-in_err-plan_insert-clause-short
returns-in_err-plan_insert-clause-short c =
    let p = err_from_is_err_and c.from_residual-in_err-plan_insert.result c.from_residual-in_err-plan_insert.ensures.1 in
    rw (p.1, p.2) (carry_lacks c.args.keys.now.order c.args.out c.args.name.now c.args.into c.args.label.now c.args.draft.now c.plan_remove.new.draft c.args.cache.now c.in_ok-entry.entry c.in_ok-entry.ensures.removed
    c.in_err-plan_insert.field-0.0 c.in_ok-node.node.name (ap (λ v. v.name) c.in_ok-node.ensures) c.in_err-plan_insert.ensures.short)

pub returns-clause-carried : goal.returns-clause-carried
returns-clause-carried c =
    carries c.args.keys.now.order c.args.out c.args.name.now c.args.into c.args.label.now c.args.draft.now c.plan_remove.new.draft c.args.cache.now c.in_ok-entry.entry c.in_ok-entry.ensures.removed
    c.plan_insert.new.draft c.in_ok-node.node c.in_ok-node.ensures c.in_ok-plan_insert.ensures.inserted
