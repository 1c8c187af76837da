use Rattle.std.proofs.Common.{◌∙◌, sym}
use Rattle.std.proofs.lemmas.Result.{err_from_is_err_and, IfOk-weaker}
use Rattle.iris_name.specs.declared.request.Request.TheVariants.{Resize}
use Rattle.iris_requests.proofs.LengthsChanged.{resize_nowhere}
use Rattle.iris_requests.proofs.NeededNames.{memory_short}
use Rattle.iris_requests.proofs.files.plan_resize_at.Goals as goal

pub returns-in_err-path_of-clause-short : goal.returns-in_err-path_of-clause-short
returns-in_err-path_of-clause-short c =
    let p = err_from_is_err_and c.from_residual.result c.from_residual.ensures.1 in
    rw (p.1, p.2) (memory_short c.args.keys.now (Resize c.args.path.now c.args.length) c.args.cache.now c.args.blocks.now c.args.counters c.in_err-path_of.field-0.0 c.in_err-path_of.ensures.short)

pub returns-in-None-clause-leads : goal.returns-in-None-clause-leads
returns-in-None-clause-leads c =
    resize_nowhere c.args.keys.now.order c.args.path.now c.args.cache.now c.args.blocks.now c.args.counters c.args.length c.requires c.refused.result c.refused.ensures (sym c.in_ok-path_of.ensures.path ∙ c.in-None.is)

pub returns-in-Some-clause-leads : goal.returns-in-Some-clause-leads
returns-in-Some-clause-leads c = IfOk-weaker c.resize_at.result _ _ (λ p h. h c.args.keys.now.order c.args.path.now (sym c.in_ok-path_of.ensures.path ∙ c.in-Some.is)) c.resize_at.ensures.leads
