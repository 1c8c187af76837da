use Rattle.std.proofs.Common.{◌∙◌, ℕ, refl, sym, inr, subst, Option}
use Rattle.std.specs.Prelude.{IfSome}
use Rattle.iris_name.specs.declared.request.Request.{Request}
use Rattle.iris_script.specs.Script.{LineAsks}
use Rattle.iris_script.proofs.script.read_call.Goals as goal

pub returns-then-not-is_served-clause-err : goal.returns-then-not-is_served-clause-err
returns-then-not-is_served-clause-err g c =
    let asks = subst (λ (o : Option (ℕ × Request)). IfSome o (λ call. LineAsks c.args.line.now call.0 call.1)) c.in-Some.is c.in_ok-read_line.ensures.some in
    (refl, inr (c.in-Some.client, c.in-Some.request, asks, sym c.is_served.ensures ∙ c.if-not-is_served.true))
