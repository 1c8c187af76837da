use Rattle.std.proofs.Common.{◌∙◌, ap, sym}
use Rattle.iris_plain.specs.Checks.{unresolved}
use Rattle.iris_paths.proofs.Judging.{refused, accepted, stat_is}
use Rattle.iris_paths.proofs.reading.plan_stat.Goals as goal

pub returns-in-Some-clause-reply : goal.returns-in-Some-clause-reply
returns-in-Some-clause-reply c = λ key met old new pic.
    let e = c.in_ok-here.ensures.met key met old new pic in
    refused _ c.in-Some.error _ (ap unresolved e ∙ sym c.stat_checks.ensures ∙ c.in-Some.is)

pub returns-in-None-clause-reply : goal.returns-in-None-clause-reply
returns-in-None-clause-reply c = λ key met old new pic.
    let e = c.in_ok-here.ensures.met key met old new pic in
    accepted _ _ _ (ap unresolved e ∙ sym c.stat_checks.ensures ∙ c.in-None.is) (stat_is c.is_dir.result c.size_of.result c.in_ok-here.here (met c.args.path.now) c.is_dir.ensures c.size_of.ensures e)
