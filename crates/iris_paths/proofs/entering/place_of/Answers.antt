use Rattle.std.proofs.Common.{◌<◌, ◌∷◌, [], length, subst, arith}
use Rattle.std.proofs.lemmas.Grind.{common_steps}
use Rattle.std.proofs.lemmas.Result.{err_from_is_err_and}
use Rattle.iris_plain.specs.Routes.{last}
use Rattle.iris_paths.specs.declared.entering.Place.TheVariants.{Not}
use Rattle.iris_paths.specs.Pictured.{IsOnTrail, IsPathLack, every}
use Rattle.iris_paths.specs.Entering.{IsEntered}
use Rattle.iris_paths.proofs.Welcome.{ends, lack_more, no_above}
use Rattle.iris_paths.proofs.entering.place_of.Goals as goal

pub returns-in_err-dir-clause-short : goal.returns-in_err-dir-clause-short
returns-in_err-dir-clause-short c =
    let p = err_from_is_err_and c.from_residual.result c.from_residual.ensures.1 in
    let some : 0 < length c.args.names.now = grind (arith, common_steps) in
    let e = c.in_err-dir.field-0.0 in
    rw (p.1, p.2) (λ key. lack_more key _ (last c.args.names.now ∷ []) c.args.names.now c.args.draft.now c.args.cache.now e (ends c.args.names.now some)
    (subst (λ l. IsPathLack key every (IsOnTrail key l) c.args.draft.now c.args.cache.now e) c.above.ensures (c.in_err-dir.ensures.short key)))

pub returns-in-Not-clause-place : goal.returns-in-Not-clause-place
returns-in-Not-clause-place c =
    let some : 0 < length c.args.names.now = grind (arith, common_steps) in
    let d = c.args.draft.now in
    let w = c.args.cache.now in
    no_above d w c.args.names.now c.in-Not.error some (subst (λ l. IsEntered d w l (Not c.in-Not.error)) c.above.ensures (subst (IsEntered d w c.above.result.now) c.in-Not.is c.in_ok-dir.ensures.entered))
