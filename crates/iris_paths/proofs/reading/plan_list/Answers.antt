use Rattle.std.proofs.Common.{◌∙◌, ap, sym, subst, inl}
use Rattle.std.proofs.lemmas.Result.{err_from_is_err_and}
use Rattle.iris_paths.specs.declared.entering.Place.TheVariants.{In}
use Rattle.iris_paths.specs.Pictured.{IsOnTrail, IsPathShort, every}
use Rattle.iris_paths.specs.Listing.{IsListed}
use Rattle.iris_paths.specs.Entering.{no_directory, IsEntered}
use Rattle.iris_paths.proofs.Judging.{refused, lack_short, lists, page_lacks}
use Rattle.iris_paths.proofs.reading.plan_list.Goals as goal

pub returns-in_err-dir-clause-short : goal.returns-in_err-dir-clause-short
returns-in_err-dir-clause-short c =
    let p = err_from_is_err_and c.from_residual.result c.from_residual.ensures.1 in
    rw (p.1, p.2) (λ key. subst (λ l. IsPathShort key every (IsListed key l c.args.after.now) c.args.draft.now c.args.cache.now c.in_err-dir.field-0.0) c.names.ensures
    (lack_short key every every (IsOnTrail key c.names.result.now) (IsListed key c.names.result.now c.args.after.now) c.args.draft.now c.args.cache.now c.in_err-dir.field-0.0 (λ _ _ k. k) (λ t n k. inl k) (c.in_err-dir.ensures.short key)))

pub returns-in_err-names-in-In-clause-short : goal.returns-in_err-names-in-In-clause-short
returns-in_err-names-in-In-clause-short c =
    let p = err_from_is_err_and c.from_residual-in_err-names-in-In.result c.from_residual-in_err-names-in-In.ensures.1 in
    let d = c.args.draft.now in
    let w = c.args.cache.now in
    let entered = subst (λ l. IsEntered d w l (In c.in-In.dir)) c.names.ensures (subst (IsEntered d w c.names.result.now) c.in-In.is c.in_ok-dir.ensures.entered) in
    rw (p.1, p.2) (λ key. page_lacks d w c.args.path.now c.in-In.dir c.args.after.now c.in_err-names-in-In.field-0.0 key entered (c.in_err-names-in-In.ensures.short key))

pub returns-in_ok-names-in-In-clause-reply : goal.returns-in_ok-names-in-In-clause-reply
returns-in_ok-names-in-In-clause-reply c =
    let d = c.args.draft.now in
    let w = c.args.cache.now in
    let entered = subst (λ l. IsEntered d w l (In c.in-In.dir)) c.names.ensures (subst (IsEntered d w c.names.result.now) c.in-In.is c.in_ok-dir.ensures.entered) in
    lists d w c.args.path.now c.in-In.dir c.args.after.now c.in_ok-names-in-In.names entered c.in_ok-names-in-In.ensures.page

pub returns-in-Not-clause-reply : goal.returns-in-Not-clause-reply
returns-in-Not-clause-reply c = λ key met old new pic.
    let entered = subst (IsEntered c.args.draft.now c.args.cache.now c.names.result.now) c.in-Not.is c.in_ok-dir.ensures.entered in
    refused _ c.in-Not.error _ (ap (λ l. no_directory (met l)) (sym c.names.ensures) ∙ entered key met old new pic)
