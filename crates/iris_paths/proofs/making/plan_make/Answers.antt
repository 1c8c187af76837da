use Rattle.std.proofs.Common.{◌∙◌, false, ap, sym, subst}
use Rattle.std.proofs.lemmas.Result.{err_from_is_err_and}
use Rattle.iris_plain.specs.Checks.{no_place}
use Rattle.iris_plain.specs.Routes.{last}
use Rattle.iris_paths.specs.declared.entering.Place.TheVariants.{In}
use Rattle.iris_paths.specs.Pictured.{IsOnTrail, IsPathShort, every}
use Rattle.iris_paths.specs.Making.{IsNew}
use Rattle.iris_paths.specs.Entering.{IsDestination}
use Rattle.iris_paths.proofs.Judging.{lack_short}
use Rattle.iris_paths.proofs.Welcome.{last_at}
use Rattle.iris_paths.proofs.Made.{makes, make_lacks, entry_is}
use Rattle.iris_paths.proofs.making.plan_make.Goals as goal

pub returns-in_err-dir-clause-short : goal.returns-in_err-dir-clause-short
returns-in_err-dir-clause-short c =
    let p = err_from_is_err_and c.from_residual.result c.from_residual.ensures.1 in
    let key = c.args.keys.now.order in
    let d = c.args.draft.now in
    let w = c.args.cache.now in
    let e = c.in_err-dir.field-0.0 in
    rw (p.1, p.2) (subst (λ l. IsPathShort key (IsNew c.args.id) (IsOnTrail key l) d w e) c.names-names.ensures
    (lack_short key every (IsNew c.args.id) (IsOnTrail key c.names-names.result.now) (IsOnTrail key c.names-names.result.now) d w e (λ _ _ _. tt) (λ _ _ k. k) (c.in_err-dir.ensures.short key)))

pub returns-in-Not-clause-verdict : goal.returns-in-Not-clause-verdict
returns-in-Not-clause-verdict c = λ met old new pic.
    let place = subst (IsDestination c.args.draft.now c.args.cache.now c.names-names.result.now) c.in-Not.is c.in_ok-dir.ensures.place in
    sym (ap (no_place met false) (sym c.names-names.ensures) ∙ place c.args.keys.now.order met old new pic)

pub returns-in_err-plan_insert-clause-short : goal.returns-in_err-plan_insert-clause-short
returns-in_err-plan_insert-clause-short c =
    let p = err_from_is_err_and c.from_residual-in_err-plan_insert.result c.from_residual-in_err-plan_insert.ensures.1 in
    let key = c.args.keys.now.order in
    let d = c.args.draft.now in
    let w = c.args.cache.now in
    let place = subst (λ l. IsDestination d w l (In c.in-In.dir)) c.names-names.ensures (subst (IsDestination d w c.names-names.result.now) c.in-In.is c.in_ok-dir.ensures.place) in
    let inside = subst (IsDestination d w c.names-names.result.now) c.in-In.is c.in_ok-dir.ensures.place in
    let label = ap (λ v. v.name) c.in_ok-node.ensures ∙ (c.index-names-names.is ∙ (last_at c.names-names.result.now c.index-names-names.result inside.1 ∙ ap last c.names-names.ensures)) in
    rw (p.1, p.2) (make_lacks key d w c.args.path.now c.args.id c.in-In.dir c.args.dir place c.in_ok-node.node.name c.in_err-plan_insert.field-0.0 label c.in_err-plan_insert.ensures.short)

pub returns-clause-verdict : goal.returns-clause-verdict
returns-clause-verdict c = λ met old new pic.
    let place = subst (IsDestination c.args.draft.now c.args.cache.now c.names-names.result.now) c.in-In.is c.in_ok-dir.ensures.place in
    sym (ap (no_place met false) (sym c.names-names.ensures) ∙ (place.2 c.args.keys.now.order met old new pic).allowed)

pub returns-clause-made : goal.returns-clause-made
returns-clause-made c = λ _.
    let key = c.args.keys.now.order in
    let d = c.args.draft.now in
    let w = c.args.cache.now in
    let place = subst (λ l. IsDestination d w l (In c.in-In.dir)) c.names-names.ensures (subst (IsDestination d w c.names-names.result.now) c.in-In.is c.in_ok-dir.ensures.place) in
    let inside = subst (IsDestination d w c.names-names.result.now) c.in-In.is c.in_ok-dir.ensures.place in
    let label = c.index-names-names.is ∙ (last_at c.names-names.result.now c.index-names-names.result inside.1 ∙ ap last c.names-names.ensures) in
    makes key d w c.args.path.now c.args.id c.in-In.dir c.args.dir place c.plan_insert.new.draft c.in_ok-node.node
    (entry_is c.in_ok-node.node c.args.id c.index-names-names.result (last c.args.path.now) c.fresh_body.result c.args.dir c.in_ok-node.ensures label c.fresh_body.ensures.value) c.in_ok-plan_insert.ensures.inserted
