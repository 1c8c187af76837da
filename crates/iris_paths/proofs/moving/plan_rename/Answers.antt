use Rattle.std.proofs.Common.{◌∙◌, ap, sym, subst, false, inl, inr}
use Rattle.std.proofs.lemmas.Result.{err_from_is_err_and}
use Rattle.iris_plain.specs.Checks.{no_place}
use Rattle.iris_plain.specs.Routes.{last}
use Rattle.iris_paths.specs.declared.entering.Place.TheVariants.{In, Not}
use Rattle.iris_paths.specs.Pictured.{IsOnTrail, IsPathLack, every}
use Rattle.iris_paths.specs.Entering.{IsDestination}
use Rattle.iris_paths.specs.Moving.{IsSource, IsCarryShort}
use Rattle.iris_paths.proofs.Welcome.{last_at}
use Rattle.iris_paths.proofs.Moved.{trail_lacks, move_lacks, rest_of_checks, moves}
use Rattle.iris_paths.proofs.moving.plan_rename.Goals as goal

pub returns-in_err-dir-clause-short : goal.returns-in_err-dir-clause-short
returns-in_err-dir-clause-short c =
    let p = err_from_is_err_and c.from_residual.result c.from_residual.ensures.1 in
    let key = c.args.keys.now.order in
    let d = c.args.draft.now in
    let w = c.args.cache.now in
    let e = c.in_err-dir.field-0.0 in
    rw (p.1, p.2) (trail_lacks key c.args.from.now c.args.to.now c.args.from.now d w e (λ t n h. inl h) (subst (λ l. IsPathLack key every (IsOnTrail key l) d w e) c.names-olds.ensures (c.in_err-dir.ensures.short key)))

pub returns-in-Not-clause-verdict : goal.returns-in-Not-clause-verdict
returns-in-Not-clause-verdict c = λ met old new pic.
    let d = c.args.draft.now in
    let w = c.args.cache.now in
    let here = subst (IsSource d w c.names-olds.result.now c.names-news.result.now) c.in-Not.is c.in_ok-dir.ensures.source in
    let source = subst (λ m. IsSource d w c.args.from.now m (Not c.in-Not.error)) c.names-news.ensures (subst (λ l. IsSource d w l c.names-news.result.now (Not c.in-Not.error)) c.names-olds.ensures here) in
    sym (source c.args.keys.now.order met old new pic (no_place met false c.args.to.now))

pub returns-in_err-dir-2-clause-short : goal.returns-in_err-dir-2-clause-short
returns-in_err-dir-2-clause-short c =
    let p = err_from_is_err_and c.from_residual-in_err-dir-2.result c.from_residual-in_err-dir-2.ensures.1 in
    let key = c.args.keys.now.order in
    let d = c.args.draft.now in
    let w = c.args.cache.now in
    let e = c.in_err-dir-2.field-0.0 in
    rw (p.1, p.2) (trail_lacks key c.args.from.now c.args.to.now c.args.to.now d w e (λ t n h. inr (inl h)) (subst (λ l. IsPathLack key every (IsOnTrail key l) d w e) c.names-news.ensures (c.in_err-dir-2.ensures.short key)))

pub returns-in-Not-2-clause-verdict : goal.returns-in-Not-2-clause-verdict
returns-in-Not-2-clause-verdict c = λ met old new pic.
    let key = c.args.keys.now.order in
    let d = c.args.draft.now in
    let w = c.args.cache.now in
    let here = subst (IsSource d w c.names-olds.result.now c.names-news.result.now) c.in-In.is c.in_ok-dir.ensures.source in
    let source = subst (λ m. IsSource d w c.args.from.now m (In c.in-In.dir)) c.names-news.ensures (subst (λ l. IsSource d w l c.names-news.result.now (In c.in-In.dir)) c.names-olds.ensures here) in
    let place = subst (λ l. IsDestination d w l (Not c.in-Not-2.error)) c.names-news.ensures (subst (IsDestination d w c.names-news.result.now) c.in-Not-2.is c.in_ok-dir-2.ensures.place) in
    sym (rest_of_checks key met c.args.from.now c.args.to.now c.in-In.dir d w old new (no_place met false c.args.to.now) source pic ∙ place key met old new pic)

pub returns-in_err-carry-clause-short : goal.returns-in_err-carry-clause-short
returns-in_err-carry-clause-short c =
    let p = err_from_is_err_and c.from_residual-in_err-carry.result c.from_residual-in_err-carry.ensures.1 in
    let key = c.args.keys.now.order in
    let d = c.args.draft.now in
    let w = c.args.cache.now in
    let e = c.in_err-carry.field-0.0 in
    let here = subst (IsSource d w c.names-olds.result.now c.names-news.result.now) c.in-In.is c.in_ok-dir.ensures.source in
    let source = subst (λ m. IsSource d w c.args.from.now m (In c.in-In.dir)) c.names-news.ensures (subst (λ l. IsSource d w l c.names-news.result.now (In c.in-In.dir)) c.names-olds.ensures here) in
    let there = subst (IsDestination d w c.names-news.result.now) c.in-In-2.is c.in_ok-dir-2.ensures.place in
    let place = subst (λ l. IsDestination d w l (In c.in-In-2.dir)) c.names-news.ensures there in
    let name = c.index-olds-olds.is ∙ (last_at c.names-olds.result.now c.index-olds-olds.result here.1 ∙ ap last c.names-olds.ensures) in
    let label = c.index-news-news.is ∙ (last_at c.names-news.result.now c.index-news-news.result there.1 ∙ ap last c.names-news.ensures) in
    rw (p.1, p.2) (move_lacks key c.args.from.now c.args.to.now c.in-In.dir c.in-In-2.dir d w e source place
    (subst (λ m. IsCarryShort key c.in-In.dir (last c.args.from.now) c.in-In-2.dir m d w e) label (subst (λ l. IsCarryShort key c.in-In.dir l c.in-In-2.dir c.index-news-news.result d w e) name c.in_err-carry.ensures.short)))

pub returns-clause-verdict : goal.returns-clause-verdict
returns-clause-verdict c = λ met old new pic.
    let key = c.args.keys.now.order in
    let d = c.args.draft.now in
    let w = c.args.cache.now in
    let here = subst (IsSource d w c.names-olds.result.now c.names-news.result.now) c.in-In.is c.in_ok-dir.ensures.source in
    let source = subst (λ m. IsSource d w c.args.from.now m (In c.in-In.dir)) c.names-news.ensures (subst (λ l. IsSource d w l c.names-news.result.now (In c.in-In.dir)) c.names-olds.ensures here) in
    let place = subst (λ l. IsDestination d w l (In c.in-In-2.dir)) c.names-news.ensures (subst (IsDestination d w c.names-news.result.now) c.in-In-2.is c.in_ok-dir-2.ensures.place) in
    sym (rest_of_checks key met c.args.from.now c.args.to.now c.in-In.dir d w old new (no_place met false c.args.to.now) source pic ∙ (place.2 key met old new pic).allowed)

pub returns-clause-moved : goal.returns-clause-moved
returns-clause-moved c = λ _.
    let key = c.args.keys.now.order in
    let d = c.args.draft.now in
    let w = c.args.cache.now in
    let here = subst (IsSource d w c.names-olds.result.now c.names-news.result.now) c.in-In.is c.in_ok-dir.ensures.source in
    let source = subst (λ m. IsSource d w c.args.from.now m (In c.in-In.dir)) c.names-news.ensures (subst (λ l. IsSource d w l c.names-news.result.now (In c.in-In.dir)) c.names-olds.ensures here) in
    let there = subst (IsDestination d w c.names-news.result.now) c.in-In-2.is c.in_ok-dir-2.ensures.place in
    let place = subst (λ l. IsDestination d w l (In c.in-In-2.dir)) c.names-news.ensures there in
    let name = c.index-olds-olds.is ∙ (last_at c.names-olds.result.now c.index-olds-olds.result here.1 ∙ ap last c.names-olds.ensures) in
    let label = c.index-news-news.is ∙ (last_at c.names-news.result.now c.index-news-news.result there.1 ∙ ap last c.names-news.ensures) in
    moves key c.args.from.now c.args.to.now c.in-In.dir c.in-In-2.dir d c.carry.new.draft w source place c.index-olds-olds.result c.index-news-news.result name label c.in_ok-carry.ensures.carried
