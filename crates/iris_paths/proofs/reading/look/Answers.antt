use Rattle.std.proofs.Common.{sym, subst}
use Rattle.std.proofs.lemmas.Result.{err_from_is_err_and}
use Rattle.iris_paths.specs.Pictured.{IsOnTrail, IsPathLack, every}
use Rattle.iris_paths.proofs.Arriving.{comes, comes_once, meets_so}
use Rattle.iris_paths.proofs.reading.look.Goals as goal

pub returns-in_err-found-clause-short : goal.returns-in_err-found-clause-short
returns-in_err-found-clause-short c =
    let p = err_from_is_err_and c.from_residual.result c.from_residual.ensures.1 in
    rw (p.1, p.2) (λ key. subst (λ l. IsPathLack key every (IsOnTrail key l) c.args.draft.now c.args.cache.now c.in_err-found.field-0.0) c.names.ensures (c.in_err-found.ensures.short key))

pub returns-clause-found : goal.returns-clause-found
returns-clause-found c = λ key met old new pic.
    let follows = rw c.names.ensures at c.in_ok-found.ensures.follows in
    (comes key met c.args.draft.now c.args.cache.now old new pic c.args.path.now c.in_ok-found.found (λ more f l. (follows key met old new more f pic l).0)).0

pub returns-clause-one : goal.returns-clause-one
returns-clause-one c = λ key met old new pic.
    let follows = rw c.names.ensures at c.in_ok-found.ensures.follows in
    comes_once key met c.args.draft.now c.args.cache.now old new pic c.args.path.now c.in_ok-found.found (λ more f l. (follows key met old new more f pic l).0)

pub returns-clause-met : goal.returns-clause-met
returns-clause-met c =
    let follows = rw c.names.ensures at c.in_ok-found.ensures.follows in
    meets_so c.args.draft.now c.args.cache.now c.args.path.now c.in_ok-found.found c.seen_at-here.result follows c.in_ok-found.ensures.there (sym c.seen_at-here.ensures)
