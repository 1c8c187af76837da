use Rattle.std.proofs.lemmas.Result.{IfOk-weaker}
use Rattle.iris_paths.proofs.Arriving.{all_come}
use Rattle.iris_paths.proofs.resolving.resolve.Goals as goal

pub returns-clause-found : goal.returns-clause-found
returns-clause-found c = IfOk-weaker c.follow.result _ _ (λ x f key met old new pic. (f key met old new pic).0) (all_come c.args.draft.now c.args.cache.now c.args.path.now c.follow.result (rw c.names.ensures at c.follow.ensures.follows))

pub returns-clause-met : goal.returns-clause-met
returns-clause-met c = IfOk-weaker c.follow.result _ _ (λ x f key met old new pic. (f key met old new pic).1) (all_come c.args.draft.now c.args.cache.now c.args.path.now c.follow.result (rw c.names.ensures at c.follow.ensures.follows))
