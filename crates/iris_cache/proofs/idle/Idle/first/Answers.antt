use Rattle.std.proofs.Common.{◌≡◌, true, subst}
use Rattle.std.specs.Prelude.{IfSome}
use Rattle.iris_cache.specs.Idle.{IdleNames, is_idle}
use Rattle.iris_cache.proofs.IdleNodes.{first-named}
use Rattle.iris_cache.proofs.idle.Idle.first.Goals as goal

pub returns-clause-found : goal.returns-clause-found
returns-clause-found c = subst (λ (i : IdleNames). IfSome c.get_index.result (λ n. is_idle i n.now ≡ true)) c.self.view_is (first-named c.get_index.result c.self.inside.names.keys c.get_index.ensures.key)
