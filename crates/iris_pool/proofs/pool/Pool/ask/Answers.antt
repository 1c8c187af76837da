use Rattle.std.proofs.Common.{ap, sym, subst, ◌∙◌, Some}
use Rattle.std.specs.List.{list_any}
use Rattle.iris_desk.specs.AtDesks.{asked_by}
use Rattle.iris_invariant.specs.Events.{Asked}
use Rattle.iris_name.specs.Names.{same_name}
use Rattle.iris_pool.specs.Changes.{IsIdle}
use Rattle.iris_pool.specs.Pool.{PoolState}
use Rattle.iris_pool.specs.View.{pool_view}
use Rattle.iris_pool.proofs.Entering.{asked_event, asked_pool, here_it}
use Rattle.iris_pool.proofs.pool.Pool.ask.Goals as goal

abbrev before : goal.After-ask → PoolState
before c = record { nodes = c.self.inside.cache; pages = c.self.inside.blocks; desks = c.self.inside.desks }

idle : (c : goal.After-ask) → IsIdle c.self.inside.desks c.args.who
idle c = subst (λ (v : PoolState). IsIdle v.desks c.args.who) (sym c.self.view_is) c.requires.idle

pub invariant_of-self : goal.invariant_of-self
invariant_of-self c = asked_pool c.args.who c.args.request (before c) c.ask.new.desks (idle c) c.ask.ensures.asks c.self.invariant

pub returns-clause-asked : goal.returns-clause-asked
returns-clause-asked c = λ key.
    subst (λ (v : PoolState). Asked c.args.who (pool_view key v) (pool_view key (record { nodes = c.self.inside.cache; pages = c.self.inside.blocks; desks = c.ask.new.desks }))) c.self.view_is
    (asked_event c.args.who c.args.request (before c) c.ask.new.desks (idle c) c.ask.ensures.asks key (λ n. ap (list_any (same_name n)) c.ask.ensures.doomed))

pub returns-clause-request : goal.returns-clause-request
returns-clause-request c = c.ask.ensures.asks.asked c.args.who ∙ here_it c.args.who (Some c.args.request) (asked_by c.self.inside.desks c.args.who)
