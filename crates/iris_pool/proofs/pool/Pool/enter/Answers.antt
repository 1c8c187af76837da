use Rattle.std.proofs.Common.{ap, sym, subst, ◌∙◌}
use Rattle.std.specs.List.{list_any}
use Rattle.iris_name.specs.Names.{same_name}
use Rattle.iris_pool.specs.Changes.{Entered, HoldsAlike, IsIdle}
use Rattle.iris_pool.specs.Pool.{PoolState}
use Rattle.iris_pool.specs.View.{pool_view}
use Rattle.iris_pool.proofs.Entering.{Enters, entered_alike, entered_event, entered_pool, names_on_desk}
use Rattle.iris_pool.proofs.pool.Pool.enter.Goals as goal

abbrev before : goal.After-enter → PoolState
before c = record { nodes = c.self.inside.cache; pages = c.self.inside.blocks; desks = c.self.inside.desks }

abbrev after : goal.After-enter → PoolState
after c = record { nodes = c.unpin_each.new.cache; pages = c.unpin_each.new.blocks; desks = c.enter.new.desks }

idle : (c : goal.After-enter) → IsIdle c.self.inside.desks c.args.who
idle c = subst (λ (v : PoolState). IsIdle v.desks c.args.who) (sym c.self.view_is) c.requires.idle

enters : (c : goal.After-enter) → Enters c.args.who c.kept-kept.result.now (before c) (after c)
enters c = record {
  caller = c.requires.caller;
  kept = ap names_on_desk c.desk.ensures ∙ sym c.kept-kept.ensures.names;
  nodes = c.unpin_each.ensures.nodes;
  pages = c.unpin_each.ensures.pages;
  node_places = c.unpin_each.ensures.node_places;
  page_places = c.unpin_each.ensures.page_places;
  enters = c.enter.ensures.enters;
  callers = c.enter.ensures.callers;
  doomed = λ n. ap (list_any (same_name n)) c.enter.ensures.doomed;
}

pub invariant_of-self : goal.invariant_of-self
invariant_of-self c = entered_pool c.args.who c.kept-kept.result.now (before c) (after c) (idle c) (enters c) c.self.invariant

pub returns-clause-entered : goal.returns-clause-entered
returns-clause-entered c = λ key. subst (λ (v : PoolState). Entered c.args.who (pool_view key v) (pool_view key (after c))) c.self.view_is (entered_event c.args.who c.kept-kept.result.now (before c) (after c) (idle c) (enters c) key)

pub returns-clause-alike : goal.returns-clause-alike
returns-clause-alike c = subst (λ (v : PoolState). HoldsAlike v (after c)) c.self.view_is (entered_alike c.args.who c.kept-kept.result.now (before c) (after c) (idle c) (enters c))
