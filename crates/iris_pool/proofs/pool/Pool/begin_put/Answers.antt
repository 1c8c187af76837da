use Rattle.std.proofs.Common.{ap, subst, sym, ◌∙◌, Some, None, false}
use Rattle.std.specs.List.{list_any}
use Rattle.iris_desk.specs.AtDesks.{asked_by, out_of}
use Rattle.iris_desk.specs.declared.out.Doing.TheVariants.{Put}
use Rattle.iris_desk.specs.declared.out.Out.{Out}
use Rattle.iris_invariant.specs.Events.{Began}
use Rattle.iris_name.specs.Names.{same_name}
use Rattle.iris_pool.specs.Changes.{HoldsAlike}
use Rattle.iris_pool.specs.Pool.{PoolState}
use Rattle.iris_pool.specs.View.{IsPool, pool_view}
use Rattle.iris_pool.proofs.Begun.{Begun, begun_alike, begun_event, begun_pool}
use Rattle.iris_pool.proofs.Doing.{node_free, page_free}
use Rattle.iris_pool.proofs.OutSeen.{asked_for}
use Rattle.iris_pool.proofs.pool.Pool.begin_put.Goals as goal

pub begin_held-requires-clause-free : goal.begin_held-requires-clause-free
begin_held-requires-clause-free c =
    let p : PoolState = record { nodes = c.self.inside.cache; pages = c.self.inside.blocks; desks = c.self.inside.desks } in
    node_free p c.args.name.now c.self.invariant (ap (λ (v : PoolState). out_of v.desks c.args.name.now) c.self.view_is ∙ c.requires.free)

pub begin_held-requires-clause-free_page : goal.begin_held-requires-clause-free_page
begin_held-requires-clause-free_page c =
    let p : PoolState = record { nodes = c.self.inside.cache; pages = c.self.inside.blocks; desks = c.self.inside.desks } in
    page_free p c.args.name.now c.self.invariant (ap (λ (v : PoolState). out_of v.desks c.args.name.now) c.self.view_is ∙ c.requires.free)

pub invariant_of-self : goal.invariant_of-self
invariant_of-self c = subst (λ d. IsPool (record { nodes = c.self.inside.cache; pages = c.self.inside.blocks; desks = d })) (sym c.in_err-begin.ensures.err) c.self.invariant

abbrev before : goal.After-begin_held → PoolState
before c = record { nodes = c.self.inside.cache; pages = c.self.inside.blocks; desks = c.self.inside.desks }

abbrev after : goal.After-begin_held → PoolState
after c = record { nodes = c.begin_held.new.cache; pages = c.begin_held.new.blocks; desks = c.begin.new.desks }

abbrev out : goal.After-begin_held → Out
out c = record { doing = Put; name = c.args.name.now; since = c.args.since; expect = None; crowded = c.args.crowded; «record» = Some c.args.record_; touched = false }

begun : (c : goal.After-begin_held) → Begun c.args.who (out c) (before c) (after c)
begun c = record {
  nodes = c.begin_held.ensures.nodes;
  pages = c.begin_held.ensures.pages;
  node_places = λ m ne. ap (list_any (same_name m)) c.begin_held.ensures.node_places;
  page_places = λ m ne. ap (list_any (same_name m)) c.begin_held.ensures.page_places;
  begins = c.in_ok-begin.ensures.begins;
  doomed = λ m. ap (list_any (same_name m)) c.begin.ensures.doomed;
  place = λ get. absurd (cc);
}

pub invariant_of-self-2 : goal.invariant_of-self-2
invariant_of-self-2 c = begun_pool c.args.who (out c) (before c) (after c) (begun c) c.self.invariant

pub returns-clause-began : goal.returns-clause-began
returns-clause-began c = λ key.
    subst (λ (v : PoolState). Began c.args.name.now (asked_for key (asked_by v.desks c.args.who) (c.args.who, out c)) (pool_view key v) (pool_view key (after c))) c.self.view_is
    (begun_event c.args.who (out c) (before c) (after c) (begun c) key)

pub returns-clause-alike : goal.returns-clause-alike
returns-clause-alike c = subst (λ (v : PoolState). HoldsAlike v (after c)) c.self.view_is (begun_alike c.args.who (out c) (before c) (after c) (begun c))
