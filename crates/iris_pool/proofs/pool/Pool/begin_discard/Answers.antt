use Rattle.std.proofs.Common.{ap, refl, subst, sym, None, false}
use Rattle.std.specs.List.{list_any}
use Rattle.iris_blocks.specs.Held.{begun_page}
use Rattle.iris_cache.specs.Held.{begun_node}
use Rattle.iris_desk.specs.AtDesks.{asked_by}
use Rattle.iris_desk.specs.declared.out.Doing.TheVariants.{Discard}
use Rattle.iris_desk.specs.declared.out.Out.{Out}
use Rattle.iris_desk.specs.Laws.{BeginsFor}
use Rattle.iris_invariant.specs.Events.{Began}
use Rattle.iris_name.specs.Names.{same_name}
use Rattle.iris_pool.specs.Pool.{PoolState, IsAbsentIn}
use Rattle.iris_pool.specs.View.{IsPool, pool_view}
use Rattle.iris_pool.proofs.Begun.{Begun, absent_nodes, absent_pages, begun_event, begun_pool}
use Rattle.iris_pool.proofs.OutSeen.{asked_for}
use Rattle.iris_pool.proofs.Results.{either_way, on_ok}
use Rattle.iris_pool.proofs.pool.Pool.begin_discard.Goals as goal

abbrev before : goal.After-begin → PoolState
before c = record { nodes = c.self.inside.cache; pages = c.self.inside.blocks; desks = c.self.inside.desks }

abbrev after : goal.After-begin → PoolState
after c = record { nodes = c.self.inside.cache; pages = c.self.inside.blocks; desks = c.begin.new.desks }

abbrev out : goal.After-begin → Out
out c = record { doing = Discard; name = c.args.name.now; since = c.args.since; expect = None; crowded = c.args.crowded; «record» = None; touched = false }

begun : (c : goal.After-begin) → BeginsFor c.args.who (out c) c.self.inside.desks c.begin.new.desks → Begun c.args.who (out c) (before c) (after c)
begun c begins =
    let n = c.args.name.now in
    let absent : IsAbsentIn (before c) n = subst (λ (v : PoolState). IsAbsentIn v n) (sym c.self.view_is) c.requires.absent in
    record {
      nodes = absent_nodes (before c) c.self.inside.cache n (begun_node c.args.who) absent (λ m. refl);
      pages = absent_pages (before c) c.self.inside.blocks n (begun_page c.args.who) absent (λ m. refl);
      node_places = λ m ne. refl;
      page_places = λ m ne. refl;
      begins = begins;
      doomed = λ m. ap (list_any (same_name m)) c.begin.ensures.doomed;
      place = λ get. absurd (cc);
    }

pub invariant_of-self : goal.invariant_of-self
invariant_of-self c = either_way c.begin.result c.begin.ensures.begins c.begin.ensures.err
    (λ b. begun_pool c.args.who (out c) (before c) (after c) (begun c b) c.self.invariant)
    (λ same. subst (λ d. IsPool (record { nodes = c.self.inside.cache; pages = c.self.inside.blocks; desks = d })) (sym same) c.self.invariant)

pub returns-clause-began : goal.returns-clause-began
returns-clause-began c = on_ok c.begin.result
    (λ b key. subst (λ (v : PoolState). Began c.args.name.now (asked_for key (asked_by v.desks c.args.who) (c.args.who, out c)) (pool_view key v) (pool_view key (after c))) c.self.view_is (begun_event c.args.who (out c) (before c) (after c) (begun c b) key))
    c.begin.ensures.begins
