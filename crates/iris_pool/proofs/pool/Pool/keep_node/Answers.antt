use Rattle.std.proofs.Common.{◌≡◌, ◌∙◌, [], ap, sym, subst, true, false, Some}
use Rattle.std.specs.List.{list_any}
use Rattle.iris_cache.specs.Resident.{held_node, map_if}
use Rattle.iris_desk.specs.AtDesks.{out_of}
use Rattle.iris_desk.specs.declared.out.Doing.TheVariants.{Get}
use Rattle.iris_desk.specs.Laws.{EndsFor}
use Rattle.iris_invariant.specs.Agrees.{Out}
use Rattle.iris_invariant.specs.Events.{Brought}
use Rattle.iris_name.specs.declared.name.Name.{Name}
use Rattle.iris_name.specs.Names.{same_name}
use Rattle.iris_node.specs.Nodes.{name_of}
use Rattle.iris_pool.specs.Changes.{HoldsAlike, IsDoing, NodeComes}
use Rattle.iris_pool.specs.Parts.{ended_node}
use Rattle.iris_pool.specs.Pool.{PoolState, IsAbsentIn}
use Rattle.iris_pool.specs.View.{out_seen, pool_view}
use Rattle.iris_pool.proofs.Bringing.{NodeBrings}
use Rattle.iris_pool.proofs.Brought.{Keeps, kept_event, kept_pool}
use Rattle.iris_pool.proofs.Keeping.{node_come, node_keeps, node_named, node_room, node_stays}
use Rattle.iris_pool.proofs.pool.Pool.keep_node.Goals as goal

pub bring_node-requires-clause-place : goal.bring_node-requires-clause-place
bring_node-requires-clause-place c = λ none off.
    let n = name_of c.args.node in
    let p : PoolState = record { nodes = c.self.inside.cache; pages = c.self.inside.blocks; desks = c.self.inside.desks } in
    let is = c.name-name.ensures in
    let doing = subst (λ (v : PoolState). IsDoing v.desks c.args.who n Get) (sym c.self.view_is) c.requires.out in
    let at = subst (λ (m : Name). out_of c.self.inside.desks m ≡ Some (c.args.who, c.end-out.result)) is c.end-out.ensures.out in
    let ended = c.finish_node.ensures.nodes n ∙ ap (λ (m : Name). map_if (same_name m n) (ended_node false) (held_node c.self.inside.cache n)) is in
    ap (list_any (same_name n)) c.finish_node.ensures.places
    ∙ node_room p c.finish_node.new.cache c.args.who n c.end-out.result c.self.invariant (node_named c.args.node) doing at ended none off

abbrev before : goal.Joined-out → PoolState
before c = record { nodes = c.self.inside.cache; pages = c.self.inside.blocks; desks = c.self.inside.desks }

abbrev after : goal.Joined-out → PoolState
after c = record { nodes = c.bring_node.new.cache; pages = c.self.inside.blocks; desks = c.end-out.new.desks }

at : (c : goal.Joined-out) → out_of c.self.inside.desks (name_of c.args.node) ≡ Some (c.args.who, c.end-out.result)
at c = subst (λ (m : Name). out_of c.self.inside.desks m ≡ Some (c.args.who, c.end-out.result)) c.name-name.ensures c.end-out.ensures.out

brings : (c : goal.Joined-out) → NodeBrings c.args.who (name_of c.args.node) c.end-out.result.touched c.args.parent c.args.node c.self.inside.cache c.finish_node.new.cache c.bring_node.new.cache
brings c = record {
  ended = λ q. c.finish_node.ensures.nodes q ∙ ap (λ (m : Name). map_if (same_name m q) (ended_node false) (held_node c.self.inside.cache q)) c.name-name.ensures;
  pinned = c.bring_node.ensures.pinned;
  passed = c.bring_node.ensures.passed;
  comes = c.bring_node.ensures.comes;
}

keeps : (c : goal.Joined-out) → Keeps c.args.who (name_of c.args.node) c.end-out.result.touched (before c) (after c)
keeps c = node_keeps c.args.who (name_of c.args.node) c.end-out.result c.args.parent c.args.node (before c) c.finish_node.new.cache c.bring_node.new.cache c.end-out.new.desks (node_named c.args.node) (brings c)
    (λ m ne. c.bring_node.ensures.places m ne ∙ ap (list_any (same_name m)) c.finish_node.ensures.places)
    (subst (λ (m : Name). EndsFor c.args.who true m c.self.inside.desks c.end-out.new.desks) c.name-name.ensures c.end-out.ensures.ends)
    (λ m. ap (list_any (same_name m)) c.end-out.ensures.doomed)

pub invariant_of-self : goal.invariant_of-self
invariant_of-self c = kept_pool c.args.who (name_of c.args.node) c.end-out.result (before c) (after c) (at c) (keeps c) c.self.invariant

pub returns-clause-brought : goal.returns-clause-brought
returns-clause-brought c = λ key.
    let n = name_of c.args.node in
    subst (λ (v : PoolState). (o : Out) → out_seen key v.desks n ≡ Some o → Brought n o (pool_view key v) (pool_view key (after c))) c.self.view_is
    (kept_event c.args.who n c.end-out.result (before c) (after c) (at c) (keeps c) key)

pub returns-clause-comes : goal.returns-clause-comes
returns-clause-comes c =
    let n = name_of c.args.node in
    subst (λ (v : PoolState). (o : Out) → IsAbsentIn v n → out_seen [] v.desks n ≡ Some o → o.touched ≡ false → NodeComes v (after c) c.args.who c.args.parent n c.args.node) c.self.view_is
    (λ o absent seen off. node_come c.args.who n c.end-out.result c.args.parent c.args.node (before c) c.finish_node.new.cache c.bring_node.new.cache c.end-out.new.desks (node_named c.args.node) (brings c) o (at c) absent seen off)

pub returns-clause-stays : goal.returns-clause-stays
returns-clause-stays c =
    let n = name_of c.args.node in
    subst (λ (v : PoolState). (o : Out) → out_seen [] v.desks n ≡ Some o → (IsAbsentIn v n → o.touched ≡ true) → HoldsAlike v (after c)) c.self.view_is
    (λ o seen on. node_stays c.args.who n c.end-out.result c.args.parent c.args.node (before c) c.finish_node.new.cache c.bring_node.new.cache c.end-out.new.desks (node_named c.args.node) (brings c) o (at c) seen on)
