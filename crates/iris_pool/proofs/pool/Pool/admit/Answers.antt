use Rattle.std.proofs.Common.{◌≡◌, not, cond, is_some, subst, ap, ◌∙◌}
use Rattle.iris_cache.specs.Held.{dirtied_node, unpinned_node}
use Rattle.iris_cache.specs.Resident.{Updates, has_room, held_node}
use Rattle.iris_desk.specs.AtDesks.{out_of}
use Rattle.iris_name.specs.Names.{same_name}
use Rattle.iris_name.specs.declared.name.Name.{Name}
use Rattle.iris_node.specs.Nodes.{name_of}
use Rattle.iris_pool.specs.Pool.{PoolState}
use Rattle.iris_pool.proofs.AdmittedNode.{admits, admits_room, is_pool}
use Rattle.iris_pool.proofs.pool.Pool.admit.Goals as goal

pub invariant_of-self-2 : goal.invariant_of-self-2
invariant_of-self-2 c =
    let p : PoolState = record { nodes = c.self.inside.cache; pages = c.self.inside.blocks; desks = c.self.inside.desks } in
    let e = c.mark.new.self in
    let node = c.args.node in
    let n = name_of node in
    let unpin = subst (λ (m : Name). Updates c.insert.new.self c.unpin.new.self m (unpinned_node 0)) c.name-name.ensures c.unpin.ensures.nodes in
    let mark = subst (λ (m : Name). Updates c.unpin.new.self e m dirtied_node) c.name-name.ensures c.mark.ensures.nodes in
    let kept = subst (λ (k : Name). (m : Name) → has_room c.room.new.self m ≡ cond (same_name k m) (not (is_some (held_node p.nodes m))) (has_room p.nodes m)) c.name-name.ensures c.in_ok-room.ensures.kept in
    let free = ap (λ (x : PoolState). out_of x.desks n) c.self.view_is ∙ c.requires.free in
    is_pool p e c.args.parent node c.self.invariant free (admits p (record p { nodes = e }) c.room.new.self c.insert.new.self c.unpin.new.self c.args.parent node c.room.ensures.nodes c.insert.ensures.nodes unpin mark)
    (admits_room p.nodes c.room.new.self c.insert.new.self c.unpin.new.self e n kept c.insert.ensures.room c.unpin.ensures.room c.mark.ensures.room)
