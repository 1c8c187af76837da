use Rattle.std.proofs.Common.{◌≡◌, ◌+◌, arith, length, refl}
use Rattle.iris_pool.specs.Pool.{PoolState}
use Rattle.iris_cache.specs.Resident.{has_room}
use Rattle.iris_blocks.specs.Paged.{has_page_room}
use Rattle.iris_pool.proofs.StayingPool.{is_pool, more_room, ok_map, ready_nodes, ready_pages, same_page_room}
use Rattle.iris_pool.proofs.pool.Pool.prepare.Goals as goal

pub invariant_of-self-in_err-room_for-2 : goal.invariant_of-self-in_err-room_for-2
invariant_of-self-in_err-room_for-2 c =
    let p : PoolState = record { nodes = c.self.inside.cache; pages = c.self.inside.blocks; desks = c.self.inside.desks } in
    let q : PoolState = record { nodes = c.room_for.new.self; pages = c.room_for-2.new.self; desks = c.self.inside.desks } in
    is_pool p q c.self.invariant c.room_for.ensures.nodes c.room_for-2.ensures.pages refl (λ n h. more_room (has_room p.nodes n) _ (has_room q.nodes n) (c.in_ok-room_for.ensures.kept n) h) (same_page_room p.pages q.pages c.in_err-room_for-2.ensures.err)

pub invariant_of-self-2 : goal.invariant_of-self-2
invariant_of-self-2 c =
    let p : PoolState = record { nodes = c.self.inside.cache; pages = c.self.inside.blocks; desks = c.self.inside.desks } in
    let q : PoolState = record { nodes = c.room_for.new.self; pages = c.room_for-2.new.self; desks = c.room_to_doom.new.self } in
    is_pool p q c.self.invariant c.room_for.ensures.nodes c.room_for-2.ensures.pages c.room_to_doom.ensures.desks
    (λ n h. more_room (has_room p.nodes n) _ (has_room q.nodes n) (c.in_ok-room_for.ensures.kept n) h) (λ n h. more_room (has_page_room p.pages n) _ (has_page_room q.pages n) (c.in_ok-room_for-2.ensures.kept n) h)

pub returns-clause-ready : goal.returns-clause-ready
returns-clause-ready c =
    let nodes = ready_nodes c.args.draft.now c.self.inside.cache c.room_for.new.self c.room_for.ensures.nodes c.in_ok-room_for.ensures.kept in
    let pages = ready_pages c.args.pages.now c.self.inside.blocks c.room_for-2.new.self c.room_for-2.ensures.pages c.in_ok-room_for-2.ensures.kept in
    let a = c.count.ensures in
    let b = c.count-2.ensures in
    let most = c.in-Some.ensures in
    let sum : length c.args.draft.now.changes + length c.args.pages.now.changes ≡ c.in-Some.most = omega (arith, a, b, most) in
    ok_map c.room_to_doom.result (λ le. record { nodes = nodes; pages = pages; dooms = omega (arith, sum, le) }) c.room_to_doom.ensures.ok
