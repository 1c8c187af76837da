use Rattle.std.proofs.Common.{ap, ◌∙◌, false, subst}
use Rattle.std.specs.List.{list_any}
use Rattle.std.specs.Map.{lookup}
use Rattle.iris_blocks.specs.Paged.{has_page_room}
use Rattle.iris_cache.specs.Resident.{has_room, map_if}
use Rattle.iris_invariant.specs.Events.{Withdrawn}
use Rattle.iris_name.specs.Names.{same_name}
use Rattle.iris_pool.specs.Changes.{HoldsAlike}
use Rattle.iris_pool.specs.Parts.{ended_node, ended_page, is_block_at, is_node_at}
use Rattle.iris_pool.specs.Pool.{PoolState}
use Rattle.iris_pool.specs.View.{pool_view}
use Rattle.iris_pool.proofs.ByName.{ended_dirty, ended_page_dirty, not_block_at, not_node_at, place_apart}
use Rattle.iris_pool.proofs.Ended.{Ended, ended_alike, ended_apart, ended_happens, ended_kept, ended_pool, ended_seen}
use Rattle.iris_pool.proofs.Happenings.{same_dirty, withdrawn}
use Rattle.iris_pool.proofs.pool.Pool.withdraw.Goals as goal

abbrev before : goal.After-finish → PoolState
before c = record { nodes = c.self.inside.cache; pages = c.self.inside.blocks; desks = c.self.inside.desks }

abbrev after : goal.After-finish → PoolState
after c = record { nodes = c.finish.new.cache; pages = c.finish.new.blocks; desks = c.end.new.desks }

ended : (c : goal.After-finish) → Ended c.args.who c.args.name.now false (before c) (after c)
ended c =
    let n = c.args.name.now in
    let given = c.give_place_up.ensures in
    let done = c.finish.ensures in
    record {
      nodes = λ m. done.nodes m ∙ ap (λ l. map_if (is_node_at n m) (ended_node false) (lookup (same_name m) l)) given.nodes;
      pages = λ m. done.pages m ∙ ap (λ l. map_if (is_block_at n m) (ended_page false) (lookup (same_name m) l)) given.pages;
      node_places = λ m ne. ap (list_any (same_name m)) done.node_places ∙ place_apart (is_node_at n m) false (has_room c.self.inside.cache m) (has_room c.give_place_up.new.cache m) (given.node_places m) (not_node_at n m ne);
      page_places = λ m ne. ap (list_any (same_name m)) done.page_places ∙ place_apart (is_block_at n m) false (has_page_room c.self.inside.blocks m) (has_page_room c.give_place_up.new.blocks m) (given.page_places m) (not_block_at n m ne);
      ends = c.end.ensures.ends;
      doomed = λ m ne. ap (list_any (same_name m)) c.end.ensures.doomed;
    }

pub invariant_of-self : goal.invariant_of-self
invariant_of-self c = ended_pool c.args.who c.args.name.now false (before c) (after c) (ended c) c.self.invariant

pub returns-clause-withdrawn : goal.returns-clause-withdrawn
returns-clause-withdrawn c = λ key.
    let who = c.args.who in
    let n = c.args.name.now in
    let p = before c in
    let q = after c in
    let e = ended c in
    let h = ended_happens who n false p q e in
    subst (λ (v : PoolState). Withdrawn n (pool_view key v) (pool_view key q)) c.self.view_is
    (withdrawn key n p q (ended_apart who n false p q e) (ended_kept who n false p q e) false h (ended_seen who n false p q e key) (ap (list_any (same_name n)) c.end.ensures.doomed)
    (same_dirty key n (ended_node false) (ended_page false) p q (ended_dirty, ended_page_dirty) h))

pub returns-clause-alike : goal.returns-clause-alike
returns-clause-alike c = subst (λ (v : PoolState). HoldsAlike v (after c)) c.self.view_is (ended_alike c.args.who c.args.name.now false (before c) (after c) (ended c))
