use Rattle.std.proofs.Common.{ap, subst, sym, ◌∙◌, not, is_some, false}
use Rattle.iris_blocks.specs.Paged.{has_page_room, held_page}
use Rattle.iris_cache.specs.Resident.{has_room, held_node}
use Rattle.iris_desk.specs.AtDesks.{out_of}
use Rattle.iris_pool.specs.Changes.{AskedFor, IsIdle}
use Rattle.iris_pool.specs.Parts.{is_block_at, is_node_at}
use Rattle.iris_pool.specs.Pool.{PoolState, IsAbsentIn}
use Rattle.iris_pool.specs.View.{IsPool}
use Rattle.iris_pool.proofs.AskedFirst.{asked_for_get, asked_for_pool}
use Rattle.iris_pool.proofs.ByName.{not_block_at, not_node_at, place_apart}
use Rattle.iris_pool.proofs.Places.{places_pool}
use Rattle.iris_pool.proofs.pool.Pool.ask_for.Goals as goal

pub invariant_of-self : goal.invariant_of-self
invariant_of-self c =
    subst (λ b. IsPool (record { nodes = c.make_place.new.cache; pages = b; desks = c.self.inside.desks })) (sym c.in_err-make_place.ensures.err_pages)
    (subst (λ a. IsPool (record { nodes = a; pages = c.self.inside.blocks; desks = c.self.inside.desks })) (sym c.in_err-make_place.ensures.err) c.self.invariant)

abbrev before : goal.In-Ok → PoolState
before c = record { nodes = c.self.inside.cache; pages = c.self.inside.blocks; desks = c.self.inside.desks }

abbrev after : goal.In-Ok → PoolState
after c = record { nodes = c.make_place.new.cache; pages = c.make_place.new.blocks; desks = c.ask_for.new.desks }

idle : (c : goal.In-Ok) → IsIdle c.self.inside.desks c.args.who
idle c = subst (λ (v : PoolState). IsIdle v.desks c.args.who) (sym c.self.view_is) c.requires.idle

absent : (c : goal.In-Ok) → IsAbsentIn (before c) c.args.name.now
absent c = subst (λ (v : PoolState). IsAbsentIn v c.args.name.now) (sym c.self.view_is) c.requires.absent

pub invariant_of-self-in-Ok : goal.invariant_of-self-in-Ok
invariant_of-self-in-Ok c =
    let made = c.in_ok-make_place.ensures in
    asked_for_pool c.args.who c.args.request c.args.name.now c.args.since c.args.expect (before c) (after c) (idle c) (absent c)
    c.in-Ok.ensures.both c.ask_for.ensures.doomed c.make_place.ensures.nodes c.make_place.ensures.pages made.node_places made.page_places c.self.invariant

pub returns-in-Ok-clause-began : goal.returns-in-Ok-clause-began
returns-in-Ok-clause-began c =
    let made = c.in_ok-make_place.ensures in
    subst (λ (v : PoolState). AskedFor c.args.who c.args.request c.args.name.now c.args.since c.args.expect v (after c)) c.self.view_is
    (asked_for_get c.args.who c.args.request c.args.name.now c.args.since c.args.expect (before c) (after c) (idle c) (absent c)
    c.in-Ok.ensures.both c.ask_for.ensures.doomed c.make_place.ensures.nodes c.make_place.ensures.pages made.node_places made.page_places)

pub invariant_of-self-in-Err : goal.invariant_of-self-in-Err
invariant_of-self-in-Err c =
    let n = c.args.name.now in
    let p : PoolState = record { nodes = c.self.inside.cache; pages = c.self.inside.blocks; desks = c.self.inside.desks } in
    let q : PoolState = record { nodes = c.give_place_up.new.cache; pages = c.give_place_up.new.blocks; desks = c.ask_for.new.desks } in
    let made = c.in_ok-make_place.ensures in
    let given = c.give_place_up.ensures in
    places_pool n p q c.self.invariant (subst (λ (v : PoolState). IsAbsentIn v n) (sym c.self.view_is) c.requires.absent) (ap (λ (v : PoolState). out_of v.desks n) c.self.view_is ∙ c.requires.free)
    (given.nodes ∙ c.make_place.ensures.nodes) (given.pages ∙ c.make_place.ensures.pages) c.in-Err.ensures.err
    (λ m ne. place_apart (is_node_at n m) false (has_room c.make_place.new.cache m) (has_room c.give_place_up.new.cache m) (given.node_places m) (not_node_at n m ne)
    ∙ place_apart (is_node_at n m) (not (is_some (held_node c.self.inside.cache m))) (has_room c.self.inside.cache m) (has_room c.make_place.new.cache m) (made.node_places m) (not_node_at n m ne))
    (λ m ne. place_apart (is_block_at n m) false (has_page_room c.make_place.new.blocks m) (has_page_room c.give_place_up.new.blocks m) (given.page_places m) (not_block_at n m ne)
    ∙ place_apart (is_block_at n m) (not (is_some (held_page c.self.inside.blocks m))) (has_page_room c.self.inside.blocks m) (has_page_room c.make_place.new.blocks m) (made.page_places m) (not_block_at n m ne))

pub returns-in-Err-clause-err : goal.returns-in-Err-clause-err
returns-in-Err-clause-err c = c.in-Err.ensures.err ∙ ap (λ (v : PoolState). v.desks) c.self.view_is
