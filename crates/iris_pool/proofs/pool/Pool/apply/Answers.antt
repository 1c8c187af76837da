use Rattle.std.proofs.Common.{subst}
use Rattle.iris_pool.specs.Landing.{LandsIn}
use Rattle.iris_pool.specs.Pool.{PoolState}
use Rattle.iris_pool.proofs.LandedDrafts.{is_pool, lands_in}
use Rattle.iris_pool.proofs.pool.Pool.apply.Goals as goal

pub invariant_of-self : goal.invariant_of-self
invariant_of-self c =
    let p : PoolState = record { nodes = c.self.inside.cache; pages = c.self.inside.blocks; desks = c.self.inside.desks } in
    let q : PoolState = record { nodes = c.pin_kept.new.cache; pages = c.pin_kept.new.blocks; desks = c.touch_changed.new.desks } in
    is_pool c.args.draft c.args.pages p q c.apply.new.self c.apply-2.new.self c.file_nodes.new.desks c.file_pages.new.desks c.sound-4.ensures c.sound-5.ensures c.sound.ensures c.sound-2.ensures
    c.file_nodes.ensures.files c.file_pages.ensures.files c.apply.ensures.nodes c.apply.ensures.room c.apply-2.ensures.pages c.apply-2.ensures.room c.touch_changed.ensures c.pin_kept.ensures c.self.invariant

pub returns : goal.returns
returns c =
    let p : PoolState = record { nodes = c.self.inside.cache; pages = c.self.inside.blocks; desks = c.self.inside.desks } in
    let q : PoolState = record { nodes = c.pin_kept.new.cache; pages = c.pin_kept.new.blocks; desks = c.touch_changed.new.desks } in
    subst (λ (x : PoolState). LandsIn c.args.draft c.args.pages x q) c.self.view_is
    (lands_in c.args.draft c.args.pages p q c.apply.new.self c.apply-2.new.self c.file_nodes.new.desks c.file_pages.new.desks c.sound-4.ensures c.sound-5.ensures c.sound.ensures c.sound-2.ensures
    c.file_nodes.ensures.files c.file_pages.ensures.files c.apply.ensures.nodes c.apply.ensures.room c.apply-2.ensures.pages c.apply-2.ensures.room c.touch_changed.ensures c.pin_kept.ensures)
