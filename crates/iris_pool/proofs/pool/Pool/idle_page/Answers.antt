use Rattle.std.proofs.Common.{◌≡◌, ◌≤◌, ◌<◌, ◌↔◌, ℕ, Some, None, arith, subst, slice_get}
use Rattle.iris_blocks.specs.declared.held.PageHeld.{PageHeld}
use Rattle.iris_blocks.specs.Held.{page_stay_of}
use Rattle.iris_desk.specs.AtDesks.{out_of}
use Rattle.iris_name.specs.declared.name.Name.{Name}
use Rattle.iris_name.specs.declared.name.Name.TheVariants.{Block}
use Rattle.iris_pool.specs.Going.{PageCanLeave}
use Rattle.iris_pool.specs.Pool.{PoolState}
use Rattle.iris_pool.proofs.UsedNames.{no_page, page_leaves, when_none}
use Rattle.iris_pool.proofs.pool.Pool.idle_page.Goals as goal

pub returns-then-is_none-clause-some : goal.returns-then-is_none-clause-some
returns-then-is_none-clause-some c =
    let p : PoolState = record { nodes = c.self.inside.cache; pages = c.self.inside.blocks; desks = c.self.inside.desks } in
    let r = c.at-place.result in
    let n = Block r.0 r.1 in
    let low = c.loop-i.auto.i in
    let high = c.loop-i-test.true in
    let stay = (c.idle-first.ensures.idle c.loop-i.i n r.2.now c.at-place.ensures).0 (omega (arith, low), omega (arith, high)) in
    let free = when_none (out_of p.desks n ≡ None) c.holder.result c.is_none.ensures c.if-is_none.true c.holder.ensures.free in
    subst (λ (x : PoolState). PageCanLeave x n) c.self.view_is (page_leaves p c.loop-i.i n r.2.now c.sound.ensures c.at-place.ensures stay free)

pub returns-clause-none : goal.returns-clause-none
returns-clause-none c =
    let first = c.idle-first.result.0 in
    let end = c.idle-first.result.1 in
    let idle = subst (λ (x : PoolState). (k : ℕ) (n : Name) (h : PageHeld) → slice_get x.pages.pages k ≡ Some (n, h) → ((first ≤ k) × (k < end)) ↔ (page_stay_of h ≡ None)) c.self.view_is c.idle-first.ensures.idle in
    no_page c.args.self.now first end c.loop-i.i idle c.loop-i-test.false c.loop-i.invariant
