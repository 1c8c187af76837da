use Rattle.std.proofs.Common.{◌≡◌, refl, sym, subst, true≢false, arith, None}
use Rattle.iris_desk.specs.AtDesks.{AreDesksSound, out_of}
use Rattle.iris_pool.specs.Going.{IsParentOfAny, IsUsedAs}
use Rattle.iris_pool.specs.Pool.{PoolState}
use Rattle.iris_pool.proofs.UsedNames.{none_free, not_used, parent_used}
use Rattle.iris_pool.proofs.pool.Pool.is_in_use.Goals as goal

pub returns-then-is_parent_of_any : goal.returns-then-is_parent_of_any
returns-then-is_parent_of_any c =
    let n = c.args.name.now in
    let node = c.args.node.now in (
      λ _. subst (λ (p : PoolState). IsUsedAs p.desks n node) c.self.view_is
          (parent_used c.self.inside.desks n node c.loop-who.who c.desk.result.now c.sound.ensures c.desk.ensures
          (subst (IsParentOfAny node) c.outs.ensures.outs (c.is_parent_of_any.ensures.0 c.if-is_parent_of_any.true))),
      λ _. refl,
    )

pub returns : goal.returns
returns c =
    let n = c.args.name.now in
    let sound = subst (λ (p : PoolState). AreDesksSound p.desks) c.self.view_is c.sound.ensures in
    let free = subst (λ (p : PoolState). out_of p.desks n ≡ None) c.self.view_is (none_free (out_of c.self.inside.desks n) c.holder.result (c.is_some.ensures) c.if-is_some.false c.holder.ensures.free) in
    let end = c.loop-who-test.false in
    (λ t. absurd (true≢false (sym t)), λ u. absurd (not_used c.args.self.now.desks n c.args.node.now c.loop-who.who sound free (omega (arith, end)) c.loop-who.invariant u))
