use Rattle.std.proofs.Common.{List, arith, subst, ◌&&◌, ◌==◌}
use Rattle.std.specs.List.{list_any}
use Rattle.iris_name.specs.Names.{same_name}
use Rattle.iris_name.specs.declared.name.Name.{Name}
use Rattle.iris_pool.specs.Filing.{PinsKept}
use Rattle.iris_pool.proofs.PinnedNames.{pins_caller, pins_callers}
use Rattle.iris_pool.proofs.landing.pin_kept.Goals as goal

pub loop-who-preserved : goal.loop-who-preserved
loop-who-preserved c =
    let who = c.loop-who.who in
    pins_caller c.args.desks.now who c.desk.result.now _ c.loop-who.cache c.pin_all.new.cache _ c.loop-who.blocks c.pin_all.new.blocks c.desk.ensures c.loop-who.invariant
    (subst (λ (l : List Name). PinsKept (λ w q. list_any (same_name q) l && (w == who)) c.loop-who.cache c.pin_all.new.cache c.loop-who.blocks c.pin_all.new.blocks) c.kept.ensures.names c.pin_all.ensures)

pub returns : goal.returns
returns c = let end = c.loop-who-test.false in pins_callers c.args.desks.now c.loop-who.who _ _ _ _ c.sound.ensures (omega (arith, end)) c.loop-who.invariant
