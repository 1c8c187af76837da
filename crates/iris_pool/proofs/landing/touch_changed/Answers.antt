use Rattle.std.proofs.Common.{arith}
use Rattle.iris_pool.specs.Filing.{is_touched_there}
use Rattle.iris_pool.proofs.FiledNames.{touches_below_all, touches_below_more}
use Rattle.iris_pool.proofs.landing.touch_changed.Goals as goal

pub loop-who-preserved : goal.loop-who-preserved
loop-who-preserved c = touches_below_more (is_touched_there c.args.cache.now c.args.blocks.now) c.loop-who.who _ _ _ c.loop-who.invariant c.touch_at.ensures

pub returns : goal.returns
returns c = let end = c.loop-who-test.false in touches_below_all (is_touched_there c.args.cache.now c.args.blocks.now) c.loop-who.who _ _ c.sound.ensures (omega (arith, end)) c.loop-who.invariant
