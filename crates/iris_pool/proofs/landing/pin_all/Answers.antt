use Rattle.std.proofs.lemmas.Option.{slice_get-get_or}
use Rattle.iris_pool.proofs.PinnedNames.{pins_more}
use Rattle.iris_pool.proofs.landing.pin_all.Goals as goal

pub loop-name-preserved : goal.loop-name-preserved
loop-name-preserved c = pins_more c.args.names.now c.loop-name.name-index _ c.args.who _ _ _ _ _ _ (slice_get-get_or c.args.names.now c.loop-name.name-index _ c.loop-name-test.true) c.loop-name.invariant c.pin.ensures
