use Rattle.std.proofs.Common.{inl, inr, arith}
use Rattle.iris_rows.proofs.KeptPlaces.{goes, stays, version_read, freed_start, freed_end}
use Rattle.iris_rows.proofs.places.free.Goals as goal
use Rattle.iris_rows.proofs.places.free.Goals.{then-freed-lt-FREED_PLACES+then-places-place-gt0, else-freed-lt-FREED_PLACES, else-freed-lt-FREED_PLACES-via-then-freed-lt-FREED_PLACES+else-places-place-gt0, else-freed-lt-FREED_PLACES-via-else-freed-lt-FREED_PLACES}

pub loop-place-init : goal.loop-place-init
loop-place-init c = freed_start c.args.places.now c.requires

pub loop-place-preserved : goal.loop-place-preserved
loop-place-preserved c = elim c.if-freed-lt-FREED_PLACES.branch [
  | then-freed-lt-FREED_PLACES+then-places-place-gt0 w ↦ goes c.args.places.now c.loop-place.freed c.loop-place.place c.loop-place.places w.index-places-place.result c.if-freed-lt-FREED_PLACES.places c.if-freed-lt-FREED_PLACES.freed w.hole.result
      c.loop-place.invariant (omega (arith, w.if-freed-lt-FREED_PLACES.true)) w.if-places-place-gt0.true (omega (arith, c.loop-place-test.true, c.loop-place.auto.places)) w.hole.ensures w.places-is w.freed-is
  | else-freed-lt-FREED_PLACES w ↦ elim w.else-freed-lt-FREED_PLACES.branch [
    | else-freed-lt-FREED_PLACES-via-then-freed-lt-FREED_PLACES+else-places-place-gt0 v ↦ stays c.args.places.now c.loop-place.freed c.loop-place.place c.loop-place.places c.if-freed-lt-FREED_PLACES.places c.if-freed-lt-FREED_PLACES.freed
        c.loop-place.invariant (inr (omega (arith, v.if-places-place-gt0.false, version_read c.loop-place.places c.loop-place.place v.index-places-place.result (omega (arith, c.loop-place-test.true, c.loop-place.auto.places))))) w.places-is w.freed-is
    | else-freed-lt-FREED_PLACES-via-else-freed-lt-FREED_PLACES v ↦ stays c.args.places.now c.loop-place.freed c.loop-place.place c.loop-place.places c.if-freed-lt-FREED_PLACES.places c.if-freed-lt-FREED_PLACES.freed
        c.loop-place.invariant (inl (omega (arith, v.if-freed-lt-FREED_PLACES.false))) w.places-is w.freed-is
  ]
]

pub returns-clause-versions : goal.returns-clause-versions
returns-clause-versions c p = (freed_end c.args.places.now c.loop-place.freed c.loop-place.place c.loop-place.places c.loop-place.invariant c.loop-place-test.false p).version

pub returns-clause-blocks : goal.returns-clause-blocks
returns-clause-blocks c p = (freed_end c.args.places.now c.loop-place.freed c.loop-place.place c.loop-place.places c.loop-place.invariant c.loop-place-test.false p).block
