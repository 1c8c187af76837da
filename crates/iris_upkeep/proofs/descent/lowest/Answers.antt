use Rattle.std.proofs.Common.{◌∷◌, arith, refl, subst, sym}
use Rattle.std.specs.Prelude.{IsSomeAnd}
use Rattle.iris_cache.specs.Resident.{held_node}
use Rattle.iris_upkeep.specs.Marks.{HasMark}
use Rattle.iris_upkeep.proofs.WaysDown.{held-by, way-more, way-short, way-up}
use Rattle.iris_upkeep.proofs.descent.lowest.Goals as goal

pub loop-step-preserved : goal.loop-step-preserved
loop-step-preserved c =
    let inv = c.loop-step.invariant in
    let s = c.in-Some.ensures.some in
    record {
      marked = s.1;
      way = λ t pic tree formed.
          let w = inv.way t pic tree formed in
          let k = w.1 in
          (c.loop-step.at ∷ w.0, omega (arith, k), way-more t c.args.cache.now pic tree formed c.args.what c.args.from.now c.loop-step.at c.in-Some.child w.0 inv.marked w.2 s.0 s.1);
    }

pub returns-in-None-clause-lowest : goal.returns-in-None-clause-lowest
returns-in-None-clause-lowest c = λ p n h at of mark.
    let k = c.args.cache.now in
    c.in-None.ensures.none n (held-by p.0 k p.1 p.2.0 p.2.1 c.loop-step.at n h (held_node k c.loop-step.at) refl at of) (subst (λ o. IsSomeAnd o (HasMark c.args.what)) (sym at) mark)

pub returns-in-None-clause-below : goal.returns-in-None-clause-below
returns-in-None-clause-below c = λ p. let w = c.loop-step.invariant.way p.0 p.1 p.2.0 p.2.1 in way-up p.0 c.args.cache.now c.args.what c.args.from.now c.loop-step.at w.0 w.2

pub returns-clause-found : goal.returns-clause-found
returns-clause-found c = λ p m.
    let k = c.args.cache.now in
    let inv = c.loop-step.invariant in
    let w = inv.way p.0 p.1 p.2.0 p.2.1 in
    let short = way-short p.0 k c.args.what c.args.from.now c.loop-step.at w.0 inv.marked w.2 in
    let steps = w.1 in
    let end = c.loop-step-test.false in
    let count = c.count-step-end.ensures in
    absurd (omega (arith, short, steps, end, count))
