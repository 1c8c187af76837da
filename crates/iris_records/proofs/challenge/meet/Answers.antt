use Rattle.std.proofs.Common.{◌+◌, drop, get_or, sym, subst, arith}
use Rattle.std.proofs.lemmas.List.{drop_all}
use Rattle.iris_records.specs.declared.challenge.Met.{Met}
use Rattle.iris_records.specs.declared.challenge.Met.TheVariants.{Block, Past}
use Rattle.iris_records.specs.Strides.{WalkMeets, files_of}
use Rattle.iris_records.proofs.BlockAtPlace.{step_here, step_past, step_inside}
use Rattle.iris_records.proofs.LevelRows.{dropped}
use Rattle.iris_records.proofs.challenge.meet.Goals as goal
use Rattle.iris_records.proofs.challenge.meet.Goals.{in-Some+else-left-count, in_default}

pub loop-item-init : goal.loop-item-init
loop-item-init c = λ r h. h

pub loop-item-preserved : goal.loop-item-preserved
loop-item-preserved c = λ r h.
    let rest = drop (c.loop-item.item-index + 1) c.args.items.now in
    c.loop-item.invariant r (subst (λ z. WalkMeets (files_of z) c.loop-item.left r) (sym (dropped c.args.items.now c.loop-item.item-index c.item-item.result c.loop-item-test.true c.item-item.is))
    (elim c.match-item.branch [
      | in-Some+else-left-count w ↦ step_past c.item-item.result rest w.places-places.result.now c.loop-item.left w.in-Some.row r w.in-Some.is w.places-places.ensures.kept w.places-places.ensures.places w.if-left-count.false
          (subst (λ z. WalkMeets (files_of rest) z r) w.left-is h)
      | in_default w ↦ step_inside c.item-item.result rest c.loop-item.left r w.in_default.is (subst (λ z. WalkMeets (files_of rest) z r) w.left-is h)
    ]))

pub returns-then-left-count : goal.returns-then-left-count
returns-then-left-count c =
    let places = c.places-places.result.now in let left = c.loop-item.left in
    let r : Met = Block c.item-item.result.id left (get_or places left c.index-places-left.result).version in
    c.loop-item.invariant r (subst (λ z. WalkMeets (files_of z) left r) (sym (dropped c.args.items.now c.loop-item.item-index c.item-item.result c.loop-item-test.true c.item-item.is))
    (step_here c.item-item.result (drop (c.loop-item.item-index + 1) c.args.items.now) places left c.in-Some.row c.index-places-left.result
    c.in-Some.is c.places-places.ensures.kept c.places-places.ensures.places c.if-left-count.true))

pub returns : goal.returns
returns c = c.loop-item.invariant (Past c.loop-item.left)
    (subst (λ z. WalkMeets (files_of z) c.loop-item.left (Past c.loop-item.left)) (sym (drop_all c.loop-item.item-index c.args.items.now c.loop-item-test.false)) (omega arith))
