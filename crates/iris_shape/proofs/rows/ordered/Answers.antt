use Rattle.std.proofs.Common.{sym, ◌∙◌, ap}
use Rattle.iris_shape.proofs.Orderly.{in_order-next, in_order-none}
use Rattle.iris_shape.specs.Treap.{rows_with}
use Rattle.iris_shape.specs.Order.{less_name}
use Rattle.iris_shape.specs.Rows.{name_at}
use Rattle.iris_shape.proofs.rows.ordered.Goals as goal

pub loop-place-init : goal.loop-place-init
loop-place-init c = c.new-order.ensures.items ∙ sym (in_order-none c.args.rows.now)

pub loop-place-preserved : goal.loop-place-preserved
loop-place-preserved c =
    c.in_ok-put_row.ensures
    ∙ ap (rows_with (λ j. less_name (name_at c.args.rows.now j) (name_at c.args.rows.now c.loop-place.place)) c.loop-place.place) c.loop-place.invariant
    ∙ sym (in_order-next c.args.rows.now c.loop-place.place)
