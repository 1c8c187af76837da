use Rattle.std.proofs.Common.{refl}
use Rattle.iris_name.specs.Hmac.{priority}
use Rattle.iris_shape.specs.Rows.{has_priority_over, id_at}
use Rattle.iris_shape.proofs.Orders.{ranks}
use Rattle.iris_shape.proofs.Spines.{opens}
use Rattle.iris_shape.proofs.heaping.open_row.Goals as goal

pub returns : goal.returns
returns c = λ s h heap.
    opens (has_priority_over c.args.keys.now.order c.args.rows.now) (ranks (priority c.args.keys.now.order) (id_at c.args.rows.now)) c.args.place s c.close_below.new.opened.items c.in_ok-more.more _ c.push.new.self.items
    (c.in_ok-more.ensures s h) heap refl refl c.in_ok-push.ensures.items
