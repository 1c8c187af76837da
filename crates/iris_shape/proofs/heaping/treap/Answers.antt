use Rattle.std.proofs.Common.{◌∷◌, ◌++◌, length, sym, ◌∙◌, ap, subst, append_assoc, arith, []}
use Rattle.iris_name.specs.Hmac.{priority}
use Rattle.iris_shape.specs.Treap.{AllApart, IsHeap, with_first}
use Rattle.iris_shape.specs.Rows.{has_priority_over, id_at}
use Rattle.iris_shape.proofs.Orders.{ranks}
use Rattle.iris_shape.proofs.Orderly.{rows_apart}
use Rattle.iris_shape.proofs.Treaps.{apart_right, heap_treap}
use Rattle.iris_shape.proofs.heaping.treap.Goals as goal

pub loop-place-preserved : goal.loop-place-preserved
loop-place-preserved c =
    let up = has_priority_over c.args.keys.now.order c.args.rows.now in
    let i = c.loop-place.invariant in
    let all = rows_apart c.args.keys.now.order c.args.rows.now (length c.args.rows.now) (omega arith) c.requires in
    let apart : AllApart up i.0 = apart_right up c.loop-place.order.items i.0 (subst (AllApart up) i.2 all) in
    let heap = subst (IsHeap up) (sym i.4) (heap_treap up (ranks (priority c.args.keys.now.order) (id_at c.args.rows.now)) i.0 apart) in
    let r = c.in_ok-open_row.ensures i.1 i.3 heap in
    (c.in-Some.place ∷ i.0, r.0, i.2 ∙ ap (λ w. w ++ i.0) c.in-Some.ensures.items ∙ append_assoc c.pop.new.self.items (c.in-Some.place ∷ []) i.0, r.1, r.2 ∙ ap (with_first up c.in-Some.place) i.4)
