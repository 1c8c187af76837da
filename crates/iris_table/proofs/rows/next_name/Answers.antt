use Rattle.std.proofs.Common.{◌≡◌, ◌∙◌, sym, ap, subst, arith, ℕ, ◌+◌, List, ◌∷◌, drop, Option, Bor, ◌<◌, length, refl, slice_index_or}
use Rattle.std.proofs.lemmas.List.{drop_more, drop_all}
use Rattle.iris_rows.specs.declared.item.Item.{Item}
use Rattle.iris_rows.specs.Items.{grown}
use Rattle.iris_rows.proofs.GrownRows.{grown_higher}
use Rattle.iris_table.proofs.PageOfNames.{IsBest, best_none, best_ends, best_deeper, best_here}
use Rattle.iris_table.proofs.rows.next_name.Goals as goal
use Rattle.iris_table.proofs.rows.next_name.Goals.{then-item-depth-2, else-item-depth-2}

first_of : (k : ℕ) (items : List Item) (i : Item) → i ≡ slice_index_or items k i → k < length items → drop k items ≡ i ∷ drop (k + 1) items
first_of k items i e h = drop_more items k i h ∙ ap (λ x. x ∷ drop (k + 1) items) (sym e)

pub loop-item-init : goal.loop-item-init
loop-item-init c = best_none c.args.depth c.args.after.now c.args.items.now _ refl

pub loop-item-preserved : goal.loop-item-preserved
loop-item-preserved c =
    let left : drop c.loop-item.item-index c.args.items.now ≡ c.item-item.result ∷ drop (c.loop-item.item-index + 1) c.args.items.now = first_of c.loop-item.item-index c.args.items.now c.item-item.result c.item-item.is (omega arith) in
    let Q : Option (Bor (List ℕ)) → Type 0 = λ o. IsBest c.args.depth c.args.after.now (drop (c.loop-item.item-index + 1) c.args.items.now) c.args.items.now o in
    elim c.if-item-depth-2.branch [
      | then-item-depth-2 w ↦ subst Q (sym w.best-is) (best_here c.args.depth c.args.after.now c.item-item.result _ _ c.args.items.now c.loop-item.best w.lesser-best.result left (omega arith) w.lesser-best.ensures c.loop-item.invariant)
      | else-item-depth-2 w ↦ subst Q (sym w.best-is) (best_deeper c.args.depth c.args.after.now c.item-item.result _ _ c.args.items.now c.loop-item.best left (omega (arith, w.if-item-depth-2.false)) c.loop-item.invariant)
    ]

pub returns-then-item-depth : goal.returns-then-item-depth
returns-then-item-depth c =
    let left : drop c.loop-item.item-index c.args.items.now ≡ c.item-item.result ∷ drop (c.loop-item.item-index + 1) c.args.items.now = first_of c.loop-item.item-index c.args.items.now c.item-item.result c.item-item.is (omega arith) in
    best_ends c.args.depth c.args.after.now _ c.args.items.now c.loop-item.best c.loop-item.invariant (ap (grown c.args.depth) left ∙ grown_higher c.args.depth c.item-item.result _ (omega arith))

pub returns : goal.returns
returns c = best_ends c.args.depth c.args.after.now _ c.args.items.now c.loop-item.best c.loop-item.invariant (ap (grown c.args.depth) (drop_all c.loop-item.item-index c.args.items.now (omega arith)))
