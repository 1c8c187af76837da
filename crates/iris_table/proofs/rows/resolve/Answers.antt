use Rattle.std.proofs.Common.{arith, sym, ◌∙◌, []}
use Rattle.iris_table.proofs.StopAmongItems.{ends_higher, passes, differs, arrives, barred, goes_in, ends}
use Rattle.iris_table.proofs.rows.resolve.Goals as goal
use Rattle.iris_table.proofs.rows.resolve.Goals.{then-item-level-2+then-is_name+else-level-names+else-is_some, else-item-level-2, else-item-level-2-via-then-item-level-2+else-is_name, else-item-level-2-via-else-item-level-2}

pub returns-then-item-level-clause-value : goal.returns-then-item-level-clause-value
returns-then-item-level-clause-value c = sym (c.loop-k.invariant.1 ∙ ends_higher c.loop-k.level c.loop-k.k c.args.names.now c.args.items.now c.index-items-k.result [] c.index-items-k.is (omega arith) (omega arith) (omega arith))

pub returns-then-level-names-clause-value : goal.returns-then-level-names-clause-value
returns-then-level-names-clause-value c = sym (c.loop-k.invariant.1 ∙ arrives c.loop-k.level c.loop-k.k c.args.names.now c.args.items.now c.index-items-k.result c.index-names-level.result c.index-items-k.is (omega arith) (omega arith) c.index-names-level.is (omega arith) (sym c.is_name.ensures ∙ c.if-is_name.true) (omega arith))

pub returns-then-is_some-clause-value : goal.returns-then-is_some-clause-value
returns-then-is_some-clause-value c = sym (c.loop-k.invariant.1 ∙ barred c.loop-k.level c.loop-k.k c.args.names.now c.args.items.now c.index-items-k.result c.index-names-level.result c.index-items-k.is (omega arith) (omega arith) c.index-names-level.is (omega arith) (sym c.is_name.ensures ∙ c.if-is_name.true) (omega (arith, c.if-level-names.false)) (sym c.if-is_some.ensures))

pub loop-k-preserved : goal.loop-k-preserved
loop-k-preserved c = elim c.if-item-level-2.branch [
  | then-item-level-2+then-is_name+else-level-names+else-is_some w ↦ (
    omega (arith, w.if-level-names.false),
    rw w.level-is (c.loop-k.invariant.1 ∙ goes_in c.loop-k.level c.loop-k.k c.args.names.now c.args.items.now c.index-items-k.result w.index-names-level.result c.index-items-k.is (omega arith) (omega arith) w.index-names-level.is (omega arith) (sym w.is_name.ensures ∙ w.if-is_name.true) (omega (arith, w.if-level-names.false)) (sym w.if-is_some.ensures)),
  )
  | else-item-level-2 w ↦ elim w.else-item-level-2.branch [
    | else-item-level-2-via-then-item-level-2+else-is_name w' ↦
        (omega arith, rw w.level-is (c.loop-k.invariant.1 ∙ differs c.loop-k.level c.loop-k.k c.args.names.now c.args.items.now c.index-items-k.result w'.index-names-level.result c.index-items-k.is (omega arith) (omega arith) w'.index-names-level.is (omega arith) (sym w'.is_name.ensures ∙ w'.if-is_name.false)))
    | else-item-level-2-via-else-item-level-2 w' ↦
        (omega arith, rw w.level-is (c.loop-k.invariant.1 ∙ passes c.loop-k.level c.loop-k.k c.args.names.now c.args.items.now c.index-items-k.result [] c.index-items-k.is (omega arith) (omega arith) (omega (arith, w'.if-item-level-2.false))))
  ]
]

pub returns-clause-value : goal.returns-clause-value
returns-clause-value c = sym (c.loop-k.invariant.1 ∙ ends c.loop-k.level c.loop-k.k _ c.args.items.now (omega arith))
