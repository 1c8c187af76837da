use Rattle.std.proofs.Common.{◌≤◌, ap, ◌∙◌, arith}
use Rattle.iris_shape.specs.Treap.{keep, skip}
use Rattle.iris_treepaths.specs.Ways.{is_row_before}
use Rattle.iris_dirtree.proofs.PlanEnds.{inserted}
use Rattle.iris_treepaths.proofs.RowNodes.{row_node_id}
use Rattle.iris_treepaths.proofs.RowsWith.{each_parts}
use Rattle.iris_dirtree.proofs.inserting.plan_insert.Goals as goal

pub returns-clause-inserted : goal.returns-clause-inserted
returns-clause-inserted c = λ old new made x rows listed is_row holds tree countable re.
    let p = c.in_ok-plant.ensures.planted old new made x rows listed is_row holds tree countable re in
    inserted old new made c.args.keys.now.order c.args.dir (is_row_before x.name) x rows c.args.draft.now c.plant.new.draft c.recount.new.draft c.args.cache.now listed tree countable re p.0 p.1 c.in_ok-recount.ensures.counted

pub returns-then-id_of-lt2-clause-inserted : goal.returns-then-id_of-lt2-clause-inserted
returns-then-id_of-lt2-clause-inserted c = λ old new made x rows listed is_row holds tree countable re.
    let p = is_row_before x.name in
    let two : 2 ≤ x.id = (each_parts (λ r. 2 ≤ r.id) (keep p rows) x (skip p rows) re.rows.named).1 in
    let id = ap (λ i. i.0) (c.id_of.ensures ∙ (row_node_id x c.args.node is_row).0) in
    let low = c.if-id_of-lt2.true in
    absurd (omega (arith, two, id, low))
