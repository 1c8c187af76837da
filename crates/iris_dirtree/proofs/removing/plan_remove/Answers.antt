use Rattle.std.proofs.Common.{◌≡◌, List, None, ℕ, sym, subst}
use Rattle.iris_node.specs.Fields.{EntryFields}
use Rattle.iris_shape.specs.Treap.{treap, rows_without}
use Rattle.iris_treepaths.specs.Hands.{IsRowNode, HoldsTrue}
use Rattle.iris_treepaths.specs.Nodes.{between}
use Rattle.iris_treepaths.specs.Planted.{Planted}
use Rattle.iris_treepaths.specs.Rows.{Rearranges, treap_of_rows, up}
use Rattle.iris_treepaths.specs.Ways.{has_name}
use Rattle.iris_dirtree.proofs.PlanEnds.{removed}
use Rattle.iris_dirtree.proofs.PlantedTreaps.{few_inside}
use Rattle.iris_dirtree.proofs.removing.plan_remove.Goals as goal

pub returns-clause-removed : goal.returns-clause-removed
unfolding treap_of_rows
returns-clause-removed c = λ old new made x rows listed x_in x_name tree few arranges.
    let key = c.args.keys.now.order in
    let d = c.args.draft.now in
    let e = c.unplant.new.draft in
    let q = c.args.cache.now in
    let dir = c.args.dir in
    let small = few_inside made key dir (rows_without (has_name c.args.name.now) rows) arranges.rows few in
    let planted = c.in_ok-entry.ensures.planted old new x rows listed x_in x_name small in
    let A : List ℕ → Type 0 = λ n. Rearranges new made key dir rows (rows_without (has_name n) rows) in
    let P : List ℕ → Type 0 = λ n. Planted old dir (treap (up key) rows) (treap (up key) (rows_without (has_name n) rows)) d e q in
    let there = c.in_ok-entry.ensures.there in
    let row = c.in_ok-entry.ensures.row old new x rows listed x_in x_name in
    let R : EntryFields → Type 0 = λ e. IsRowNode x e × HoldsTrue old q e in
    let v : c.bare.result ≡ between None None c.in_ok-entry.entry = c.bare.ensures in
    let r = subst R (sym v) row in
    (removed old new made key dir x rows d e c.recount.new.draft q listed x_in tree few (subst A (sym x_name) arranges) there (subst P (sym x_name) planted) c.in_ok-recount.ensures.counted, r.0, r.1)
