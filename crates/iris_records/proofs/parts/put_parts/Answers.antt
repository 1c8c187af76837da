use Rattle.std.proofs.Common.{◌≡◌, ap, ◌∙◌, subst, length}
use Rattle.std.specs.Prelude.{IfOk, OnOk, List, ℕ, slice_index}
use Rattle.iris_node.specs.Unfolded.{side_to, node_of}
use Rattle.iris_shape.specs.Sides.{unfolded_side}
use Rattle.iris_records.specs.Shown.{in_parts}
use Rattle.iris_records.specs.Pieces.{Adds}
use Rattle.iris_records.proofs.BlockRecords.{fold_is, fold_halved}
use Rattle.iris_records.proofs.parts.put_parts.Goals as goal

pub fold-requires : goal.fold-requires
fold-requires c = (16, ap length c.as_slice.ensures.value ∙ c.in_ok-versions.ensures.len)

pub side_of-requires-clause-halved : goal.side_of-requires-clause-halved
side_of-requires-clause-halved c = fold_halved c.as_slice.result.now c.in_ok-folded.folded (c.in_ok-folded.ensures 16 (ap length c.as_slice.ensures.value ∙ c.in_ok-versions.ensures.len))

pub returns-clause-side : goal.returns-clause-side
returns-clause-side c =
    let e = fold_is c.as_slice.result.now c.args.row.now c.in_ok-folded.folded (c.in_ok-folded.ensures 16 (ap length c.as_slice.ensures.value ∙ c.in_ok-versions.ensures.len))
    (λ p h. ap (λ z. slice_index z p) c.as_slice.ensures.value ∙ c.in_ok-versions.ensures.each p h) in
    subst (λ f. IfOk c.side_of.result (λ s. s ≡ side_to (unfolded_side c.args.file.0 16 0 f) (node_of (unfolded_side c.args.file.0 16 0 f)))) e c.side_of.ensures.side

pub returns-clause-puts : goal.returns-clause-puts
returns-clause-puts c =
    let e = fold_is c.as_slice.result.now c.args.row.now c.in_ok-folded.folded (c.in_ok-folded.ensures 16 (ap length c.as_slice.ensures.value ∙ c.in_ok-versions.ensures.len))
    (λ p h. ap (λ z. slice_index z p) c.as_slice.ensures.value ∙ c.in_ok-versions.ensures.each p h) in
    subst (λ f. OnOk c.side_of.result ((key : List ℕ) → Adds key (λ n. in_parts n c.args.file.0 (unfolded_side c.args.file.0 16 0 f)) c.args.shelf.now c.side_of.new.shelf)) e c.side_of.ensures.puts
