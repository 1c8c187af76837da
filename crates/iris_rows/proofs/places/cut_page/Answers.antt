use Rattle.std.proofs.Common.{◌∙◌, ap, refl, arith, replicate, take, length, ◌≤◌}
use Rattle.std.proofs.lemmas.Result.{IfOk-weaker}
use Rattle.iris_rows.specs.Places.{cut_page}
use Rattle.iris_rows.proofs.KeptFiles.{cut_copied}
use Rattle.iris_rows.proofs.places.cut_page.Goals as goal

pub returns : goal.returns
returns c = let long : c.args.kept ≤ length c.block-old.result = omega arith in
    IfOk-weaker c.of.result _ _ (λ x p. p ∙ c.copy_at.ensures ∙ cut_copied c.args.kept (take c.args.kept c.block-old.result) (replicate 4096 0) c.block-old.result refl refl long ∙ ap (cut_page c.args.kept) c.block-old.ensures) c.of.ensures
