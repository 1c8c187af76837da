use Rattle.std.proofs.Common.{ap, ◌∙◌, sym}
use Rattle.iris_treepaths.proofs.Crumbs.{above_last}
use Rattle.iris_treepaths.specs.declared.paths.Crumb.{Crumb}
use Rattle.iris_treepaths.proofs.paths.above.Goals as goal

pub returns-in-Some : goal.returns-in-Some
returns-in-Some c =
    let e = above_last c.args.dir c.args.path.now c.in-Some.crumb.now (sym c.in-Some.ensures.value) in
    let v = ap (λ (x : Crumb). x.node.id) c.crumb.view_is in
    v ∙ e
