use Rattle.std.proofs.Common.{rules, ◌≡◌, sym, ◌∙◌, arith}
use Rattle.std.proofs.lemmas.Grind.{common_steps}
use Rattle.iris_node.proofs.Same.{same_node, node_is, node_same}
use Rattle.iris_node.proofs.node.is_same_node.Goals as goal

pub returns : goal.returns
returns c =
    let k : c.eq.result ≡ same_node c.args.a.now c.args.b.now = first_of (search rules, grind (arith, common_steps)) in
    ((λ h. node_is c.args.a.now c.args.b.now (sym k ∙ h)), (λ e. k ∙ node_same c.args.a.now c.args.b.now e))
