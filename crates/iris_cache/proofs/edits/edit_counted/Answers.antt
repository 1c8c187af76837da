use Rattle.std.proofs.Common.{ap, sym, ◌∙◌}
use Rattle.std.specs.Prelude.{is_none}
use Rattle.std.specs.Map.{lookup}
use Rattle.iris_name.specs.Names.{same_name}
use Rattle.iris_name.specs.declared.name.Name.{Name}
use Rattle.iris_cache.specs.declared.held.Held.{Held}
use Rattle.iris_cache.specs.Held.{edited_node, stay_of}
use Rattle.iris_cache.specs.Idle.{is_free}
use Rattle.iris_cache.proofs.IdleNodes.{free-edited}
use Rattle.iris_cache.proofs.Writes.{wrote}
use Rattle.iris_cache.proofs.edits.edit_counted.Goals as goal

pub returns-in-Some-clause-same : goal.returns-in-Some-clause-same
returns-in-Some-clause-same c = λ differs q.
    let f = edited_node c.args.change in
    let n = c.args.name.now in
    let h = c.in-Some.held.now in
    let at = c.in-Some.ensures.value in
    ap is_free (wrote f c.args.nodes.now _ n h _ at c.edit_counted.ensures.node (c.get_mut.follows.holds _) q)
    ∙ free-edited (λ (k : Name). lookup (same_name k) c.args.nodes.now.entries) f n q h at (ap (λ (x : Held). is_none (stay_of x)) (sym c.edit_counted.ensures.node) ∙ c.edit_counted.ensures.same differs)
