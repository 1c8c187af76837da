use Rattle.std.proofs.Common.{◌≡◌, Some, rules}
use Rattle.std.proofs.lemmas.Result.{IfOk-weaker}
use Rattle.iris_name.specs.declared.name.Name.TheVariants as name
use Rattle.iris_node.specs.declared.node.Node.TheVariants as node
use Rattle.iris_cache.specs.Drafted.{seen}
use Rattle.iris_treepaths.proofs.Owned.{entry_own}
use Rattle.iris_treepaths.proofs.nodes.entry_at.Goals as goal

pub returns-in-Some-Some-Entry-clause-own : goal.returns-in-Some-Some-Entry-clause-own
returns-in-Some-Some-Entry-clause-own c =
    IfOk-weaker c.copied.result (λ e. seen c.args.draft.now c.args.cache.now (name.Entry c.args.link.id) ≡ Some (node.Entry e)) _ (λ e at. entry_own c.args.draft.now c.args.cache.now c.args.link.id e c.sound.ensures c.sound-2.ensures at) (search rules)
