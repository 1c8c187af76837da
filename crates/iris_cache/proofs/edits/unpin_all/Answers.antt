use Rattle.std.proofs.Common.{rules}
use Rattle.std.proofs.lemmas.Map.Made.{map_same_pairs}
use Rattle.iris_cache.specs.Held.{unpinned_node}
use Rattle.iris_cache.proofs.edits.unpin_all.Goals as goal

pub returns-clause-nodes : goal.returns-clause-nodes
returns-clause-nodes c = map_same_pairs _ (unpinned_node c.args.who) _ (λ k v b w f t. search rules) _ _ c.retain.ensures.filtered
