use Rattle.std.proofs.Common.{ap, ◌∙◌}
use Rattle.iris_cache.specs.Drafted.{there_by}
use Rattle.iris_version_tree.specs.Sides.{part_seen}
use Rattle.iris_version_tree.proofs.Hashes.{part_own}
use Rattle.iris_version_tree.proofs.walk.part_at.Goals as goal

pub returns-in-Some-clause-own : goal.returns-in-Some-clause-own
returns-in-Some-clause-own c =
    part_own c.args.draft.now c.args.cache.now c.args.name.now c.as_part.result c.sound.ensures c.sound-2.ensures (c.as_part.ensures ∙ ap (λ o. part_seen (there_by o)) c.in-Some.ensures)
