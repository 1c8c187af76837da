use Rattle.std.proofs.Common.{sym, ◌∙◌}
use Rattle.iris_treepaths.proofs.HeldHashes.{true_hash, same_hash}
use Rattle.iris_treepaths.proofs.hashes.hash_held.Goals as goal

pub returns-in-Some : goal.returns-in-Some
returns-in-Some c = λ old rooted formed pic some.
    true_hash old c.args.cache.now c.args.id c.link_held.result c.in-Some.link.hash c.requires rooted formed pic some c.link_held.ensures (λ l e. same_hash l c.in-Some.link (sym e ∙ c.in-Some.is))

pub returns-in-None : goal.returns-in-None
returns-in-None c = λ old rooted formed pic some.
    true_hash old c.args.cache.now c.args.id c.link_held.result _ c.requires rooted formed pic some c.link_held.ensures (λ l e. let h = sym c.in-None.is ∙ e in cc)
