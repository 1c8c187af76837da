use Rattle.std.proofs.Common.{◌≡◌, ◌∙◌, ap, sym, subst, Option, Some}
use Rattle.std.specs.Option.{option_copied}
use Rattle.std.specs.Prelude.{unwrap_or as option_unwrap_or}
use Rattle.iris_name.specs.Names.{same_name}
use Rattle.iris_node.specs.Unfolded.{hash}
use Rattle.iris_cache.specs.declared.held.Held.{Held}
use Rattle.iris_cache.specs.Held.{points, settled_so}
use Rattle.iris_cache.specs.Rehash.{with_hash}
use Rattle.iris_cache.specs.Resident.{held_node, map_if, resident_parent}
use Rattle.iris_cache.proofs.cache.Cache.settle.Goals as goal

the-held : (g h : Held) → Some g ≡ Some h → g ≡ h
the-held g h e = ap (λ (o : Option Held). option_unwrap_or o g) e

pub returns-clause-settled : goal.returns-clause-settled
returns-clause-settled c = λ _ h at q.
    let n = c.args.name.now in
    let k = c.args.self.now in
    let same : c.in-Some.held.now ≡ h = the-held c.in-Some.held.now h (ap option_copied (sym c.in-Some.is) ∙ c.find.ensures ∙ at) in
    let made = c.node_hash-hash.ensures ∙ ap (λ (g : Held). hash g.node) same in
    subst (λ x. held_node c.set_hash.new.self q ≡ map_if (points (resident_parent k n) q) (with_hash n x) (map_if (same_name n q) settled_so (held_node k q))) made (c.set_hash.ensures.nodes q)
