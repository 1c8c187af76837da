use Rattle.std.proofs.Common.{sym, subst}
use Rattle.iris_name.specs.declared.name.Name as names
use Rattle.iris_cache.specs.Holders.{IsHolder, HasNoHolder}
use Rattle.iris_cache.specs.Indexed.{IsIndexed}
use Rattle.iris_cache.specs.Resident.{Resident, IsSoundCache}
use Rattle.iris_cache.proofs.HashHolders.{above-alone}
use Rattle.iris_cache.proofs.cache.Cache.part_holder.Goals as goal

pub returns-clause-none : goal.returns-clause-none
returns-clause-none c = λ none.
    let k = c.args.self.now in
    let sound = subst IsSoundCache c.self.view_is c.self.invariant.sound in
    let indexed = subst (λ (r : Resident). IsIndexed r c.self.inside.links) c.self.view_is c.self.invariant.indexed in
    let n = names.TheVariants.Part c.args.file c.args.level c.args.index in
    subst (λ (m : names.Name). HasNoHolder k m) (sym c.requires)
    (above-alone k c.self.inside.links c.args.file c.args.level c.args.index sound indexed
    (λ held. c.holder_at.ensures.none none (subst (λ (m : names.Name). IsHolder k c.part_above.result m) (sym c.requires) (subst (λ (p : names.Name). IsHolder k p n) (sym c.part_above.ensures) held))))
