use Rattle.std.proofs.Common.{◌≡◌, false, arith, sym, ◌∙◌}
use Rattle.std.proofs.lemmas.Map.Entries.{lookup_from_place}
use Rattle.iris_name.specs.NameLaws.{same_name_equiv}
use Rattle.iris_cache.specs.declared.held.Held.{Held}
use Rattle.iris_cache.specs.Holders.{has_hash_of}
use Rattle.iris_cache.proofs.EachHeld.{each-all}
use Rattle.iris_cache.proofs.HashHolders.{holder-in, no-holder-by}
use Rattle.iris_cache.proofs.cache.Cache.any_holder.Goals as goal

pub returns-clause-none : goal.returns-clause-none
returns-clause-none c = λ _.
    let end = c.loop-i-test.false in
    let l = c.count-i-end.ensures in
    no-holder-by c.args.self.now c.args.name.now
    (each-all (λ (h : Held). has_hash_of h.node c.args.name.now ≡ false) c.args.self.now.nodes c.loop-i.i (omega (arith, end, l)) c.loop-i.invariant)

pub returns-then-has_hash_of-clause-found : goal.returns-then-has_hash_of-clause-found
returns-then-has_hash_of-clause-found c =
    let at = lookup_from_place same_name_equiv c.args.self.now.nodes c.loop-i.i c.at.result.0.now c.at.result.1.now c.sound.ensures.once c.at.ensures in
    holder-in c.args.self.now c.at.result.0.now c.args.name.now c.at.result.1.now at (sym c.has_hash_of.ensures ∙ c.if-has_hash_of.true)
