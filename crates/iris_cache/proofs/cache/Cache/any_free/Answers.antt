use Rattle.std.proofs.Common.{◌≡◌, false, arith, sym, ap, ◌∙◌}
use Rattle.std.specs.Prelude.{is_none}
use Rattle.std.proofs.lemmas.Map.Entries.{lookup_from_place}
use Rattle.iris_name.specs.NameLaws.{same_name_equiv}
use Rattle.iris_cache.specs.declared.held.Held.{Held}
use Rattle.iris_cache.specs.Held.{stay_of}
use Rattle.iris_cache.specs.Idle.{is_free}
use Rattle.iris_cache.proofs.EachHeld.{each-all}
use Rattle.iris_cache.proofs.IdleNodes.{goes-free, none-goes}
use Rattle.iris_cache.proofs.cache.Cache.any_free.Goals as goal

pub returns-clause-none : goal.returns-clause-none
returns-clause-none c = λ _.
    let end = c.loop-i-test.false in
    let l = c.count-i-end.ensures in
    none-goes c.args.self.now
    (each-all (λ (h : Held). is_none (stay_of h) ≡ false) c.args.self.now.nodes c.loop-i.i (omega (arith, end, l)) c.loop-i.invariant)

pub returns-then-is_free-clause-found : goal.returns-then-is_free-clause-found
returns-then-is_free-clause-found c =
    let at = lookup_from_place same_name_equiv c.args.self.now.nodes c.loop-i.i c.at.result.0.now c.at.result.1.now c.sound.ensures.once c.at.ensures in
    goes-free c.args.self.now c.at.result.0.now (ap is_free at ∙ sym c.is_free.ensures ∙ c.if-is_free.true)
