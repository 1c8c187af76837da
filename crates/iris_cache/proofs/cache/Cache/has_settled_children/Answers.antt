use Rattle.std.proofs.Common.{arith, refl, sym, ◌∙◌, true≢false}
use Rattle.std.proofs.lemmas.Map.Entries.{lookup_from_place}
use Rattle.iris_name.specs.NameLaws.{same_name_equiv}
use Rattle.iris_cache.proofs.SettledChildren.{fine-all}
use Rattle.iris_cache.proofs.cache.Cache.has_settled_children.Goals as goal

pub returns : goal.returns
returns c =
    let end = c.loop-i-test.false in
    let l = c.count-i-end.ensures in
    ((λ yes q h at. fine-all c.args.name.now c.args.self.now.nodes c.loop-i.i (omega (arith, end, l)) c.loop-i.invariant q h at), (λ all. refl))

pub returns-then-is_loose_child : goal.returns-then-is_loose_child
returns-then-is_loose_child c = (
  (λ no. absurd (true≢false (sym no))),
  (λ all.
      let loose = c.is_loose_child.ensures.loose c.if-is_loose_child.true in
      let at = lookup_from_place same_name_equiv c.args.self.now.nodes c.loop-i.i c.at.result.0.now c.at.result.1.now c.sound.ensures.once c.at.ensures in
      absurd (true≢false (sym (all c.at.result.0.now c.at.result.1.now at loose.0) ∙ loose.1))),
)
