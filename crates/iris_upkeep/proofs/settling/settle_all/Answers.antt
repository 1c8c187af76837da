use Rattle.std.proofs.Common.{◌≡◌, ℕ, None, false, inl, ◌∙◌, ap, arith, sym, refl, true≢false}
use Rattle.iris_name.specs.Names.{same_name}
use Rattle.iris_name.specs.NameLaws.{same_name_equiv, same_name-true}
use Rattle.iris_name.specs.declared.name.Name.{Name}
use Rattle.iris_node.specs.Trees.{Shown, IsTree}
use Rattle.iris_cache.specs.Laws.{AreFormed}
use Rattle.iris_cache.specs.Pictures.{Pictures}
use Rattle.iris_cache.specs.Resident.{Resident, held_node, resident_parent}
use Rattle.iris_upkeep.specs.declared.descent.What.TheVariants.{Unsettled}
use Rattle.iris_upkeep.specs.Marks.{IsMarked}
use Rattle.iris_upkeep.proofs.SettledHash.{hash-in, hash-stays}
use Rattle.iris_upkeep.proofs.SettlingUp.{Progress, Settling, ascends, at-once, begins, bounded, descends, ends, orphan-is-top, settled-all}
use Rattle.iris_upkeep.proofs.Stepped.{into-same, into-then}
use Rattle.iris_upkeep.proofs.settling.settle_all.Goals as goal

pub returns-then-not-is_marked-clause-settled : goal.returns-then-not-is_marked-clause-settled
returns-then-not-is_marked-clause-settled c = λ p q h up at.
    let k = c.args.cache.now in
    let s = at-once p.0 k c.args.from.now p.1 (λ m. true≢false (sym (c.is_marked.ensures.1 m) ∙ c.if-not-is_marked.true)) in
    settled-all p.0 k k c.args.from.now s q h up at

pub loop-step-init : goal.loop-step-init
loop-step-init c = record {
  nodes = λ q. into-same (held_node c.args.cache.now q);
  progress = λ t pic tree formed. begins t c.args.cache.now c.args.from.now pic (c.is_marked.ensures.0 c.if-not-is_marked.false);
  room = refl;
  count = refl;
}

pub loop-step-preserved-in-Some : goal.loop-step-preserved-in-Some
loop-step-preserved-in-Some c =
    let inv = c.loop-step.invariant in
    let s = c.in-Some.ensures.some in
    record {
      nodes = inv.nodes;
      progress = λ t pic tree formed. descends t c.args.cache.now c.loop-step.cache c.args.from.now c.loop-step.at c.loop-step.step tree formed (inv.progress t pic tree formed) c.in-Some.child s.0 s.1;
      room = inv.room;
      count = inv.count;
    }

pub loop-step-preserved : goal.loop-step-preserved
loop-step-preserved c =
    let inv = c.loop-step.invariant in
    let old = c.args.cache.now in
    let k = c.loop-step.cache in
    let e = c.settle_one.new.cache in
    let from = c.args.from.now in
    let at = c.loop-step.at in
    let one = c.settle_one.ensures in
    record {
      nodes = λ q. into-then (held_node old q) (held_node k q) (held_node e q) (inv.nodes q) (one.nodes q);
      progress = λ t pic tree formed.
          let so = inv.progress t pic tree formed in
          ascends t old k from at c.loop-step.step tree formed so e c.in_default.ensures.none (one.settles so.marked) c.in_ok-at.at (sym c.in_ok-parent.ensures.parent ∙ c.in_ok-at.was)
          (λ same. true≢false (sym (same_name_equiv.refl at) ∙ ap (same_name at) same ∙ sym c.if-eq.ensures));
      room = one.room ∙ inv.room;
      count = one.count ∙ inv.count;
    }

at-from : (c : goal.Then-eq) (t : Shown) → Pictures t c.args.cache.now → IsTree t → AreFormed t → Settling t c.args.cache.now c.settle_one.new.cache c.args.from.now
at-from c t pic tree formed =
    let so = c.loop-step.invariant.progress t pic tree formed in
    ends t c.args.cache.now c.loop-step.cache c.args.from.now c.loop-step.at c.loop-step.step tree formed so c.settle_one.new.cache c.in_default.ensures.none (c.settle_one.ensures.settles so.marked)
    (same_name-true c.loop-step.at c.args.from.now (sym c.if-eq.ensures))

pub returns-then-eq-clause-pictures : goal.returns-then-eq-clause-pictures
returns-then-eq-clause-pictures c = λ t pic tree formed. (at-from c t pic tree formed).pictures

pub returns-then-eq-clause-still : goal.returns-then-eq-clause-still
returns-then-eq-clause-still c = λ p. (at-from c p.0 p.1 p.2.0 p.2.1).still

pub returns-then-eq-clause-settled : goal.returns-then-eq-clause-settled
returns-then-eq-clause-settled c = λ p.
    settled-all p.0 c.args.cache.now c.settle_one.new.cache c.args.from.now (at-from c p.0 p.1 p.2.0 p.2.1)

pub returns-then-eq-clause-elsewhere : goal.returns-then-eq-clause-elsewhere
returns-then-eq-clause-elsewhere c = λ p. (at-from c p.0 p.1 p.2.0 p.2.1).outside

pub returns-then-eq-clause-told : goal.returns-then-eq-clause-told
returns-then-eq-clause-told c =
    let k = c.loop-step.cache in
    let e = c.settle_one.new.cache in
    let at = c.loop-step.at in
    let marked : IsMarked Unsettled k at = c.in_ok-parent.ensures.done.0 refl in
    ap (λ (n : Name). hash-in (held_node e n)) (sym (same_name-true at c.args.from.now (sym c.if-eq.ensures)))
    ∙ hash-stays k e at marked (c.settle_one.ensures.settles marked) c.in_default.ensures.none
    ∙ c.in_ok-parent.ensures.hash

-- ---- a node without a parent is the one where it started

no-way-up : (t : Shown) (old k : Resident) (from at : Name) (step : ℕ) → IsTree t → AreFormed t → Progress t old k from at step → resident_parent k at ≡ None → same_name at from ≡ false → ⊥
no-way-up t old k from at step tree formed so none apart =
    true≢false (sym (same_name_equiv.refl at) ∙ ap (same_name at) (orphan-is-top t old k from at step tree formed so none) ∙ apart)

pub returns-in_err-at-clause-pictures : goal.returns-in_err-at-clause-pictures
returns-in_err-at-clause-pictures c = λ t pic tree formed. absurd (no-way-up t c.args.cache.now c.loop-step.cache c.args.from.now c.loop-step.at c.loop-step.step tree formed
    (c.loop-step.invariant.progress t pic tree formed) (sym c.in_ok-parent.ensures.parent ∙ c.in_err-at.was) (sym c.if-eq.ensures))

pub returns-in_err-at-clause-still : goal.returns-in_err-at-clause-still
returns-in_err-at-clause-still c = λ p. absurd (no-way-up p.0 c.args.cache.now c.loop-step.cache c.args.from.now c.loop-step.at c.loop-step.step p.2.0 p.2.1
    (c.loop-step.invariant.progress p.0 p.1 p.2.0 p.2.1) (sym c.in_ok-parent.ensures.parent ∙ c.in_err-at.was) (sym c.if-eq.ensures))

pub returns-in_err-at-clause-settled : goal.returns-in_err-at-clause-settled
returns-in_err-at-clause-settled c = λ p. absurd (no-way-up p.0 c.args.cache.now c.loop-step.cache c.args.from.now c.loop-step.at c.loop-step.step p.2.0 p.2.1
    (c.loop-step.invariant.progress p.0 p.1 p.2.0 p.2.1) (sym c.in_ok-parent.ensures.parent ∙ c.in_err-at.was) (sym c.if-eq.ensures))

pub returns-in_err-at-clause-elsewhere : goal.returns-in_err-at-clause-elsewhere
returns-in_err-at-clause-elsewhere c = λ p. absurd (no-way-up p.0 c.args.cache.now c.loop-step.cache c.args.from.now c.loop-step.at c.loop-step.step p.2.0 p.2.1
    (c.loop-step.invariant.progress p.0 p.1 p.2.0 p.2.1) (sym c.in_ok-parent.ensures.parent ∙ c.in_err-at.was) (sym c.if-eq.ensures))

pub returns-in_err-at-clause-some : goal.returns-in_err-at-clause-some
returns-in_err-at-clause-some c = λ p m. absurd (no-way-up p.0 c.args.cache.now c.loop-step.cache c.args.from.now c.loop-step.at c.loop-step.step p.2.0 p.2.1
    (c.loop-step.invariant.progress p.0 p.1 p.2.0 p.2.1) (sym c.in_ok-parent.ensures.parent ∙ c.in_err-at.was) (sym c.if-eq.ensures))

pub returns-clause-elsewhere : goal.returns-clause-elsewhere
returns-clause-elsewhere c = λ p q far. inl ((c.loop-step.invariant.progress p.0 p.1 p.2.0 p.2.1).outside q far)

pub returns-clause-settled : goal.returns-clause-settled
returns-clause-settled c = λ p.
    let inv = c.loop-step.invariant in
    let so = inv.progress p.0 p.1 p.2.0 p.2.1 in
    let less = bounded p.0 c.args.cache.now c.loop-step.cache c.args.from.now c.loop-step.at c.loop-step.step p.2.0 p.2.1 so in
    let same = inv.count in
    let end = c.loop-step-test.false in
    let from = c.from-step-end.ensures in
    let count = c.count.ensures in
    absurd (omega (arith, less, same, end, from, count))

pub returns-clause-some : goal.returns-clause-some
returns-clause-some c = λ p m.
    let inv = c.loop-step.invariant in
    let so = inv.progress p.0 p.1 p.2.0 p.2.1 in
    let less = bounded p.0 c.args.cache.now c.loop-step.cache c.args.from.now c.loop-step.at c.loop-step.step p.2.0 p.2.1 so in
    let same = inv.count in
    let end = c.loop-step-test.false in
    let from = c.from-step-end.ensures in
    let count = c.count.ensures in
    absurd (omega (arith, less, same, end, from, count))
