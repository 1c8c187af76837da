use Rattle.std.proofs.Common.{◌≡◌, [], refl, sym, ◌∙◌, subst, arith}
use Rattle.std.proofs.lemmas.Grind.{common_steps}
use Rattle.iris_shape.specs.Rows.{has_priority_over}
use Rattle.iris_shape.specs.Shaped.{Closes}
use Rattle.iris_shape.proofs.Spines.{Below, below_starts, below_steps, below_stops, below_ends}
use Rattle.iris_shape.proofs.heaping.close_below.Goals as goal

pub loop-half-init : goal.loop-half-init
loop-half-init c = λ s h. below_starts (has_priority_over c.args.keys.now.order c.args.rows.now) c.args.place s c.args.opened.now.items _ h refl

pub returns-then-not-stands_above : goal.returns-then-not-stands_above
returns-then-not-stands_above c = λ s h.
    let up = has_priority_over c.args.keys.now.order c.args.rows.now in
    let b = subst (λ w. Below up c.args.place s w c.loop-half.below) c.in-Some.ensures.items (c.loop-half.invariant s h) in
    let f = below_stops up c.args.place s c.pop.new.self.items c.in-Some.half c.loop-half.below b (sym c.stands_above.ensures ∙ c.if-not-stands_above.true) in
    subst (λ w. Closes up c.args.place s w c.loop-half.below) (sym c.in_ok-push.ensures.items) f

pub loop-half-preserved : goal.loop-half-preserved
loop-half-preserved c = λ s h.
    let up = has_priority_over c.args.keys.now.order c.args.rows.now in
    let b = subst (λ w. Below up c.args.place s w c.loop-half.below) c.in-Some.ensures.items (c.loop-half.invariant s h) in
    below_steps up c.args.place s c.pop.new.self.items c.in-Some.half c.loop-half.below c.in_ok-below.below b (sym c.stands_above.ensures ∙ c.if-not-stands_above.false) c.in_ok-below.ensures

pub returns : goal.returns
returns c = λ s h.
    let up = has_priority_over c.args.keys.now.order c.args.rows.now in
    let n : c.pop.new.self.items ≡ [] = grind (arith, common_steps) in
    let m : c.loop-half.opened.items ≡ [] = grind (arith, common_steps) in
    subst (λ w. Closes up c.args.place s w c.loop-half.below) (sym n) (below_ends up c.args.place s c.loop-half.below (subst (λ w. Below up c.args.place s w c.loop-half.below) m (c.loop-half.invariant s h)))
