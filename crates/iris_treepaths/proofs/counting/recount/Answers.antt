use Rattle.std.proofs.Common.{◌≡◌, ◌<◌, ◌+◌, ◌-◌, ℕ, suc, subst, arith, length}
use Rattle.iris_name.specs.declared.name.Name.TheVariants as name
use Rattle.iris_treepaths.proofs.CountsUp.{Climbing, begins, climbs_on, ends, runs_out}
use Rattle.iris_treepaths.proofs.Rights.{stops}
use Rattle.iris_treepaths.proofs.counting.recount.Goals as goal

pub loop-step-init : goal.loop-step-init
loop-step-init c =
    let most : ℕ = c.from.result + c.from-2.result + 1 in
    let e : most ≡ most - 0 = omega arith in
    subst (λ k. Climbing c.args.draft.now c.args.cache.now (name.Entry c.args.child) most k c.args.draft.now (name.Entry c.args.child)) e (begins c.args.draft.now c.args.cache.now (name.Entry c.args.child) most)

pub loop-step-preserved : goal.loop-step-preserved
loop-step-preserved c =
    let most : ℕ = c.from.result + c.from-2.result + 1 in
    let i = c.loop-step.step in
    let lt : i < most = c.loop-step-test.true in
    let e : most - i ≡ suc (most - (i + 1)) = omega (arith, lt) in
    climbs_on c.args.draft.now c.args.cache.now (name.Entry c.args.child) most (most - (i + 1)) c.loop-step.draft c.recount_one.new.draft c.loop-step.at c.in-Some.parent
    (subst (λ k. Climbing c.args.draft.now c.args.cache.now (name.Entry c.args.child) most k c.loop-step.draft c.loop-step.at) e c.loop-step.invariant)
    c.in-Some.ensures.parent c.in-Some.ensures.there c.in_ok-recount_one.ensures.counts

pub returns-in_default-clause-counted : goal.returns-in_default-clause-counted
returns-in_default-clause-counted c = λ old new made hand is tree countable lags.
    ends c.args.draft.now c.args.cache.now (name.Entry c.args.child) _ _ c.loop-step.draft c.loop-step.at c.loop-step.invariant (c.parent_seen.ensures.none c.in_default.is) old new made hand tree countable lags

pub returns-clause-counted : goal.returns-clause-counted
returns-clause-counted c = λ old new made hand is tree countable lags.
    let most : ℕ = c.from.result + c.from-2.result + 1 in
    let over = c.loop-step-test.false in
    let e : most - c.loop-step.step ≡ 0 = omega (arith, over) in
    let a = c.from.ensures in
    let b = c.from-2.ensures in
    let l = c.count.ensures in
    let m = c.count-2.ensures in
    let enough : most ≡ length c.args.cache.now.nodes + length c.args.draft.now.changes + 1 = omega (arith, a, b, l, m) in
    runs_out c.args.draft.now c.args.cache.now (name.Entry c.args.child) most c.loop-step.draft c.loop-step.at enough
    (subst (λ k. Climbing c.args.draft.now c.args.cache.now (name.Entry c.args.child) most k c.loop-step.draft c.loop-step.at) e c.loop-step.invariant)
    old new made hand tree countable lags

pub returns-then-not-branch-clause-counted : goal.returns-then-not-branch-clause-counted
returns-then-not-branch-clause-counted c = λ old new made hand is tree countable lags.
    let most : ℕ = c.from.result + c.from-2.result + 1 in
    let i = c.loop-step.step in
    let lt : i < most = c.loop-step-test.true in
    let e : most - i ≡ suc (most - (i + 1)) = omega (arith, lt) in
    stops c.args.draft.now c.args.cache.now (name.Entry c.args.child) most (suc (most - (i + 1))) c.loop-step.draft c.recount_one.new.draft c.loop-step.at c.in-Some.parent
    (subst (λ k. Climbing c.args.draft.now c.args.cache.now (name.Entry c.args.child) most k c.loop-step.draft c.loop-step.at) e c.loop-step.invariant)
    c.in-Some.ensures.parent c.in-Some.ensures.there c.in_ok-recount_one.ensures.counts (c.in_ok-recount_one.ensures.right c.if-not-branch.true) old new made hand is tree countable lags
