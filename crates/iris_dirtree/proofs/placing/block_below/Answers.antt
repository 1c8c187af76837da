use Rattle.std.proofs.Common.{◌≡◌, ◌∙◌, Some, ap, sym, subst, arith, add-one}
use Rattle.std.specs.Option.{option_copied}
use Rattle.std.proofs.lemmas.Result.{err_from_is_err_and}
use Rattle.iris_name.specs.declared.name.Name.TheVariants as name
use Rattle.iris_cache.specs.Drafted.{seen}
use Rattle.iris_dirtree.specs.Turns.{IsTurn}
use Rattle.iris_dirtree.specs.Found.{entry_of_node}
use Rattle.iris_dirtree.specs.declared.placing.Turn.TheVariants.{Under}
use Rattle.iris_dirtree.proofs.BlockPlaces.{sunk_top, sunk_lacks, sunk_gone, sunk_long, sunk_own, sunk_end, sunk_down, below_lack}
use Rattle.iris_dirtree.proofs.placing.block_below.Goals as goal
use Rattle.iris_dirtree.proofs.placing.block_below.Goals.{In-Some}

-- the entry there
met : (c : In-Some) → Some c.in-Some.entry.now ≡ entry_of_node (seen c.args.draft.now c.args.cache.now (name.Entry c.loop-step.link.id))
met c = ap option_copied (sym c.in-Some.is) ∙ c.in_ok-entry.ensures.entry

pub loop-step-init : goal.loop-step-init
loop-step-init c = λ old new u pic.
    sunk_top c.args.root c.args.draft.now c.args.cache.now old new u pic c.args.at _ 0 c.requires

pub returns-in_err-entry-clause-short : goal.returns-in_err-entry-clause-short
returns-in_err-entry-clause-short c =
    let p = err_from_is_err_and c.from_residual.result c.from_residual.ensures.1 in
    let d = c.args.draft.now in
    let w = c.args.cache.now in
    let l = c.loop-step.link in
    let missing = c.in_err-entry.ensures.missing in
    let need = c.in_err-entry.ensures.need in
    rw (p.1, p.2) (below_lack c.args.root d w c.args.at c.in_err-entry.field-0.0 l.id l.hash need missing
    (λ old new u pic. sunk_lacks c.args.root d w old new u pic c.args.at l c.loop-step.place c.loop-step._step (c.loop-step.invariant old new u pic) missing))

pub returns-in_default-clause-place : goal.returns-in_default-clause-place
returns-in_default-clause-place c = λ old new u pic.
    sunk_gone c.args.root c.args.draft.now c.args.cache.now old new u pic c.args.at c.loop-step.link c.loop-step.place c.loop-step._step (c.loop-step.invariant old new u pic)
    c.in_ok-entry.ensures.known (ap option_copied (sym c.in_default.is) ∙ c.in_ok-entry.ensures.entry)

pub returns-in-Own-clause-place : goal.returns-in-Own-clause-place
returns-in-Own-clause-place c = λ old new u pic.
    sunk_own c.args.root c.args.draft.now c.args.cache.now old new u pic c.args.at c.loop-step.link c.loop-step.place c.loop-step._step (c.loop-step.invariant old new u pic)
    c.in-Some.entry.now (met (goal.at.returns-in-Own-clause-place c).In-Some) c.in-Own.place c.in-Own.ensures

pub returns-in_default-below-clause-place : goal.returns-in_default-below-clause-place
returns-in_default-below-clause-place c = λ old new u pic.
    sunk_end c.args.root c.args.draft.now c.args.cache.now old new u pic c.args.at c.loop-step.link c.loop-step.place c.loop-step._step (c.loop-step.invariant old new u pic)
    c.in-Some.entry.now (met (goal.at.returns-in_default-below-clause-place c).In-Some) c.in-Under.rest
    (subst (λ k. IsTurn c.loop-step.place c.in-Some.entry.now (Under k c.in-Under.rest)) c.in_default-below.is c.in-Under.ensures)

pub loop-step-preserved : goal.loop-step-preserved
loop-step-preserved c = λ old new u pic.
    rw add-one (sunk_down c.args.root c.args.draft.now c.args.cache.now old new u pic c.args.at c.loop-step.link c.loop-step.place c.loop-step._step (c.loop-step.invariant old new u pic)
    c.in-Some.entry.now (met (goal.at.loop-step-preserved c).In-Some) c.in-Some-below.next c.in-Under.rest
    (subst (λ k. IsTurn c.loop-step.place c.in-Some.entry.now (Under k c.in-Under.rest)) c.in-Some-below.is c.in-Under.ensures))

pub returns-clause-place : goal.returns-clause-place
returns-clause-place c = λ old new u pic.
    sunk_long c.args.root c.args.draft.now c.args.cache.now old new u pic c.args.at c.loop-step.link c.loop-step.place c.loop-step._step (c.loop-step.invariant old new u pic)
    (omega (arith, c.loop-step-test.false, c.longest_way-step-end.ensures.count))
