use Rattle.std.proofs.Common.{◌≡◌, ◌∙◌, ℕ, suc, List, Some, ap, sym, subst, arith, add-one}
use Rattle.std.proofs.lemmas.Result.{err_from_is_err_and}
use Rattle.std.specs.Option.{option_copied}
use Rattle.iris_name.specs.declared.name.Name.TheVariants as name
use Rattle.iris_node.specs.Fields.{EntryFields}
use Rattle.iris_cache.specs.Drafted.{seen}
use Rattle.iris_dirtree.specs.Found.{entry_of_node}
use Rattle.iris_node.specs.Trees.{Shown}
use Rattle.iris_treepaths.specs.Rows.{Row}
use Rattle.iris_treepaths.specs.Ways.{along_name}
use Rattle.iris_treepaths.specs.Needs.{Listed}
use Rattle.iris_dirtree.proofs.Searches.{Search, search_top, search_none, search_long, search_gone, search_lacks, search_here, search_right, search_left}
use Rattle.iris_dirtree.proofs.Stands.{link_lack}
use Rattle.iris_dirtree.proofs.finding.plan_find.Goals as goal
use Rattle.iris_dirtree.proofs.finding.plan_find.Goals.{In-Some, After-stands_before, then-stands_before, else-stands_before+then-stands_before-2}

pub loop-step-init : goal.loop-step-init
loop-step-init c = λ key old new rows pic.
    search_top key c.args.name.now c.args.dir c.args.draft.now c.args.cache.now old new rows c.in_ok-at.at pic c.in_ok-at.ensures.known c.in_ok-at.ensures.top

-- a link leads on
going : (c : In-Some) (key : List ℕ) (old new : Shown) (rows : List Row) → Listed key c.args.dir c.args.draft.now c.args.cache.now old new rows
    → Search key c.args.name.now old new c.args.draft.now c.args.cache.now rows (Some c.in-Some.link) (suc c.loop-step._step)
going c key old new rows pic = subst (λ at. Search key c.args.name.now old new c.args.draft.now c.args.cache.now rows at (suc c.loop-step._step)) c.in-Some.is (c.loop-step.invariant key old new rows pic)

-- the entry there
abbrev entry_of : After-stands_before → EntryFields
entry_of c = record { id = c.entry.inside.id; name = c.entry.inside.name; left = c.entry.inside.left; right = c.entry.inside.right; body = c.entry.inside.body }

met : (c : After-stands_before) → Some (entry_of c) ≡ entry_of_node (seen c.args.draft.now c.args.cache.now (name.Entry c.in-Some.link.id))
met c = ap Some c.entry.view_is ∙ ap option_copied (sym c.in-Some-2.is) ∙ c.in_ok-entry.ensures.entry

pub returns-in_default-clause-found : goal.returns-in_default-clause-found
returns-in_default-clause-found c = λ key old new rows pic.
    search_none key c.args.name.now c.args.dir c.args.draft.now c.args.cache.now old new rows pic c.loop-step.at (suc c.loop-step._step) c.in_default.is (c.loop-step.invariant key old new rows pic)

pub returns-in_err-entry-clause-short : goal.returns-in_err-entry-clause-short
returns-in_err-entry-clause-short c =
    let p = err_from_is_err_and c.from_residual-in_err-entry.result c.from_residual-in_err-entry.ensures.1 in
    let d = c.args.draft.now in
    let w = c.args.cache.now in
    let l = c.in-Some.link in
    let missing = c.in_err-entry.ensures.missing in
    let need = c.in_err-entry.ensures.need in
    rw (p.1, p.2) (λ key. link_lack key d w c.args.dir (along_name c.args.name.now key) l c.in_err-entry.field-0.0 need missing
    (λ old new rows pic. search_lacks key c.args.name.now c.args.dir d w old new rows pic l (suc c.loop-step._step) (going (goal.at.returns-in_err-entry-clause-short c).In-Some key old new rows pic) missing))

pub returns-in_default-2-clause-found : goal.returns-in_default-2-clause-found
returns-in_default-2-clause-found c = λ key old new rows pic.
    search_gone key c.args.name.now c.args.dir c.args.draft.now c.args.cache.now old new rows pic c.in-Some.link (suc c.loop-step._step)
    (going (goal.at.returns-in_default-2-clause-found c).In-Some key old new rows pic) c.in_ok-entry.ensures.known (ap option_copied (sym c.in_default-2.is) ∙ c.in_ok-entry.ensures.entry)

pub returns-else-stands_before-2-clause-found : goal.returns-else-stands_before-2-clause-found
returns-else-stands_before-2-clause-found c = λ key old new rows pic.
    search_here key c.args.name.now c.args.dir c.args.draft.now c.args.cache.now old new rows pic c.in-Some.link (suc c.loop-step._step) (entry_of (goal.at.returns-else-stands_before-2-clause-found c).After-stands_before)
    (going (goal.at.returns-else-stands_before-2-clause-found c).In-Some key old new rows pic) (met (goal.at.returns-else-stands_before-2-clause-found c).After-stands_before)
    (sym c.stands_before.ensures ∙ c.if-stands_before.false) (sym c.stands_before-else-stands_before.ensures ∙ c.if-stands_before-2.false)

pub loop-step-preserved : goal.loop-step-preserved
loop-step-preserved c = λ key old new rows pic.
    let s = going (goal.at.loop-step-preserved c).In-Some key old new rows pic in
    let d = c.args.draft.now in
    let w = c.args.cache.now in
    let n = c.args.name.now in
    let i = suc c.loop-step._step in
    let m = (goal.at.loop-step-preserved c).After-stands_before in
    rw add-one (elim c.if-stands_before.branch [
      | then-stands_before b ↦ subst (λ at. Search key n old new d w rows at (suc i)) (sym b.at-is) (search_right key n c.args.dir d w old new rows pic c.in-Some.link i (entry_of m) s (met m) (sym c.stands_before.ensures ∙ b.if-stands_before.true))
      | else-stands_before+then-stands_before-2 b ↦ subst (λ at. Search key n old new d w rows at (suc i)) (sym b.at-is) (search_left key n c.args.dir d w old new rows pic c.in-Some.link i (entry_of m) s (met m) (sym c.stands_before.ensures ∙ b.if-stands_before.false) (sym b.stands_before-else-stands_before.ensures ∙ b.if-stands_before-2.true))
    ])

pub returns-clause-found : goal.returns-clause-found
returns-clause-found c = λ key old new rows pic.
    search_long key c.args.name.now c.args.dir c.args.draft.now c.args.cache.now old new rows pic c.loop-step.at c.loop-step._step (omega (arith, c.loop-step-test.false, c.longest_way-step-end.ensures.count)) (c.loop-step.invariant key old new rows pic)
