use Rattle.std.proofs.Common.{◌≡◌, ◌∙◌, ◌++◌, ◌∷◌, [], List, suc, Option, Some, ap, sym, subst, arith, add-one}
use Rattle.std.specs.Option.{option_copied}
use Rattle.std.proofs.lemmas.Result.{err_from_is_err_and}
use Rattle.iris_name.specs.declared.name.FileId.{FileId}
use Rattle.iris_name.specs.declared.name.Name.TheVariants as name
use Rattle.iris_node.specs.declared.node.Link.{Link}
use Rattle.iris_node.specs.Fields.{EntryFields}
use Rattle.iris_node.specs.Trees.{Shown}
use Rattle.iris_shape.specs.Treap.{Treap}
use Rattle.iris_cache.specs.Drafted.{seen}
use Rattle.iris_treepaths.specs.Rows.{Row}
use Rattle.iris_dirtree.specs.Found.{entry_of_node}
use Rattle.iris_dirtree.specs.Piles.{Tables, Piling}
use Rattle.iris_dirtree.proofs.PassedRows.{piling_none, piling_long, piling_gone, piling_lacks, piling_left, piling_right, under_short}
use Rattle.iris_dirtree.proofs.listing.pass.Goals as goal
use Rattle.iris_dirtree.proofs.listing.pass.Goals.{In-Some, After-is_past, then-is_past+in_ok-put_last, else-is_past}

-- a link leads on
going : (c : In-Some) (old new : Shown) (all begin : Treap Row) (left : List Row) → Tables c.args.draft.now c.args.cache.now old new → Piling old new c.args.draft.now c.args.cache.now c.args.after.now all begin left c.args.waiting.now.items c.args.link 1
    → Piling old new c.args.draft.now c.args.cache.now c.args.after.now all begin left c.loop-step.waiting.items (Some c.in-Some.here) (suc c.loop-step._step)
going c old new all begin left tab s =
    subst (λ at. Piling old new c.args.draft.now c.args.cache.now c.args.after.now all begin left c.loop-step.waiting.items at (suc c.loop-step._step)) c.in-Some.is (c.loop-step.invariant old new all begin left tab s)

-- the entry there
abbrev entry_of : After-is_past → EntryFields
entry_of c = c.in-Some-2.entry.now

met : (c : After-is_past) → Some (entry_of c) ≡ entry_of_node (seen c.args.draft.now c.args.cache.now (name.Entry c.in-Some.here.id))
met c = ap option_copied (sym c.in-Some-2.is) ∙ c.in_ok-entry.ensures.entry

pub returns-in_default-clause-passed : goal.returns-in_default-clause-passed
returns-in_default-clause-passed c = λ old new all begin left tab s.
    piling_none c.args.after.now c.args.draft.now c.args.cache.now old new all begin left tab c.loop-step.waiting.items c.loop-step.at (suc c.loop-step._step) c.in_default.is (c.loop-step.invariant old new all begin left tab s)

pub returns-in_err-entry-clause-short : goal.returns-in_err-entry-clause-short
returns-in_err-entry-clause-short c =
    let p = err_from_is_err_and c.from_residual.result c.from_residual.ensures.1 in
    let missing = c.in_err-entry.ensures.missing in
    let need = c.in_err-entry.ensures.need in
    rw (p.1, p.2) (under_short c.args.after.now c.args.draft.now c.args.cache.now c.args.waiting.now.items c.args.link c.in-Some.here c.in_err-entry.field-0.0 need missing
    (λ old new all begin left tab s. piling_lacks c.args.after.now c.args.draft.now c.args.cache.now old new all begin left tab c.loop-step.waiting.items c.in-Some.here (suc c.loop-step._step)
    (going (goal.at.returns-in_err-entry-clause-short c).In-Some old new all begin left tab s) missing))

pub returns-in_default-2-clause-passed : goal.returns-in_default-2-clause-passed
returns-in_default-2-clause-passed c = λ old new all begin left tab s.
    piling_gone c.args.after.now c.args.draft.now c.args.cache.now old new all begin left tab c.loop-step.waiting.items c.in-Some.here (suc c.loop-step._step)
    (going (goal.at.returns-in_default-2-clause-passed c).In-Some old new all begin left tab s) c.in_ok-entry.ensures.known (ap option_copied (sym c.in_default-2.is) ∙ c.in_ok-entry.ensures.entry)

pub loop-step-preserved : goal.loop-step-preserved
loop-step-preserved c = λ old new all begin left tab s.
    let g = going (goal.at.loop-step-preserved c).In-Some old new all begin left tab s in
    let m = (goal.at.loop-step-preserved c).After-is_past in
    let n = c.args.after.now in
    let d = c.args.draft.now in
    let w = c.args.cache.now in
    let ids = c.loop-step.waiting.items in
    let l = c.in-Some.here in
    let i = suc c.loop-step._step in
    let P : List FileId → Option Link → Type 0 = λ ids at. Piling old new d w n all begin left ids at (suc i) in
    rw add-one (elim c.if-is_past.branch [
      | then-is_past+in_ok-put_last b ↦
          (let more : c.if-is_past.waiting.items ≡ ids ++ l.id ∷ [] = ap (λ v. v.items) b.waiting-is ∙ b.in_ok-put_last.ensures.last in
          subst (λ ids. P ids c.if-is_past.at) (sym more) (subst (P (ids ++ l.id ∷ [])) (ap (λ (e : EntryFields). e.left) (sym c.entry.view_is) ∙ sym b.at-is)
          (piling_left n d w old new all begin left tab ids l i g (entry_of m) (met m) (sym c.is_past.ensures ∙ b.if-is_past.true))))
      | else-is_past b ↦
          (let same : c.if-is_past.waiting.items ≡ ids = ap (λ v. v.items) b.waiting-is in
          subst (λ ids. P ids c.if-is_past.at) (sym same) (subst (P ids) (ap (λ (e : EntryFields). e.right) (sym c.entry.view_is) ∙ sym b.at-is)
          (piling_right n d w old new all begin left tab ids l i g (entry_of m) (met m) (sym c.is_past.ensures ∙ b.if-is_past.false))))
    ])

pub returns-clause-passed : goal.returns-clause-passed
returns-clause-passed c = λ old new all begin left tab s.
    piling_long c.args.after.now c.args.draft.now c.args.cache.now old new all begin left tab c.loop-step.waiting.items c.loop-step.at c.loop-step._step (omega (arith, c.loop-step-test.false, c.longest_way-step-end.ensures.count)) (c.loop-step.invariant old new all begin left tab s)
