use Rattle.std.proofs.Common.{◌≡◌, ◌∙◌, ◌++◌, ◌∷◌, [], ℕ, List, suc, Some, ap, sym, subst, arith, add-one}
use Rattle.std.specs.Option.{option_copied}
use Rattle.std.proofs.lemmas.List.{nil_from_length}
use Rattle.std.proofs.lemmas.Result.{err_from_is_err_and}
use Rattle.iris_name.specs.declared.name.FileId.{FileId}
use Rattle.iris_name.specs.declared.name.Name.TheVariants as name
use Rattle.iris_node.specs.Fields.{EntryFields}
use Rattle.iris_node.specs.Trees.{Shown}
use Rattle.iris_shape.specs.Treap.{treap}
use Rattle.iris_cache.specs.Drafted.{seen}
use Rattle.iris_treepaths.specs.Needs.{Listed}
use Rattle.iris_treepaths.specs.Rows.{Row, up}
use Rattle.iris_dirtree.specs.Found.{entry_of_node}
use Rattle.iris_dirtree.specs.Piles.{Piled}
use Rattle.iris_dirtree.proofs.Listings.{Page, tables_of, page_top, page_end, page_full, page_gone, page_next, page_short}
use Rattle.iris_dirtree.proofs.listing.plan_after.Goals as goal
use Rattle.iris_dirtree.proofs.listing.plan_after.Goals.{After-pop}

pub loop-row-init : goal.loop-row-init
loop-row-init c = λ key old new rows pic.
    let P : List (List ℕ) → List FileId → Type 0 = λ names ids. Page key c.args.after.now c.args.most old new c.args.draft.now c.args.cache.now rows names ids c.in_ok-at.at 0 in
    subst (λ names. P names c.new-waiting.result.items) (sym c.new-names.ensures) (subst (P []) (sym c.new-waiting.ensures.items)
    (page_top key c.args.after.now c.args.most c.args.dir c.args.draft.now c.args.cache.now old new rows pic c.in_ok-at.at c.in_ok-at.ensures.known c.in_ok-at.ensures.top))

pub returns-in_err-pass-clause-short : goal.returns-in_err-pass-clause-short
returns-in_err-pass-clause-short c =
    let p = err_from_is_err_and c.from_residual-in_err-pass.result c.from_residual-in_err-pass.ensures.1 in
    let short = c.in_err-pass.ensures.short in
    rw (p.1, p.2) (λ key. page_short key c.args.after.now c.args.most c.args.dir c.args.draft.now c.args.cache.now c.loop-row.names c.loop-row.waiting.items c.loop-row.at c.loop-row._row c.in_err-pass.field-0.0 c.loop-row-test.true
    (c.loop-row.invariant key) short)

-- the rows left are those that were passed
piled : (c : After-pop) (key : List ℕ) (old new : Shown) (rows : List Row) (pic : Listed key c.args.dir c.args.draft.now c.args.cache.now old new rows)
    → Piled new c.args.draft.now c.args.cache.now (treap (up key) rows) ((c.loop-row.invariant key old new rows pic).left) c.pass.new.waiting.items
piled c key old new rows pic =
    let s = c.loop-row.invariant key old new rows pic in
    c.in_ok-pass.ensures.passed old new (treap (up key) rows) s.begin s.left (tables_of key c.args.dir c.args.draft.now c.args.cache.now old new rows pic) s.piling

pub returns-in_default-clause-page : goal.returns-in_default-clause-page
returns-in_default-clause-page c = λ key old new rows pic.
    let s = c.loop-row.invariant key old new rows pic in
    let n : c.pass.new.waiting.items ≡ [] = nil_from_length c.pass.new.waiting.items (let none = c.in_default.ensures.cases.0 in omega (arith, c.pass.new.waiting.ok.0, none)) in
    page_end key c.args.after.now c.args.most c.args.dir c.args.draft.now c.args.cache.now old new rows pic c.loop-row.names c.loop-row.waiting.items c.pass.new.waiting.items c.loop-row.at c.loop-row._row s (omega arith)
    (piled (goal.at.returns-in_default-clause-page c).After-pop key old new rows pic) n

pub returns-in_default-entry_of-clause-page : goal.returns-in_default-entry_of-clause-page
returns-in_default-entry_of-clause-page c = λ key old new rows pic.
    let s = c.loop-row.invariant key old new rows pic in
    page_gone key c.args.after.now c.args.most c.args.dir c.args.draft.now c.args.cache.now old new rows pic s.left c.pass.new.waiting.items c.pop.new.self.items c.in-Some.id
    (piled (goal.at.returns-in_default-entry_of-clause-page c).After-pop key old new rows pic) c.in-Some.ensures.items (ap option_copied (sym c.in_default-entry_of.is) ∙ c.entry_of.ensures)

pub loop-row-preserved : goal.loop-row-preserved
loop-row-preserved c = λ key old new rows pic.
    let s = c.loop-row.invariant key old new rows pic in
    let d = c.args.draft.now in
    let w = c.args.cache.now in
    let e : EntryFields = record { id = c.entry.inside.id; name = c.entry.inside.name; left = c.entry.inside.left; right = c.entry.inside.right; body = c.entry.inside.body } in
    let at : Some e ≡ entry_of_node (seen d w (name.Entry c.in-Some.id)) = ap Some c.entry.view_is ∙ ap option_copied (sym c.in-Some-entry_of.is) ∙ c.entry_of.ensures in
    let more : c.push.new.self ≡ c.loop-row.names ++ e.name ∷ [] = c.in_ok-push.ensures.ok ∙ ap (λ n. c.loop-row.names ++ n ∷ []) c.in_ok-copy.ensures in
    rw add-one (subst (λ names. Page key c.args.after.now c.args.most old new d w rows names c.pop.new.self.items e.right (suc c.loop-row._row)) (sym more)
    (page_next key c.args.after.now c.args.most c.args.dir d w old new rows pic c.loop-row.names c.loop-row.waiting.items c.pass.new.waiting.items c.pop.new.self.items c.loop-row.at c.loop-row._row c.in-Some.id e s
    (piled (goal.at.loop-row-preserved c).After-pop key old new rows pic) c.in-Some.ensures.items at))

pub returns-clause-page : goal.returns-clause-page
returns-clause-page c = λ key old new rows pic.
    page_full key c.args.after.now c.args.most c.args.dir c.args.draft.now c.args.cache.now old new rows pic c.loop-row.names c.loop-row.waiting.items c.loop-row.at c.loop-row._row (c.loop-row.invariant key old new rows pic) (omega arith)
