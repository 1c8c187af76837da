use Rattle.std.proofs.Common.{ℕ, List, sym, ◌∙◌, ap, refl, subst}
use Rattle.iris_name.specs.Paths.{names_of}
use Rattle.iris_plain.specs.Checks.{is_file, unresolved, then_error, error_if}
use Rattle.iris_plain.specs.Pages.{IsPage}
use Rattle.iris_plain.specs.Steps.{has_entry_named}
use Rattle.iris_plain.proofs.StepLaws.{right}
use Rattle.iris_name.specs.declared.request.PlainError.TheVariants.{NotDir}
use Rattle.iris_rows.specs.declared.item.Item.{Item}
use Rattle.iris_rows.specs.Changes.{seen_in}
use Rattle.iris_rows.specs.View.{kind_below}
use Rattle.iris_table.specs.Stops.{root_of}
use Rattle.iris_table.specs.Served.{State, table_in}
use Rattle.iris_table.proofs.state.State.list.Goals as goal

pub returns : goal.returns
returns c = let t = table_in c.args.self.now in
    let P : List Item → Type 0 = λ items. IsPage (has_entry_named (λ path. kind_below path (root_of items)) c.names-2.result.now) 64 c.args.after.now c.in_ok-page.page in
    let Q : List (List ℕ) → Type 0 = λ names. IsPage (has_entry_named (λ path. kind_below path (root_of c.args.self.now.visible)) names) 64 c.args.after.now c.in_ok-page.page in
    right (names_of c.args.path.now) c.in-Some.path (c.in_ok-path.ensures ∙ c.in-Some.is) _ _ _
    (sym (λ i. let s = (c.seen.ensures ∙ ap (seen_in t) c.names.ensures) i in then_error (unresolved s) (error_if (is_file s) NotDir)) ∙ sym c.list_checks.ensures ∙ c.in_default-list_checks.is)
    (c.in_ok-page.page, (refl, subst Q c.names-2.ensures (subst P (c.as_slice.ensures.value ∙ ap (λ (s : State). s.visible) c.self.view_is) c.in_ok-page.ensures)))
