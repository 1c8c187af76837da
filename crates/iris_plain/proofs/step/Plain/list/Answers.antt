use Rattle.std.proofs.Common.{sym, ◌∙◌, ap, refl, subst, ℕ, List}
use Rattle.iris_name.specs.Paths.{names_of}
use Rattle.iris_name.specs.declared.request.PlainError.TheVariants.{NotDir}
use Rattle.iris_plain.specs.Checks.{unresolved, then_error, error_if, is_file}
use Rattle.iris_plain.specs.Files.{seen_at}
use Rattle.iris_plain.specs.Entries.{kind_at, ListedEntries}
use Rattle.iris_plain.specs.Pages.{IsPage}
use Rattle.iris_plain.specs.Steps.{has_entry_named}
use Rattle.iris_plain.specs.declared.files.Entry.{Entry}
use Rattle.iris_plain.proofs.StepLaws.{right}
use Rattle.iris_plain.proofs.step.Plain.list.Goals as goal

pub returns : goal.returns
returns c =
    let P : List Entry → Type 0 = λ es. IsPage (has_entry_named (kind_at es) c.names-2.result.now) 64 c.args.after.now c.in_ok-page.page in
    let Q : List (List ℕ) → Type 0 = λ names. IsPage (has_entry_named (kind_at c.args.self.now.entries) names) 64 c.args.after.now c.in_ok-page.page in
    right (names_of c.args.path.now) c.in-Some.path (c.in_ok-path.ensures ∙ c.in-Some.is) _ _ _
    (sym (λ i. let s = (c.seen.ensures ∙ ap (seen_at (kind_at c.args.self.now.entries)) c.names.ensures) i in then_error (unresolved s) (error_if (is_file s) NotDir)) ∙ sym c.list_checks.ensures ∙ c.in_default-list_checks.is)
    (c.in_ok-page.page, (refl, subst Q c.names-2.ensures (subst P (c.as_slice.ensures.value ∙ ap (λ (l : ListedEntries). l.entries) c.self.view_is) c.in_ok-page.ensures)))
