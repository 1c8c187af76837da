use Rattle.std.proofs.Common.{◌≡◌, ◌≤◌, ◌<◌, ◌∙◌, ap, sym, subst, length, arith, Option}
use Rattle.std.proofs.lemmas.Option.{slice_get_within}
use Rattle.std.proofs.lemmas.Map.Made.{lookup_key_passes}
use Rattle.iris_name.specs.Names.{same_name}
use Rattle.iris_name.specs.NameLaws.{same_name-true}
use Rattle.iris_name.specs.declared.name.Name.{Name}
use Rattle.indexmap.specs.IndexMap.{get}
use Rattle.iris_cache.specs.Resident.{map_if}
use Rattle.iris_blocks.specs.Held.{edited_page}
use Rattle.iris_blocks.proofs.Grouping.{IsInPlace, in_place, grouped_all, grouped_but}
use Rattle.iris_blocks.proofs.Regrouping.{grouped_set, set_here}
use Rattle.iris_blocks.proofs.entries.edit.Goals as goal

pub lift-at-requires-clause-within : goal.lift-at-requires-clause-within
lift-at-requires-clause-within c =
    let w = slice_get_within c.args.pages.now.entries c.in-Some.i _ c.in-Some.ensures.entry in
    let n = c.edit_at.ensures.count in
    omega (arith, w, n)

pub lift-at-requires-clause-grouped : goal.lift-at-requires-clause-grouped
lift-at-requires-clause-grouped c =
    let h = c.in-Some.field-0-2.now in
    let is = c.edit_at.ensures.entries c.in-Some.field-0-1.now h c.in-Some.ensures.entry in
    grouped_set c.args.pages.now.entries c.edit_at.new.pages.entries c.args.ends.now c.in-Some.i (edited_page c.args.edit h) is (grouped_but c.args.pages.now.entries c.args.ends.now c.in-Some.i c.requires.grouped)

pub returns-then-edit_at-clause-pages : goal.returns-then-edit_at-clause-pages
returns-then-edit_at-clause-pages c = λ q.
    let k = c.in-Some.field-0-1.now in
    let named : k ≡ c.args.name.now = sym (same_name-true c.args.name.now k (lookup_key_passes (same_name c.args.name.now) c.args.pages.now.entries k (sym c.in-Some.ensures.key))) in
    c.settle.ensures.same q ∙ c.lift-at.ensures.same q ∙ c.edit_at.ensures.pages k c.in-Some.field-0-2.now c.in-Some.ensures.entry q
    ∙ ap (λ (n : Name). map_if (same_name n q) (edited_page c.args.edit) (get same_name c.args.pages.now q)) named

pub returns-else-edit_at-clause-grouped : goal.returns-else-edit_at-clause-grouped
returns-else-edit_at-clause-grouped c =
    let es = c.args.pages.now.entries in
    let ends = c.args.ends.now in
    let i = c.in-Some.i in
    let k = c.in-Some.field-0-1.now in
    let h = c.in-Some.field-0-2.now in
    let at = c.in-Some.ensures.entry in
    let w = edited_page c.args.edit h in
    let is = c.edit_at.ensures.entries k h at in
    let g = grouped_set es c.edit_at.new.pages.entries ends i w is (grouped_but es ends i c.requires.grouped) in
    let same = c.edit_at.ensures.group c.if-edit_at.false k h at in
    grouped_all c.edit_at.new.pages.entries ends i (k, w) g (ap (λ l. Rattle.std.proofs.Common.slice_get l i) is ∙ set_here es i k h w at) (subst (IsInPlace ends i) (sym same) (in_place es ends i (k, h) c.requires.grouped at))

pub returns-else-edit_at-clause-pages : goal.returns-else-edit_at-clause-pages
returns-else-edit_at-clause-pages c = λ q.
    let k = c.in-Some.field-0-1.now in
    let named : k ≡ c.args.name.now = sym (same_name-true c.args.name.now k (lookup_key_passes (same_name c.args.name.now) c.args.pages.now.entries k (sym c.in-Some.ensures.key))) in
    c.edit_at.ensures.pages k c.in-Some.field-0-2.now c.in-Some.ensures.entry q
    ∙ ap (λ (n : Name). map_if (same_name n q) (edited_page c.args.edit) (get same_name c.args.pages.now q)) named
