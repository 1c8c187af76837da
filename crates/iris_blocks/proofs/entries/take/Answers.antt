use Rattle.std.proofs.Common.{◌≡◌, ◌∙◌, ap, sym, cond, None}
use Rattle.std.proofs.lemmas.Map.Made.{lookup_key_passes}
use Rattle.iris_name.specs.Names.{same_name}
use Rattle.iris_name.specs.NameLaws.{same_name-true}
use Rattle.iris_name.specs.declared.name.Name.{Name}
use Rattle.indexmap.specs.IndexMap.{get}
use Rattle.iris_blocks.proofs.Grouping.{entry_name}
use Rattle.iris_blocks.proofs.Regrouping.{grouped_less}
use Rattle.iris_blocks.proofs.entries.take.Goals as goal

pub returns-clause-grouped : goal.returns-clause-grouped
returns-clause-grouped c =
    let r = c.in-Some-swap_remove_index in
    grouped_less c.lift-at.new.pages.entries c.swap_remove_index.new.self.entries (r.field-0-0, r.held) c.lift-at.new.ends c.lift-at.result r.ensures.entries r.ensures.len c.lift-at.ensures.grouped c.lift-at.ensures.behind c.lift-at.ensures.within

pub returns-clause-pages : goal.returns-clause-pages
returns-clause-pages c = λ q.
    let r = c.in-Some-swap_remove_index in
    let k = c.in-Some.field-0-1.now in
    let named : k ≡ c.args.name.now = sym (same_name-true c.args.name.now k (lookup_key_passes (same_name c.args.name.now) c.args.pages.now.entries k (sym c.in-Some.ensures.key))) in
    let gone : r.field-0-0 ≡ c.args.name.now = entry_name (r.field-0-0, r.held) (k, c.in-Some.field-0-2.now) (r.ensures.entry ∙ c.lift-at.ensures.carried ∙ c.in-Some.ensures.entry) ∙ named in
    r.ensures.updates.0 q
    ∙ ap (λ (n : Name). cond (same_name n q) None (get same_name c.lift-at.new.pages q)) gone
    ∙ ap (λ o. cond (same_name c.args.name.now q) None o) (c.lift-at.ensures.same q)
