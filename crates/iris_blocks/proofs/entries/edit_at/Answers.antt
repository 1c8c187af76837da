use Rattle.std.proofs.Common.{◌≡◌, ◌∙◌, ap, sym, subst}
use Rattle.std.specs.Map.{lookup}
use Rattle.std.specs.List.{IsDistinct}
use Rattle.indexmap.specs.Layout.{set_value_at, length-set_value_at}
use Rattle.indexmap.proofs.CallerLemmas.{keys-with_value_at}
use Rattle.iris_name.specs.Names.{same_name}
use Rattle.iris_blocks.specs.Held.{edited_page}
use Rattle.iris_blocks.proofs.Grouping.{entry_held}
use Rattle.iris_blocks.proofs.Regrouping.{looked_up_set}
use Rattle.iris_blocks.proofs.entries.edit_at.Goals as goal

pub returns-clause-pages : goal.returns-clause-pages
returns-clause-pages c = λ n h at q.
    let m = c.args.pages.now in
    let r = c.pair_mut-held.result in
    let was : r.1.now ≡ h = entry_held (r.0.now, r.1.now) (n, h) (sym c.pair_mut-held.ensures.value ∙ at) in
    let is : c.edit.new.self ≡ edited_page c.args.edit h = c.edit.ensures ∙ ap (edited_page c.args.edit) was in
    ap (λ w. lookup (same_name q) (set_value_at m.entries c.args.i w)) is ∙ looked_up_set m c.args.i n h (edited_page c.args.edit) c.pair_mut-held.ensures.unique at q

pub returns-clause-count : goal.returns-clause-count
returns-clause-count c = length-set_value_at c.args.pages.now.entries c.args.i c.edit.new.self

pub returns-clause-unique : goal.returns-clause-unique
returns-clause-unique c = λ u. subst (IsDistinct same_name) (sym (keys-with_value_at c.args.pages.now c.args.i c.edit.new.self)) u
