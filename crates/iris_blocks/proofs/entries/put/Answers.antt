use Rattle.std.proofs.Common.{◌∙◌, sym, subst}
use Rattle.iris_name.specs.Names.{same_name}
use Rattle.indexmap.proofs.CallerLemmas.{insert_entry-new}
use Rattle.iris_blocks.specs.Groups.{AreGroupedBut}
use Rattle.iris_blocks.proofs.Regrouping.{grouped_more}
use Rattle.iris_blocks.proofs.entries.put.Goals as goal

pub settle-requires-clause-grouped : goal.settle-requires-clause-grouped
settle-requires-clause-grouped c =
    let es = c.args.pages.now.entries in
    let is = c.in-Ok.ensures.entries ∙ insert_entry-new same_name c.args.pages.now c.args.name c.args.guest c.requires.absent in
    subst (λ i. AreGroupedBut c.insert.new.self.entries c.args.ends.now i) (sym c.len-i.ensures.len) (grouped_more es c.insert.new.self.entries (c.args.name, c.args.guest) c.args.ends.now is c.requires.grouped)
