use Rattle.std.proofs.Common.{sym, ap, ◌∙◌}
use Rattle.std.specs.List.{count_by}
use Rattle.iris_blocks.specs.Paged.{Paged}
use Rattle.iris_blocks.proofs.Regrouping.{count_dirty}
use Rattle.iris_blocks.proofs.blocks.Blocks.dirty.Goals as goal

pub returns : goal.returns
returns c = sym (count_dirty c.self.inside.pages.entries c.self.inside.ends c.self.invariant.grouped) ∙ ap (λ (r : Paged). count_by (λ e. e.1.dirty) r.pages) c.self.view_is
