use Rattle.std.proofs.Common.{◌≡◌, ◌<◌, ◌≤◌, ap, arith, Some, ◌∙◌}
use Rattle.std.specs.Prelude.{slice_get}
use Rattle.iris_blocks.specs.Paged.{Paged}
use Rattle.iris_blocks.proofs.Regrouping.{loose_at}
use Rattle.iris_blocks.proofs.blocks.Blocks.idle.Goals as goal

pub returns-clause-idle : goal.returns-clause-idle
returns-clause-idle c = λ i n h at. loose_at c.self.inside.pages.entries c.self.inside.ends i (n, h) c.self.invariant.grouped (ap (λ (p : Paged). slice_get p.pages i) c.self.view_is ∙ at)
