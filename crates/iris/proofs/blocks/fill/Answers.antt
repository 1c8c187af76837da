use Rattle.std.proofs.Common.{◌∙◌}
use Rattle.iris.proofs.Fillings.{filled_from}
use Rattle.iris.proofs.blocks.fill.Goals as goal

pub returns-clause-filled : goal.returns-clause-filled
returns-clause-filled c =
    c.of.ensures ∙ filled_from c.args.bytes c.into_vec-block.result.items c.resize.new.self.items _ c.in_ok-resize.ensures.items c.into_vec-block.result.ok.0 c.into_vec-block.ensures c.requires
