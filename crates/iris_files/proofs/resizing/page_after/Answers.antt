use Rattle.std.proofs.Common.{rules}
use Rattle.iris_files.proofs.resizing.page_after.Goals as goal

pub returns : goal.returns
returns c = search rules
