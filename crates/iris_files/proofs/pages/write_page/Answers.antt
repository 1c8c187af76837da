use Rattle.std.proofs.Common.{rules}
use Rattle.iris_files.proofs.pages.write_page.Goals as goal

pub returns-clause-page : goal.returns-clause-page
returns-clause-page c = search rules
