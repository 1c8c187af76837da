use Rattle.iris_forest.proofs.PagesOfDirectories.{rows_make_pages}
use Rattle.iris_forest.proofs.laws.pages_of_names.Goals as goal

pub returns : goal.returns
returns c = rows_make_pages
