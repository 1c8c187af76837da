use Rattle.iris_rows.proofs.KeptFiles.{fit_split}
use Rattle.iris_rows.proofs.places.split.Goals as goal

pub returns-clause-ok : goal.returns-clause-ok
returns-clause-ok c = fit_split c.args.size c.args.version c.args.places.now c.index-places-place.result c.in_ok-page.page c.requires c.if-places-place-eq0.false c.in_ok-page.ensures
