use Rattle.iris_blocks.proofs.Grouping.{joins_third, joins_carried}
use Rattle.iris_blocks.proofs.groups.to_loose.Goals as goal

pub returns-clause-grouped : goal.returns-clause-grouped
returns-clause-grouped c =
    let j = c.join-at in
    joins_third c.args.pages.now.entries j.new.pages.entries c.args.ends.now.loose c.args.i j.new.end j.result c.requires.within c.requires.behind j.ensures.joins c.args.ends.now.waiting c.args.ends.now.dirty c.requires.grouped

pub returns-clause-carried : goal.returns-clause-carried
returns-clause-carried c =
    let j = c.join-at in
    joins_carried c.args.pages.now.entries j.new.pages.entries c.args.ends.now.loose c.args.i j.new.end j.result c.requires.within c.requires.behind j.ensures.joins
