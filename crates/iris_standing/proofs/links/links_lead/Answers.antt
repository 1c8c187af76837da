use Rattle.iris_standing.proofs.LinkedNames.{links_lead}
use Rattle.iris_standing.proofs.links.links_lead.Goals as goal

pub returns : goal.returns
returns c = links_lead
