use Rattle.iris_plan_laws.proofs.RepliesOfPlans as replies
use Rattle.iris_plan_laws.proofs.laws.reads_are_replies.Goals as goal

pub returns-clause-lists : goal.returns-clause-lists
returns-clause-lists c = replies.lists_are_replies

pub returns-clause-stats : goal.returns-clause-stats
returns-clause-stats c = replies.stats_are_replies
