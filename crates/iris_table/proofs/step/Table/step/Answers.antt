use Rattle.std.proofs.Common.{IfOk, subst}
use Rattle.iris_table.specs.Served.{Served, served_table}
use Rattle.iris_table.specs.Replies.{TableReplies}
use Rattle.iris_table.proofs.ServedStep.{whole_after}
use Rattle.iris_table.proofs.step.Table.step.Goals as goal

pub invariant_of-self : goal.invariant_of-self
invariant_of-self c = whole_after c.serve.result c.self.inside.state c.serve.new.state c.args.request.now c.self.invariant c.serve.ensures.step c.serve.ensures.err c.serve.ensures.forests

pub returns-clause-reply : goal.returns-clause-reply
returns-clause-reply c = let P : Served → Type 0 = λ s. IfOk c.serve.result (λ reply. TableReplies s.keys.order (served_table s) c.args.request.now reply) in
    subst P c.self.view_is c.serve.ensures.reply
