use Rattle.std.proofs.Common.{sym, subst, IfOk}
use Rattle.iris_name.specs.declared.request.Request.{Request}
use Rattle.iris_plain.specs.Steps.{PlainReplies}
use Rattle.iris_plain.specs.Entries.{state_of_list}
use Rattle.iris_plain.proofs.step.Plain.step.Goals as goal

pub returns-in-Read-clause-reply : goal.returns-in-Read-clause-reply
returns-in-Read-clause-reply c = let P : Request → Type 0 = λ r. IfOk c.read.result (λ reply. PlainReplies (state_of_list c.args.self.now) r reply) in subst P (sym c.in-Read.is) c.read.ensures
