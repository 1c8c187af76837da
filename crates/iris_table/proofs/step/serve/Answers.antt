use Rattle.std.proofs.Common.{◌≡◌, sym, ◌∙◌, ap, subst, cond, Some, IfOk, OnOk}
use Rattle.std.specs.Prelude.{is_none}
use Rattle.std.proofs.lemmas.Result.{IfOk-weaker, on_ok_weaker}
use Rattle.iris_name.specs.Paths.{names_of}
use Rattle.iris_name.specs.declared.request.Request.{Request}
use Rattle.iris_name.specs.declared.request.Request.TheVariants.{Mkdir, Create, Write, Read, Resize, Stat, List as ListNames, Rename, Remove}
use Rattle.iris_rows.specs.Rows.{File}
use Rattle.iris_rows.specs.Changes.{made, stepped, table_verdict}
use Rattle.iris_plain.specs.Steps.{by_names}
use Rattle.iris_rows.specs.Places.{file_of}
use Rattle.iris_table.specs.Served.{table_in}
use Rattle.iris_table.specs.Replies.{TableReplies}
use Rattle.iris_table.proofs.ServedStep.{told_plain}
use Rattle.iris_table.proofs.step.serve.Goals as goal

pub returns-in-Mkdir-clause-reply : goal.returns-in-Mkdir-clause-reply
returns-in-Mkdir-clause-reply c = let P : Request → Type 0 = λ r. IfOk c.make.result (λ reply. TableReplies c.args.keys.now.order (table_in c.args.state.now) r reply) in
    subst P (sym c.in-Mkdir.is) (IfOk-weaker c.make.result _ _ (λ reply. told_plain (table_in c.args.state.now) (Mkdir c.in-Mkdir.path) reply c.requires.whole.sound.good) c.make.ensures.reply)

pub returns-in-Create-clause-reply : goal.returns-in-Create-clause-reply
returns-in-Create-clause-reply c = let P : Request → Type 0 = λ r. IfOk c.make-in-Create.result (λ reply. TableReplies c.args.keys.now.order (table_in c.args.state.now) r reply) in
    subst P (sym c.in-Create.is) (IfOk-weaker c.make-in-Create.result _ _ (λ reply. told_plain (table_in c.args.state.now) (Create c.in-Create.path) reply c.requires.whole.sound.good) c.make-in-Create.ensures.reply)

pub returns-in-Write-clause-reply : goal.returns-in-Write-clause-reply
returns-in-Write-clause-reply c = let P : Request → Type 0 = λ r. IfOk c.write.result (λ reply. TableReplies c.args.keys.now.order (table_in c.args.state.now) r reply) in
    subst P (sym c.in-Write.is) (IfOk-weaker c.write.result _ _ (λ reply. told_plain (table_in c.args.state.now) (Write c.in-Write.path c.in-Write.offset c.in-Write.bytes) reply c.requires.whole.sound.good) c.write.ensures.reply)

pub returns-in-Read-clause-reply : goal.returns-in-Read-clause-reply
returns-in-Read-clause-reply c = let P : Request → Type 0 = λ r. IfOk c.read.result (λ reply. TableReplies c.args.keys.now.order (table_in c.args.state.now) r reply) in
    subst P (sym c.in-Read.is) (IfOk-weaker c.read.result _ _ (λ reply. told_plain (table_in c.args.state.now) (Read c.in-Read.path c.in-Read.offset c.in-Read.length) reply c.requires.whole.sound.good) c.read.ensures)

pub returns-in-Resize-clause-reply : goal.returns-in-Resize-clause-reply
returns-in-Resize-clause-reply c = let P : Request → Type 0 = λ r. IfOk c.resize.result (λ reply. TableReplies c.args.keys.now.order (table_in c.args.state.now) r reply) in
    subst P (sym c.in-Resize.is) (IfOk-weaker c.resize.result _ _ (λ reply. told_plain (table_in c.args.state.now) (Resize c.in-Resize.path c.in-Resize.length) reply c.requires.whole.sound.good) c.resize.ensures.reply)

pub returns-in-Stat-clause-reply : goal.returns-in-Stat-clause-reply
returns-in-Stat-clause-reply c = let P : Request → Type 0 = λ r. IfOk c.stat.result (λ reply. TableReplies c.args.keys.now.order (table_in c.args.state.now) r reply) in
    subst P (sym c.in-Stat.is) (IfOk-weaker c.stat.result _ _ (λ reply. told_plain (table_in c.args.state.now) (Stat c.in-Stat.path) reply c.requires.whole.sound.good) c.stat.ensures)

pub returns-in-List-clause-reply : goal.returns-in-List-clause-reply
returns-in-List-clause-reply c = let P : Request → Type 0 = λ r. IfOk c.list.result (λ reply. TableReplies c.args.keys.now.order (table_in c.args.state.now) r reply) in
    subst P (sym c.in-List.is) (IfOk-weaker c.list.result _ _ (λ reply. told_plain (table_in c.args.state.now) (ListNames c.in-List.path c.in-List.after) reply c.requires.whole.sound.good) c.list.ensures)

pub returns-in-Rename-clause-reply : goal.returns-in-Rename-clause-reply
returns-in-Rename-clause-reply c = let P : Request → Type 0 = λ r. IfOk c.rename.result (λ reply. TableReplies c.args.keys.now.order (table_in c.args.state.now) r reply) in
    subst P (sym c.in-Rename.is) (IfOk-weaker c.rename.result _ _ (λ reply. told_plain (table_in c.args.state.now) (Rename c.in-Rename.from c.in-Rename.to) reply c.requires.whole.sound.good) c.rename.ensures.reply)

pub returns-in-Remove-clause-reply : goal.returns-in-Remove-clause-reply
returns-in-Remove-clause-reply c = let P : Request → Type 0 = λ r. IfOk c.remove.result (λ reply. TableReplies c.args.keys.now.order (table_in c.args.state.now) r reply) in
    subst P (sym c.in-Remove.is) (IfOk-weaker c.remove.result _ _ (λ reply. told_plain (table_in c.args.state.now) (Remove c.in-Remove.path) reply c.requires.whole.sound.good) c.remove.ensures.reply)

pub returns-in-Create-clause-step : goal.returns-in-Create-clause-step
returns-in-Create-clause-step c = let t = table_in c.args.state.now in
    let change = λ (f : File). cond (is_none (table_verdict t (Create c.in-Create.path))) (by_names t (names_of c.in-Create.path) (λ names. made (Some f) names t)) t in
    let P : Request → Type 0 = λ r. OnOk c.make-in-Create.result (table_in c.make-in-Create.new.self ≡ stepped t r) in
    subst P (sym c.in-Create.is) (on_ok_weaker c.make-in-Create.result (λ (e : table_in c.make-in-Create.new.self ≡ change (file_of c.new.result)). e ∙ ap change c.new.ensures) c.make-in-Create.ensures.step)
