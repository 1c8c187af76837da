use Rattle.std.proofs.Common.{arith, sym, ◌∙◌, ap, Vec, Global}
use Rattle.iris_plain.specs.Routes.{is_at_or_under}
use Rattle.iris_plain.specs.declared.files.Entry.{Entry}
use Rattle.iris_plain.proofs.EntryLaws.{moves_push, moves_skip}
use Rattle.iris_plain.proofs.files.moved.Goals as goal
use Rattle.iris_plain.proofs.files.moved.Goals.{then-is_under+in_ok-moved_entry+in_ok-push, else-is_under}

pub loop-entry-preserved : goal.loop-entry-preserved
loop-entry-preserved c = elim c.if-is_under.branch [
  | then-is_under+in_ok-moved_entry+in_ok-push w ↦ moves_push c.args.olds.now c.args.news.now c.args.entries.now c.loop-entry.fresh.items c.if-is_under.fresh.items c.loop-entry.entry-index c.entry-item.result w.in_ok-moved_entry.field-0
      c.entry-item.is (omega arith) (ap (is_at_or_under c.args.olds.now) (sym c.names.ensures) ∙ sym w.if-is_under.ensures) w.in_ok-moved_entry.ensures.path w.in_ok-moved_entry.ensures.kind (ap (λ (v : Vec Entry Global). v.items) w.fresh-is ∙ w.in_ok-push.ensures.items) c.loop-entry.invariant
  | else-is_under w ↦ moves_skip c.args.olds.now c.args.news.now c.args.entries.now c.loop-entry.fresh.items c.if-is_under.fresh.items c.loop-entry.entry-index c.entry-item.result
      c.entry-item.is (omega arith) (ap (is_at_or_under c.args.olds.now) (sym c.names.ensures) ∙ sym w.if-is_under.ensures) (ap (λ (v : Vec Entry Global). v.items) w.fresh-is) c.loop-entry.invariant
]
