use Rattle.std.proofs.Common.{sym, ◌∙◌, ap, Some, None}
use Rattle.iris_plain.specs.Entries.{kind_at}
use Rattle.iris_plain.proofs.EntryLaws.{seen_more}
use Rattle.iris_plain.proofs.files.seen_at.Goals as goal

pub returns-in-None : goal.returns-in-None
returns-in-None c = sym (c.loop-k.invariant ∙ seen_more (kind_at c.args.entries.now) c.args.names.now c.loop-k.k None c.loop-k-test.true c.in-None.ensures)

pub returns-in-Some-Bytes : goal.returns-in-Some-Bytes
returns-in-Some-Bytes c = sym (c.loop-k.invariant ∙ seen_more (kind_at c.args.entries.now) c.args.names.now c.loop-k.k _ c.loop-k-test.true (c.in-Some-Bytes.ensures ∙ ap Some c.in-Some-Bytes.field-0-is))

pub loop-k-preserved : goal.loop-k-preserved
loop-k-preserved c = c.loop-k.invariant ∙ seen_more (kind_at c.args.entries.now) c.args.names.now c.loop-k.k _ c.loop-k-test.true (c.in-Some-Dir.ensures ∙ ap Some c.in-Some-Dir.field-0-is)
