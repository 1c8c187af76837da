use Rattle.std.proofs.Common.{take, subst, sym}
use Rattle.std.proofs.lemmas.List.{take_all}
use Rattle.std.proofs.lemmas.List.Elements.{All-more, All-same}
use Rattle.std.specs.Str.{IsUtf8}
use Rattle.iris_requests.proofs.values.are_texts.Goals as goal

pub loop-text-preserved : goal.loop-text-preserved
loop-text-preserved c =
    All-more IsUtf8 c.args.texts.now c.loop-text.text-index c.text-item.result c.loop-text-test.true c.loop-text.invariant (subst IsUtf8 c.text-item.is (subst IsUtf8 c.as_str.ensures c.is_text.ensures))

pub returns : goal.returns
returns c = All-same IsUtf8 c.args.texts.now (take c.loop-text.text-index c.args.texts.now) (sym (take_all c.loop-text.text-index c.args.texts.now c.loop-text-test.false)) c.loop-text.invariant
