use Rattle.std.proofs.Common.{◌∙◌, ap}
use Rattle.iris_name.specs.Told.{extended}
use Rattle.std.proofs.Common.{take}
use Rattle.iris.proofs.Runs.{ran}
use Rattle.iris.proofs.top.run.Goals as goal

pub returns-in-Ok : goal.returns-in-Ok
returns-in-Ok g c = (
  c.in_ok-replies.replies,
  ran _ c.in-Some.master c.of.result.block _ _ c.in_ok-bytes.bytes.items c.as_slice.result.now _ _ _ _ _ _ _ _ c.in-Some.ensures.some c.of.ensures.block c.in_ok-bytes.ensures.whole c.in_ok-bytes.ensures.len c.as_slice.ensures.value c.in_ok-lines.ensures.lines
      c.in_ok-replies.ensures.serves c.in_ok-replies.ensures.judged c.in_ok-replies.ensures.shaped,
  c.in-Ok.ensures.ok ∙ ap (extended (g.W.Sink.written c.args.out.now)) c.text.ensures,
  c.any_refused.ensures,
)

pub returns : goal.returns
returns g c = (
  c.in_ok-replies.replies,
  ran _ c.in-Some.master c.of.result.block _ _ c.in_ok-bytes.bytes.items c.as_slice.result.now _ _ _ _ _ _ _ _ c.in-Some.ensures.some c.of.ensures.block c.in_ok-bytes.ensures.whole c.in_ok-bytes.ensures.len c.as_slice.ensures.value c.in_ok-lines.ensures.lines
      c.in_ok-replies.ensures.serves c.in_ok-replies.ensures.judged c.in_ok-replies.ensures.shaped,
  (let e = c.in-Err.ensures.err in (e.0, e.1 ∙ ap (λ z. extended (g.W.Sink.written c.args.out.now) (take e.0 z)) c.text.ensures)),
  c.in-Err.ensures.cause,
)
