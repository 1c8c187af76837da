use Rattle.std.proofs.Common.{◌∙◌, ap, subst, sym, take}
use Rattle.std.proofs.lemmas.Result.{err_from_is_err_and}
use Rattle.iris_name.specs.Told.{extended}
use Rattle.iris_rows.specs.Rows.{empty_table}
use Rattle.iris.specs.Plain.{AreRight, printed_to}
use Rattle.iris.proofs.Plains.{script_end, served}
use Rattle.iris.proofs.plain.run.Goals as goal

pub returns-in_err-script : goal.returns-in_err-script
returns-in_err-script g c =
    let p = err_from_is_err_and c.from_residual-in_err-script.result c.from_residual-in_err-script.ensures.1 in
    rw (p.1, p.2)
    (script_end _ _ _ _ _ (g.W.Sink.written c.args.out.now) _ _ c.in-Some.master c.as_slice.result.now _ c.in-Some.ensures.some
    (rw c.as_slice.ensures.value c.in_ok-bytes.ensures.whole) (rw c.as_slice.ensures.value c.in_ok-bytes.ensures.len) c.in_err-script.ensures.err)

pub returns-in-Ok : goal.returns-in-Ok
returns-in-Ok g c = (
  c.in_ok-replies.replies.items,
  served _ _ _ c.in-Some.master c.of.result.order c.in_ok-bytes.bytes.items c.in_ok-script.script c.in_ok-replies.replies.items c.in-Some.ensures.some c.in_ok-bytes.ensures.whole c.in_ok-bytes.ensures.len
      (rw (sym c.as_slice.ensures.value) c.in_ok-script.ensures.ok) c.of.ensures.order
      (subst (λ calls. AreRight c.of.result.order empty_table calls c.in_ok-replies.replies.items) c.as_slice-2.ensures c.in_ok-replies.ensures),
  c.in-Ok.ensures.ok ∙ ap (extended (g.W.Sink.written c.args.out.now)) (c.as_slice-4.ensures.value ∙ (c.in_ok-text.ensures ∙ ap (printed_to 16) c.as_slice-3.ensures.value)),
)

pub returns : goal.returns
returns g c = (
  (
    c.in_ok-replies.replies.items,
    served _ _ _ c.in-Some.master c.of.result.order c.in_ok-bytes.bytes.items c.in_ok-script.script c.in_ok-replies.replies.items c.in-Some.ensures.some c.in_ok-bytes.ensures.whole c.in_ok-bytes.ensures.len
        (rw (sym c.as_slice.ensures.value) c.in_ok-script.ensures.ok) c.of.ensures.order
        (subst (λ calls. AreRight c.of.result.order empty_table calls c.in_ok-replies.replies.items) c.as_slice-2.ensures c.in_ok-replies.ensures),
    (let e = c.in-Err.ensures.err in (e.0, e.1 ∙ ap (λ z. extended (g.W.Sink.written c.args.out.now) (take e.0 z)) (c.as_slice-4.ensures.value ∙ (c.in_ok-text.ensures ∙ ap (printed_to 16) c.as_slice-3.ensures.value)))),
  ),
  c.in-Err.ensures.cause,
)
