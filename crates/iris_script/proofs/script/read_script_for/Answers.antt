use Rattle.std.proofs.Common.{◌≡◌, ℕ, true}
use Rattle.std.proofs.lemmas.List.Elements.{All-push}
use Rattle.std.proofs.lemmas.Result.{err_from_is_err_and}
use Rattle.iris_name.specs.declared.request.Request.{Request}
use Rattle.iris_script.proofs.ScriptSoFar.{so_far_call, so_far_fault, so_far_skip}
use Rattle.iris_script.proofs.script.read_script_for.Goals as goal

pub loop-rest-preserved-then-is_skipped : goal.loop-rest-preserved-then-is_skipped
loop-rest-preserved-then-is_skipped g c =
    let skipped = rw c.strip_return-line.ensures at (c.is_skipped.ensures.0 c.if-is_skipped.true) in (
      so_far_skip c.args.bytes.now c.loop-rest.rest.now c.first_line.result.0.now c.first_line.result.1.now c.loop-rest.number c.loop-rest.calls.items
          c.loop-rest.invariant.0 c.first_line.ensures.lines c.first_line.ensures.shorter skipped,
      c.loop-rest.invariant.1,
    )

pub returns-in_err-call-clause-err : goal.returns-in_err-call-clause-err
returns-in_err-call-clause-err g c =
    let p = err_from_is_err_and c.from_residual.result c.from_residual.ensures.1 in
    let fault = rw c.strip_return-line.ensures at c.in_err-call.ensures.err in
    rw (p.1, p.2)
    (so_far_fault g.S.Service.serves c.args.bytes.now c.loop-rest.rest.now c.first_line.result.0.now c.first_line.result.1.now c.loop-rest.number c.loop-rest.calls.items
    c.in_err-call.field-0.0 c.loop-rest.invariant.0 c.loop-rest.invariant.1 c.first_line.ensures.lines fault)

pub loop-rest-preserved : goal.loop-rest-preserved
loop-rest-preserved g c =
    let call = rw c.strip_return-line.ensures at c.in_ok-call.ensures.ok in
    let served = c.in_ok-call.ensures.served in
    rw c.in_ok-push.ensures.items (
      so_far_call c.args.bytes.now c.loop-rest.rest.now c.first_line.result.0.now c.first_line.result.1.now c.loop-rest.number c.loop-rest.calls.items c.in_ok-call.call
          c.loop-rest.invariant.0 c.first_line.ensures.lines c.first_line.ensures.shorter call,
      All-push (λ (x : ℕ × Request). g.S.Service.serves x.1 ≡ true) c.loop-rest.calls.items c.in_ok-call.call c.loop-rest.invariant.1 served,
    )
