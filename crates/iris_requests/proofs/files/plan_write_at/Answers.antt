use Rattle.std.proofs.Common.{◌∙◌, ap, refl, sym, length, arith}
use Rattle.std.proofs.lemmas.Result.{err_from_is_err_and, IfOk-weaker}
use Rattle.iris_name.specs.declared.request.PlainError.TheVariants.{TooMuch}
use Rattle.iris_name.specs.declared.request.Request.TheVariants.{Write}
use Rattle.iris_plain.specs.Checks.{is_full}
use Rattle.iris_requests.proofs.BytesWritten.{too_many, write_nowhere, write_refused}
use Rattle.iris_requests.proofs.NeededNames.{memory_short}
use Rattle.iris_rows.specs.Changes.{seen_in}
use Rattle.iris_requests.proofs.files.plan_write_at.Goals as goal

pub returns-in_err-path_of-clause-short : goal.returns-in_err-path_of-clause-short
returns-in_err-path_of-clause-short c =
    let p = err_from_is_err_and c.from_residual.result c.from_residual.ensures.1 in
    rw (p.1, p.2) (memory_short c.args.keys.now (Write c.args.path.now c.args.offset c.args.bytes.now) c.args.cache.now c.args.blocks.now c.args.counters c.in_err-path_of.field-0.0 c.in_err-path_of.ensures.short)

pub returns-in-None-clause-leads : goal.returns-in-None-clause-leads
returns-in-None-clause-leads c =
    write_nowhere c.args.keys.now.order c.args.path.now c.args.cache.now c.args.blocks.now c.args.counters c.args.offset c.args.bytes.now c.refused.result c.refused.ensures (sym c.in_ok-path_of.ensures.path ∙ c.in-None.is)

pub returns-then-as_slice-gt-MOST_BYTES-clause-leads : goal.returns-then-as_slice-gt-MOST_BYTES-clause-leads
returns-then-as_slice-gt-MOST_BYTES-clause-leads c = λ t s.
    let count = ap length c.as_slice.ensures in
    let much = c.if-as_slice-gt-MOST_BYTES.true in
    let names = c.in-Some.path in
    let k = c.args.counters in
    write_refused c.args.keys.now.order c.args.path.now c.args.cache.now c.args.blocks.now k c.args.offset c.args.bytes.now names (sym c.in_ok-path_of.ensures.path ∙ c.in-Some.is) t s (seen_in t names) refl TooMuch
    c.refused-then-as_slice-gt-MOST_BYTES.result c.refused-then-as_slice-gt-MOST_BYTES.ensures (too_many (seen_in t names) c.args.offset (length c.args.bytes.now) (is_full k.age) (omega (arith, count, much)))

pub returns-else-as_slice-gt-MOST_BYTES-clause-leads : goal.returns-else-as_slice-gt-MOST_BYTES-clause-leads
returns-else-as_slice-gt-MOST_BYTES-clause-leads c = IfOk-weaker c.write_at.result _ _ (λ p h. h c.args.keys.now.order c.args.path.now (sym c.in_ok-path_of.ensures.path ∙ c.in-Some.is)) c.write_at.ensures.leads
