use Rattle.std.proofs.Common.{◌≡◌, ◌∙◌, ap, sym, length, arith}
use Rattle.std.proofs.lemmas.Result.{err_from_is_err_and}
use Rattle.iris_name.specs.declared.request.Request.TheVariants.{Write}
use Rattle.iris_paths.specs.Following.{met_seen}
use Rattle.iris_paths.specs.Pictured.{IsOnTrail}
use Rattle.iris_records.specs.Shown.{shown}
use Rattle.iris_requests.proofs.BytesWritten.{writes_file, write_checked, write_refused, nothing_written, bytes_written, write_short, write_trail}
use Rattle.iris_requests.proofs.FileAtPath.{sees_file, looked_file}
use Rattle.iris_requests.proofs.NeededNames.{path_lack}
use Rattle.iris_requests.proofs.ShownTables.{paths_pictured}
use Rattle.iris_rows.specs.Changes.{seen_in}
use Rattle.iris_requests.proofs.files.write_at.Goals as goal

pub returns-in_err-found-clause-short : goal.returns-in_err-found-clause-short
returns-in_err-found-clause-short c =
    let p = err_from_is_err_and c.from_residual.result c.from_residual.ensures.1 in
    let names = c.args.path.now in
    rw (p.1, p.2) (λ keys text e. path_lack keys (Write text c.args.offset c.args.bytes.now) c.args.cache.now c.args.blocks.now c.args.counters c.new-draft.result c.new-draft.ensures (IsOnTrail keys.order names) c.in_err-found.field-0.0
    (write_trail keys c.args.cache.now c.args.blocks.now c.args.counters text names c.args.offset c.args.bytes.now e c.requires.few) (c.in_err-found.ensures.short keys.order))

pub returns-in-Some-clause-leads : goal.returns-in-Some-clause-leads
returns-in-Some-clause-leads c = λ order text e t s.
    let w = c.args.cache.now in
    let b = c.args.blocks.now in
    let k = c.args.counters in
    let pic = paths_pictured order t w b k s c.new-draft.result c.new-draft.ensures in
    let u = shown order t in
    let count : length c.as_slice.result.now ≡ length c.args.bytes.now = ap length c.as_slice.ensures in
    write_refused order text w b k c.args.offset c.args.bytes.now c.args.path.now e t s c.in_ok-found.seen (c.in_ok-found.ensures.met order (seen_in t) u u pic) c.in-Some.error c.refused.result c.refused.ensures
    (write_checked c.in_ok-found.seen c.args.offset (length c.as_slice.result.now) (length c.args.bytes.now) c.is_full.result k.age c.write_checks.result count c.is_full.ensures c.write_checks.ensures ∙ c.in-Some.is)

pub returns-then-count-eq0-clause-leads : goal.returns-then-count-eq0-clause-leads
returns-then-count-eq0-clause-leads c = λ order text e t s.
    let w = c.args.cache.now in
    let b = c.args.blocks.now in
    let k = c.args.counters in
    let pic = paths_pictured order t w b k s c.new-draft.result c.new-draft.ensures in
    let u = shown order t in
    let count : length c.as_slice.result.now ≡ length c.args.bytes.now = ap length c.as_slice.ensures in
    nothing_written order text w b k c.args.offset c.args.bytes.now c.args.path.now e t s c.in_ok-found.seen (c.in_ok-found.ensures.met order (seen_in t) u u pic)
    (write_checked c.in_ok-found.seen c.args.offset (length c.as_slice.result.now) (length c.args.bytes.now) c.is_full.result k.age c.write_checks.result count c.is_full.ensures c.write_checks.ensures ∙ c.in_default.is)
    c.unchanged.result c.unchanged.ensures (sym count ∙ c.if-count-eq0.true)

pub plan_write-requires-clause-entry : goal.plan_write-requires-clause-entry
plan_write-requires-clause-entry c =
    let d = c.new-draft.result in
    let w = c.args.cache.now in
    let passes = writes_file c.in_ok-found.seen c.args.offset (length c.as_slice.result.now) c.is_full.result (omega arith) (sym c.write_checks.ensures ∙ c.in_default.is) in
    sees_file d w c.in-At.id c.in-At.parent passes.size (ap (met_seen d w) (sym c.in-At.is) ∙ (sym c.in_ok-found.ensures.seen ∙ passes.is))

pub plan_write-requires-clause-bound : goal.plan_write-requires-clause-bound
plan_write-requires-clause-bound c =
    let count : length c.as_slice.result.now ≡ length c.args.bytes.now = ap length c.as_slice.ensures in
    let bound = (writes_file c.in_ok-found.seen c.args.offset (length c.as_slice.result.now) c.is_full.result (omega arith) (sym c.write_checks.ensures ∙ c.in_default.is)).bound in
    omega (arith, count, bound)

pub returns-in_err-plan_write-in-At-clause-short : goal.returns-in_err-plan_write-in-At-clause-short
returns-in_err-plan_write-in-At-clause-short c =
    let p = err_from_is_err_and c.from_residual-in_err-plan_write-in-At.result c.from_residual-in_err-plan_write-in-At.ensures.1 in
    let d = c.new-draft.result in
    let none = c.new-draft.ensures in
    let w = c.args.cache.now in
    let b = c.args.blocks.now in
    let k = c.args.counters in
    let names = c.args.path.now in
    let look = c.in_ok-found.ensures in
    let count : length c.as_slice.result.now ≡ length c.args.bytes.now = ap length c.as_slice.ensures in
    let passes = writes_file c.in_ok-found.seen c.args.offset (length c.as_slice.result.now) c.is_full.result (omega arith) (sym c.write_checks.ensures ∙ c.in_default.is) in
    rw (p.1, p.2) (λ keys text e. write_short keys w b k text names c.args.offset c.args.bytes.now e c.requires.few d c.in-At.id passes.size c.in_err-plan_write-in-At.field-0.0 none
    (λ t s. looked_file keys.order t w b k s d none names c.in_ok-found.found c.in_ok-found.seen c.in-At.id c.in-At.parent passes.size look.found look.one look.met c.in-At.is passes.is)
    (omega (arith, count)) c.in_err-plan_write-in-At.ensures.short)

pub returns-clause-leads : goal.returns-clause-leads
returns-clause-leads c = λ order text e t s.
    let d = c.new-draft.result in
    let none = c.new-draft.ensures in
    let w = c.args.cache.now in
    let b = c.args.blocks.now in
    let k = c.args.counters in
    let names = c.args.path.now in
    let look = c.in_ok-found.ensures in
    let u = shown order t in
    let pic = paths_pictured order t w b k s d none in
    let count : length c.as_slice.result.now ≡ length c.args.bytes.now = ap length c.as_slice.ensures in
    let passes = writes_file c.in_ok-found.seen c.args.offset (length c.as_slice.result.now) c.is_full.result (omega arith) (sym c.write_checks.ensures ∙ c.in_default.is) in
    let at = looked_file order t w b k s d none names c.in_ok-found.found c.in_ok-found.seen c.in-At.id c.in-At.parent passes.size look.found look.one look.met c.in-At.is passes.is in
    bytes_written order text w b k c.args.offset c.args.bytes.now names e t s c.in_ok-found.seen (look.met order (seen_in t) u u pic)
    (write_checked c.in_ok-found.seen c.args.offset (length c.as_slice.result.now) (length c.args.bytes.now) c.is_full.result k.age c.write_checks.result count c.is_full.ensures c.write_checks.ensures ∙ c.in_default.is)
    c.in-At.id passes.size at (omega (arith, count)) d none c.new-pages.result c.new-pages.ensures c.plan_write.new.draft c.plan_write.new.pages c.aged.result c.sound.ensures
    c.in_ok-plan_write-in-At.ensures.table c.in_ok-plan_write-in-At.ensures.pages c.in_ok-plan_write-in-At.ensures.olds c.aged.ensures.next c.aged.ensures.age
