use Rattle.std.proofs.Common.{◌∙◌, ap, sym}
use Rattle.std.proofs.lemmas.Result.{err_from_is_err_and}
use Rattle.iris_name.specs.declared.request.Request.TheVariants.{Resize}
use Rattle.iris_paths.specs.Following.{met_seen}
use Rattle.iris_paths.specs.Pictured.{IsOnTrail}
use Rattle.iris_plain.specs.Checks.{is_full, resize_checks, size_of}
use Rattle.iris_records.specs.Shown.{shown}
use Rattle.iris_requests.proofs.LengthsChanged.{resizes_file, resize_checked, resize_refused, nothing_resized, length_changed, resize_short, resize_trail}
use Rattle.iris_requests.proofs.FileAtPath.{sees_file, looked_file}
use Rattle.iris_requests.proofs.NeededNames.{path_lack}
use Rattle.iris_requests.proofs.ShownTables.{paths_pictured}
use Rattle.iris_rows.specs.Changes.{seen_in}
use Rattle.iris_requests.proofs.files.resize_at.Goals as goal

pub returns-in_err-found-clause-short : goal.returns-in_err-found-clause-short
returns-in_err-found-clause-short c =
    let p = err_from_is_err_and c.from_residual.result c.from_residual.ensures.1 in
    let d = c.new-draft.result in
    let w = c.args.cache.now in
    let b = c.args.blocks.now in
    let k = c.args.counters in
    let names = c.args.path.now in
    rw (p.1, p.2) (λ keys text e. path_lack keys (Resize text c.args.length) w b k d c.new-draft.ensures (IsOnTrail keys.order names) c.in_err-found.field-0.0
    (resize_trail keys w b k text names c.args.length e c.requires d c.new-draft.ensures) (c.in_err-found.ensures.short keys.order))

pub returns-in-Some-clause-leads : goal.returns-in-Some-clause-leads
returns-in-Some-clause-leads c = λ order text e t s.
    let w = c.args.cache.now in
    let b = c.args.blocks.now in
    let k = c.args.counters in
    let pic = paths_pictured order t w b k s c.new-draft.result c.new-draft.ensures in
    let u = shown order t in
    resize_refused order text w b k c.args.length c.requires c.args.path.now e t s c.in_ok-found.seen (c.in_ok-found.ensures.met order (seen_in t) u u pic) c.in-Some.error c.refused.result c.refused.ensures
    (resize_checked c.in_ok-found.seen c.args.length c.is_full.result k.age c.resize_checks.result c.is_full.ensures c.resize_checks.ensures ∙ c.in-Some.is)

pub returns-then-length-size_of-clause-leads : goal.returns-then-length-size_of-clause-leads
returns-then-length-size_of-clause-leads c = λ order text e t s.
    let w = c.args.cache.now in
    let b = c.args.blocks.now in
    let k = c.args.counters in
    let pic = paths_pictured order t w b k s c.new-draft.result c.new-draft.ensures in
    let u = shown order t in
    nothing_resized order text w b k c.args.length c.requires c.args.path.now e t s c.in_ok-found.seen (c.in_ok-found.ensures.met order (seen_in t) u u pic)
    (resize_checked c.in_ok-found.seen c.args.length c.is_full.result k.age c.resize_checks.result c.is_full.ensures c.resize_checks.ensures ∙ c.in_default.is)
    c.unchanged.result c.unchanged.ensures (c.if-length-size_of.true ∙ c.size_of.ensures)

pub plan_resize-requires-clause-entry : goal.plan_resize-requires-clause-entry
plan_resize-requires-clause-entry c =
    let d = c.new-draft.result in
    let w = c.args.cache.now in
    let passes = resizes_file c.in_ok-found.seen c.args.length c.is_full.result (sym c.resize_checks.ensures ∙ c.in_default.is) in
    sees_file d w c.in-At.id c.in-At.parent passes.old (ap (met_seen d w) (sym c.in-At.is) ∙ (sym c.in_ok-found.ensures.seen ∙ passes.is))

pub plan_resize-requires-clause-bound : goal.plan_resize-requires-clause-bound
plan_resize-requires-clause-bound c = (resizes_file c.in_ok-found.seen c.args.length c.is_full.result (sym c.resize_checks.ensures ∙ c.in_default.is)).bound

pub returns-in_err-plan_resize-in-At-clause-short : goal.returns-in_err-plan_resize-in-At-clause-short
returns-in_err-plan_resize-in-At-clause-short c =
    let p = err_from_is_err_and c.from_residual-in_err-plan_resize-in-At.result c.from_residual-in_err-plan_resize-in-At.ensures.1 in
    let d = c.new-draft.result in
    let none = c.new-draft.ensures in
    let w = c.args.cache.now in
    let b = c.args.blocks.now in
    let k = c.args.counters in
    let names = c.args.path.now in
    let look = c.in_ok-found.ensures in
    let here = c.in_ok-found.seen in
    let passes = resizes_file here c.args.length c.is_full.result (sym c.resize_checks.ensures ∙ c.in_default.is) in
    let checks = resize_checked here c.args.length c.is_full.result k.age c.resize_checks.result c.is_full.ensures c.resize_checks.ensures ∙ c.in_default.is in
    rw (p.1, p.2) (λ keys text e. resize_short keys w b k text names c.args.length e c.requires d none c.in-At.id passes.old c.in_err-plan_resize-in-At.field-0.0
    (λ t s. (
      looked_file keys.order t w b k s d none names c.in_ok-found.found here c.in-At.id c.in-At.parent passes.old look.found look.one look.met c.in-At.is passes.is,
      look.met keys.order (seen_in t) (shown keys.order t) (shown keys.order t) (paths_pictured keys.order t w b k s d none) ∙ passes.is,
    ))
    (ap (λ z. resize_checks z c.args.length (is_full k.age)) (sym passes.is) ∙ checks)
    (λ t f filed. (let u = shown keys.order t in (c.in_err-plan_resize-in-At.ensures.short u u f filed, c.in_err-plan_resize-in-At.ensures.grows u u f filed))))

pub returns-clause-leads : goal.returns-clause-leads
returns-clause-leads c = λ order text e t s.
    let d = c.new-draft.result in
    let none = c.new-draft.ensures in
    let w = c.args.cache.now in
    let b = c.args.blocks.now in
    let k = c.args.counters in
    let names = c.args.path.now in
    let look = c.in_ok-found.ensures in
    let here = c.in_ok-found.seen in
    let u = shown order t in
    let pic = paths_pictured order t w b k s d none in
    let passes = resizes_file here c.args.length c.is_full.result (sym c.resize_checks.ensures ∙ c.in_default.is) in
    let at = looked_file order t w b k s d none names c.in_ok-found.found here c.in-At.id c.in-At.parent passes.old look.found look.one look.met c.in-At.is passes.is in
    let other = c.if-length-size_of.false in
    length_changed order text w b k c.args.length c.requires names e t s here (look.met order (seen_in t) u u pic)
    (resize_checked here c.args.length c.is_full.result k.age c.resize_checks.result c.is_full.ensures c.resize_checks.ensures ∙ c.in_default.is)
    c.in-At.id passes.old at (λ q. other (sym q ∙ sym (c.size_of.ensures ∙ ap size_of passes.is))) d none c.new-pages.result c.new-pages.ensures c.plan_resize.new.draft c.plan_resize.new.pages c.aged.result c.sound.ensures
    c.in_ok-plan_resize-in-At.ensures.table c.in_ok-plan_resize-in-At.ensures.pages c.in_ok-plan_resize-in-At.ensures.olds c.aged.ensures.next c.aged.ensures.age
