use Rattle.std.proofs.Common.{◌∙◌, ap, refl, sym, subst}
use Rattle.std.proofs.lemmas.Result.{err_from_is_err_and}
use Rattle.iris_files.specs.Refiles.{Filed}
use Rattle.iris_name.specs.declared.request.Request.TheVariants.{Read}
use Rattle.iris_paths.specs.declared.resolving.Found.TheVariants.{At}
use Rattle.iris_paths.specs.Following.{met_seen}
use Rattle.iris_paths.specs.Pictured.{IsOnTrail}
use Rattle.iris_plain.specs.Checks.{read_checks}
use Rattle.iris_records.specs.Shown.{shown}
use Rattle.iris_requests.proofs.BytesRead.{reads_file, read_refused, read_replies, read_short, trail_reached}
use Rattle.iris_requests.proofs.FileAtPath.{looked_file, sees_file}
use Rattle.iris_requests.proofs.NeededNames.{path_lack}
use Rattle.iris_requests.proofs.ShownTables.{file_pictured, paths_pictured}
use Rattle.iris_rows.specs.Changes.{seen_in}
use Rattle.iris_requests.proofs.looks.read_at.Goals as goal

pub returns-in_err-found-clause-short : goal.returns-in_err-found-clause-short
returns-in_err-found-clause-short c =
    let p = err_from_is_err_and c.from_residual.result c.from_residual.ensures.1 in
    let names = c.args.path.now in
    rw (p.1, p.2) (λ keys k text e. path_lack keys (Read text c.args.offset c.args.count) c.args.cache.now c.args.blocks.now k c.new-draft.result c.new-draft.ensures (IsOnTrail keys.order names) c.in_err-found.field-0.0
    (trail_reached keys c.args.cache.now c.args.blocks.now k text names c.args.offset c.args.count e c.requires) (c.in_err-found.ensures.short keys.order))

pub returns-in-Some-clause-replies : goal.returns-in-Some-clause-replies
returns-in-Some-clause-replies c = λ order t k text s e.
    let pic = paths_pictured order t c.args.cache.now c.args.blocks.now k s c.new-draft.result c.new-draft.ensures in
    read_refused order t text c.args.path.now c.args.offset c.args.count c.in_ok-found.seen c.in-Some.error s.sound e
    (c.in_ok-found.ensures.met order (seen_in t) (shown order t) (shown order t) pic) (sym c.read_checks.ensures ∙ c.in-Some.is)

pub plan_read-requires : goal.plan_read-requires
plan_read-requires c =
    let d = c.new-draft.result in
    let sized = reads_file c.in_ok-found.seen c.args.count (sym c.read_checks.ensures ∙ c.in_default.is) in
    sees_file d c.args.cache.now c.in-At.id c.in-At.parent sized.0 (ap (met_seen d c.args.cache.now) (sym c.in-At.is) ∙ (sym c.in_ok-found.ensures.seen ∙ sized.1))

pub returns-in_err-bytes-in-At-clause-short : goal.returns-in_err-bytes-in-At-clause-short
returns-in_err-bytes-in-At-clause-short c =
    let p = err_from_is_err_and c.from_residual-in_err-bytes-in-At.result c.from_residual-in_err-bytes-in-At.ensures.1 in
    let d = c.new-draft.result in
    let none = c.new-draft.ensures in
    let look = c.in_ok-found.ensures in
    let w = c.args.cache.now in
    let b = c.args.blocks.now in
    let names = c.args.path.now in
    let id = c.in-At.id in
    let sized = reads_file c.in_ok-found.seen c.args.count (sym c.read_checks.ensures ∙ c.in_default.is) in
    rw (p.1, p.2) (λ keys k text e. read_short keys w b k text names c.args.offset c.args.count e c.requires d none id sized.0 c.in_err-bytes-in-At.field-0.0
    (λ t s. looked_file keys.order t w b k s d none names c.in_ok-found.found c.in_ok-found.seen id c.in-At.parent sized.0 look.found look.one look.met c.in-At.is sized.1)
    (λ t f filed. (let u = shown keys.order t in (c.in_err-bytes-in-At.ensures.short u u f filed, c.in_err-bytes-in-At.ensures.some u u f filed))))

pub returns-clause-replies : goal.returns-clause-replies
returns-clause-replies c = λ order t k text s e.
    let d = c.new-draft.result in
    let none = c.new-draft.ensures in
    let look = c.in_ok-found.ensures in
    let w = c.args.cache.now in
    let b = c.args.blocks.now in
    let names = c.args.path.now in
    let id = c.in-At.id in
    let u = shown order t in
    let applies = sym c.read_checks.ensures ∙ c.in_default.is in
    let sized = reads_file c.in_ok-found.seen c.args.count applies in
    let f = looked_file order t w b k s d none names c.in_ok-found.found c.in_ok-found.seen id c.in-At.parent sized.0 look.found look.one look.met c.in-At.is sized.1 in
    let filed = subst (λ j. Filed u u j f.f d w) (sym f.is) (file_pictured order t w b k s d none f.i f.f f.stands) in
    let pic = paths_pictured order t w b k s d none in
    read_replies order t text names c.args.offset c.args.count id sized.0 c.in_ok-bytes-in-At.bytes s.sound e (look.met order (seen_in t) u u pic ∙ sized.1) (ap (λ h. read_checks h c.args.count) (sym sized.1) ∙ applies) f
    (c.in_ok-bytes-in-At.ensures.bytes u u f.f filed s.shows)
