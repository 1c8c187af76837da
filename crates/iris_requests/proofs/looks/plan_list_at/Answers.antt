use Rattle.std.proofs.Common.{◌∙◌, refl, sym}
use Rattle.std.proofs.lemmas.Result.{err_from_is_err_and}
use Rattle.iris_name.specs.declared.request.PlainError.TheVariants.{BadPath}
use Rattle.iris_name.specs.declared.request.Request.TheVariants.{List as ListNames}
use Rattle.iris_name.specs.Paths.{names_of}
use Rattle.iris_paths.specs.Entering.{no_directory}
use Rattle.iris_paths.specs.Listing.{IsListed}
use Rattle.iris_plan_laws.proofs.RepliesOfPlans.{lists_are_replies}
use Rattle.iris_records.specs.Shown.{shown}
use Rattle.iris_requests.proofs.Answered.{answers_error, answers_unchanged}
use Rattle.iris_requests.proofs.NeededNames.{memory_short, path_short}
use Rattle.iris_requests.proofs.Replies.{bad_path, on_spelled, unchanged_after}
use Rattle.iris_requests.proofs.ShownTables.{pictured_alone}
use Rattle.iris_rows.specs.Changes.{seen_in}
use Rattle.iris_requests.proofs.looks.plan_list_at.Goals as goal

pub returns-in_err-path_of-clause-short : goal.returns-in_err-path_of-clause-short
returns-in_err-path_of-clause-short c =
    let p = err_from_is_err_and c.from_residual.result c.from_residual.ensures.1 in
    rw (p.1, p.2) (λ b. memory_short c.args.keys.now (ListNames c.args.path.now c.args.after.now) c.args.cache.now b c.args.counters c.in_err-path_of.field-0.0 c.in_err-path_of.ensures.short)

pub returns-in-None-clause-leads : goal.returns-in-None-clause-leads
returns-in-None-clause-leads c = λ b t s.
    answers_error c.args.keys.now.order t c.args.cache.now b c.args.counters s (ListNames c.args.path.now c.args.after.now) BadPath c.refused.result c.refused.ensures tt
    (bad_path (names_of c.args.path.now) (λ names. no_directory (seen_in t names)) (sym c.in_ok-path_of.ensures.path ∙ c.in-None.is))

pub returns-in_err-reply-in-Some-clause-short : goal.returns-in_err-reply-in-Some-clause-short
returns-in_err-reply-in-Some-clause-short c =
    let p = err_from_is_err_and c.from_residual-in_err-reply-in-Some.result c.from_residual-in_err-reply-in-Some.ensures.1 in
    let keys = c.args.keys.now in
    let spelled = sym c.in_ok-path_of.ensures.path ∙ c.in-Some.is in
    rw (p.1, p.2) (λ b. path_short keys (ListNames c.args.path.now c.args.after.now) c.args.cache.now b c.args.counters c.new.result c.new.ensures (IsListed keys.order c.in-Some.path c.args.after.now) c.in_err-reply-in-Some.field-0.0
    (λ t n met. on_spelled (names_of c.args.path.now) c.in-Some.path (λ names. IsListed keys.order names c.args.after.now (shown keys.order t) n) spelled met) (c.in_err-reply-in-Some.ensures.short keys.order))

pub returns-in_ok-reply-in-Some-clause-leads : goal.returns-in_ok-reply-in-Some-clause-leads
returns-in_ok-reply-in-Some-clause-leads c = λ b t s.
    let order = c.args.keys.now.order in
    let spelled = sym c.in_ok-path_of.ensures.path ∙ c.in-Some.is in
    let reply = c.in_ok-reply-in-Some.reply in
    answers_unchanged order t c.args.cache.now b c.args.counters s (ListNames c.args.path.now c.args.after.now) reply c.unchanged.result c.unchanged.ensures
    (lists_are_replies order t c.args.path.now c.in-Some.path c.args.after.now c.new.result c.args.cache.now reply (pictured_alone order t c.args.cache.now b c.args.counters s c.new.result c.new.ensures) spelled
    (λ met old new pic. c.in_ok-reply-in-Some.ensures.reply order met old new pic)) (unchanged_after t (ListNames c.args.path.now c.args.after.now) reply refl)
