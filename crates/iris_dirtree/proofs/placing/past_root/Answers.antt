use Rattle.std.proofs.Common.{◌≡◌, ◌∙◌, ◌+◌, ◌<◌, MatchOption, ap, sym, subst}
use Rattle.std.specs.Option.{option_copied}
use Rattle.iris_dirtree.proofs.BlockPlaces.{not_seen, root_blocks}
use Rattle.iris_dirtree.proofs.placing.past_root.Goals as goal

pub returns-in-None-clause-past : goal.returns-in-None-clause-past
returns-in-None-clause-past c = λ old new u pic.
    absurd (not_seen c.args.root c.args.draft.now c.args.cache.now old new u pic c.args.root u pic.live c.in_ok-entry_seen.ensures.known (ap option_copied (sym c.in-None.is) ∙ c.in_ok-entry_seen.ensures.entry))

pub returns-in-Some-clause-past : goal.returns-in-Some-clause-past
returns-in-Some-clause-past c = λ old new u pic.
    let e = root_blocks c.args.root c.args.draft.now c.args.cache.now old new u pic c.in-Some.entry.now (ap option_copied (sym c.in-Some.is) ∙ c.in_ok-entry_seen.ensures.entry) in
    subst (λ b. MatchOption c.past_all.result (c.args.at < b) (λ rest. c.args.at ≡ b + rest)) e c.past_all.ensures
