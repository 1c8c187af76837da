use Rattle.std.proofs.Common.{Bool, ap, arith, is_some, sym, ◌∙◌, slice_get}
use Rattle.std.specs.Option.{option_copied}
use Rattle.iris_cache.specs.Drafted.{drafted}
use Rattle.iris_cache.specs.Resident.{held_node}
use Rattle.iris_cache.proofs.Drafts.{place-held}
use Rattle.iris_name.specs.declared.name.Name.{Name}
use Rattle.iris_pool.specs.Filing.{is_held_after}
use Rattle.iris_pool.proofs.FiledNames.{drafted_entry, files_to_all, files_to_more}
use Rattle.iris_pool.proofs.Lookups.{copied_some, found_is}
use Rattle.iris_pool.proofs.landing.file_nodes.Goals as goal

pub loop-i-preserved : goal.loop-i-preserved
loop-i-preserved c =
    let es = c.args.draft.now.changes in
    let i = c.loop-i.i in
    let n = c.at.result.0.now in
    let was : Name → Bool = λ q. is_some (held_node c.args.cache.now q) in
    let is : Name → Bool = λ q. is_held_after (drafted c.args.draft.now q) (was q) in
    let v = drafted_entry (slice_get es i) n (option_copied c.at.result.1) c.at.ensures in
    let here = found_is c.find.result (held_node c.args.cache.now n) c.is_some.result c.is_some.ensures c.find.ensures in
    let there = c.is_some-in-loop-i.ensures ∙ sym (copied_some c.at.result.1) ∙ sym (ap (λ x. is_some x) v.2) ∙ sym (ap (λ o. is_held_after o (was n)) (place-held es i n v.0 c.sound.ensures.once v.1)) in
    let r = c.loop-i.invariant.room in
    let k = c.file_change.ensures.room in
    record {
      files = files_to_more was is es i n v.0 c.is_some.result c.is_some-in-loop-i.result _ _ _ v.1 here there c.loop-i.invariant.files c.file_change.ensures.files;
      room = omega (arith, r, k);
    }

pub returns-clause-files : goal.returns-clause-files
returns-clause-files c =
    let was : Name → Bool = λ q. is_some (held_node c.args.cache.now q) in
    let is : Name → Bool = λ q. is_held_after (drafted c.args.draft.now q) (was q) in
    let end = c.loop-i-test.false in
    let l = c.count-i-end.ensures in
    files_to_all was is c.args.draft.now.changes c.loop-i.i _ _ (omega (arith, end, l)) (λ q e. ap (λ o. is_held_after o (was q)) e) c.loop-i.invariant.files
