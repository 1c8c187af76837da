use Rattle.std.proofs.Common.{Bool, ap, arith, is_some, sym, ◌∙◌}
use Rattle.iris_blocks.specs.Changes.{change_of, from_to, lent}
use Rattle.iris_blocks.specs.Paged.{held_page}
use Rattle.std.specs.Option.{option_copied}
use Rattle.iris_cache.proofs.Drafts.{place-held}
use Rattle.iris_name.specs.declared.name.Name.{Name}
use Rattle.iris_name.specs.declared.name.Name.TheVariants.{Block}
use Rattle.iris_pool.specs.Filing.{is_page_held_after}
use Rattle.iris_pool.proofs.FiledNames.{files_to_all, files_to_more}
use Rattle.iris_pool.proofs.Lookups.{found_is, lent_some}
use Rattle.iris_pool.proofs.landing.file_pages.Goals as goal

pub loop-i-preserved : goal.loop-i-preserved
loop-i-preserved c =
    let es = c.args.pages.now.changes in
    let i = c.loop-i.i in
    let change = c.at-change.result in
    let n = Block change.file change.place in
    let v = from_to (option_copied change.old) (lent change.new) in
    let was : Name → Bool = λ q. is_some (held_page c.args.blocks.now q) in
    let is : Name → Bool = λ q. is_page_held_after (change_of c.args.pages.now q) (was q) in
    let here = found_is c.held.result (held_page c.args.blocks.now n) c.is_some-was.result c.is_some-was.ensures c.held.ensures in
    let there = c.is_some.ensures ∙ sym (lent_some change.new) ∙ sym (ap (λ o. is_page_held_after o (was n)) (place-held es i n v c.sound.ensures.once c.at-change.ensures)) in
    let r = c.loop-i.invariant.room in
    let k = c.file_change.ensures.room in
    record {
      files = files_to_more was is es i n v c.is_some-was.result c.is_some.result _ _ _ c.at-change.ensures here there c.loop-i.invariant.files c.file_change.ensures.files;
      room = omega (arith, r, k);
    }

pub returns-clause-files : goal.returns-clause-files
returns-clause-files c =
    let was : Name → Bool = λ q. is_some (held_page c.args.blocks.now q) in
    let is : Name → Bool = λ q. is_page_held_after (change_of c.args.pages.now q) (was q) in
    let end = c.loop-i-test.false in
    let l = c.count-i-end.ensures in
    files_to_all was is c.args.pages.now.changes c.loop-i.i _ _ (omega (arith, end, l)) (λ q e. ap (λ o. is_page_held_after o (was q)) e) c.loop-i.invariant.files
