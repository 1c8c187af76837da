use Rattle.std.proofs.lemmas.Result.{err_from_is_err_and}
use Rattle.iris_name.specs.declared.name.Name.TheVariants as name
use Rattle.iris_cache.specs.Drafted.{seen}
use Rattle.iris_shape.specs.FoldLaws.{with_range_set}
use Rattle.iris_version_tree.proofs.Plans.{short_of, under_of, side_of_top}
use Rattle.iris_version_tree.proofs.Written.{drafts_after, file_seen, left, set, left_entry, set_entry, file_after, others_after}
use Rattle.iris_version_tree.proofs.setting.plan_set.Goals as goal

pub returns-in_err-made-clause-short : goal.returns-in_err-made-clause-short
returns-in_err-made-clause-short c =
    let p = err_from_is_err_and c.from_residual.result c.from_residual.ensures.1 in
    rw (p.1, p.2) (short_of c.args.draft.now c.args.cache.now c.args.file c.top_side-side.result c.args.low c.args.high c.in_err-made.field-0.0 c.top_side-side.ensures.side c.in_err-made.ensures.short)

pub returns-clause-set : goal.returns-clause-set
returns-clause-set c = λ old new v pic had made tree rev.
    let d = c.args.draft.now in
    let d1 = c.set_range.new.draft in
    let e = c.set_entry.new.draft in
    let q = c.args.cache.now in
    let f = c.args.file in
    let w = with_range_set v c.args.low c.args.high c.args.version in
    let s = c.top_side-side.result in
    let is = c.top_side-side.ensures.side in
    let x = file_seen (seen d q (name.Entry f)) c.requires.entry in
    let t = c.in_ok-made.ensures.made old v pic.drafts.before had (under_of old new f v d q pic) (side_of_top old new f v d q pic s is) in
    drafts_after old new made f v w d e q c.in_ok-made.made x.0 pic tree rev
    (set old new f v w d d1 q s c.in_ok-made.made pic x.0 x.1 is c.in_ok-made.ensures.frame t e c.in_ok-set_entry.ensures.frame c.in_ok-set_entry.ensures.entry)

pub returns-then-is_same_side-clause-set : goal.returns-then-is_same_side-clause-set
returns-then-is_same_side-clause-set c = λ old new v pic had made tree rev.
    let d = c.args.draft.now in
    let d1 = c.set_range.new.draft in
    let q = c.args.cache.now in
    let f = c.args.file in
    let w = with_range_set v c.args.low c.args.high c.args.version in
    let s = c.top_side-side.result in
    let is = c.top_side-side.ensures.side in
    let x = file_seen (seen d q (name.Entry f)) c.requires.entry in
    let t = c.in_ok-made.ensures.made old v pic.drafts.before had (under_of old new f v d q pic) (side_of_top old new f v d q pic s is) in
    drafts_after old new made f v w d d1 q c.in_ok-made.made x.0 pic tree rev
    (left old new f v w d d1 q s c.in_ok-made.made pic x.0 x.1 is c.in_ok-made.ensures.frame t (c.is_same_side.ensures.0 c.if-is_same_side.true))

pub returns-clause-entry : goal.returns-clause-entry
returns-clause-entry c = set_entry c.args.file c.args.draft.now c.set_range.new.draft c.args.cache.now c.top_side-side.result c.in_ok-made.made c.top_side-side.ensures.side c.in_ok-made.ensures.frame c.set_entry.new.draft c.in_ok-set_entry.ensures.entry

pub returns-clause-file : goal.returns-clause-file
returns-clause-file c = file_after c.args.file c.args.draft.now c.set_entry.new.draft c.args.cache.now c.requires.entry
    (set_entry c.args.file c.args.draft.now c.set_range.new.draft c.args.cache.now c.top_side-side.result c.in_ok-made.made c.top_side-side.ensures.side c.in_ok-made.ensures.frame c.set_entry.new.draft c.in_ok-set_entry.ensures.entry)

pub returns-clause-others : goal.returns-clause-others
returns-clause-others c = others_after c.args.file c.args.draft.now c.set_range.new.draft c.set_entry.new.draft c.in_ok-made.ensures.frame c.in_ok-set_entry.ensures.frame

pub returns-then-is_same_side-clause-entry : goal.returns-then-is_same_side-clause-entry
returns-then-is_same_side-clause-entry c =
    left_entry c.args.file c.args.draft.now c.set_range.new.draft c.args.cache.now c.top_side-side.result c.in_ok-made.made c.top_side-side.ensures.side c.in_ok-made.ensures.frame (c.is_same_side.ensures.0 c.if-is_same_side.true)

pub returns-then-is_same_side-clause-file : goal.returns-then-is_same_side-clause-file
returns-then-is_same_side-clause-file c = file_after c.args.file c.args.draft.now c.set_range.new.draft c.args.cache.now c.requires.entry
    (left_entry c.args.file c.args.draft.now c.set_range.new.draft c.args.cache.now c.top_side-side.result c.in_ok-made.made c.top_side-side.ensures.side c.in_ok-made.ensures.frame (c.is_same_side.ensures.0 c.if-is_same_side.true))

pub returns-then-is_same_side-clause-others : goal.returns-then-is_same_side-clause-others
returns-then-is_same_side-clause-others c = λ n out isnt. c.in_ok-made.ensures.frame n out
