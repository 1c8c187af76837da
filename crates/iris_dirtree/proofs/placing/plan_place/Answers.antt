use Rattle.std.proofs.Common.{◌≡◌, ◌∙◌, ◌+◌, ◌<◌, MatchOption, subst}
use Rattle.std.specs.Prelude.{slice_get}
use Rattle.std.proofs.lemmas.Result.{IfOk-weaker, IfErr-weaker}
use Rattle.iris_node.specs.Trees.{Shown}
use Rattle.iris_node.specs.Unfolded.{Unfolded, blocks, id_of}
use Rattle.iris_node.specs.Walk.{walk}
use Rattle.iris_dirtree.specs.Below.{RootIs, IsBelowLack}
use Rattle.iris_dirtree.specs.Places.{Rooted, whole_walk, IsPlaceLack}
use Rattle.iris_dirtree.specs.Turns.{block_found}
use Rattle.iris_dirtree.proofs.BlockPlaces.{root_of, trash_of, walk_first, walk_second, walk_past, first_lack, second_lack}
use Rattle.iris_dirtree.proofs.placing.plan_place.Goals as goal
use Rattle.iris_dirtree.proofs.placing.plan_place.Goals.{In_default, In-Some, In-None, In-Some-2}

-- the block lies under the visible root
here : (c : In_default) (old new : Shown) (root : Unfolded) → RootIs (id_of 0) c.args.draft.now c.args.cache.now old new root → c.args.at < blocks root
here c old new root pic = subst (λ r. MatchOption r (c.args.at < blocks root) (λ rest. c.args.at ≡ blocks root + rest)) c.in_default.is (c.in_ok-rest.ensures.past old new root pic)

-- it lies past it
past : (c : In-Some) (old new : Shown) (root : Unfolded) → RootIs (id_of 0) c.args.draft.now c.args.cache.now old new root → c.args.at ≡ blocks root + c.in-Some.rest
past c old new root pic = subst (λ r. MatchOption r (c.args.at < blocks root) (λ rest. c.args.at ≡ blocks root + rest)) c.in-Some.is (c.in_ok-rest.ensures.past old new root pic)

-- it lies in the trash
there : (c : In-None) (old new : Shown) (trash : Unfolded) → RootIs (id_of 1) c.args.draft.now c.args.cache.now old new trash → c.in-Some.rest < blocks trash
there c old new trash pic = subst (λ r. MatchOption r (c.in-Some.rest < blocks trash) (λ rest. c.in-Some.rest ≡ blocks trash + rest)) c.in-None.is (c.in_ok-past_root.ensures.past old new trash pic)

pub returns-in_default-clause-place : goal.returns-in_default-clause-place
returns-in_default-clause-place c =
    let d = c.args.draft.now in
    let w = c.args.cache.now in
    IfOk-weaker c.block_below.result
    (λ r. (old new : Shown) (u : Unfolded) → RootIs (id_of 0) d w old new u → block_found r ≡ slice_get (walk u) c.args.at)
    (λ r. (old new : Shown) (root trash : Unfolded) → Rooted d w old new root trash → block_found r ≡ slice_get (whole_walk root trash) c.args.at)
    (λ r h old new root trash pic.
    let p = root_of d w old new root trash pic in
    h old new root p ∙ walk_first root trash c.args.at (here (goal.at.returns-in_default-clause-place c).In_default old new root p))
    c.block_below.ensures.place

pub returns-in_default-clause-short : goal.returns-in_default-clause-short
returns-in_default-clause-short c =
    let d = c.args.draft.now in
    let w = c.args.cache.now in
    IfErr-weaker c.block_below.result (λ e. IsBelowLack (id_of 0) d w c.args.at e) (λ e. IsPlaceLack d w c.args.at e)
    (λ e h. first_lack d w c.args.at e (here (goal.at.returns-in_default-clause-short c).In_default) h) c.block_below.ensures.short

pub returns-in-None-clause-place : goal.returns-in-None-clause-place
returns-in-None-clause-place c =
    let d = c.args.draft.now in
    let w = c.args.cache.now in
    IfOk-weaker c.block_below-in-None.result
    (λ r. (old new : Shown) (u : Unfolded) → RootIs (id_of 1) d w old new u → block_found r ≡ slice_get (walk u) c.in-Some.rest)
    (λ r. (old new : Shown) (root trash : Unfolded) → Rooted d w old new root trash → block_found r ≡ slice_get (whole_walk root trash) c.args.at)
    (λ r h old new root trash pic.
    let p = root_of d w old new root trash pic in
    h old new trash (trash_of d w old new root trash pic) ∙ walk_second root trash c.args.at c.in-Some.rest (past (goal.at.returns-in-None-clause-place c).In-Some old new root p))
    c.block_below-in-None.ensures.place

pub returns-in-None-clause-short : goal.returns-in-None-clause-short
returns-in-None-clause-short c =
    let d = c.args.draft.now in
    let w = c.args.cache.now in
    IfErr-weaker c.block_below-in-None.result (λ e. IsBelowLack (id_of 1) d w c.in-Some.rest e) (λ e. IsPlaceLack d w c.args.at e)
    (λ e h. second_lack d w c.args.at c.in-Some.rest e (past (goal.at.returns-in-None-clause-short c).In-Some) (there (goal.at.returns-in-None-clause-short c).In-None) h) c.block_below-in-None.ensures.short

pub returns-in-Some-2-clause-place : goal.returns-in-Some-2-clause-place
returns-in-Some-2-clause-place c = λ old new root trash pic.
    let d = c.args.draft.now in
    let w = c.args.cache.now in
    let e = subst (λ r. MatchOption r (c.in-Some.rest < blocks trash) (λ rest. c.in-Some.rest ≡ blocks trash + rest)) c.in-Some-2.is (c.in_ok-past_root.ensures.past old new trash (trash_of d w old new root trash pic)) in
    walk_past root trash c.args.at c.in-Some.rest c.in-Some-2.field-0 (past (goal.at.returns-in-Some-2-clause-place c).In-Some old new root (root_of d w old new root trash pic)) e
