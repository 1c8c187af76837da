use Rattle.std.proofs.Common.{◌*◌, ◌+◌, Some, ap, sym, ◌∙◌, subst}
use Rattle.iris_name.specs.declared.name.Name.TheVariants as name
use Rattle.iris_node.specs.declared.node.Node.TheVariants as node
use Rattle.iris_node.specs.Fields.{PartFields}
use Rattle.iris_shape.specs.Folds.{folded}
use Rattle.iris_cache.specs.declared.draft.Change.{Change}
use Rattle.iris_cache.specs.Resident.{held_node}
use Rattle.iris_cache.specs.Drafted.{drafted, known, set_to, taken_away}
use Rattle.iris_version_tree.specs.Sides.{over_name}
use Rattle.iris_version_tree.specs.Reached.{IsTwo, IsSideOf}
use Rattle.iris_version_tree.specs.Ranges.{AtPart}
use Rattle.iris_version_tree.proofs.Levels.{index_fits}
use Rattle.iris_version_tree.proofs.Tables.{same_one}
use Rattle.iris_version_tree.proofs.Hashes.{over_is}
use Rattle.iris_version_tree.proofs.Joins.{common-apart, common-fold, join_ones, join_apart, at_even, at_removed, at_set, is_resident, written, there_below, even_side, set_side}
use Rattle.iris_version_tree.proofs.parts.join.Goals as goal

pub invariant_of-part : goal.invariant_of-part
invariant_of-part c = record {
  file = c.requires.file;
  level = c.requires.some;
  height = c.requires.level;
  index = index_fits c.args.level c.args.index c.requires.level c.requires.fits;
  places = c.requires.floor;
  split = common-apart c.args.halves.low c.args.halves.high (sym c.common.ensures ∙ c.in-None.is);
}

pub returns-in-Fold-clause-made : goal.returns-in-Fold-clause-made
returns-in-Fold-clause-made c = λ old v w k e pic had at was there low high.
    let f = c.args.file in
    let l = c.args.level in
    let i = c.args.index in
    let q = c.args.cache.now in
    let u = c.in-Some.version in
    let s = common-fold c.args.halves.low c.args.halves.high u (sym c.common.ensures ∙ c.in-Some.is) in
    let g = join_ones w k l i u e (subst (IsSideOf (folded w k (2 * i))) s.0 low.like) (subst (IsSideOf (folded w k (2 * i + 1))) s.1 high.like) in
    let x = c.in-Fold.field-0 in
    let h = same_one (folded v l i) x (subst (IsSideOf (folded v l i)) c.in-Fold.is was.like) in
    let o = drafted c.args.draft.now (name.Part f l i) in
    let r = held_node q (name.Part f l i) in
    (subst (λ g. AtPart old q f l i g o r) (sym g) (at_even old q f l i r x u o (subst (λ g. AtPart old q f l i g o r) h at)), even_side old q f w l i u g)

pub returns-in_ok-remove-in-Below-clause-made : goal.returns-in_ok-remove-in-Below-clause-made
returns-in_ok-remove-in-Below-clause-made c = λ old v w k e pic had at was there low high.
    let f = c.args.file in
    let l = c.args.level in
    let i = c.args.index in
    let q = c.args.cache.now in
    let u = c.in-Some.version in
    let s = common-fold c.args.halves.low c.args.halves.high u (sym c.common.ensures ∙ c.in-Some.is) in
    let g = join_ones w k l i u e (subst (IsSideOf (folded w k (2 * i))) s.0 low.like) (subst (IsSideOf (folded w k (2 * i + 1))) s.1 high.like) in
    let n = name.Part f l i in
    let o = drafted c.args.draft.now n in
    let r = held_node q n in
    let there' = there_below (folded v l i) c.args.was (known c.args.draft.now q n) was.like there in
    let z = written c.args.draft.now c.remove.new.self n taken_away c.in_ok-remove-in-Below.ensures.names in
    (subst (λ o. AtPart old q f l i (folded w l i) o r) (sym z) (subst (λ g. AtPart old q f l i g (Some taken_away) r) (sym g) (at_removed old q f l i r (folded v l i) o u at there')), even_side old q f w l i u g)

pub returns-in_ok-set-in-None-clause-made : goal.returns-in_ok-set-in-None-clause-made
returns-in_ok-set-in-None-clause-made c = λ old v w k e pic had at was there low high.
    let f = c.args.file in
    let l = c.args.level in
    let i = c.args.index in
    let q = c.args.cache.now in
    let n = name.Part f l i in
    let p : PartFields = record { file = f; level = l; index = i; low = c.args.halves.low; high = c.args.halves.high } in
    let g = join_apart w k l i c.args.halves.low c.args.halves.high e (sym c.common.ensures ∙ c.in-None.is) low.like high.like in
    let o = drafted c.args.draft.now n in
    let r = held_node q n in
    let there' = there_below (folded v l i) c.args.was (known c.args.draft.now q n) was.like there in
    let over = over_is f l i c.requires.level in
    let at' = at_set old q f l i r (folded v l i) o w k (over_name f l i) c.args.halves.low c.args.halves.high e at there' over low high in
    let x : Change = set_to (Some (over_name f l i)) (node.Part p) in
    let x' : Change = set_to (Some c.over.result) (node.Part p) in
    let z = written c.args.draft.now c.set.new.self n x' c.in_ok-set-in-None.ensures.names ∙ ap (λ q. Some (set_to (Some q) (node.Part p))) c.over.ensures in
    let two : IsTwo (folded w l i) = subst IsTwo (sym g) tt in
    let had' = is_resident old q f l i r (folded v l i) o at there' in (
      subst (λ o. AtPart old q f l i (folded w l i) o r) (sym z) (subst (λ g. AtPart old q f l i g (Some x) r) (sym g) at'),
      set_side old q f v w l i c.args.was c.side_of_part.result pic two was had' c.side_of_part.ensures.below c.side_of_part.ensures.kept (λ h is none. c.side_of_part.ensures.held h is none old pic had),
    )
