use Rattle.std.proofs.Common.{◌∙◌, None, Some, subst}
use Rattle.std.proofs.lemmas.Result.{err_from_is_err_and}
use Rattle.iris_treepaths.specs.Ways.{IsNamed, along_name}
use Rattle.iris_treepaths.specs.Needs.{Listed, IsMetLack}
use Rattle.iris_paths.proofs.Welcome.{last_at, find_lacks, free, full}
use Rattle.iris_paths.proofs.entering.place_in.Goals as goal

pub returns-in_err-plan_find-clause-short : goal.returns-in_err-plan_find-clause-short
returns-in_err-plan_find-clause-short c =
    let p = err_from_is_err_and c.from_residual.result c.from_residual.ensures.1 in
    let d = c.args.draft.now in
    let w = c.args.cache.now in
    let same = c.index-names-names.is ∙ last_at c.args.names.now c.index-names-names.result c.requires.some in
    let e = c.in_err-plan_find.field-0.0 in
    rw (p.1, p.2) (λ key. find_lacks d w c.args.names.now c.args.dir c.requires.some c.requires.entered e key
    (subst (λ n. IsMetLack (Listed key c.args.dir d w) (along_name n key) d w c.args.dir e) same (c.in_err-plan_find.ensures.short key)))

pub returns-in-Some-clause-place : goal.returns-in-Some-clause-place
returns-in-Some-clause-place c =
    let d = c.args.draft.now in
    let w = c.args.cache.now in
    let same = c.index-names-names.is ∙ last_at c.args.names.now c.index-names-names.result c.requires.some in
    full d w c.args.names.now c.args.dir c.requires.some c.requires.entered c.in-Some.field-0 c.sound.ensures c.sound-2.ensures (rw c.in-Some.is at c.in_ok-plan_find.ensures.there)
    (λ key old new rows l. subst (λ n. IsNamed rows n (Some c.in-Some.field-0.0)) same (rw c.in-Some.is at (c.in_ok-plan_find.ensures.found key old new rows l)))

pub returns-in-None-clause-place : goal.returns-in-None-clause-place
returns-in-None-clause-place c =
    let d = c.args.draft.now in
    let w = c.args.cache.now in
    let same = c.index-names-names.is ∙ last_at c.args.names.now c.index-names-names.result c.requires.some in
    free d w c.args.names.now c.args.dir c.requires.some c.requires.entered
    (λ key old new rows l. subst (λ n. IsNamed rows n None) same (rw c.in-None.is at (c.in_ok-plan_find.ensures.found key old new rows l)))
