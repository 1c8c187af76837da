use Rattle.std.proofs.Common.{◌∙◌, refl, sym, subst}
use Rattle.iris_name.specs.declared.request.PlainError.TheVariants.{NotFound, NotDir}
use Rattle.iris_paths.specs.declared.resolving.Found.TheVariants.{Missing, ThroughFile}
use Rattle.iris_paths.specs.Pictured.{AreInSight}
use Rattle.iris_paths.specs.Following.{Follows}
use Rattle.iris_paths.proofs.Moved.{source_in, source_not, source_below}
use Rattle.iris_paths.proofs.moving.source_at.Goals as goal

pub returns-then-is_below : goal.returns-then-is_below
returns-then-is_below c =
    let d = c.args.draft.now in
    let w = c.args.cache.now in
    source_below d w c.args.from.now c.args.to.now c.in-At.id c.in-At.parent (subst (Follows d w c.args.from.now) c.in-At.is c.requires.follows) (subst (AreInSight d w) c.in-At.is c.requires.sight)
    c.sound.ensures c.sound-2.ensures c.requires.some (sym c.is_below.ensures ∙ c.if-is_below.true)

pub returns-else-is_below : goal.returns-else-is_below
returns-else-is_below c =
    let d = c.args.draft.now in
    let w = c.args.cache.now in
    source_in d w c.args.from.now c.args.to.now c.in-At.id c.in-At.parent (subst (Follows d w c.args.from.now) c.in-At.is c.requires.follows) (subst (AreInSight d w) c.in-At.is c.requires.sight)
    c.sound.ensures c.sound-2.ensures c.requires.some (sym c.is_below.ensures ∙ c.if-is_below.false)

pub returns-in-Missing : goal.returns-in-Missing
returns-in-Missing c =
    let d = c.args.draft.now in
    let w = c.args.cache.now in
    source_not d w c.args.from.now c.args.to.now Missing NotFound (subst (Follows d w c.args.from.now) c.in-Missing.is c.requires.follows) tt c.requires.some refl

pub returns-in-ThroughFile : goal.returns-in-ThroughFile
returns-in-ThroughFile c =
    let d = c.args.draft.now in
    let w = c.args.cache.now in
    source_not d w c.args.from.now c.args.to.now ThroughFile NotDir (subst (Follows d w c.args.from.now) c.in-ThroughFile.is c.requires.follows) tt c.requires.some refl
