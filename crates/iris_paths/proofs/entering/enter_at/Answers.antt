use Rattle.std.proofs.Common.{refl, subst}
use Rattle.iris_name.specs.declared.request.PlainError.TheVariants.{NotFound, NotDir}
use Rattle.iris_paths.specs.declared.resolving.Found.TheVariants.{Missing, ThroughFile}
use Rattle.iris_paths.specs.Pictured.{AreInSight}
use Rattle.iris_paths.specs.Following.{Follows}
use Rattle.iris_paths.proofs.Entered.{enters, shut, shut_file}
use Rattle.iris_paths.proofs.entering.enter_at.Goals as goal

pub returns-then-is_directory : goal.returns-then-is_directory
returns-then-is_directory c = λ names follows.
    enters c.args.draft.now c.args.cache.now names c.in-At.id c.in-At.parent (subst (Follows c.args.draft.now c.args.cache.now names) c.in-At.is follows) (c.is_directory.ensures.0 c.if-is_directory.true)

pub returns-else-is_directory : goal.returns-else-is_directory
returns-else-is_directory c = λ names follows.
    let d = c.args.draft.now in
    let w = c.args.cache.now in
    shut_file d w names c.in-At.id c.in-At.parent (subst (Follows d w names) c.in-At.is follows) (subst (AreInSight d w) c.in-At.is c.requires) c.sound.ensures c.sound-2.ensures
    (λ h. let t = c.is_directory.ensures.1 h in cc)

pub returns-in-Missing : goal.returns-in-Missing
returns-in-Missing c = λ names follows.
    shut c.args.draft.now c.args.cache.now names Missing NotFound (subst (Follows c.args.draft.now c.args.cache.now names) c.in-Missing.is follows) tt refl

pub returns-in-ThroughFile : goal.returns-in-ThroughFile
returns-in-ThroughFile c = λ names follows.
    shut c.args.draft.now c.args.cache.now names ThroughFile NotDir (subst (Follows c.args.draft.now c.args.cache.now names) c.in-ThroughFile.is follows) tt refl
