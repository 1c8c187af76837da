use Rattle.std.proofs.Common.{◌≡◌, subst}
use Rattle.iris_name.specs.declared.name.Name.TheVariants as name
use Rattle.iris_cache.specs.Pictures.{WasHash}
use Rattle.iris_version_tree.proofs.parts.side_of_part.Goals as goal

pub returns-in-Fold-clause-held : goal.returns-in-Fold-clause-held
returns-in-Fold-clause-held c = λ h e isnt old pic had some.
    let n = name.Part c.args.file c.args.level c.args.index in
    let x : c.hash_held.result ≡ h = cc in
    subst (λ h. WasHash old c.args.cache.now n h) x (c.hash_held.ensures old pic had some)
