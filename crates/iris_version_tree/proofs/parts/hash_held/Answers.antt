use Rattle.std.proofs.Common.{◌≡◌, Some, ap, sym, ◌∙◌, subst}
use Rattle.iris_name.specs.declared.name.Name.TheVariants as name
use Rattle.iris_node.specs.declared.node.Side.TheVariants.{Below}
use Rattle.iris_cache.specs.Pictures.{WasHash}
use Rattle.iris_version_tree.proofs.Hashes.{held_was}
use Rattle.iris_version_tree.proofs.parts.hash_held.Goals as goal

pub returns-in-Some-Below : goal.returns-in-Some-Below
returns-in-Some-Below c = λ old pic had some.
    let n = name.Part c.args.file c.args.level c.args.index in
    let t = held_was old c.args.cache.now c.args.file c.args.level c.args.index c.requires.level c.requires.fits pic had some in
    let q : Some (Below t.0) ≡ Some (Below c.in-Some-Below.hash) = sym t.1 ∙ sym c.in-Some-Below.ensures ∙ ap Some c.in-Some-Below.field-0-is in
    let x : t.0 ≡ c.in-Some-Below.hash = cc in
    subst (λ x. WasHash old c.args.cache.now n x) x t.2

pub returns-in-Some-Fold : goal.returns-in-Some-Fold
returns-in-Some-Fold c = λ old pic had some.
    let t = held_was old c.args.cache.now c.args.file c.args.level c.args.index c.requires.level c.requires.fits pic had some in
    let q = sym t.1 ∙ sym c.in-Some-Fold.ensures ∙ ap Some c.in-Some-Fold.field-0-is in
    cc

pub returns-in-None : goal.returns-in-None
returns-in-None c = λ old pic had some.
    let t = held_was old c.args.cache.now c.args.file c.args.level c.args.index c.requires.level c.requires.fits pic had some in
    let q = sym t.1 ∙ sym c.in-None.ensures in
    cc
