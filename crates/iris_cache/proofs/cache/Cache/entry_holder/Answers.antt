use Rattle.std.proofs.Common.{sym, subst}
use Rattle.iris_name.specs.declared.name.Name as names
use Rattle.iris_cache.specs.Holders.{IsHolder, HasNoHolder}
use Rattle.iris_cache.specs.Resident.{Resident}
use Rattle.iris_cache.proofs.HashHolders.{only-holder, unlinked-unheld}
use Rattle.iris_cache.proofs.cache.Cache.entry_holder.Goals as goal

pub returns-in-Nobody-clause-none : goal.returns-in-Nobody-clause-none
returns-in-Nobody-clause-none c = λ _.
    let C : Resident = record { nodes = c.self.inside.nodes.entries; room = c.self.inside.places.keys } in
    let told = c.in-Nobody.ensures in
    subst (λ (r : Resident). HasNoHolder r c.args.name.now) c.self.view_is
    (subst (λ (n : names.Name). HasNoHolder C n) (sym c.requires) (unlinked-unheld C c.self.inside.links c.args.id c.self.invariant.indexed told.0 told.1))

pub returns-in-One-clause-found : goal.returns-in-One-clause-found
returns-in-One-clause-found c =
    let C : Resident = record { nodes = c.self.inside.nodes.entries; room = c.self.inside.places.keys } in
    let p = names.TheVariants.Entry c.in-One.holder in
    subst (λ (r : Resident). IsHolder r p c.args.name.now) c.self.view_is
    (subst (λ (n : names.Name). IsHolder C p n) (sym c.requires) (only-holder C c.self.inside.links c.args.id c.in-One.holder c.self.invariant.sound c.self.invariant.indexed c.in-One.ensures))
