use Rattle.std.proofs.Common.{refl, arith}
use Rattle.iris_name.specs.Names.{same_name}
use Rattle.iris_name.specs.declared.name.Name.{Name}
use Rattle.iris_cache.specs.Held.{edited_node}
use Rattle.iris_cache.specs.Resident.{Resident}
use Rattle.iris_cache.proofs.FlaggedNodes.{flagged-sound, flagged-homed, keeps-node, keeps-kids, keeps-parent}
use Rattle.iris_cache.proofs.HeldChanges.{children-kept}
use Rattle.iris_cache.proofs.LinkCounts.{indexed-mapped, flag-kept}
use Rattle.iris_cache.proofs.DirtyNodes.{dirty-edited, dirty-within, dirty-few}
use Rattle.iris_cache.proofs.IdleNodes.{idle-edited}
use Rattle.iris_cache.proofs.cache.Cache.flag.Goals as goal

pub invariant_of-self : goal.invariant_of-self
invariant_of-self c =
    let C : Resident = record { nodes = c.self.inside.nodes.entries; room = c.self.inside.places.keys } in
    let E : Resident = record { nodes = c.edit_counted-edited.new.nodes.entries; room = c.self.inside.places.keys } in
    let x = c.args.change in
    let f = edited_node x in
    let n = c.args.name.now in
    let s = c.self.invariant.sound in
    let is = c.edit_counted-edited.ensures.nodes in
    let oe = c.edit_counted-edited.ensures.unique s.once in
    let same = λ (q : Name). children-kept q n C E f (keeps-parent x c.requires) s.once oe is in
    record {
      sound = flagged-sound C E f (same_name n) s is oe (keeps-node x c.requires) (keeps-kids x c.requires) same refl c.edit_counted-edited.ensures.count;
      places = let p = c.self.invariant.places in let a = c.edit_counted-edited.ensures.spare in omega (arith, p, a);
      homed = λ so. flagged-homed C E f (same_name n) s is oe (keeps-node x c.requires) (keeps-kids x c.requires) same (c.self.invariant.homed so);
      indexed = indexed-mapped C E c.self.inside.links n f (flag-kept x c.requires) s.once oe is c.self.invariant.indexed;
      idling = idle-edited C E c.self.inside.idle c.refile.new.idle (same_name n) f c.edit_counted-edited.result c.refile.ensures.unsure c.refile.ensures.names is c.edit_counted-edited.ensures.same c.self.invariant.idling;
      counted = dirty-edited C E n f c.self.inside.dirty c.edit_counted-edited.new.dirty s.once oe is c.edit_counted-edited.ensures.dirty c.self.invariant.counted;
    }

pub edit_counted-edited-requires-clause-counted : goal.edit_counted-edited-requires-clause-counted
edit_counted-edited-requires-clause-counted c =
    let C : Resident = record { nodes = c.self.inside.nodes.entries; room = c.self.inside.places.keys } in
    dirty-within C c.args.name.now c.self.inside.dirty c.self.invariant.counted

pub edit_counted-edited-requires-clause-few : goal.edit_counted-edited-requires-clause-few
edit_counted-edited-requires-clause-few c =
    let C : Resident = record { nodes = c.self.inside.nodes.entries; room = c.self.inside.places.keys } in
    let few = c.self.invariant.sound.few in
    let k = dirty-few C c.self.inside.dirty c.self.invariant.counted in
    omega (arith, few, k)
