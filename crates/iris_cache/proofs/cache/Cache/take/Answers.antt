use Rattle.std.proofs.Common.{◌≡◌, ◌≤◌, ◌+◌, ◌-◌, cond, refl, ap, sym, ◌∙◌, Some, arith}
use Rattle.iris_cache.specs.Resident.{Resident, held_node}
use Rattle.iris_cache.specs.Dirty.{dirty_addend}
use Rattle.iris_cache.proofs.Guests.{take-sound, take-homed}
use Rattle.iris_cache.proofs.Hangs.{or-parts, not-above}
use Rattle.iris_cache.proofs.LinkCounts.{indexed-went}
use Rattle.iris_cache.proofs.DirtyNodes.{dirty-went, dirty-within, byte-weight}
use Rattle.iris_cache.proofs.IdleNodes.{idle-went}
use Rattle.iris_cache.proofs.cache.Cache.take.Goals as goal

pub invariant_of-self : goal.invariant_of-self
invariant_of-self c =
    let C : Resident = record { nodes = c.self.inside.nodes.entries; room = c.self.inside.places.keys } in
    let E : Resident = record { nodes = c.swap_remove.new.self.entries; room = c.self.inside.places.keys } in
    let n = c.args.name.now in
    let h = c.in-Some.held in
    let at : held_node C n ≡ Some h = sym c.in-Some.ensures.value in
    let alone = c.requires.alone h (sym (ap (λ r. held_node r n) c.self.view_is) ∙ at) in
    let is = c.in-Some.ensures.updates.0 in
    let s = c.self.invariant.sound in
    let within : dirty_addend (held_node C n) ≤ c.self.inside.dirty = dirty-within C n c.self.inside.dirty c.self.invariant.counted in
    let weight : dirty_addend (held_node C n) ≡ cond h.dirty 1 0 = ap dirty_addend at in
    let byte : c.from.result ≡ cond h.dirty 1 0 = c.from.ensures ∙ byte-weight h.dirty in
    let less : c.self.inside.dirty - c.from.result + cond h.dirty 1 0 ≡ c.self.inside.dirty = omega (arith, within, weight, byte) in
    record {
      sound = take-sound C E n h s at alone is c.in-Some.ensures.unique refl c.in-Some.ensures.len;
      places = let p = c.self.invariant.places in let r = c.in-Some.ensures.room.0 in omega (arith, p, r);
      homed = λ so. let parts = or-parts c.self.inside.astray _ so in
          take-homed C E n h s at alone is c.in-Some.ensures.unique (not-above h.kids parts.1) (c.self.invariant.homed parts.0);
      indexed = indexed-went C E c.self.inside.links c.remove_node.new.self n h s.once c.in-Some.ensures.unique at is c.remove_node.ensures.partial c.remove_node.ensures.counts c.remove_node.ensures.sums c.self.invariant.indexed;
      idling = idle-went C E c.self.inside.idle c.file.new.self n c.file.ensures.unsure c.file.ensures.names is c.self.invariant.idling;
      counted = dirty-went C E n h c.self.inside.dirty _ s.once c.in-Some.ensures.unique at is less c.self.invariant.counted;
    }

pub overflow_sub-self : goal.overflow_sub-self
overflow_sub-self c =
    let C : Resident = record { nodes = c.self.inside.nodes.entries; room = c.self.inside.places.keys } in
    let h = c.in-Some.held in
    let at : held_node C c.args.name.now ≡ Some h = sym c.in-Some.ensures.value in
    let within : dirty_addend (held_node C c.args.name.now) ≤ c.self.inside.dirty = dirty-within C c.args.name.now c.self.inside.dirty c.self.invariant.counted in
    let weight : dirty_addend (held_node C c.args.name.now) ≡ cond h.dirty 1 0 = ap dirty_addend at in
    let byte : c.from.result ≡ cond h.dirty 1 0 = c.from.ensures ∙ byte-weight h.dirty in
    omega (arith, within, weight, byte)
