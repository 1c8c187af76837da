use Rattle.std.proofs.Common.{refl, ap, ◌∙◌, arith}
use Rattle.iris_name.specs.Names.{same_name}
use Rattle.iris_name.specs.declared.name.Name.{Name}
use Rattle.iris_cache.specs.Rehash.{with_hash}
use Rattle.iris_cache.specs.Resident.{Resident, held_node}
use Rattle.iris_cache.proofs.FlaggedNodes.{flagged-sound, flagged-homed, rehash-name}
use Rattle.iris_cache.proofs.HeldChanges.{children-kept}
use Rattle.iris_cache.proofs.LinkCounts.{indexed-mapped, hash-kept}
use Rattle.iris_cache.proofs.DirtyNodes.{dirty-kept}
use Rattle.iris_cache.proofs.IdleNodes.{idle-same, free-mapped}
use Rattle.iris_cache.specs.Idle.{is_free}
use Rattle.iris_cache.proofs.cache.Cache.retell.Goals as goal

pub invariant_of-self : goal.invariant_of-self
invariant_of-self c =
    let C : Resident = record { nodes = c.self.inside.nodes.entries; room = c.self.inside.places.keys } in
    let E : Resident = record { nodes = c.tell.new.nodes.entries; room = c.self.inside.places.keys } in
    let m = c.args.name.now in
    let x = c.args.hash in
    let f = with_hash m x in
    let n = c.args.at.now in
    let s = c.self.invariant.sound in
    let is = c.tell.ensures.nodes in
    let oe = c.tell.ensures.unique s.once in
    let same = λ (q : Name). children-kept q n C E f (λ h. refl) s.once oe is in
    record {
      sound = flagged-sound C E f (same_name n) s is oe (λ h. rehash-name m x h.node) (λ h. refl) same refl c.tell.ensures.count;
      places = let p = c.self.invariant.places in let a = c.tell.ensures.spare in omega (arith, p, a);
      homed = λ so. flagged-homed C E f (same_name n) s is oe (λ h. rehash-name m x h.node) (λ h. refl) same (c.self.invariant.homed so);
      indexed = indexed-mapped C E c.self.inside.links n f (hash-kept m x) s.once oe is c.self.invariant.indexed;
      idling = idle-same C E c.self.inside.idle c.self.inside.idle refl (λ q. ap is_free (is q) ∙ free-mapped f (λ h. refl) (same_name n q) (held_node C q)) c.self.invariant.idling;
      counted = dirty-kept C E n f c.self.inside.dirty (λ h. refl) s.once oe is c.self.invariant.counted;
    }
