use Rattle.std.proofs.Common.{refl, ap, ◌∙◌, arith}
use Rattle.iris_name.specs.Names.{same_name}
use Rattle.iris_name.specs.declared.name.Name.{Name}
use Rattle.iris_cache.specs.Held.{with_node}
use Rattle.iris_cache.specs.Resident.{Resident, held_node}
use Rattle.iris_cache.proofs.FlaggedNodes.{rewritten-sound, rewritten-homed, renewed-own}
use Rattle.iris_cache.proofs.HeldChanges.{children-kept}
use Rattle.iris_cache.proofs.LinkCounts.{indexed-renewed}
use Rattle.iris_cache.proofs.DirtyNodes.{dirty-kept}
use Rattle.iris_cache.proofs.IdleNodes.{idle-same, free-mapped}
use Rattle.iris_cache.specs.Idle.{is_free}
use Rattle.iris_cache.proofs.cache.Cache.rewrite.Goals as goal

pub invariant_of-self : goal.invariant_of-self
invariant_of-self c =
    let C : Resident = record { nodes = c.self.inside.nodes.entries; room = c.self.inside.places.keys } in
    let E : Resident = record { nodes = c.renew.new.nodes.entries; room = c.self.inside.places.keys } in
    let f = with_node c.args.node in
    let n = c.args.name.now in
    let s = c.self.invariant.sound in
    let is = c.renew.ensures.nodes in
    let oe = c.renew.ensures.unique s.once in
    let own = renewed-own C E c.args.node n s c.requires is in
    let same = λ (q : Name). children-kept q n C E f (λ h. refl) s.once oe is in
    record {
      sound = rewritten-sound C E f (same_name n) s is oe own (λ h. refl) same refl c.renew.ensures.count;
      places = let p = c.self.invariant.places in let a = c.renew.ensures.spare in omega (arith, p, a);
      homed = λ so. rewritten-homed C E f (same_name n) s is oe own (λ h. refl) same (c.self.invariant.homed so);
      indexed = indexed-renewed C E c.self.inside.links c.exchange_links.new.links n c.args.node s.once oe is c.exchange_links.ensures.partial c.exchange_links.ensures.counts c.exchange_links.ensures.sums c.ranged.ensures c.self.invariant.indexed;
      idling = idle-same C E c.self.inside.idle c.self.inside.idle refl (λ q. ap is_free (is q) ∙ free-mapped f (λ h. refl) (same_name n q) (held_node C q)) c.self.invariant.idling;
      counted = dirty-kept C E n f c.self.inside.dirty (λ h. refl) s.once oe is c.self.invariant.counted;
    }
