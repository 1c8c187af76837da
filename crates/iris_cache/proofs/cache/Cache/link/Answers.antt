use Rattle.std.proofs.Common.{refl, ap, sym, ◌∙◌, arith}
use Rattle.iris_cache.specs.Held.{with_parent, points, kid_more}
use Rattle.iris_cache.specs.Resident.{Resident, held_node, map_if}
use Rattle.iris_name.specs.Names.{same_name}
use Rattle.iris_cache.proofs.HeldChanges.{there}
use Rattle.iris_cache.proofs.Hangs.{linked-fits, linked-sound, linked-homed, or-parts}
use Rattle.iris_cache.proofs.LinkCounts.{indexed-mapped, indexed-parent, node-kept}
use Rattle.iris_cache.proofs.DirtyNodes.{dirty-kept, dirty-parent}
use Rattle.iris_cache.proofs.IdleNodes.{idle-edited, idle-same, free-mapped, not-missing}
use Rattle.iris_cache.specs.Idle.{is_free}
use Rattle.iris_cache.proofs.cache.Cache.link.Goals as goal

pub edit_parent-edited-requires : goal.edit_parent-edited-requires
edit_parent-edited-requires c =
    let C : Resident = record { nodes = c.self.inside.nodes.entries; room = c.self.inside.places.keys } in
    let D : Resident = record { nodes = c.edit.new.nodes.entries; room = c.self.inside.places.keys } in
    let is = ap (λ r. held_node r c.args.name.now) c.self.view_is in
    let t = there (held_node c.args.self.now c.args.name.now) c.requires.resident in
    linked-fits C D c.args.name.now c.args.parent t.0 c.self.invariant.sound (is ∙ t.1) (c.requires.alone t.0 t.1) c.edit.ensures.nodes (c.edit.ensures.unique c.self.invariant.sound.once) c.edit.ensures.count

pub invariant_of-self : goal.invariant_of-self
invariant_of-self c =
    let C : Resident = record { nodes = c.self.inside.nodes.entries; room = c.self.inside.places.keys } in
    let D : Resident = record { nodes = c.edit.new.nodes.entries; room = c.self.inside.places.keys } in
    let E : Resident = record { nodes = c.edit_parent-edited.new.nodes.entries; room = c.self.inside.places.keys } in
    let is = ap (λ r. held_node r c.args.name.now) c.self.view_is in
    let t = there (held_node c.args.self.now c.args.name.now) c.requires.resident in
    let at = is ∙ t.1 in
    let alone = c.requires.alone t.0 t.1 in
    let first = c.edit.ensures.nodes in
    let second = c.edit_parent-edited.ensures.nodes in
    let od = c.edit.ensures.unique c.self.invariant.sound.once in
    let oe = c.edit_parent-edited.ensures.unique od in
    record {
      sound = linked-sound C D E c.args.name.now c.args.parent t.0 c.self.invariant.sound at alone first second od oe refl (c.edit_parent-edited.ensures.count ∙ c.edit.ensures.count);
      places = let p = c.self.invariant.places in let a = c.edit.ensures.spare in let b = c.edit_parent-edited.ensures.spare in omega (arith, p, a, b);
      homed = λ so. let parts = or-parts c.self.inside.astray _ so in
          linked-homed C D E c.args.name.now c.args.parent t.0 c.self.invariant.sound at alone first second od oe (c.self.invariant.homed parts.0) ((c.edit_parent-edited.ensures.there (not-missing c.edit_parent-edited.result (sym c.is_missing.ensures ∙ parts.1))));
      indexed =
          indexed-parent D E c.self.inside.links c.args.parent kid_more (node-kept kid_more (λ h. refl)) od oe second
          (indexed-mapped C D c.self.inside.links c.args.name.now (with_parent c.args.parent) (node-kept (with_parent c.args.parent) (λ h. refl)) c.self.invariant.sound.once od first c.self.invariant.indexed);
      idling =
          idle-edited D E c.self.inside.idle c.refile_parent.new.idle (points c.args.parent) kid_more c.edit_parent-edited.result c.refile_parent.ensures.unsure c.refile_parent.ensures.names second c.edit_parent-edited.ensures.same
          (idle-same C D c.self.inside.idle c.self.inside.idle refl (λ q. ap is_free (first q) ∙ free-mapped (with_parent c.args.parent) (λ h. refl) (same_name c.args.name.now q) (held_node C q)) c.self.invariant.idling);
      counted =
          dirty-parent D E c.args.parent kid_more c.self.inside.dirty (λ h. refl) od oe second
          (dirty-kept C D c.args.name.now (with_parent c.args.parent) c.self.inside.dirty (λ h. refl) c.self.invariant.sound.once od first c.self.invariant.counted);
    }

pub returns-clause-nodes : goal.returns-clause-nodes
returns-clause-nodes c = λ q.
    c.edit_parent-edited.ensures.nodes q ∙ ap (map_if (points c.args.parent q) kid_more) (c.edit.ensures.nodes q ∙ ap (λ r. map_if (same_name c.args.name.now q) (with_parent c.args.parent) (held_node r q)) c.self.view_is)
