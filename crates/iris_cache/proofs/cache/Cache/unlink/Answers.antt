use Rattle.std.proofs.Common.{◌≡◌, ◌&&◌, false, cond, refl, ap, sym, ◌∙◌, None, arith}
use Rattle.iris_name.specs.declared.name.Name.{Name}
use Rattle.iris_name.specs.Names.{same_name}
use Rattle.iris_cache.specs.Held.{with_parent, points, kid_less}
use Rattle.iris_cache.specs.Resident.{Resident, held_node, map_if, parent_in}
use Rattle.iris_cache.proofs.HeldChanges.{there}
use Rattle.iris_cache.proofs.Hangs.{unlinked-fits, unlinked-sound, unlinked-homed}
use Rattle.iris_cache.proofs.LinkCounts.{indexed-mapped, indexed-parent, node-kept}
use Rattle.iris_cache.proofs.DirtyNodes.{dirty-kept, dirty-parent}
use Rattle.iris_cache.proofs.IdleNodes.{idle-edited, idle-same, free-mapped}
use Rattle.iris_cache.specs.Idle.{is_idle, is_free, is_turned}
use Rattle.iris_cache.proofs.cache.Cache.unlink.Goals as goal

pub edit_parent-edited-requires : goal.edit_parent-edited-requires
edit_parent-edited-requires c =
    let C : Resident = record { nodes = c.self.inside.nodes.entries; room = c.self.inside.places.keys } in
    let D : Resident = record { nodes = c.edit.new.nodes.entries; room = c.self.inside.places.keys } in
    let is = ap (λ r. held_node r c.args.name.now) c.self.view_is in
    let t = there (held_node c.args.self.now c.args.name.now) c.requires in
    let p : c.parent_of-parent.result ≡ t.0.parent = c.parent_of-parent.ensures ∙ ap parent_in t.1 in
    λ q e. unlinked-fits C D c.args.name.now t.0 c.self.invariant.sound (is ∙ t.1) c.edit.ensures.nodes (c.edit.ensures.unique c.self.invariant.sound.once) q (sym p ∙ e)

pub invariant_of-self : goal.invariant_of-self
invariant_of-self c =
    let C : Resident = record { nodes = c.self.inside.nodes.entries; room = c.self.inside.places.keys } in
    let D : Resident = record { nodes = c.edit.new.nodes.entries; room = c.self.inside.places.keys } in
    let E : Resident = record { nodes = c.edit_parent-edited.new.nodes.entries; room = c.self.inside.places.keys } in
    let is = ap (λ r. held_node r c.args.name.now) c.self.view_is in
    let t = there (held_node c.args.self.now c.args.name.now) c.requires in
    let at = is ∙ t.1 in
    let p : c.parent_of-parent.result ≡ t.0.parent = c.parent_of-parent.ensures ∙ ap parent_in t.1 in
    let first = c.edit.ensures.nodes in
    let second : (q : Name) → held_node E q ≡ map_if (points t.0.parent q) kid_less (held_node D q) = λ q. c.edit_parent-edited.ensures.nodes q ∙ ap (λ x. map_if (points x q) kid_less (held_node D q)) p in
    let od = c.edit.ensures.unique c.self.invariant.sound.once in
    let oe = c.edit_parent-edited.ensures.unique od in
    let filed : c.refile_parent.new.idle.unsure ≡ false → (q : Name) → is_idle c.refile_parent.new.idle q ≡ cond (is_turned c.edit_parent-edited.result && points t.0.parent q) (is_free (held_node E q)) (is_idle c.self.inside.idle q) = λ sure q.
    c.refile_parent.ensures.names sure q ∙ ap (λ x. cond (is_turned c.edit_parent-edited.result && points x q) (is_free (held_node E q)) (is_idle c.self.inside.idle q)) p in
    record {
      sound = unlinked-sound C D E c.args.name.now t.0 c.self.invariant.sound at first second od oe refl (c.edit_parent-edited.ensures.count ∙ c.edit.ensures.count);
      places = let p = c.self.invariant.places in let a = c.edit.ensures.spare in let b = c.edit_parent-edited.ensures.spare in omega (arith, p, a, b);
      homed = λ so. unlinked-homed C D E c.args.name.now t.0 c.self.invariant.sound at first second od oe (c.self.invariant.homed so);
      indexed =
          indexed-parent D E c.self.inside.links t.0.parent kid_less (node-kept kid_less (λ h. refl)) od oe second
          (indexed-mapped C D c.self.inside.links c.args.name.now (with_parent None) (node-kept (with_parent None) (λ h. refl)) c.self.invariant.sound.once od first c.self.invariant.indexed);
      idling =
          idle-edited D E c.self.inside.idle c.refile_parent.new.idle (points t.0.parent) kid_less c.edit_parent-edited.result c.refile_parent.ensures.unsure filed second c.edit_parent-edited.ensures.same
          (idle-same C D c.self.inside.idle c.self.inside.idle refl (λ q. ap is_free (first q) ∙ free-mapped (with_parent None) (λ h. refl) (same_name c.args.name.now q) (held_node C q)) c.self.invariant.idling);
      counted =
          dirty-parent D E t.0.parent kid_less c.self.inside.dirty (λ h. refl) od oe second
          (dirty-kept C D c.args.name.now (with_parent None) c.self.inside.dirty (λ h. refl) c.self.invariant.sound.once od first c.self.invariant.counted);
    }

pub returns-clause-nodes : goal.returns-clause-nodes
returns-clause-nodes c = λ q.
    c.edit_parent-edited.ensures.nodes q
    ∙ ap (map_if (points c.parent_of-parent.result q) kid_less) (c.edit.ensures.nodes q ∙ ap (λ r. map_if (same_name c.args.name.now q) (with_parent None) (held_node r q)) c.self.view_is)
    ∙ ap (λ x. map_if (points x q) kid_less (map_if (same_name c.args.name.now q) (with_parent None) (held_node c.args.self.now q))) c.parent_of-parent.ensures
