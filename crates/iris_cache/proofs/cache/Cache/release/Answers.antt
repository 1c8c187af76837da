use Rattle.std.proofs.Common.{◌≡◌, refl, ap, ◌∙◌, arith, length, true, Bool}
use Rattle.std.proofs.lemmas.List.{length-map}
use Rattle.std.proofs.lemmas.Map.Made.{lookup-map_values}
use Rattle.iris_name.specs.Names.{same_name}
use Rattle.iris_name.specs.declared.name.Name.{Name}
use Rattle.std.specs.Option.{option_map}
use Rattle.std.specs.Map.{values_of}
use Rattle.std.specs.List.{count_by}
use Rattle.iris_cache.specs.Held.{unpinned_node, is_child}
use Rattle.iris_cache.specs.Resident.{Resident, held_node, children}
use Rattle.std.specs.Map.{lookup}
use Rattle.iris_cache.proofs.FlaggedNodes.{flagged-sound, flagged-homed, children-all}
use Rattle.iris_cache.proofs.LinkCounts.{indexed-all, node-kept}
use Rattle.iris_cache.proofs.DirtyNodes.{dirty-all}
use Rattle.iris_cache.proofs.IdleNodes.{idle-released}
use Rattle.iris_cache.proofs.cache.Cache.release.Goals as goal

pub invariant_of-self : goal.invariant_of-self
invariant_of-self c =
    let C : Resident = record { nodes = c.self.inside.nodes.entries; room = c.self.inside.places.keys } in
    let E : Resident = record { nodes = c.unpin_all.new.nodes.entries; room = c.self.inside.places.keys } in
    let f = unpinned_node c.args.who in
    let s = c.self.invariant.sound in
    let all = c.unpin_all.ensures.nodes in
    let is : (q : Name) → held_node E q ≡ option_map f (held_node C q) = λ q. ap (λ l. lookup (same_name q) l) all ∙ lookup-map_values f (same_name q) C.nodes in
    let oe = c.unpin_all.ensures.unique in
    let same : (q : Name) → children E q ≡ children C q = λ q. ap (λ l. count_by (is_child q) (values_of l)) all ∙ children-all q f (λ h. refl) C.nodes in
    let t : Name → Bool = λ q. true in
    record {
      sound = flagged-sound C E f t s is oe (λ h. refl) (λ h. refl) same refl (ap length all ∙ length-map C.nodes _);
      places = let p = c.self.invariant.places in let a = c.unpin_all.ensures.spare in omega (arith, p, a);
      homed = λ so. flagged-homed C E f t s is oe (λ h. refl) (λ h. refl) same (c.self.invariant.homed so);
      indexed = indexed-all C E c.self.inside.links f (node-kept f (λ h. refl)) all is c.self.invariant.indexed;
      idling = idle-released C E c.self.inside.idle c.file_freed.new.idle c.args.who c.file_freed.ensures.unsure c.file_freed.ensures.names is c.self.invariant.idling;
      counted = dirty-all C E f c.self.inside.dirty (λ h. refl) all c.self.invariant.counted;
    }

pub returns-clause-nodes : goal.returns-clause-nodes
returns-clause-nodes c = λ q.
    ap (λ l. lookup (same_name q) l) c.unpin_all.ensures.nodes ∙ lookup-map_values (unpinned_node c.args.who) (same_name q) c.self.inside.nodes.entries
    ∙ ap (λ (r : Resident). option_map (unpinned_node c.args.who) (held_node r q)) c.self.view_is

pub returns-clause-count : goal.returns-clause-count
returns-clause-count c = ap length c.unpin_all.ensures.nodes ∙ length-map c.self.inside.nodes.entries _ ∙ ap (λ (r : Resident). length r.nodes) c.self.view_is
