use Rattle.std.proofs.Common.{◌≡◌, ◌+◌, ap, sym, ◌∙◌, Option, Some, None, arith, ℕ, Bool, true, false, cond, is_some, length, if◌then◌else◌}
use Rattle.iris_name.specs.declared.name.Name.{Name}
use Rattle.iris_name.specs.Names.{same_name}
use Rattle.iris_node.specs.Nodes.{name_of}
use Rattle.iris_cache.specs.declared.held.Held.{Held}
use Rattle.iris_cache.specs.Held.{with_kids}
use Rattle.iris_cache.specs.Resident.{Resident, held_node, has_room, children}
use Rattle.iris_cache.proofs.Guests.{put-sound, put-none, put-children}
use Rattle.iris_cache.proofs.LinkCounts.{indexed-came}
use Rattle.iris_cache.proofs.DirtyNodes.{dirty-came, byte-weight}
use Rattle.iris_cache.proofs.IdleNodes.{idle-came}
use Rattle.iris_cache.proofs.cache.Cache.put.Goals as goal

pub count_children-requires : goal.count_children-requires
count_children-requires c =
    let C : Resident = record { nodes = c.self.inside.nodes.entries; room = c.self.inside.places.keys } in
    let n : Name = c.name-name.result in
    let N : Name = name_of c.args.guest.node in
    let s = c.self.invariant.sound in
    let room : has_room C n ≡ true = ap (λ (k : Name). has_room C k) c.name-name.ensures ∙ ap (λ (r : Resident). has_room r N) c.self.view_is ∙ c.requires.room in
    record { few = let f = s.few in omega (arith, f); homed = λ so. c.self.invariant.homed so n (s.empty n room) }

pub invariant_of-self : goal.invariant_of-self
invariant_of-self c =
    let C : Resident = record { nodes = c.self.inside.nodes.entries; room = c.self.inside.places.keys } in
    let E : Resident = record { nodes = c.insert.new.self.entries; room = c.swap_remove.new.self.keys } in
    let n : Name = c.name-name.result in
    let N : Name = name_of c.args.guest.node in
    let v : Held = with_kids c.count_children.result c.args.guest in
    let s = c.self.invariant.sound in
    let room : has_room C n ≡ true = ap (λ (k : Name). has_room C k) c.name-name.ensures ∙ ap (λ (r : Resident). has_room r N) c.self.view_is ∙ c.requires.room in
    let absent : held_node C n ≡ None = s.empty n room in
    let is = c.in-Ok.ensures.updates.0 in
    let a = c.in-Ok.ensures.len in
    let b = c.swap_remove.ensures.len in
    let w : is_some c.in-Ok.field-0 ≡ false = ap (λ (x : Option Held). is_some x) (c.in-Ok.ensures.old ∙ absent) in
    let f : c.swap_remove.result ≡ true = c.swap_remove.ensures.found ∙ room in
    let a2 : length E.nodes ≡ length C.nodes + 1 = a ∙ ap (λ (t : Bool). length C.nodes + (if t then 0 else 1)) w in
    let b2 : length E.room + 1 ≡ length C.room = sym (ap (λ (t : Bool). length E.room + (if t then 1 else 0)) f) ∙ b in
    record {
      sound = put-sound C E n v s absent c.requires.alone (sym c.name-name.ensures) c.count_children.ensures is c.in-Ok.ensures.unique c.swap_remove.ensures.updates.0 (omega (arith, a2, b2));
      places = let p = c.self.invariant.places in let r = c.in-Ok.ensures.spare in omega (arith, p, r, b2);
      homed = λ so q none.
          put-children C E n v s absent c.requires.alone (sym c.name-name.ensures) c.count_children.ensures is c.in-Ok.ensures.unique q
          ∙ c.self.invariant.homed so q (put-none C E n v s absent c.requires.alone (sym c.name-name.ensures) c.count_children.ensures is c.in-Ok.ensures.unique q none);
      indexed = indexed-came C E c.self.inside.links c.add_node.new.self n v s.once c.in-Ok.ensures.unique absent is c.add_node.ensures.partial c.add_node.ensures.counts c.add_node.ensures.sums c.ranged.ensures c.self.invariant.indexed;
      idling = idle-came C E c.self.inside.idle c.file.new.self n v c.is_free.result c.file.ensures.unsure c.file.ensures.names c.is_free.ensures is c.self.invariant.idling;
      counted = dirty-came C E n v c.self.inside.dirty _ s.once c.in-Ok.ensures.unique absent is (ap (λ k. c.self.inside.dirty + k) (c.from.ensures ∙ byte-weight c.args.guest.dirty)) c.self.invariant.counted;
    }

pub returns-clause-nodes : goal.returns-clause-nodes
returns-clause-nodes c = λ q.
    let n : Name = c.name-name.result in
    let N : Name = name_of c.args.guest.node in
    let C : Resident = record { nodes = c.self.inside.nodes.entries; room = c.self.inside.places.keys } in
    let k : c.count_children.result ≡ children c.args.self.now N = c.count_children.ensures ∙ ap (λ (k : Name). children C k) c.name-name.ensures ∙ ap (λ (r : Resident). children r N) c.self.view_is in
    c.in-Ok.ensures.updates.0 q
    ∙ ap (λ (k : Name). cond (same_name k q) (Some (with_kids c.count_children.result c.args.guest)) (held_node C q)) c.name-name.ensures
    ∙ ap (λ (m : ℕ). cond (same_name N q) (Some (with_kids m c.args.guest)) (held_node C q)) k
    ∙ ap (λ (r : Resident). cond (same_name N q) (Some (with_kids (children c.args.self.now N) c.args.guest)) (held_node r q)) c.self.view_is
