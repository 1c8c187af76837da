use Rattle.std.proofs.Common.{◌≡◌, ◌+◌, ap, sym, ◌∙◌, arith, length, true, Bool, None, if◌then◌else◌, not}
use Rattle.iris_name.specs.Names.{same_name}
use Rattle.iris_cache.specs.Resident.{Resident, held_node}
use Rattle.std.specs.Map.{lookup, values_of}
use Rattle.std.specs.List.{count_by}
use Rattle.iris_cache.specs.Held.{is_child}
use Rattle.iris_cache.proofs.EmptyPlaces.{roomy-sound, not-there}
use Rattle.iris_cache.proofs.LinkCounts.{indexed-again}
use Rattle.iris_cache.proofs.DirtyNodes.{dirty-again}
use Rattle.iris_cache.proofs.IdleNodes.{idle-again}
use Rattle.iris_cache.proofs.cache.Cache.room.Goals as goal

pub invariant_of-self-2 : goal.invariant_of-self-2
invariant_of-self-2 c =
    let C : Resident = record { nodes = c.self.inside.nodes.entries; room = c.self.inside.places.keys } in
    let E : Resident = record { nodes = c.reserve.new.self.entries; room = c.insert.new.self.keys } in
    let n = c.args.name.now in
    let s = c.self.invariant.sound in
    let absent : held_node C n ≡ None = not-there (held_node C n) (sym c.if-contains_key.ensures) in
    let nodes = c.in_ok-reserve.ensures.entries in
    let l1 = c.len.ensures.len in
    let l2 = c.len-2.ensures.len in
    let l3 = c.len-3.ensures.len in
    let few = c.if-len.false in
    let spare = c.in_ok-reserve.ensures.ok in
    let fresh : c.in_ok-insert.field-0 ≡ true = c.in_ok-insert.ensures.added ∙ ap not (sym c.if-contains.ensures) in
    let more : length E.room ≡ length C.room + 1 = c.in_ok-insert.ensures.len ∙ ap (λ (b : Bool). length C.room + (if b then 1 else 0)) fresh in
    record {
      sound = roomy-sound C E n s absent nodes c.in_ok-insert.ensures.updates.0 (omega (arith, l1, l2, few, more));
      places = omega (arith, spare, more, l3);
      homed = λ so q none. ap (λ l. count_by (is_child q) (values_of l)) nodes ∙ c.self.invariant.homed so q (sym (ap (λ l. lookup (same_name q) l) nodes) ∙ none);
      indexed = indexed-again C E c.self.inside.links c.reserve-2.new.self nodes c.in_ok-reserve-2.ensures.same c.self.invariant.indexed;
      idling = idle-again C E c.self.inside.idle c.reserve-3.new.self nodes c.in_ok-reserve-3.ensures c.self.invariant.idling;
      counted = dirty-again C E c.self.inside.dirty nodes c.self.invariant.counted;
    }
