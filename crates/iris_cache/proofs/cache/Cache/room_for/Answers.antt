use Rattle.std.proofs.Common.{◌≡◌, ◌||◌, ◌&&◌, ap, sym, ◌∙◌, arith, length, Bool, is_some, not}
use Rattle.iris_name.specs.Names.{same_name}
use Rattle.iris_name.specs.declared.name.Name.{Name}
use Rattle.std.specs.Map.{lookup, values_of}
use Rattle.std.specs.List.{count_by, list_any}
use Rattle.iris_cache.specs.Drafted.{is_set}
use Rattle.iris_cache.specs.Held.{is_child}
use Rattle.iris_cache.specs.Resident.{Resident, held_node, has_room}
use Rattle.iris_cache.proofs.EmptyPlaces.{roomier-sound, still-free}
use Rattle.iris_cache.proofs.LinkCounts.{indexed-again}
use Rattle.iris_cache.proofs.DirtyNodes.{dirty-again}
use Rattle.iris_cache.proofs.IdleNodes.{idle-again}
use Rattle.iris_cache.proofs.cache.Cache.room_for.Goals as goal

pub invariant_of-self-2 : goal.invariant_of-self-2
invariant_of-self-2 c =
    let C : Resident = record { nodes = c.self.inside.nodes.entries; room = c.self.inside.places.keys } in
    let E : Resident = record { nodes = c.reserve.new.self.entries; room = c.place_all.new.places.keys } in
    let s = c.self.invariant.sound in
    let nodes = c.in_ok-reserve.ensures.entries in
    let keys = c.in_ok-reserve-4.ensures.keys in
    let sets : Name → Bool = λ q. is_set (lookup (same_name q) c.draft.inside.changes.entries) in
    let room : (q : Name) → has_room E q ≡ (has_room C q || (sets q && not (is_some (held_node C q)))) = λ q.
    c.place_all.ensures.names q
    ∙ ap (λ ks. list_any (same_name q) ks || (sets q && not (is_some (lookup (same_name q) c.reserve.new.self.entries)))) keys
    ∙ ap (λ l. has_room C q || (sets q && not (is_some (lookup (same_name q) l)))) nodes in
    let free = still-free C E sets s room in
    let n = c.len-names.ensures.len in
    let p = c.len.ensures.len in
    let l = c.len-2.ensures.len in
    let few = c.if-len-most.false in
    let spare = c.in_ok-reserve.ensures.ok in
    let same : length c.reserve-4.new.self.keys ≡ length C.room = ap length keys in
    let most = c.place_all.ensures.len in
    record {
      sound = roomier-sound C E s nodes free (omega (arith, n, p, l, few, same, most));
      places = omega (arith, n, p, spare, same, most);
      homed = λ so q none. ap (λ l. count_by (is_child q) (values_of l)) nodes ∙ c.self.invariant.homed so q (sym (ap (λ l. lookup (same_name q) l) nodes) ∙ none);
      indexed = indexed-again C E c.self.inside.links c.reserve-2.new.self nodes c.in_ok-reserve-2.ensures.same c.self.invariant.indexed;
      idling = idle-again C E c.self.inside.idle c.reserve-3.new.self nodes c.in_ok-reserve-3.ensures c.self.invariant.idling;
      counted = dirty-again C E c.self.inside.dirty nodes c.self.invariant.counted;
    }
