use Rattle.std.proofs.Common.{◌≡◌, ◌&&◌, refl, ap, sym, ◌∙◌, subst, not}
use Rattle.std.specs.List.{list_any}
use Rattle.iris_name.specs.Names.{same_name}
use Rattle.iris_cache.specs.Resident.{Resident, has_room}
use Rattle.iris_cache.proofs.EmptyPlaces.{no-place}
use Rattle.iris_cache.proofs.cache.Cache.write_one.Goals as goal

pub returns-then-contains_key-clause-room : goal.returns-then-contains_key-clause-room
returns-then-contains_key-clause-room c = λ q.
    let C : Resident = record { nodes = c.self.inside.nodes.entries; room = c.self.inside.places.keys } in
    let n = c.args.name.now in
    let s = c.self.invariant.sound in
    ap (list_any (same_name q)) c.rewrite.ensures.room
    ∙ subst (λ (r : Resident). has_room r q ≡ (has_room r q && not (same_name n q))) c.self.view_is (no-place C n q (same_name n q) s (sym c.if-contains_key.ensures) refl)
