-- A get begins and then its request is asked: it is as if the request had been asked first.
use Rattle.std.proofs.Common.{◌≡◌, ◌≤◌, ◌==◌, ℕ, set, cond, not, is_some, Option, Some, None, false, refl, sym, ◌∙◌, ap, subst, arith}
use Rattle.std.specs.List.{list_any}
use Rattle.std.specs.Map.{lookup}
use Rattle.iris_blocks.specs.Held.{begun_page}
use Rattle.iris_blocks.specs.Paged.{has_page_room, held_page}
use Rattle.iris_cache.specs.Held.{begun_node}
use Rattle.iris_cache.specs.Resident.{has_room, held_node}
use Rattle.iris_desk.specs.AtDesk.{asked_desk}
use Rattle.iris_desk.specs.AtDesks.{DesksState, AreDesksSound, ChangesDesk, asked_by}
use Rattle.iris_desk.specs.declared.out.Doing.TheVariants.{Get}
use Rattle.iris_desk.specs.declared.out.Out.{Out}
use Rattle.iris_desk.specs.Laws.{AsksBy, BeginsFor}
use Rattle.iris_desk.proofs.Keeping.{desk_there}
use Rattle.iris_desk.proofs.LookingUp.{ask_looks}
use Rattle.iris_desk.proofs.Seats.{set_changes}
use Rattle.iris_invariant.specs.Events.{Began}
use Rattle.iris_name.specs.declared.name.Name.{Name}
use Rattle.iris_name.specs.declared.name.Name.TheVariants.{Entry, Part, Block}
use Rattle.iris_name.specs.declared.note.Expect.{Expect}
use Rattle.iris_name.specs.declared.request.Request.{Request}
use Rattle.iris_name.specs.Names.{same_name}
use Rattle.iris_pool.specs.Changes.{AskedFor, IsIdle}
use Rattle.iris_pool.specs.Filing.{AsksAndBegins}
use Rattle.iris_pool.specs.Parts.{is_block_at, is_node_at}
use Rattle.iris_pool.specs.Pool.{PoolState, IsAbsentIn}
use Rattle.iris_pool.specs.View.{IsPool, pool_view}
use Rattle.iris_pool.proofs.Begun.{Begun, absent_nodes, absent_pages, begun_event, begun_pool}
use Rattle.iris_pool.proofs.ByName.{not_block_at, not_node_at, place_apart}
use Rattle.iris_pool.proofs.Entering.{asked_event, asked_pool, here_it}
use Rattle.iris_pool.proofs.OutSeen.{asked_for}
use Rattle.iris_pool.proofs.Places.{place_made}

-- the desks at which the request is asked
asked_at : (d : DesksState) (who : ℕ) (r : Request) → AreDesksSound d → who ≤ 16 → (m : DesksState) × ChangesDesk d m who (asked_desk r) × (m.doomed ≡ d.doomed)
asked_at d who r sound le =
    let h = desk_there d who sound le in
    (record d { desks = set d.desks who (asked_desk r h.0) }, set_changes d.desks who h.0 (asked_desk r h.0) (asked_desk r) (let k = sound.seats in omega (arith, k, le)) h.1 refl, refl)

-- what began before a request was asked begins after it
begins_after : (who : ℕ) (r : Request) (o : Out) (d e m z : DesksState) → BeginsFor who o d e → AsksBy who r e z → AsksBy who r d m → BeginsFor who o m z
begins_after who r o d e m z b a f = record {
  out = λ q. a.out q ∙ (b.out q ∙ sym (ap (λ (x : Option (ℕ × Out)). cond (same_name o.name q) (Some (who, o)) x) (f.out q)));
  kept = λ w q. a.kept w q ∙ (b.kept w q ∙ sym (f.kept w q));
  asked = λ w. a.asked w ∙ (ap (λ (x : Option Request). cond (w == who) (Some r) x) (b.asked w) ∙ sym (f.asked w));
}

pub asks_and_begins : (who : ℕ) (r : Request) (o : Out) (d e z : DesksState) → AreDesksSound d → who ≤ 16 → BeginsFor who o d e → AsksBy who r e z → AsksAndBegins who r o d z
asks_and_begins who r o d e z sound le b a =
    let m = asked_at d who r sound le in
    let first = ask_looks who r d m.0 sound le m.1 in
    record { middle = m.0; doomed = m.2; asks = first; begins = begins_after who r o d e m.0 z b a first }

-- the get that begins
abbrev pub get_of : Name → ℕ → Expect → Out
get_of n since expect = record { doing = Get; name = n; since = since; expect = Some expect; crowded = false; «record» = None; touched = false }

module _ (who : ℕ) (r : Request) (n : Name) (since : ℕ) (expect : Expect) (p q : PoolState) (idle : IsIdle p.desks who) (absent : IsAbsentIn p n)
    (both : AsksAndBegins who r (get_of n since expect) p.desks q.desks) (doomed : q.desks.doomed ≡ p.desks.doomed)
    (nodes : q.nodes.nodes ≡ p.nodes.nodes) (pages : q.pages.pages ≡ p.pages.pages)
    (node_places : (m : Name) → has_room q.nodes m ≡ cond (is_node_at n m) (not (is_some (held_node p.nodes m))) (has_room p.nodes m))
    (page_places : (m : Name) → has_page_room q.pages m ≡ cond (is_block_at n m) (not (is_some (held_page p.pages m))) (has_page_room p.pages m)) where
  abbrev between : PoolState
  between = record { nodes = p.nodes; pages = p.pages; desks = both.middle }

  absent_still : (m : Name) → IsAbsentIn p m → IsAbsentIn between m
  absent_still (Entry i) a = a
  absent_still (Part f l i) a = a
  absent_still (Block f i) a = a

  begun : Begun who (get_of n since expect) between q
  begun = record {
    nodes = absent_nodes between q.nodes n (begun_node who) (absent_still n absent) (λ m. ap (lookup (same_name m)) nodes);
    pages = absent_pages between q.pages n (begun_page who) (absent_still n absent) (λ m. ap (lookup (same_name m)) pages);
    node_places = λ m ne. place_apart (is_node_at n m) (not (is_some (held_node p.nodes m))) (has_room p.nodes m) (has_room q.nodes m) (node_places m) (not_node_at n m ne);
    page_places = λ m ne. place_apart (is_block_at n m) (not (is_some (held_page p.pages m))) (has_page_room p.pages m) (has_page_room q.pages m) (page_places m) (not_block_at n m ne);
    begins = both.begins;
    doomed = λ m. ap (list_any (same_name m)) (doomed ∙ sym both.doomed);
    place = λ get. place_made between q n (absent_still n absent) node_places page_places;
  }

  pub asked_for_pool : IsPool p → IsPool q
  asked_for_pool pool = begun_pool who (get_of n since expect) between q begun (asked_pool who r p both.middle idle both.asks pool)

  request_asked : asked_by both.middle who ≡ Some r
  request_asked = both.asks.asked who ∙ here_it who (Some r) (asked_by p.desks who)

  pub asked_for_get : AskedFor who r n since expect p q
  asked_for_get = record {
    middle = between;
    nodes = refl;
    pages = refl;
    request = request_asked;
    asked = λ key. asked_event who r p both.middle idle both.asks key (λ m. ap (list_any (same_name m)) both.doomed);
    began = λ key. subst (λ z. Began n (asked_for key z (who, get_of n since expect)) (pool_view key between) (pool_view key q)) request_asked (begun_event who (get_of n since expect) between q begun key);
  }
