-- A pool stays one where it gets more empty places, and where its nodes keep what is out for them.
use Rattle.std.proofs.Common.{◌≡◌, ◌⊎◌, inl, inr, ◌||◌, ◌&&◌, ℕ, Bool, true, false, not, List, Option, Some, None, Result, Ok, Err, OnOk, refl, ap, sym, ◌∙◌, subst, is_some, true≢false}
use Rattle.std.specs.List.{list_any}
use Rattle.std.specs.Map.{lookup}
use Rattle.iris_blocks.specs.declared.held.PageHeld.{PageHeld}
use Rattle.iris_blocks.specs.Changes.{PageDrafted, sets_page}
use Rattle.iris_blocks.specs.Paged.{Paged, has_page_room, held_page}
use Rattle.iris_cache.specs.declared.held.Held.{Held}
use Rattle.iris_cache.specs.Drafted.{Drafted, sets}
use Rattle.iris_cache.specs.Resident.{Resident, has_room, held_node}
use Rattle.iris_desk.specs.AtDesk.{DeskState}
use Rattle.iris_desk.specs.AtDesks.{out_of}
use Rattle.iris_desk.specs.declared.out.Doing.TheVariants.{Get}
use Rattle.iris_desk.specs.declared.out.Out as pending
use Rattle.iris_invariant.specs.Agrees.{Out}
use Rattle.iris_invariant.specs.Cells.{Tied}
use Rattle.iris_name.specs.Names.{same_name}
use Rattle.iris_name.specs.declared.name.Name.{Name}
use Rattle.iris_name.specs.declared.name.Name.TheVariants.{Entry, Part, Block}
use Rattle.iris_node.specs.Trees.{IsNodeName}
use Rattle.iris_pool.specs.Pool.{PoolState, IsAbsentIn, has_place}
use Rattle.iris_pool.specs.View.{IsPool, out_by, out_seen}
use Rattle.iris_upkeep.specs.SettlesInto.{SettlesInto}

module _ (p : PoolState) (room page_room doomed : List Name) (free : ℕ) (pool : IsPool p)
    (more : (n : Name) → has_room p.nodes n ≡ true → list_any (same_name n) room ≡ true) (more_pages : (n : Name) → has_page_room p.pages n ≡ true → list_any (same_name n) page_room ≡ true) where
  abbrev roomier : PoolState
  roomier = record { nodes = record { nodes = p.nodes.nodes; room = room }; pages = record { pages = p.pages.pages; room = page_room }; desks = record { desks = p.desks.desks; doomed = doomed; room = free } }

  places_are : (n : Name) (who : ℕ) (o : pending.Out) → out_of p.desks n ≡ Some (who, o) → o.doing ≡ Get → o.touched ≡ false → IsAbsentIn roomier n → has_place roomier n ≡ true
  places_are (Entry i) who o at get fresh none = more (Entry i) (pool.places (Entry i) who o at get fresh none)
  places_are (Part f l i) who o at get fresh none = more (Part f l i) (pool.places (Part f l i) who o at get fresh none)
  places_are (Block f s) who o at get fresh none = more_pages (Block f s) (pool.places (Block f s) who o at get fresh none)

  is_roomier : IsPool roomier
  is_roomier = record { nodes = pool.nodes; pages = pool.pages; known = pool.known; known_page = pool.known_page; places = places_are }

-- the same of any pool with those nodes, pages and desks
pub is_pool : (p q : PoolState) → IsPool p → q.nodes.nodes ≡ p.nodes.nodes → q.pages.pages ≡ p.pages.pages → q.desks.desks ≡ p.desks.desks
    → ((n : Name) → has_room p.nodes n ≡ true → has_room q.nodes n ≡ true) → ((n : Name) → has_page_room p.pages n ≡ true → has_page_room q.pages n ≡ true) → IsPool q
is_pool p q pool nodes pages desks more more_pages =
    subst (λ (l : List (Name × Held)). IsPool (record q { nodes = record { nodes = l; room = q.nodes.room } })) (sym nodes)
    (subst (λ (l : List (Name × PageHeld)). IsPool (record { nodes = record { nodes = p.nodes.nodes; room = q.nodes.room }; pages = record { pages = l; room = q.pages.room }; desks = q.desks })) (sym pages)
    (subst (λ (l : List DeskState). IsPool (record { nodes = record { nodes = p.nodes.nodes; room = q.nodes.room }; pages = record { pages = p.pages.pages; room = q.pages.room }; desks = record { desks = l; doomed = q.desks.doomed; room = q.desks.room } })) (sym desks)
    (is_roomier p q.nodes.room q.pages.room q.desks.doomed q.desks.room pool more more_pages)))

pub same_room : (c e : Resident) → e ≡ c → (n : Name) → has_room c n ≡ true → has_room e n ≡ true
same_room c e same n h = ap (λ (x : Resident). has_room x n) same ∙ h

-- room that was there is there where more comes
pub more_room : (was more now : Bool) → now ≡ (was || more) → was ≡ true → now ≡ true
more_room was more now e h = e ∙ ap (λ b. b || more) h

-- a name that is set is held, or has a place now
pub held_or_room : {A : Type 0} (held : Option A) (was set now : Bool) → now ≡ (was || (set && not (is_some held))) → set ≡ true → (is_some held ≡ true) ⊎ (now ≡ true)
held_or_room None was set now e s = inr (e ∙ ap (λ b. was || (b && true)) s ∙ by was) where
  by : (b : Bool) → (b || true) ≡ true
  by true = refl
  by false = refl
held_or_room (Some h) was set now e s = inl refl

-- ---- nodes keep what is out for them

abbrev pub KeepsFlags : Held → Held → Type 0
KeepsFlags g h = (h.out ≡ g.out) × (h.touched ≡ g.touched)

-- What is held after was held, with the same out for it; or nothing is out for it. What is out and absent after was absent, and keeps
-- its place.
module _ (p : PoolState) (e : Resident) (pool : IsPool p)
    (was_held : (m : Name) (h : Held) → held_node e m ≡ Some h → ((g : Held) × (held_node p.nodes m ≡ Some g) × KeepsFlags g h) ⊎ ((out_of p.desks m ≡ None) × (h.out ≡ None)))
    (was_absent : (m : Name) (who : ℕ) (o : pending.Out) → out_of p.desks m ≡ Some (who, o) → held_node e m ≡ None → (held_node p.nodes m ≡ None) × (has_room p.nodes m ≡ true → has_room e m ≡ true)) where
  not_out : (key : List ℕ) (m : Name) (o : Out) → out_of p.desks m ≡ None → out_seen key p.desks m ≡ Some o → ⊥
  not_out key m o free ox = true≢false (ap (λ (x : Option Out). is_some x) (sym ox ∙ ap (out_by key p.desks) free))

  tied : (key : List ℕ) (m : Name) → Tied (held_node p.nodes m) (out_seen key p.desks m) → Tied (held_node e m) (out_seen key p.desks m)
  tied key m t = record {
    touched = λ h o at ox touched. elim (was_held m h at) [ inl w ↦ t.touched w.0 o w.1 ox (sym w.2.1 ∙ touched) | inr f ↦ absurd (not_out key m o f.0 ox) ];
    unknown = λ h o at ox none. elim (was_held m h at) [ inl w ↦ t.unknown w.0 o w.1 ox (sym w.2.0 ∙ none) | inr f ↦ absurd (not_out key m o f.0 ox) ];
  }

  known_is : (m : Name) (h : Held) (who : ℕ) → IsNodeName m → held_node e m ≡ Some h → h.out ≡ Some who → (o : pending.Out) × (out_of p.desks m ≡ Some (who, o))
  known_is m h who own at has = elim (was_held m h at) [
    | inl w ↦ pool.known m w.0 who own w.1 (sym w.2.0 ∙ has)
    | inr f ↦ absurd (true≢false (ap (λ (x : Option ℕ). is_some x) (sym has ∙ f.1)))
  ]

  room_is : (m : Name) (who : ℕ) (o : pending.Out) → out_of p.desks m ≡ Some (who, o) → held_node e m ≡ None → (held_node p.nodes m ≡ None → has_room p.nodes m ≡ true) → has_room e m ≡ true
  room_is m who o at none had = let w = was_absent m who o at none in w.1 (had w.0)

  kept_places : (m : Name) (who : ℕ) (o : pending.Out) → out_of p.desks m ≡ Some (who, o) → o.doing ≡ Get → o.touched ≡ false → IsAbsentIn (record p { nodes = e }) m → has_place (record p { nodes = e }) m ≡ true
  kept_places (Entry i) who o at get fresh none = room_is (Entry i) who o at none (pool.places (Entry i) who o at get fresh)
  kept_places (Part f l i) who o at get fresh none = room_is (Part f l i) who o at none (pool.places (Part f l i) who o at get fresh)
  kept_places (Block f s) who o at get fresh none = pool.places (Block f s) who o at get fresh none

  pub keeps_pool : IsPool (record p { nodes = e })
  keeps_pool = record {
    nodes = λ key m k. tied key m (pool.nodes key m k);
    pages = pool.pages;
    known = known_is;
    known_page = pool.known_page;
    places = kept_places;
  }

pub same_places : (c e : Resident) → e.room ≡ c.room → (m : Name) → has_room c m ≡ true → has_room e m ≡ true
same_places c e same m h = ap (λ (l : List Name). list_any (same_name m) l) same ∙ h

-- settling keeps them
settled_flags : (g h : Option Held) (k : Held) → SettlesInto g h → h ≡ Some k → (x : Held) × (g ≡ Some x) × KeepsFlags x k
settled_flags None None k s e = absurd (cc)
settled_flags None (Some h) k s e = absurd s
settled_flags (Some g) None k s e = absurd s
settled_flags (Some g) (Some h) k s e =
    let is : k ≡ h = cc in
    (g, refl, (ap (λ (x : Held). x.out) is ∙ ap (λ (x : Held). x.out) s.0, ap (λ (x : Held). x.touched) is ∙ ap (λ (x : Held). x.touched) s.0))

settled_none : (g h : Option Held) → SettlesInto g h → h ≡ None → g ≡ None
settled_none None h s e = refl
settled_none (Some g) None s e = absurd s
settled_none (Some g) (Some h) s e = absurd (cc)

pub settled_pool : (p : PoolState) (e : Resident) → IsPool p → e.room ≡ p.nodes.room → ((q : Name) → SettlesInto (held_node p.nodes q) (held_node e q)) → IsPool (record p { nodes = e })
settled_pool p e pool room into = keeps_pool p e pool (λ m h at. inl (settled_flags (held_node p.nodes m) (held_node e m) h (into m) at)) (λ m who o at none. (settled_none (held_node p.nodes m) (held_node e m) (into m) none, same_places p.nodes e room m))

-- ---- room for a draft

pub same_page_room : (b f : Paged) → f ≡ b → (n : Name) → has_page_room b n ≡ true → has_page_room f n ≡ true
same_page_room b f same n h = ap (λ (x : Paged). has_page_room x n) same ∙ h

pub ok_map : {A E P Q : Type 0} (r : Result A E) → (P → Q) → OnOk r P → OnOk r Q
ok_map (Ok x) f p = f p
ok_map (Err e) f p = tt

pub ready_nodes : (d : Drafted) (c e : Resident) → e.nodes ≡ c.nodes → ((q : Name) → has_room e q ≡ (has_room c q || (sets d q && not (is_some (held_node c q))))) → (n : Name) → sets d n ≡ true → (is_some (held_node e n) ≡ true) ⊎ (has_room e n ≡ true)
ready_nodes d c e same kept n s = held_or_room (held_node e n) (has_room c n) (sets d n) (has_room e n) (kept n ∙ ap (λ (l : List (Name × Held)). has_room c n || (sets d n && not (is_some (lookup (same_name n) l)))) (sym same)) s

pub ready_pages : (d : PageDrafted) (b f : Paged) → f.pages ≡ b.pages → ((q : Name) → has_page_room f q ≡ (has_page_room b q || (sets_page d q && not (is_some (held_page b q))))) → (n : Name) → sets_page d n ≡ true → (is_some (held_page f n) ≡ true) ⊎ (has_page_room f n ≡ true)
ready_pages d b f same kept n s = held_or_room (held_page f n) (has_page_room b n) (sets_page d n) (has_page_room f n) (kept n ∙ ap (λ (l : List (Name × PageHeld)). has_page_room b n || (sets_page d n && not (is_some (lookup (same_name n) l)))) (sym same)) s
