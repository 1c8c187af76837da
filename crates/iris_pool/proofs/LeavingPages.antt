-- A page leaves the pool: what is seen of it, and that the pool stays one.
use Rattle.std.proofs.Common.{◌≡◌, ℕ, Bool, true, false, cond, List, Option, Some, None, refl, ap, sym, ◌∙◌, true≢false, is_some}
use Rattle.std.specs.Prelude.{nat_lt}
use Rattle.std.specs.List.{list_any}
use Rattle.iris_blocks.specs.declared.held.PageHeld.{PageHeld}
use Rattle.iris_blocks.specs.Held.{page_stay_of}
use Rattle.iris_blocks.specs.Paged.{Paged, held_page}
use Rattle.iris_cache.specs.Resident.{held_node}
use Rattle.iris_desk.specs.AtDesks.{out_of, is_doomed}
use Rattle.iris_desk.specs.declared.out.Doing.TheVariants.{Get}
use Rattle.iris_desk.specs.declared.out.Out as pending
use Rattle.iris_invariant.specs.Agrees.{Out}
use Rattle.iris_invariant.specs.Cells.{TiedPage, cell_at, dirty_page_in}
use Rattle.iris_invariant.specs.Events.{Evicted}
use Rattle.iris_name.specs.Names.{same_name}
use Rattle.iris_name.specs.NameLaws.{same_name-true, same_name-refl}
use Rattle.iris_name.specs.declared.name.FileId.{FileId}
use Rattle.iris_name.specs.declared.name.Name.{Name}
use Rattle.iris_name.specs.declared.name.Name.TheVariants.{Entry, Part, Block}
use Rattle.iris_pool.specs.Changes.{PageGoes}
use Rattle.iris_pool.specs.Going.{PageCanLeave}
use Rattle.iris_pool.specs.Pool.{PoolState, IsAbsentIn, has_place}
use Rattle.iris_pool.specs.View.{IsPool, out_by, out_seen, is_pinned_for, pinned_page_in, pool_view}
use Rattle.iris_pool.proofs.Leaving.{held_there, no_pin, page_stay_parts}

module _ (p : PoolState) (f : Paged) (file : FileId) (place : ℕ) (leave : PageCanLeave p (Block file place)) (goes : PageGoes p (record p { pages = f }) (Block file place)) where
  abbrev n : Name
  n = Block file place

  there : (h : PageHeld) × (held_page p.pages n ≡ Some h) × (page_stay_of h ≡ None)
  there = held_there (λ (h : PageHeld). page_stay_of h ≡ None) (held_page p.pages n) leave.0

  parts : (is_some there.0.out ≡ false) × (there.0.dirty ≡ false) × (nat_lt 0 there.0.pins ≡ false)
  parts = page_stay_parts (is_some there.0.out) there.0.dirty (nat_lt 0 there.0.pins) there.2

  gone : held_page f n ≡ None
  gone = goes n ∙ ap (λ b. cond b None (held_page p.pages n)) (same_name-refl n)

  other : (m : Name) → same_name n m ≡ false → held_page f m ≡ held_page p.pages m
  other m s = goes m ∙ ap (λ b. cond b None (held_page p.pages m)) s

  was_held : (m : Name) (h : PageHeld) → held_page f m ≡ Some h → held_page p.pages m ≡ Some h
  was_held m h at = by (same_name n m) refl where
    by : (b : Bool) → same_name n m ≡ b → held_page p.pages m ≡ Some h
    by true s = let z : None ≡ Some h = sym gone ∙ ap (held_page f) (same_name-true n m s) ∙ at in absurd (cc)
    by false s = sym (other m s) ∙ at

  pins_elsewhere : (w : ℕ) (m : Name) → same_name n m ≡ false → is_pinned_for (record p { pages = f }) w m ≡ is_pinned_for p w m
  pins_elsewhere w (Entry i) s = refl
  pins_elsewhere w (Part g l i) s = refl
  pins_elsewhere w (Block g b) s = ap (pinned_page_in w) (other (Block g b) s)

  unpinned : (w : ℕ) → pinned_page_in w (held_page p.pages n) ≡ false
  unpinned w = ap (pinned_page_in w) there.1 ∙ no_pin w there.0.pins parts.2

  pub evicted : (key : List ℕ) → Evicted n (pool_view key p) (pool_view key (record p { pages = f }))
  evicted key = record {
    rest = record {
      cell = λ m s. ap (λ o. cell_at m (held_node p.nodes m) o (is_doomed p.desks m) (out_seen key p.desks m)) (other m s);
      asked = λ w. refl;
      kept = λ w m s. refl;
      pinned = pins_elsewhere;
    };
    pins = record { kept = λ w. refl; pinned = λ w. ap (pinned_page_in w) gone ∙ sym (unpinned w) };
    clean = ap dirty_page_in there.1 ∙ parts.1;
    idle = ap (out_by key p.desks) leave.1;
    unpinned = unpinned;
    resident = ap (λ (o : Option PageHeld). is_some o) gone;
    dirty = ap dirty_page_in gone;
    doomed = refl;
    out = ap (out_by key p.desks) leave.1;
  }

  module _ (pool : IsPool p) (same_room : f.room ≡ p.pages.room) where
    tied : (out : Option Out) (m : Name) → TiedPage (held_page p.pages m) out → TiedPage (held_page f m) out
    tied out m t = record { touched = λ h o at. t.touched h o (was_held m h at); unknown = λ h o at. t.unknown h o (was_held m h at) }

    places_are : (m : Name) (who : ℕ) (o : pending.Out) → out_of p.desks m ≡ Some (who, o) → o.doing ≡ Get → o.touched ≡ false → IsAbsentIn (record p { pages = f }) m → has_place (record p { pages = f }) m ≡ true
    places_are (Entry i) who o at get fresh none = pool.places (Entry i) who o at get fresh none
    places_are (Part g l i) who o at get fresh none = pool.places (Part g l i) who o at get fresh none
    places_are (Block g b) who o at get fresh none = ap (λ (l : List Name). list_any (same_name (Block g b)) l) same_room ∙ pool.places (Block g b) who o at get fresh (sym (other (Block g b) (by (same_name n (Block g b)) refl)) ∙ none) where
      by : (s : Bool) → same_name n (Block g b) ≡ s → s ≡ false
      by false s = refl
      by true s = absurd (true≢false (ap (λ (x : Option (ℕ × pending.Out)). is_some x) (sym at ∙ ap (out_of p.desks) (sym (same_name-true n (Block g b) s)) ∙ leave.1)))

    pub is_pool : IsPool (record p { pages = f })
    is_pool = record {
      nodes = pool.nodes;
      pages = λ key m k. tied (out_seen key p.desks m) m (pool.pages key m k);
      known = pool.known;
      known_page = λ m h who own at has. pool.known_page m h who own (was_held m h at) has;
      places = places_are;
    }
