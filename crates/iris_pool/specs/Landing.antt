-- What drafts make of the pool.
use Rattle.std.specs.Prelude.{◌≡◌, ◌⊎◌, ◌+◌, ◌≤◌, ℕ, true, List, length, Option, Some, None, IsSome}
use Rattle.std.specs.Option.{option_map}
use Rattle.iris_blocks.specs.declared.held.PageHeld.{PageHeld}
use Rattle.iris_blocks.specs.Changes.{PageDrafted, change_of, landed_page, sets_page}
use Rattle.iris_blocks.specs.Paged.{Paged, held_page, has_page_room}
use Rattle.iris_cache.specs.Applied.{Lands}
use Rattle.iris_cache.specs.declared.held.Held.{Held}
use Rattle.iris_cache.specs.Drafted.{Drafted, sets}
use Rattle.iris_cache.specs.Resident.{Resident, held_node, has_room}
use Rattle.iris_desk.specs.AtDesks.{asked_by, keeps_for, is_doomed}
use Rattle.iris_invariant.specs.Cells.{cell_at, doomed_at, is_touched_at, touched_if}
use Rattle.iris_name.specs.declared.name.Name.{Name}
use Rattle.iris_pool.specs.Pool.{PoolState, IsPresent}
use Rattle.iris_pool.specs.View.{out_seen, is_pinned_for, pool_view}

-- two that may be held differ in their pins alone
abbrev pub SameButPins : Option Held → Option Held → Type 0
SameButPins None None = Unit {0}
SameButPins None (Some h) = ⊥
SameButPins (Some g) None = ⊥
SameButPins (Some g) (Some h) = h ≡ record g { pins = h.pins }

abbrev pub SamePageButPins : Option PageHeld → Option PageHeld → Type 0
SamePageButPins None None = Unit {0}
SamePageButPins None (Some h) = ⊥
SamePageButPins (Some g) None = ⊥
SamePageButPins (Some g) (Some h) = h ≡ record g { pins = h.pins }

-- Each name that the drafts set is held or has an empty place, and each that they take away can be doomed without memory.
pub record IsReadyFor (p : PoolState) (d : Drafted) (e : PageDrafted) : Type 0 where
  pub nodes : (n : Name) → sets d n ≡ true → IsSome (held_node p.nodes n) ⊎ (has_room p.nodes n ≡ true)
  pub pages : (n : Name) → sets_page e n ≡ true → IsSome (held_page p.pages n) ⊎ (has_page_room p.pages n ≡ true)
  pub dooms : length d.changes + length e.changes ≤ p.desks.room

-- What the drafts leave of nodes, pages and desks. Nodes and pages are as cache and blocks make them (in the middle), but for pins; what went is
-- doomed, what came isn't any more, and what is out for a name that came, went or changed is touched.
pub record LandsIn (d : Drafted) (e : PageDrafted) (p q : PoolState) : Type 0 where
  pub middle : Resident
  pub middle_pages : Paged
  pub lands : (n : Name) → Lands d p.nodes middle n
  pub landed : (n : Name) → held_page middle_pages n ≡ landed_page (change_of e n) (held_page p.pages n)
  pub nodes : (n : Name) → SameButPins (held_node middle n) (held_node q.nodes n)
  pub pages : (n : Name) → SamePageButPins (held_page middle_pages n) (held_page q.pages n)
  pub doomed : (n : Name) → is_doomed q.desks n ≡ doomed_at n (held_node p.nodes n) (held_node q.nodes n) (held_page p.pages n) (held_page q.pages n) (is_doomed p.desks n)
  pub out : (key : List ℕ) (n : Name) → out_seen key q.desks n
      ≡ option_map (touched_if (is_touched_at n (held_node p.nodes n) (held_node q.nodes n) (held_page p.pages n) (held_page q.pages n))) (out_seen key p.desks n)
  pub asked : (w : ℕ) → asked_by q.desks w ≡ asked_by p.desks w
  pub kept : (w : ℕ) (n : Name) → keeps_for q.desks w n ≡ keeps_for p.desks w n
  -- what is kept for a caller and held is pinned for it
  pub pinned : (w : ℕ) (n : Name) → keeps_for p.desks w n ≡ true → IsPresent q n → is_pinned_for q w n ≡ true

-- So the invariant sees of each name what cache, blocks and desks make of it: a pin changes nothing of its cell.
abbrev pub CellsLand : Type 0
CellsLand = (key : List ℕ) (d : Drafted) (e : PageDrafted) (p q : PoolState) (l : LandsIn d e p q) (n : Name) → (pool_view key q).cell n
    ≡ cell_at n (held_node l.middle n) (held_page l.middle_pages n)
    (doomed_at n (held_node p.nodes n) (held_node l.middle n) (held_page p.pages n) (held_page l.middle_pages n) (is_doomed p.desks n))
    (option_map (touched_if (is_touched_at n (held_node p.nodes n) (held_node l.middle n) (held_page p.pages n) (held_page l.middle_pages n))) (out_seen key p.desks n))
