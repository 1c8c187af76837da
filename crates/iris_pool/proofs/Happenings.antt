-- What the pool's calls make of one name, as events of the invariant: over pools that are the same elsewhere.
use Rattle.std.proofs.Common.{◌≡◌, ◌&&◌, ℕ, List, Bool, false, cond, not, Option, Some, None, refl, sym, ◌∙◌, ap}
use Rattle.std.specs.Option.{option_map}
use Rattle.iris_blocks.specs.declared.held.PageHeld.{PageHeld}
use Rattle.iris_blocks.specs.Paged.{held_page}
use Rattle.iris_cache.specs.declared.held.Held.{Held}
use Rattle.iris_cache.specs.Resident.{held_node}
use Rattle.iris_desk.specs.AtDesks.{is_doomed, keeps_for}
use Rattle.iris_invariant.specs.Agrees as seen
use Rattle.iris_invariant.specs.Agrees.{View}
use Rattle.iris_invariant.specs.Cells.{cell_at, dirty_in, dirty_page_in}
use Rattle.iris_invariant.specs.Events.{Began, Discarded, SamePins, Stored, Withdrawn}
use Rattle.iris_name.specs.declared.name.Name.{Name}
use Rattle.iris_name.specs.declared.name.Name.TheVariants.{Entry, Part, Block}
use Rattle.iris_pool.specs.Parts.{ended_node, ended_page}
use Rattle.iris_pool.specs.Pool.{PoolState}
use Rattle.iris_pool.specs.View.{out_seen, is_pinned_for, pinned_node_in, pinned_page_in, pool_view}
use Rattle.iris_pool.proofs.Apart.{Apart, elsewhere}
use Rattle.iris_pool.proofs.ByName.{ChangesAt, SameSeen, IsPageQuiet, IsQuiet, ended_page_quiet, ended_quiet, quiet_cell, quiet_page_pins, quiet_pins}

-- what is held of n changes so from pool to pool
abbrev pub Happens : Name → (Held → Held) → (PageHeld → PageHeld) → PoolState → PoolState → Type 0
Happens n f r p q = ChangesAt n f r (held_node p.nodes n) (held_node q.nodes n) (held_page p.pages n) (held_page q.pages n)

pub same_pins : (key : List ℕ) (n : Name) (f : Held → Held) (r : PageHeld → PageHeld) (p q : PoolState) → IsQuiet f → IsPageQuiet r → Happens n f r p q
    → ((w : ℕ) → keeps_for q.desks w n ≡ keeps_for p.desks w n) → SamePins n (pool_view key p) (pool_view key q)
same_pins key n f r p q quiet paged h kept = record { kept = kept; pinned = λ w. by n w h } where
  by : (n : Name) (w : ℕ) → Happens n f r p q → is_pinned_for q w n ≡ is_pinned_for p w n
  by (Entry i) w h = ap (pinned_node_in w) h.0 ∙ quiet_pins w f (held_node p.nodes (Entry i)) quiet
  by (Part k l i) w h = ap (pinned_node_in w) h.0 ∙ quiet_pins w f (held_node p.nodes (Part k l i)) quiet
  by (Block k i) w h = ap (pinned_page_in w) h.1 ∙ quiet_page_pins w r (held_page p.pages (Block k i)) paged

-- whether f leaves what is dirty
abbrev pub StaysDirty : (Held → Held) → (PageHeld → PageHeld) → Type 0
StaysDirty f r = ((h : Held) → (f h).dirty ≡ h.dirty) × ((h : PageHeld) → (r h).dirty ≡ h.dirty)

dirty_node : (f : Held → Held) (g : Option Held) → ((h : Held) → (f h).dirty ≡ h.dirty) → dirty_in (option_map f g) ≡ dirty_in g
dirty_node f None is = refl
dirty_node f (Some g) is = is g

dirty_page : (r : PageHeld → PageHeld) (g : Option PageHeld) → ((h : PageHeld) → (r h).dirty ≡ h.dirty) → dirty_page_in (option_map r g) ≡ dirty_page_in g
dirty_page r None is = refl
dirty_page r (Some g) is = is g

pub same_dirty : (key : List ℕ) (n : Name) (f : Held → Held) (r : PageHeld → PageHeld) (p q : PoolState) → StaysDirty f r → Happens n f r p q → ((pool_view key q).cell n).dirty ≡ ((pool_view key p).cell n).dirty
same_dirty key (Entry i) f r p q is h = ap dirty_in h.0 ∙ dirty_node f (held_node p.nodes (Entry i)) is.0
same_dirty key (Part k l i) f r p q is h = ap dirty_in h.0 ∙ dirty_node f (held_node p.nodes (Part k l i)) is.0
same_dirty key (Block k i) f r p q is h = ap dirty_page_in h.1 ∙ dirty_page r (held_page p.pages (Block k i)) is.1

-- of whichever cell, its part that says nothing of nodes and pages
pub cell_doomed : (n : Name) (h : Option Held) (b : Option PageHeld) (d : Bool) (o : Option seen.Out) → (cell_at n h b d o).doomed ≡ d
cell_doomed (Entry i) h b d o = refl
cell_doomed (Part k l i) h b d o = refl
cell_doomed (Block k i) h b d o = refl

pub cell_out : (n : Name) (h : Option Held) (b : Option PageHeld) (d : Bool) (o : Option seen.Out) → (cell_at n h b d o).out ≡ o
cell_out (Entry i) h b d o = refl
cell_out (Part k l i) h b d o = refl
cell_out (Block k i) h b d o = refl

module _ (key : List ℕ) (n : Name) (p q : PoolState) where
  abbrev v : View
  v = pool_view key p

  abbrev w : View
  w = pool_view key q

  pub doomed_same : is_doomed q.desks n ≡ is_doomed p.desks n → (w.cell n).doomed ≡ (v.cell n).doomed
  doomed_same e = cell_doomed n (held_node q.nodes n) (held_page q.pages n) (is_doomed q.desks n) (out_seen key q.desks n) ∙ (e ∙ sym (cell_doomed n (held_node p.nodes n) (held_page p.pages n) (is_doomed p.desks n) (out_seen key p.desks n)))

  pub out_is : (o : Option seen.Out) → out_seen key q.desks n ≡ o → (w.cell n).out ≡ o
  out_is o e = cell_out n (held_node q.nodes n) (held_page q.pages n) (is_doomed q.desks n) (out_seen key q.desks n) ∙ e

  module _ (a : Apart n p q) (kept : (u : ℕ) → keeps_for q.desks u n ≡ keeps_for p.desks u n) where
    pub began : (f : Held → Held) (r : PageHeld → PageHeld) (o : seen.Out) → IsQuiet f → IsPageQuiet r → StaysDirty f r → Happens n f r p q
        → is_doomed q.desks n ≡ is_doomed p.desks n → out_seen key q.desks n ≡ Some o → Began n o v w
    began f r o quiet paged stays h doomed out =
        let c = quiet_cell n f r (held_node p.nodes n) (held_node q.nodes n) (held_page p.pages n) (held_page q.pages n) (is_doomed p.desks n) (is_doomed q.desks n) (out_seen key p.desks n) (out_seen key q.desks n) quiet h in
        record {
          rest = elsewhere key n p q a;
          pins = same_pins key n f r p q quiet paged h kept;
          out = out_is (Some o) out;
          resident = c.resident;
          dirty = same_dirty key n f r p q stays h;
          doomed = doomed_same doomed;
          settled = c.settled;
        }

    module _ (clean : Bool) (h : Happens n (ended_node clean) (ended_page clean) p q) (out : out_seen key q.desks n ≡ None) where
      abbrev c : SameSeen (v.cell n) (w.cell n)
      c = quiet_cell n (ended_node clean) (ended_page clean) (held_node p.nodes n) (held_node q.nodes n) (held_page p.pages n) (held_page q.pages n) (is_doomed p.desks n) (is_doomed q.desks n) (out_seen key p.desks n) (out_seen key q.desks n) (ended_quiet clean) h

      pub stored : (o : seen.Out) (ok : Bool) → is_doomed q.desks n ≡ is_doomed p.desks n → (w.cell n).dirty ≡ cond (ok && not o.touched) false (v.cell n).dirty → Stored n o ok v w
      stored o ok doomed dirty = record {
        rest = elsewhere key n p q a;
        pins = same_pins key n (ended_node clean) (ended_page clean) p q (ended_quiet clean) (ended_page_quiet clean) h kept;
        out = out_is None out;
        resident = c.resident;
        dirty = dirty;
        doomed = doomed_same doomed;
        settled = c.settled;
      }

      pub discarded : (o : seen.Out) (ok : Bool) → (w.cell n).dirty ≡ (v.cell n).dirty → (w.cell n).doomed ≡ cond (ok && not o.touched) false (v.cell n).doomed → Discarded n o ok v w
      discarded o ok dirty doomed = record {
        rest = elsewhere key n p q a;
        pins = same_pins key n (ended_node clean) (ended_page clean) p q (ended_quiet clean) (ended_page_quiet clean) h kept;
        out = out_is None out;
        resident = c.resident;
        dirty = dirty;
        doomed = doomed;
        settled = c.settled;
      }

      pub withdrawn : is_doomed q.desks n ≡ is_doomed p.desks n → (w.cell n).dirty ≡ (v.cell n).dirty → Withdrawn n v w
      withdrawn doomed dirty = record {
        rest = elsewhere key n p q a;
        pins = same_pins key n (ended_node clean) (ended_page clean) p q (ended_quiet clean) (ended_page_quiet clean) h kept;
        out = out_is None out;
        resident = c.resident;
        dirty = dirty;
        doomed = doomed_same doomed;
        settled = c.settled;
      }
