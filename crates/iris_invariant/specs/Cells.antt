-- The cell of a name as the cache, or the resident blocks, and the desks show it.
use Rattle.std.specs.Prelude.{◌≡◌, ◌==◌, ◌^◌, ℕ, Bool, true, false, not, ◌||◌, Option, Some, None, is_some, bit_and}
use Rattle.iris_blocks.specs.declared.held.PageHeld.{PageHeld}
use Rattle.iris_cache.specs.declared.held.Held.{Held}
use Rattle.iris_name.specs.declared.name.Name.{Name}
use Rattle.iris_name.specs.declared.name.Name.TheVariants.{Entry, Part, Block}
use Rattle.iris_invariant.specs.Agrees.{Out, Cell}

abbrev pub dirty_in : Option Held → Bool
dirty_in None = false
dirty_in (Some h) = h.dirty

abbrev pub settled_in : Option Held → Bool
settled_in None = false
settled_in (Some h) = h.settled

-- of a node's name
abbrev pub cell_of : Option Held → Bool → Option Out → Cell
cell_of h doomed out = record { resident = is_some h; dirty = dirty_in h; doomed = doomed; settled = settled_in h; out = out }

abbrev pub dirty_page_in : Option PageHeld → Bool
dirty_page_in None = false
dirty_page_in (Some h) = h.dirty

-- of a block's name: a page counts as settled
abbrev pub cell_of_page : Option PageHeld → Bool → Option Out → Cell
cell_of_page h doomed out = record { resident = is_some h; dirty = dirty_page_in h; doomed = doomed; settled = is_some h; out = out }

-- of any name: a node's cell from the cache, a block's from the resident blocks
abbrev pub cell_at : Name → Option Held → Option PageHeld → Bool → Option Out → Cell
cell_at (Entry i) h p doomed out = cell_of h doomed out
cell_at (Part f l i) h p doomed out = cell_of h doomed out
cell_at (Block f q) h p doomed out = cell_of_page p doomed out

-- what the core does to the doomed names after a draft is made: what went is doomed, what came isn't any more
abbrev pub redoomed : {A : Type 0} → Option A → Option A → Bool → Bool
redoomed None None doomed = doomed
redoomed None (Some h) doomed = false
redoomed (Some g) None doomed = true
redoomed (Some g) (Some h) doomed = doomed

-- and to what is out: touched where the node or the page came, went, or is touched where it is held
abbrev pub held_touched : Option Held → Option Held → Bool
held_touched None None = false
held_touched None (Some h) = true
held_touched (Some g) None = true
held_touched (Some g) (Some h) = h.touched

abbrev pub page_touched : Option PageHeld → Option PageHeld → Bool
page_touched None None = false
page_touched None (Some h) = true
page_touched (Some g) None = true
page_touched (Some g) (Some h) = h.touched

-- the same of any name
abbrev pub doomed_at : Name → Option Held → Option Held → Option PageHeld → Option PageHeld → Bool → Bool
doomed_at (Entry i) g h p q doomed = redoomed g h doomed
doomed_at (Part f l i) g h p q doomed = redoomed g h doomed
doomed_at (Block f s) g h p q doomed = redoomed p q doomed

abbrev pub is_touched_at : Name → Option Held → Option Held → Option PageHeld → Option PageHeld → Bool
is_touched_at (Entry i) g h p q = held_touched g h
is_touched_at (Part f l i) g h p q = held_touched g h
is_touched_at (Block f s) g h p q = page_touched p q

abbrev pub touched_if : Bool → Out → Out
touched_if b o = record { who = o.who; since = o.since; request = o.request; doing = o.doing; crowded = o.crowded; touched = b || o.touched }

-- What ties the cache's fields of a resident node to what is out at the desks: it is touched at the desk where it is in the
-- cache, and where the cache doesn't know of what is out.
pub record Tied (h : Option Held) (out : Option Out) : Type 0 where
  pub touched : (g : Held) (o : Out) → h ≡ Some g → out ≡ Some o → g.touched ≡ true → o.touched ≡ true
  pub unknown : (g : Held) (o : Out) → h ≡ Some g → out ≡ Some o → g.out ≡ None → o.touched ≡ true

-- The same of a resident page.
pub record TiedPage (h : Option PageHeld) (out : Option Out) : Type 0 where
  pub touched : (g : PageHeld) (o : Out) → h ≡ Some g → out ≡ Some o → g.touched ≡ true → o.touched ≡ true
  pub unknown : (g : PageHeld) (o : Out) → h ≡ Some g → out ≡ Some o → g.out ≡ None → o.touched ≡ true

-- whether a caller's pin is among these: its bit is set
abbrev pub has_pin : ℕ → ℕ → Bool
has_pin who pins = not (bit_and pins (2 ^ who) == 0)
