-- What a draft, an end and a pin make of the cells of nodes and blocks, as statements.
use Rattle.std.specs.Prelude.{◌≡◌, ◌≢◌, ◌⊎◌, ◌∷◌, ◌&&◌, ◌==◌, ◌≤◌, ℕ, List, Bool, true, false, not, Option, Some, None, IsSome, IsNone, is_some, option_map, if◌then◌else◌}
use Rattle.iris_blocks.specs.declared.held.PageHeld.{PageHeld}
use Rattle.iris_blocks.specs.Changes.{PageDrafted, change_of, landed_page}
use Rattle.iris_blocks.specs.Held.{arrived_page, renewed, begun_page, finished_page, newcomer_page, pinned_page, unpinned_page}
use Rattle.iris_blocks.specs.Laws.{ChangesEach}
use Rattle.iris_blocks.specs.Paged.{Paged, held_page, IsBlock, Shows}
use Rattle.iris_cache.specs.Applied.{Lands}
use Rattle.iris_cache.specs.declared.held.Held.{Held}
use Rattle.iris_cache.specs.Drafted.{Drafted}
use Rattle.iris_cache.specs.Held.{begun_node, finished_node, newcomer_node, pinned_node, unpinned_node}
use Rattle.iris_cache.specs.Laws.{Left}
use Rattle.iris_cache.specs.Pictures.{Pictures, Drafts}
use Rattle.iris_cache.specs.Resident.{Resident, held_node}
use Rattle.iris_name.specs.declared.name.Name.{Name}
use Rattle.iris_name.specs.History.{Past, Stamped}
use Rattle.iris_node.specs.declared.node.Node.{Node}
use Rattle.iris_node.specs.Trees.{Shown, IsNodeName}
use Rattle.iris_history.specs.Kept.{Kept, shown_in}
use Rattle.iris_invariant.specs.Agrees.{Out}
use Rattle.iris_invariant.specs.Cells.{cell_of, cell_of_page, redoomed, held_touched, page_touched, touched_if, Tied, TiedPage, has_pin}
use Rattle.iris_invariant.specs.Events.{Moved, Brings}

-- What a name stands for before and after, and whether it is held: what changed was resident if it lived, and is resident if it
-- lives; what is gone is absent; and what was resident isn't listed as doomed.
pub record IsHeldAsShown {U : Type 0} (old new : Option U) (was is doomed : Bool) : Type 0 where
  pub before : new ≢ old → IsSome old → was ≡ true
  pub after : new ≢ old → IsSome new → is ≡ true
  pub gone : IsNone new → is ≡ false
  pub listed : was ≡ true → doomed ≡ false

-- so it is with a node where a draft is made over a cache that pictures the table
abbrev pub NodesAreHeld : Type 0
NodesAreHeld = (old new : Shown) (d : Drafted) (c e : Resident) (n : Name) (doomed : Bool) → Drafts old new d c → Lands d c e n → Pictures new e → IsNodeName n → (IsSome (held_node c n) → doomed ≡ false)
    → IsHeldAsShown (old n) (new n) (is_some (held_node c n)) (is_some (held_node e n)) doomed

-- what a draft leaves of a node, with what the core does to the desks after it, moves the node's cell
abbrev pub NodesMove : Kept → Type 0
NodesMove k = (past : Past) (x : Stamped) (n : Name) (g h : Option Held) (doomed : Bool) (out : Option Out)
    → IsHeldAsShown (shown_in k past n) (shown_in k (x ∷ past) n) (is_some g) (is_some h) doomed → Tied g out → Left (shown_in k (x ∷ past) n ≡ shown_in k past n) g h
    → Moved k past x n (cell_of g doomed out) (cell_of h (redoomed g h doomed) (option_map (touched_if (held_touched g h)) out))

-- What a draft leaves of what was held of a block; `same` says that it stands for the same. It is as it was; or it came, went
-- or was set anew, and stands for something else.
abbrev pub LeftPage : Type 0 → Option PageHeld → Option PageHeld → Type 0
LeftPage same None None = same
LeftPage same None (Some h) = (same → ⊥) × (h ≡ arrived_page h.version h.page)
LeftPage same (Some g) None = same → ⊥
LeftPage same (Some g) (Some h) = (same × (h ≡ g)) ⊎ ((same → ⊥) × (h ≡ renewed h.version h.page g))

-- a draft of pages marks whatever stands for something else, and nothing more
abbrev pub PagesMark : Type 0
PagesMark = (t u : Shown) (d : PageDrafted) (b e : Paged) → ChangesEach t u d b → ((q : Name) → held_page e q ≡ landed_page (change_of d q) (held_page b q))
    → (n : Name) → IsBlock n → LeftPage (u n ≡ t n) (held_page b n) (held_page e n)

-- and a block is held as the tables show it where a draft is made over pages that show the table
abbrev pub PagesAreHeld : Type 0
PagesAreHeld = (t u : Shown) (d : PageDrafted) (b e : Paged) (n : Name) (doomed : Bool) → Shows t b → ChangesEach t u d b → ((q : Name) → held_page e q ≡ landed_page (change_of d q) (held_page b q))
    → IsBlock n → (IsSome (held_page b n) → doomed ≡ false) → IsHeldAsShown (t n) (u n) (is_some (held_page b n)) (is_some (held_page e n)) doomed

-- what a draft leaves of a page, with what the core does to the desks after it, moves the block's cell
abbrev pub PagesMove : Kept → Type 0
PagesMove k = (past : Past) (x : Stamped) (n : Name) (g h : Option PageHeld) (doomed : Bool) (out : Option Out)
    → IsHeldAsShown (shown_in k past n) (shown_in k (x ∷ past) n) (is_some g) (is_some h) doomed → TiedPage g out → LeftPage (shown_in k (x ∷ past) n ≡ shown_in k past n) g h
    → Moved k past x n (cell_of_page g doomed out) (cell_of_page h (redoomed g h doomed) (option_map (touched_if (page_touched g h)) out))

-- An end that is told `ok`, and untouched at the desk, unmarks exactly so, where the cache knows of what is out; where it
-- doesn't, the mark would stay, and nothing is to be ended there.
pub record NodesEnd : Type 0 where
  pub known : (g : Held) (out : Out) (ok : Bool) → Tied (Some g) (Some out) → (out.touched ≡ false → g.settled ≡ true)
      → (finished_node (ok && not out.touched) g).dirty ≡ (if ok && not out.touched then false else g.dirty)
  pub unknown : (g : Held) (out : Out) (ok : Bool) → Tied (Some g) (Some out) → g.out ≡ None → (if ok && not out.touched then false else g.dirty) ≡ g.dirty

pub record PagesEnd : Type 0 where
  pub known : (g : PageHeld) (out : Out) (ok : Bool) → TiedPage (Some g) (Some out)
      → (finished_page (ok && not out.touched) g).dirty ≡ (if ok && not out.touched then false else g.dirty)
  pub unknown : (g : PageHeld) (out : Out) (ok : Bool) → TiedPage (Some g) (Some out) → g.out ≡ None → (if ok && not out.touched then false else g.dirty) ≡ g.dirty

-- Cache and desks stay tied by what a draft leaves, and are tied where something begins.
pub record NodesStayTied : Type 0 where
  pub moves : (t u : Shown) (n : Name) (g h : Option Held) (out : Option Out) → Left (u n ≡ t n) g h → Tied g out → Tied h (option_map (touched_if (held_touched g h)) out)
  pub begins : (who : ℕ) (g : Option Held) (out : Out) → Tied (option_map (begun_node who) g) (Some out)

pub record PagesStayTied : Type 0 where
  pub moves : (t u : Shown) (n : Name) (g h : Option PageHeld) (out : Option Out) → LeftPage (u n ≡ t n) g h → TiedPage g out → TiedPage h (option_map (touched_if (page_touched g h)) out)
  pub begins : (who : ℕ) (g : Option PageHeld) (out : Out) → TiedPage (option_map (begun_page who) g) (Some out)

-- A right answer brings its name as it is asked: what is absent is inserted, settled and pinned for its caller; what is
-- resident gets that pin, and no other caller's changes.
pub record NodesBring : Type 0 where
  pub inserted : (who kids : ℕ) (parent : Option Name) (node : Node) (doomed : Bool) (out : Option Out) (pinned : ℕ → Bool)
      → Brings who false (cell_of None doomed out) (cell_of (Some (newcomer_node parent node who kids)) doomed None) pinned (λ w. has_pin w (newcomer_node parent node who kids).pins)
  pub pinned : (who : ℕ) (touched : Bool) (h : Held) (doomed : Bool) (out : Option Out)
      → Brings who touched (cell_of (Some h) doomed out) (cell_of (Some (pinned_node who h)) doomed None) (λ w. has_pin w h.pins) (λ w. has_pin w (pinned_node who h).pins)

pub record PagesBring : Type 0 where
  pub inserted : (who version : ℕ) (page : List ℕ) (doomed : Bool) (out : Option Out) (pinned : ℕ → Bool)
      → Brings who false (cell_of_page None doomed out) (cell_of_page (Some (newcomer_page version page who)) doomed None) pinned (λ w. has_pin w (newcomer_page version page who).pins)
  pub pinned : (who : ℕ) (touched : Bool) (h : PageHeld) (doomed : Bool) (out : Option Out)
      → Brings who touched (cell_of_page (Some h) doomed out) (cell_of_page (Some (pinned_page who h)) doomed None) (λ w. has_pin w h.pins) (λ w. has_pin w (pinned_page who h).pins)

-- unpinning takes that caller's pin, and no other
abbrev pub UnpinsTakeOne : Type 0
UnpinsTakeOne = (who w : ℕ) (h : Held) (p : PageHeld) → who ≤ 16 → w ≤ 16
    → (has_pin w (unpinned_node who h).pins ≡ (if w == who then false else has_pin w h.pins)) × (has_pin w (unpinned_page who p).pins ≡ (if w == who then false else has_pin w p.pins))
