-- What changes where a name is a node's, and where it is a block's: at that name and elsewhere.
use Rattle.std.proofs.Common.{◌≡◌, ◌&&◌, ℕ, Bool, true, false, cond, not, Option, Some, None, refl, sym, ◌∙◌, ap, subst, is_some}
use Rattle.std.specs.Option.{option_map}
use Rattle.iris_blocks.specs.declared.held.PageHeld.{PageHeld}
use Rattle.iris_blocks.specs.Held.{begun_page, finished_page}
use Rattle.iris_cache.specs.declared.held.Held.{Held}
use Rattle.iris_cache.specs.Held.{begun_node, finished_node}
use Rattle.iris_cache.specs.Laws.{AreAlike}
use Rattle.iris_cache.specs.Resident.{map_if}
use Rattle.iris_history.specs.Kept.{is_block}
use Rattle.iris_invariant.specs.Agrees.{Cell, Out}
use Rattle.iris_invariant.specs.Cells.{cell_at, cell_of, cell_of_page}
use Rattle.iris_name.specs.declared.name.Name.{Name}
use Rattle.iris_name.specs.declared.name.Name.TheVariants.{Entry, Part, Block}
use Rattle.iris_name.specs.Names.{same_name}
use Rattle.iris_name.specs.NameLaws.{same_name-refl}
use Rattle.iris_pool.specs.Changes.{ArePagesAlike}
use Rattle.iris_pool.specs.Parts.{ended_node, ended_page, is_block_at, is_node_at}
use Rattle.iris_pool.specs.View.{pinned_node_in, pinned_page_in}

off : (b s : Bool) → s ≡ false → (b && s) ≡ false
off true s e = e
off false s e = refl

pub not_node_at : (n m : Name) → same_name n m ≡ false → is_node_at n m ≡ false
not_node_at n m e = off (not (is_block m)) (same_name n m) e

pub not_block_at : (n m : Name) → same_name n m ≡ false → is_block_at n m ≡ false
not_block_at n m e = off (is_block m) (same_name n m) e

-- elsewhere nothing changes
pub node_apart : (n m : Name) (f : Held → Held) (g h : Option Held) → same_name n m ≡ false → h ≡ map_if (is_node_at n m) f g → h ≡ g
node_apart n m f g h ne e = e ∙ ap (λ b. map_if b f g) (not_node_at n m ne)

pub page_apart : (n m : Name) (f : PageHeld → PageHeld) (g h : Option PageHeld) → same_name n m ≡ false → h ≡ map_if (is_block_at n m) f g → h ≡ g
page_apart n m f g h ne e = e ∙ ap (λ b. map_if b f g) (not_block_at n m ne)

pub place_apart : (s a b t : Bool) → t ≡ cond s a b → s ≡ false → t ≡ b
place_apart s a b t is e = is ∙ ap (λ z. cond z a b) e

-- at that name a node changes, or a page
abbrev pub ChangesAt : Name → (Held → Held) → (PageHeld → PageHeld) → Option Held → Option Held → Option PageHeld → Option PageHeld → Type 0
ChangesAt (Entry i) f r g h a b = (h ≡ option_map f g) × (b ≡ a)
ChangesAt (Part k l i) f r g h a b = (h ≡ option_map f g) × (b ≡ a)
ChangesAt (Block k i) f r g h a b = (h ≡ g) × (b ≡ option_map r a)

pub changes_at : (n : Name) (f : Held → Held) (r : PageHeld → PageHeld) (g h : Option Held) (a b : Option PageHeld) → h ≡ map_if (is_node_at n n) f g → b ≡ map_if (is_block_at n n) r a → ChangesAt n f r g h a b
changes_at (Entry i) f r g h a b e u = (e ∙ ap (λ z. map_if z f g) (same_name-refl (Entry i)), u)
changes_at (Part k l i) f r g h a b e u = (e ∙ ap (λ z. map_if z f g) (same_name-refl (Part k l i)), u)
changes_at (Block k i) f r g h a b e u = (e, u ∙ ap (λ z. map_if z r a) (same_name-refl (Block k i)))

-- f leaves what is settled, the pins, and whatever is pictured
pub record IsQuiet (f : Held → Held) : Type 0 where
  pub pins : (h : Held) → (f h).pins ≡ h.pins
  pub alike : (h : Held) → AreAlike (Some h) (Some (f h))

pub record IsPageQuiet (r : PageHeld → PageHeld) : Type 0 where
  pub pins : (h : PageHeld) → (r h).pins ≡ h.pins
  pub alike : (h : PageHeld) → ArePagesAlike (Some h) (Some (r h))

-- a cell that is as before, but for what is dirty, doomed and out
pub record SameSeen (c e : Cell) : Type 0 where
  pub resident : e.resident ≡ c.resident
  pub settled : e.settled ≡ c.settled

quiet_node : (f : Held → Held) (g h : Option Held) (d e : Bool) (o u : Option Out) → IsQuiet f → h ≡ option_map f g → SameSeen (cell_of g d o) (cell_of h e u)
quiet_node f None h d e o u quiet is = record { resident = ap (λ z. (cell_of z e u).resident) is; settled = ap (λ z. (cell_of z e u).settled) is }
quiet_node f (Some g) h d e o u quiet is = record { resident = ap (λ z. (cell_of z e u).resident) is; settled = ap (λ z. (cell_of z e u).settled) is ∙ (quiet.alike g).1.1 }

quiet_page : (r : PageHeld → PageHeld) (a b : Option PageHeld) (d e : Bool) (o u : Option Out) → b ≡ option_map r a → SameSeen (cell_of_page a d o) (cell_of_page b e u)
quiet_page r None b d e o u is = record { resident = ap (λ z. (cell_of_page z e u).resident) is; settled = ap (λ z. (cell_of_page z e u).settled) is }
quiet_page r (Some a) b d e o u is = record { resident = ap (λ z. (cell_of_page z e u).resident) is; settled = ap (λ z. (cell_of_page z e u).settled) is }

pub quiet_cell : (n : Name) (f : Held → Held) (r : PageHeld → PageHeld) (g h : Option Held) (a b : Option PageHeld) (d e : Bool) (o u : Option Out)
    → IsQuiet f → ChangesAt n f r g h a b → SameSeen (cell_at n g a d o) (cell_at n h b e u)
quiet_cell (Entry i) f r g h a b d e o u quiet c = quiet_node f g h d e o u quiet c.0
quiet_cell (Part k l i) f r g h a b d e o u quiet c = quiet_node f g h d e o u quiet c.0
quiet_cell (Block k i) f r g h a b d e o u quiet c = quiet_page r a b d e o u c.1

pub quiet_pins : (who : ℕ) (f : Held → Held) (g : Option Held) → IsQuiet f → pinned_node_in who (option_map f g) ≡ pinned_node_in who g
quiet_pins who f None quiet = refl
quiet_pins who f (Some g) quiet = ap (λ pins. pinned_node_in who (Some (record g { pins = pins }))) (quiet.pins g)

pub quiet_page_pins : (who : ℕ) (r : PageHeld → PageHeld) (a : Option PageHeld) → IsPageQuiet r → pinned_page_in who (option_map r a) ≡ pinned_page_in who a
quiet_page_pins who r None quiet = refl
quiet_page_pins who r (Some a) quiet = ap (λ pins. pinned_page_in who (Some (record a { pins = pins }))) (quiet.pins a)

-- and so they are alike
pub alike_self : (g : Option Held) → AreAlike g g
alike_self None = tt
alike_self (Some g) = (refl, (refl, refl))

pub pages_alike_self : (a : Option PageHeld) → ArePagesAlike a a
pages_alike_self None = tt
pages_alike_self (Some a) = (refl, refl)

pub alike_if : (b : Bool) (f : Held → Held) (g h : Option Held) → ((x : Held) → AreAlike (Some x) (Some (f x))) → h ≡ map_if b f g → AreAlike g h
alike_if b f g h alike e = subst (AreAlike g) (sym e) (by b g) where
  by : (b : Bool) (g : Option Held) → AreAlike g (map_if b f g)
  by true None = tt
  by true (Some g) = alike g
  by false g = alike_self g

pub pages_alike_if : (b : Bool) (r : PageHeld → PageHeld) (g h : Option PageHeld) → ((x : PageHeld) → ArePagesAlike (Some x) (Some (r x))) → h ≡ map_if b r g → ArePagesAlike g h
pages_alike_if b r g h alike e = subst (ArePagesAlike g) (sym e) (by b g) where
  by : (b : Bool) (g : Option PageHeld) → ArePagesAlike g (map_if b r g)
  by true None = tt
  by true (Some g) = alike g
  by false g = pages_alike_self g

-- what begins and ends is quiet
pub begun_quiet : (who : ℕ) → IsQuiet (begun_node who)
begun_quiet who = record { pins = λ h. refl; alike = λ h. (refl, (refl, refl)) }

pub begun_page_quiet : (who : ℕ) → IsPageQuiet (begun_page who)
begun_page_quiet who = record { pins = λ h. refl; alike = λ h. (refl, refl) }

pub ended_quiet : (clean : Bool) → IsQuiet (ended_node clean)
ended_quiet clean = record { pins = λ h. pins h (is_some h.out); alike = λ h. alike h (is_some h.out) } where
  pins : (h : Held) (b : Bool) → (cond b (finished_node clean h) h).pins ≡ h.pins
  pins h true = refl
  pins h false = refl

  alike : (h : Held) (b : Bool) → AreAlike (Some h) (Some (cond b (finished_node clean h) h))
  alike h true = (refl, (refl, refl))
  alike h false = (refl, (refl, refl))

pub ended_page_quiet : (clean : Bool) → IsPageQuiet (ended_page clean)
ended_page_quiet clean = record { pins = λ h. pins h (is_some h.out); alike = λ h. alike h (is_some h.out) } where
  pins : (h : PageHeld) (b : Bool) → (cond b (finished_page clean h) h).pins ≡ h.pins
  pins h true = refl
  pins h false = refl

  alike : (h : PageHeld) (b : Bool) → ArePagesAlike (Some h) (Some (cond b (finished_page clean h) h))
  alike h true = (refl, refl)
  alike h false = (refl, refl)

-- what ended is out no more
pub ended_out : (clean : Bool) (h : Held) → (ended_node clean h).out ≡ None
ended_out clean h = by h.out refl where
  by : (z : Option ℕ) → h.out ≡ z → (cond (is_some z) (finished_node clean h) h).out ≡ None
  by None e = e
  by (Some w) e = refl

pub ended_page_out : (clean : Bool) (h : PageHeld) → (ended_page clean h).out ≡ None
ended_page_out clean h = by h.out refl where
  by : (z : Option ℕ) → h.out ≡ z → (cond (is_some z) (finished_page clean h) h).out ≡ None
  by None e = e
  by (Some w) e = refl

-- an end that isn't clean leaves what is dirty
pub ended_dirty : (h : Held) → (ended_node false h).dirty ≡ h.dirty
ended_dirty h = by (is_some h.out) h.dirty refl where
  by : (b d : Bool) → h.dirty ≡ d → (cond b (finished_node false h) h).dirty ≡ d
  by true true e = ap (λ z. z && not false) e
  by true false e = ap (λ z. z && not false) e
  by false d e = e

pub ended_page_dirty : (h : PageHeld) → (ended_page false h).dirty ≡ h.dirty
ended_page_dirty h = by (is_some h.out) h.dirty refl where
  by : (b d : Bool) → h.dirty ≡ d → (cond b (finished_page false h) h).dirty ≡ d
  by true true e = ap (λ z. z && not false) e
  by true false e = ap (λ z. z && not false) e
  by false d e = e
