-- A node that is held as before, but for how many of its children are; and one that is tied to the desks as before.
use Rattle.std.proofs.Common.{◌≡◌, ℕ, Bool, true, false, Option, Some, None, refl, sym, ◌∙◌, ap, subst}
use Rattle.iris_blocks.specs.declared.held.PageHeld.{PageHeld}
use Rattle.iris_cache.specs.declared.held.Held.{Held}
use Rattle.iris_cache.specs.Held.{kid_more, with_kids}
use Rattle.iris_cache.specs.Laws.{AreAlike}
use Rattle.iris_cache.specs.Resident.{map_if}
use Rattle.iris_invariant.specs.Agrees.{Out}
use Rattle.iris_invariant.specs.Cells.{cell_of, Tied, TiedPage}
use Rattle.iris_pool.specs.View.{pinned_node_in}

abbrev pub SameNode : Option Held → Option Held → Type 0
SameNode None None = Unit {0}
SameNode None (Some h) = ⊥
SameNode (Some g) None = ⊥
SameNode (Some g) (Some h) = h ≡ with_kids h.kids g

pub same_as : (g : Option Held) → SameNode g g
same_as None = tt
same_as (Some g) = refl

pub same_of : (g h : Option Held) → h ≡ g → SameNode g h
same_of g h e = subst (SameNode g) (sym e) (same_as g)

pub same_if : (b : Bool) (g : Option Held) → SameNode g (map_if b kid_more g)
same_if true None = tt
same_if true (Some g) = refl
same_if false g = same_as g

pub same_cell : (g h : Option Held) (doomed : Bool) (out : Option Out) → SameNode g h → cell_of h doomed out ≡ cell_of g doomed out
same_cell None None doomed out s = refl
same_cell None (Some h) doomed out s = absurd s
same_cell (Some g) None doomed out s = absurd s
same_cell (Some g) (Some h) doomed out s = ap (λ z. cell_of (Some z) doomed out) s

pub same_pins : (who : ℕ) (g h : Option Held) → SameNode g h → pinned_node_in who h ≡ pinned_node_in who g
same_pins who None None s = refl
same_pins who None (Some h) s = absurd s
same_pins who (Some g) None s = absurd s
same_pins who (Some g) (Some h) s = ap (λ z. pinned_node_in who (Some z)) s

-- ---- what ties it to the desks: what is out, and whether it is touched

abbrev pub SameTies : Option Held → Option Held → Type 0
SameTies None None = Unit {0}
SameTies None (Some h) = ⊥
SameTies (Some g) None = ⊥
SameTies (Some g) (Some h) = (h.out ≡ g.out) × (h.touched ≡ g.touched)

abbrev pub SamePageTies : Option PageHeld → Option PageHeld → Type 0
SamePageTies None None = Unit {0}
SamePageTies None (Some h) = ⊥
SamePageTies (Some g) None = ⊥
SamePageTies (Some g) (Some h) = (h.out ≡ g.out) × (h.touched ≡ g.touched)

pub node_ties : (g h : Option Held) → SameNode g h → SameTies g h
node_ties None None s = tt
node_ties None (Some h) s = absurd s
node_ties (Some g) None s = absurd s
node_ties (Some g) (Some h) s = (ap (λ (z : Held). z.out) s, ap (λ (z : Held). z.touched) s)

pub page_ties : (g h : Option PageHeld) → h ≡ g → SamePageTies g h
page_ties g h e = subst (SamePageTies g) (sym e) (self g) where
  self : (g : Option PageHeld) → SamePageTies g g
  self None = tt
  self (Some g) = (refl, refl)

-- where f leaves what is out, and whether it is touched
pub ties_if : (b : Bool) (f : Held → Held) (g h : Option Held) → ((x : Held) → SameTies (Some x) (Some (f x))) → h ≡ map_if b f g → SameTies g h
ties_if b f g h same e = subst (SameTies g) (sym e) (by b g) where
  by : (b : Bool) (g : Option Held) → SameTies g (map_if b f g)
  by true None = tt
  by true (Some g) = same g
  by false None = tt
  by false (Some g) = (refl, refl)

pub page_ties_if : (b : Bool) (r : PageHeld → PageHeld) (g h : Option PageHeld) → ((x : PageHeld) → SamePageTies (Some x) (Some (r x))) → h ≡ map_if b r g → SamePageTies g h
page_ties_if b r g h same e = subst (SamePageTies g) (sym e) (by b g) where
  by : (b : Bool) (g : Option PageHeld) → SamePageTies g (map_if b r g)
  by true None = tt
  by true (Some g) = same g
  by false None = tt
  by false (Some g) = (refl, refl)

pub ties_none : (g h : Option Held) → SameTies g h → h ≡ None → g ≡ None
ties_none None h s e = refl
ties_none (Some g) None s e = absurd s
ties_none (Some g) (Some h) s e = absurd (cc)

pub page_ties_none : (g h : Option PageHeld) → SamePageTies g h → h ≡ None → g ≡ None
page_ties_none None h s e = refl
page_ties_none (Some g) None s e = absurd s
page_ties_none (Some g) (Some h) s e = absurd (cc)

pub tied_held : (g h : Option Held) (a : Held) → SameTies g h → h ≡ Some a → (b : Held) × (g ≡ Some b) × (a.out ≡ b.out) × (a.touched ≡ b.touched)
tied_held g None a s e = absurd (cc)
tied_held None (Some h) a s e = absurd s
tied_held (Some g) (Some h) a s e = let i : h ≡ a = cc in (g, refl, sym (ap (λ (z : Held). z.out) i) ∙ s.0, sym (ap (λ (z : Held). z.touched) i) ∙ s.1)

pub page_held : (g h : Option PageHeld) (a : PageHeld) → SamePageTies g h → h ≡ Some a → (b : PageHeld) × (g ≡ Some b) × (a.out ≡ b.out) × (a.touched ≡ b.touched)
page_held g None a s e = absurd (cc)
page_held None (Some h) a s e = absurd s
page_held (Some g) (Some h) a s e = let i : h ≡ a = cc in (g, refl, sym (ap (λ (z : PageHeld). z.out) i) ∙ s.0, sym (ap (λ (z : PageHeld). z.touched) i) ∙ s.1)

pub same_tied : (g h : Option Held) (out : Option Out) → SameTies g h → Tied g out → Tied h out
same_tied g h out s t = record {
  touched = λ a o e f i. (let b = tied_held g h a s e in t.touched b.0 o b.1 f (sym b.3 ∙ i));
  unknown = λ a o e f i. (let b = tied_held g h a s e in t.unknown b.0 o b.1 f (sym b.2 ∙ i));
}

pub same_tied_page : (g h : Option PageHeld) (out : Option Out) → SamePageTies g h → TiedPage g out → TiedPage h out
same_tied_page g h out s t = record {
  touched = λ a o e f i. (let b = page_held g h a s e in t.touched b.0 o b.1 f (sym b.3 ∙ i));
  unknown = λ a o e f i. (let b = page_held g h a s e in t.unknown b.0 o b.1 f (sym b.2 ∙ i));
}

pub same_alike : (g h : Option Held) → SameNode g h → AreAlike g h
same_alike None None s = tt
same_alike None (Some h) s = absurd s
same_alike (Some g) None s = absurd s
same_alike (Some g) (Some h) s = (ap (λ (z : Held). z.node) s, (ap (λ (z : Held). z.parent) s, ap (λ (z : Held). z.settled) s))
