-- What settling leaves of a name's cell: all but the mark that it is settled, and that too where it was.
use Rattle.std.proofs.Common.{◌≡◌, ℕ, Bool, true, Option, Some, None, refl, ap, sym, ◌∙◌, true≢false, is_some}
use Rattle.iris_blocks.specs.declared.held.PageHeld.{PageHeld}
use Rattle.iris_cache.specs.declared.held.Held.{Held}
use Rattle.iris_history.specs.Kept.{Kept}
use Rattle.iris_invariant.specs.Agrees.{Cell, Out}
use Rattle.iris_invariant.specs.Cells.{cell_at, cell_of, has_pin, settled_in}
use Rattle.iris_invariant.specs.Events.{Changed, Moved, Still}
use Rattle.iris_name.specs.declared.name.Name.{Name}
use Rattle.iris_name.specs.declared.name.Name.TheVariants.{Block, Entry, Part}
use Rattle.iris_name.specs.History.{Past, Stamped}
use Rattle.iris_pool.specs.View.{pinned_node_in}
use Rattle.iris_upkeep.specs.SettlesInto.{SettlesInto}

-- what is settled twice
pub settles_twice : (g m h : Option Held) → SettlesInto g m → SettlesInto m h → SettlesInto g h
settles_twice None None None s z = tt
settles_twice None None (Some h) s z = absurd z
settles_twice None (Some m) h s z = absurd s
settles_twice (Some g) None h s z = absurd s
settles_twice (Some g) (Some m) None s z = absurd z
settles_twice (Some g) (Some m) (Some h) s z = (z.0 ∙ ap (λ (k : Held). record k { node = h.node; settled = h.settled }) s.0, (z.1.0 ∙ s.1.0, λ b. z.1.1 (s.1.1 b)))

-- what is held after was held before
pub was_there : (g h : Option Held) → SettlesInto g h → is_some h ≡ true → is_some g ≡ true
was_there None None s e = e
was_there None (Some h) s e = absurd s
was_there (Some g) None s e = refl
was_there (Some g) (Some h) s e = refl

-- pins stay
pub pins_stay : (w : ℕ) (g h : Option Held) → SettlesInto g h → pinned_node_in w h ≡ pinned_node_in w g
pins_stay w None None s = refl
pins_stay w None (Some h) s = absurd s
pins_stay w (Some g) None s = absurd s
pins_stay w (Some g) (Some h) s = ap (λ (k : Held). has_pin w k.pins) s.0

pub settled_there : (o : Option Held) → ((h : Held) → o ≡ Some h → h.settled ≡ true) → is_some o ≡ true → settled_in o ≡ true
settled_there None f e = absurd (true≢false (sym e))
settled_there (Some h) f e = f h refl

abbrev cell : Bool → Bool → Bool → Bool → Option Out → Cell
cell resident dirty doomed settled out = record { resident = resident; dirty = dirty; doomed = doomed; settled = settled; out = out }

same_cell : (resident d e doomed s z : Bool) (out : Option Out) → e ≡ d → z ≡ s → cell resident e doomed z out ≡ cell resident d doomed s out
same_cell resident d e doomed s z out a b = ap (λ (y : Bool). cell resident y doomed z out) a ∙ ap (λ (y : Bool). cell resident d doomed y out) b

module _ (k : Kept) (past : Past) (x : Stamped) where
  node_moved_so : (n : Name) (a : Cell) (g h : Option Held) (doomed : Bool) (out : Option Out) → SettlesInto g h → (a.resident ≡ true → a.settled ≡ true)
      → Moved k past x n a (cell_of g doomed out) → Moved k past x n a (cell_of h doomed out)
  node_moved_so n a None None doomed out s full m = m
  node_moved_so n a None (Some h) doomed out s full m = absurd s
  node_moved_so n a (Some g) None doomed out s full m = absurd s
  node_moved_so n a (Some g) (Some h) doomed out s full (Still same e) =
      let dirty : h.dirty ≡ g.dirty = ap (λ (k : Held). k.dirty) s.0 in
      let was : g.settled ≡ true = ap (λ (c : Cell). c.settled) e ∙ full (sym (ap (λ (c : Cell). c.resident) e)) in
      Still same (same_cell true g.dirty h.dirty doomed g.settled h.settled out dirty (s.1.1 was ∙ sym was) ∙ e)
  node_moved_so n a (Some g) (Some h) doomed out s full (Changed ne was is gone told) =
      let dirty : h.dirty ≡ g.dirty = ap (λ (k : Held). k.dirty) s.0 in
      Changed ne was (λ l. let c = is l in record { resident = refl; dirty = dirty ∙ c.dirty; doomed = c.doomed }) (λ l. let c = gone l in record { resident = c.resident; dirty = dirty ∙ c.dirty; doomed = c.doomed }) told

  -- what a call moved is moved so still once it is settled, where all that was resident was settled
  pub moved_so : (n : Name) (a : Cell) (g h : Option Held) (p : Option PageHeld) (doomed : Bool) (out : Option Out) → SettlesInto g h → (a.resident ≡ true → a.settled ≡ true)
      → Moved k past x n a (cell_at n g p doomed out) → Moved k past x n a (cell_at n h p doomed out)
  moved_so (Entry i) a g h p doomed out s full m = node_moved_so (Entry i) a g h doomed out s full m
  moved_so (Part f l i) a g h p doomed out s full m = node_moved_so (Part f l i) a g h doomed out s full m
  moved_so (Block f q) a g h p doomed out s full m = m
