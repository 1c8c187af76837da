use Rattle.std.proofs.Common.{◌≡◌, ◌<◌, ◌≤◌, ℕ, Some, None, slice_get}
use Rattle.iris_name.specs.declared.name.Name.{Name}
use Rattle.iris_blocks.specs.declared.held.PageHeld.{PageHeld}
use Rattle.iris_desk.specs.AtDesks.{out_of}
use Rattle.iris_pool.proofs.pool.Pool.idle_page.Given as goal

-- the first blocks that can go are out
abbrev pub invariant-loop-i : goal.invariant-loop-i
invariant-loop-i l = (k : ℕ) (n : Name) (h : PageHeld) → l.first ≤ k → k < l.i → slice_get l.self.pages.pages k ≡ Some (n, h) → out_of l.self.desks n ≡ None → ⊥
