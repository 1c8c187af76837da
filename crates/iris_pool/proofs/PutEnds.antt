-- What the end of a put makes of what is dirty.
use Rattle.std.proofs.Common.{◌≡◌, ◌&&◌, ℕ, List, Bool, true, false, cond, not, Option, Some, None, refl, sym, ◌∙◌, ap, subst, is_some}
use Rattle.std.specs.Option.{option_map}
use Rattle.iris_blocks.specs.declared.held.PageHeld.{PageHeld}
use Rattle.iris_blocks.specs.Held.{finished_page}
use Rattle.iris_blocks.specs.Paged.{held_page}
use Rattle.iris_cache.specs.declared.held.Held.{Held}
use Rattle.iris_cache.specs.Held.{finished_node}
use Rattle.iris_cache.specs.Resident.{held_node}
use Rattle.iris_invariant.specs.Agrees.{Out}
use Rattle.iris_invariant.specs.Cells.{dirty_in, dirty_page_in, settled_in, Tied, TiedPage}
use Rattle.iris_invariant.proofs.Cache.{finished_so, unknown_stays}
use Rattle.iris_invariant.proofs.Pages.{pages_end}
use Rattle.iris_name.specs.declared.name.Name.{Name}
use Rattle.iris_name.specs.declared.name.Name.TheVariants.{Entry, Part, Block}
use Rattle.iris_pool.specs.Parts.{ended_node, ended_page}
use Rattle.iris_pool.specs.Pool.{PoolState}
use Rattle.iris_pool.specs.View.{IsPool, out_seen, pool_view}
use Rattle.iris_pool.proofs.Happenings.{Happens}

never : (b : Bool) → false ≡ cond b false false
never true = refl
never false = refl

node_put : (g h : Option Held) (o : Out) (ok : Bool) → Tied g (Some o) → (o.touched ≡ false → settled_in g ≡ true) → h ≡ option_map (ended_node (ok && not o.touched)) g
    → dirty_in h ≡ cond (ok && not o.touched) false (dirty_in g)
node_put None h o ok t s e = ap dirty_in e ∙ never (ok && not o.touched)
node_put (Some g) h o ok t s e = ap dirty_in e ∙ by g.out refl where
  by : (z : Option ℕ) → g.out ≡ z → (cond (is_some z) (finished_node (ok && not o.touched) g) g).dirty ≡ cond (ok && not o.touched) false g.dirty
  by None at = sym (unknown_stays g o ok t at)
  by (Some w) at = finished_so g o ok t s

page_put : (g h : Option PageHeld) (o : Out) (ok : Bool) → TiedPage g (Some o) → h ≡ option_map (ended_page (ok && not o.touched)) g
    → dirty_page_in h ≡ cond (ok && not o.touched) false (dirty_page_in g)
page_put None h o ok t e = ap dirty_page_in e ∙ never (ok && not o.touched)
page_put (Some g) h o ok t e = ap dirty_page_in e ∙ by g.out refl where
  by : (z : Option ℕ) → g.out ≡ z → (cond (is_some z) (finished_page (ok && not o.touched) g) g).dirty ≡ cond (ok && not o.touched) false g.dirty
  by None at = sym (pages_end.unknown g o ok t at)
  by (Some w) at = pages_end.known g o ok t

pub put_dirty : (key : List ℕ) (n : Name) (p q : PoolState) (o : Out) (ok : Bool) → IsPool p → out_seen key p.desks n ≡ Some o
    → (o.touched ≡ false → ((pool_view key p).cell n).settled ≡ true) → Happens n (ended_node (ok && not o.touched)) (ended_page (ok && not o.touched)) p q
    → ((pool_view key q).cell n).dirty ≡ cond (ok && not o.touched) false ((pool_view key p).cell n).dirty
put_dirty key (Entry i) p q o ok pool at s h = node_put (held_node p.nodes (Entry i)) (held_node q.nodes (Entry i)) o ok (subst (Tied (held_node p.nodes (Entry i))) at (pool.nodes key (Entry i) tt)) s h.0
put_dirty key (Part k l i) p q o ok pool at s h = node_put (held_node p.nodes (Part k l i)) (held_node q.nodes (Part k l i)) o ok (subst (Tied (held_node p.nodes (Part k l i))) at (pool.nodes key (Part k l i) tt)) s h.0
put_dirty key (Block k i) p q o ok pool at s h = page_put (held_page p.pages (Block k i)) (held_page q.pages (Block k i)) o ok (subst (TiedPage (held_page p.pages (Block k i))) at (pool.pages key (Block k i) tt)) h.1
