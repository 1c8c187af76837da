-- What a draft leaves of the cache, with what the core does to the desks after it, moves each node's cell as the marks ask.
use Rattle.std.proofs.Common.{◌≡◌, ◌≢◌, ◌⊎◌, inl, inr, ℕ, ◌∷◌, Bool, true, false, cond, not, ◌&&◌, ◌||◌, Option, Some, None, refl, sym, ◌∙◌, ap, IsSome, IsNone}
use Rattle.std.specs.Prelude.{option_map}
use Rattle.iris_name.specs.declared.name.Name.{Name}
use Rattle.iris_name.specs.History.{Past, Stamped}
use Rattle.iris_history.specs.Kept.{Kept, shown_in}
use Rattle.iris_cache.specs.declared.held.Held.{Held}
use Rattle.iris_cache.specs.Held.{begun_node, finished_node, touched_after}
use Rattle.iris_cache.specs.Laws.{Left}
use Rattle.iris_invariant.specs.Agrees.{Out}
use Rattle.iris_invariant.specs.Cells.{cell_of, redoomed, held_touched, touched_if, Tied}
use Rattle.iris_invariant.specs.Events.{touched, Moved, Still, Changed}
use Rattle.iris_history.proofs.Steady.{true_false}

pub gone_some : {A : Type 0} (o : Option A) → IsSome o → IsNone o → ⊥
gone_some None s m = absurd (cc)
gone_some (Some u) s m = absurd (cc)

-- touching where nothing changed leaves what is out
left_out : (g h : Held) (out : Option Out) → Tied (Some g) out → h.touched ≡ g.touched → option_map (touched_if h.touched) out ≡ out
left_out g h None t e = refl
left_out g h (Some o) t e = ap Some (by h.touched (λ f. t.touched g o refl refl (sym e ∙ f))) where
  out_is : (b : Bool) → b ≡ o.touched → record { who = o.who; since = o.since; request = o.request; doing = o.doing; crowded = o.crowded; touched = b } ≡ o
  out_is b e = ap (λ z. record { who = o.who; since = o.since; request = o.request; doing = o.doing; crowded = o.crowded; touched = z }) e

  by : (b : Bool) → (b ≡ true → o.touched ≡ true) → touched_if b o ≡ o
  by true f = out_is true (sym (f refl))
  by false f = out_is o.touched refl

-- what is out is touched where its holder is set anew: it was known there, or touched before
pub touched_anew : (w : Option ℕ) (t : Bool) (o : Out) → (w ≡ None → o.touched ≡ true) → touched_if (touched_after w t) o ≡ touched o
touched_anew (Some who) t o f = refl
touched_anew None t o f = sure t (f refl) where
  sure : (b : Bool) → o.touched ≡ true → touched_if b o ≡ touched o
  sure true e = refl
  sure false e = ap (λ z. record { who = o.who; since = o.since; request = o.request; doing = o.doing; crowded = o.crowded; touched = z }) e

-- so where a resident node moved
moved_out : (g : Held) (out : Option Out) → Tied (Some g) out → option_map (touched_if (touched_after g.out g.touched)) out ≡ option_map touched out
moved_out g None t = refl
moved_out g (Some o) t = ap Some (touched_anew g.out g.touched o (λ e. t.unknown g o refl refl e))

pub came_out : (out : Option Out) → option_map (touched_if true) out ≡ option_map touched out
came_out None = refl
came_out (Some o) = refl

pub node_moved : (k : Kept) (past : Past) (x : Stamped) (n : Name) (g h : Option Held) (doomed : Bool) (out : Option Out)
    → Left (shown_in k (x ∷ past) n ≡ shown_in k past n) g h
    → (shown_in k (x ∷ past) n ≢ shown_in k past n → IsSome (shown_in k past n) → IsSome g)
    → (shown_in k (x ∷ past) n ≢ shown_in k past n → IsSome (shown_in k (x ∷ past) n) → IsSome h)
    → (IsNone (shown_in k (x ∷ past) n) → IsNone h)
    → (IsSome g → doomed ≡ false)
    → Tied g out
    → Moved k past x n (cell_of g doomed out) (cell_of h (redoomed g h doomed) (option_map (touched_if (held_touched g h)) out))
node_moved k past x n None None doomed out same was is isn't und t = Still same (ap (λ o. cell_of None doomed o) (quiet out)) where
  quiet : (out : Option Out) → option_map (touched_if false) out ≡ out
  quiet None = refl
  quiet (Some o) = refl
node_moved k past x n None (Some h) doomed out l was is isn't und t =
    Changed l.0 (was l.0) (λ live. record { resident = refl; dirty = ap (λ (z : Held). z.dirty) l.1; doomed = refl })
    (λ gone. absurd (gone_some (Some h) refl (isn't gone))) (came_out out)
node_moved k past x n (Some g) None doomed out ne was is isn't und t =
    Changed ne (was ne) (λ live. absurd (gone_some {A = Held} None (is ne live) refl)) (λ gone. record { resident = refl; dirty = refl; doomed = refl }) (came_out out)
node_moved k past x n (Some g) (Some h) doomed out (inl l) was is isn't und t = Still l.0 (same_cell (ap (λ (z : Held). z.dirty) l.1) (ap (λ (z : Held). z.settled) l.1) (left_out g h out t (ap (λ (z : Held). z.touched) l.1))) where
  same_cell : h.dirty ≡ g.dirty → h.settled ≡ g.settled → option_map (touched_if h.touched) out ≡ out → cell_of (Some h) doomed (option_map (touched_if h.touched) out) ≡ cell_of (Some g) doomed out
  same_cell a b c = cc
node_moved k past x n (Some g) (Some h) doomed out (inr l) was is isn't und t =
    Changed l.0 (was l.0) (λ live. record { resident = refl; dirty = ap (λ (z : Held). z.dirty) l.1; doomed = off })
    (λ gone. absurd (gone_some (Some h) refl (isn't gone))) (ap (λ z. option_map (touched_if z) out) (ap (λ (z : Held). z.touched) l.1) ∙ moved_out g out t) where
      off : doomed ≡ false
      off = und refl

-- An end in the cache: the core hands `ok && not touched` in, touched as the desk tells it. Where the cache knows of what is
-- out, and an untouched node is settled, the node is no more dirty exactly so; a node that came again stays dirty.
pub finished_so : (g : Held) (out : Out) (ok : Bool) → Tied (Some g) (Some out) → (out.touched ≡ false → g.settled ≡ true)
    → (finished_node (ok && not out.touched) g).dirty ≡ cond (ok && not out.touched) false g.dirty
finished_so g out ok t s = by ok out.touched refl where
  tied : out.touched ≡ false → g.touched ≡ false
  tied f = no g.touched (λ e. true_false _ (t.touched g out refl refl e) f) where
    no : (b : Bool) → (b ≡ true → ⊥) → b ≡ false
    no true f = absurd (f refl)
    no false f = refl

  off : (d a b : Bool) → a ≡ true → b ≡ false → (d && not (true && (a && not b))) ≡ false
  off true true false e f = refl
  off false a b e f = refl
  off true true true e f = absurd (cc)
  off true false b e f = absurd (cc)

  keep : (d c : Bool) → (d && not (false && c)) ≡ d
  keep true c = refl
  keep false c = refl

  by : (ok u : Bool) → out.touched ≡ u → (finished_node (ok && not u) g).dirty ≡ cond (ok && not u) false g.dirty
  by true false e = off g.dirty g.settled g.touched (s e) (tied e)
  by true true e = keep g.dirty (g.settled && not g.touched)
  by false u e = keep g.dirty (g.settled && not g.touched)

-- while the cache doesn't know of what is out, the name is touched, and the end leaves it as it is
pub unknown_stays : (g : Held) (out : Out) (ok : Bool) → Tied (Some g) (Some out) → g.out ≡ None → cond (ok && not out.touched) false g.dirty ≡ g.dirty
unknown_stays g out ok t e = by ok out.touched (t.unknown g out refl refl e) where
  by : (ok u : Bool) → u ≡ true → cond (ok && not u) false g.dirty ≡ g.dirty
  by true true f = refl
  by false true f = refl
  by ok false f = absurd (cc)

-- what ties the cache's fields to what is out stays, whatever a draft leaves
pub tied_moved : (same : Type 0) (g h : Option Held) (out : Option Out) → Left same g h → Tied g out → Tied h (option_map (touched_if (held_touched g h)) out)
tied_moved same g h None l t = record { touched = λ a o e f. absurd (cc); unknown = λ a o e f. absurd (cc) }
tied_moved same g h (Some o) l t = record { touched = λ a p e f m. on g h a p l e f (inl m); unknown = λ a p e f m. on g h a p l e f (inr (m, λ b i. t.unknown b o i refl)) } where
  both : (a b : Bool) → b ≡ true → (a || b) ≡ true
  both true b e = refl
  both false b e = e

  one : (a b : Bool) → a ≡ true → (a || b) ≡ true
  one true b e = refl
  one false b e = absurd (cc)

  known : (h a : Held) (p : Out) (b : Bool) → Some h ≡ Some a → Some (touched_if b o) ≡ Some p → p.touched ≡ (b || o.touched)
  known h a p b e f = cc

  on : (g h : Option Held) (a : Held) (p : Out) → Left same g h → h ≡ Some a → Some (touched_if (held_touched g h) o) ≡ Some p
      → (a.touched ≡ true) ⊎ ((a.out ≡ None) × ((b : Held) → g ≡ Some b → b.out ≡ None → o.touched ≡ true)) → p.touched ≡ true
  on None None a p l e f m = absurd (cc)
  on (Some g) None a p l e f m = absurd (cc)
  on None (Some h) a p l e f m = known h a p true e f
  on (Some g) (Some h) a p l e f (inl m) = known h a p h.touched e f ∙ one h.touched o.touched (let z : h.touched ≡ a.touched = cc in z ∙ m)
  on (Some g) (Some h) a p (inl l) e f (inr m) = known h a p h.touched e f ∙ both h.touched o.touched (m.1 g refl (let z : h.out ≡ a.out = cc in sym (ap (λ (z : Held). z.out) l.1) ∙ (z ∙ m.0)))
  on (Some g) (Some h) a p (inr l) e f (inr m) = known h a p h.touched e f ∙ both h.touched o.touched (m.1 g refl (let z : h.out ≡ a.out = cc in sym (ap (λ (z : Held). z.out) l.1) ∙ (z ∙ m.0)))

-- what has just begun is tied, in the cache and out of it
pub tied_new : (who : ℕ) (g : Option Held) (out : Out) → Tied (option_map (begun_node who) g) (Some out)
tied_new who None out = record { touched = λ a o e f. absurd (cc); unknown = λ a o e f. absurd (cc) }
tied_new who (Some g) out = record {
  touched = λ a o e f m. absurd (let z : (begun_node who g).touched ≡ a.touched = ap (λ (w : Held). w.touched) (is a e) in let y : false ≡ true = z ∙ m in cc);
  unknown = λ a o e f m. absurd (let z : (begun_node who g).out ≡ a.out = ap (λ (w : Held). w.out) (is a e) in let y = z ∙ m in cc);
} where
  is : (a : Held) → Some (begun_node who g) ≡ Some a → begun_node who g ≡ a
  is a e = cc
