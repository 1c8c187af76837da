-- What a draft leaves of the pages, with what the core does to the desks after it, moves each block's cell as the marks ask.
use Rattle.std.proofs.Common.{◌≡◌, inl, inr, ℕ, List, Bool, true, false, cond, not, ◌&&◌, ◌||◌, Option, Some, None, refl, sym, ◌∙◌, ap, subst, IsSome, IsNone}
use Rattle.std.specs.Prelude.{option_map, is_some}
use Rattle.iris_blocks.specs.declared.draft.PageChange.{PageChange}
use Rattle.iris_blocks.specs.declared.held.PageHeld.{PageHeld}
use Rattle.iris_blocks.specs.Changes.{change_of, landed_page, landed_page_by}
use Rattle.iris_blocks.specs.Held.{begun_page, finished_page}
use Rattle.iris_blocks.specs.Laws.{stored_block}
use Rattle.iris_blocks.specs.Paged.{held_page}
use Rattle.iris_cache.specs.Held.{touched_after}
use Rattle.iris_name.specs.declared.name.Name.{Name}
use Rattle.iris_node.specs.Trees.{Shown}
use Rattle.iris_node.specs.Unfolded.{Unfolded}
use Rattle.iris_history.specs.Kept.{Kept}
use Rattle.iris_history.proofs.Steady.{true_false}
use Rattle.iris_invariant.specs.Agrees.{Out}
use Rattle.iris_invariant.specs.CellLaws as l
use Rattle.iris_invariant.specs.CellLaws.{IsHeldAsShown, LeftPage}
use Rattle.iris_invariant.specs.Cells.{cell_of_page, page_touched, touched_if, TiedPage}
use Rattle.iris_invariant.specs.Events.{touched, Still, Changed}
use Rattle.iris_invariant.proofs.Cache.{gone_some, touched_anew, came_out}

-- a draft of pages marks whatever stands for something else, and nothing more
pub pages_mark : l.PagesMark
pages_mark t u d b e ch is n block = subst (LeftPage (u n ≡ t n) (held_page b n)) (sym (is n)) (landed (change_of d n) (held_page b n) refl refl) where
  stays : (g : Option PageHeld) → u n ≡ t n → LeftPage (u n ≡ t n) g g
  stays None same = same
  stays (Some g) same = inl (same, refl)

  hole : (o : Option Unfolded) → t n ≡ o → held_page b n ≡ None → (change : PageChange) → change_of d n ≡ Some change → t n ≡ None
  hole None i j change c = i
  hole (Some x) i j change c = absurd (gone_some (held_page b n) (ch.held n change c (ap (λ z. is_some z) i)) (ap (λ z. is_some z) j))

  set : (change : PageChange) → change_of d n ≡ Some change → (new : Option (ℕ × List ℕ)) (g : Option PageHeld) → change.new ≡ new → held_page b n ≡ g → LeftPage (u n ≡ t n) g (landed_page_by new g)
  set change c None None i j = ch.to.changed n change c ∙ (ap (λ z. stored_block z) i ∙ sym (hole (t n) refl j change c))
  set change c None (Some g) i j = ch.differs n change c
  set change c (Some new) None i j = (ch.differs n change c, refl)
  set change c (Some new) (Some g) i j = inr (ch.differs n change c, refl)

  landed : (c : Option PageChange) (g : Option PageHeld) → change_of d n ≡ c → held_page b n ≡ g → LeftPage (u n ≡ t n) g (landed_page c g)
  landed None g i j = stays g (ch.to.others n block i)
  landed (Some change) g i j = set change i change.new g refl j

-- and each block is held as the tables show it
pub pages_are_held : l.PagesAreHeld
pages_are_held t u d b e n doomed shows ch is block listed = record {
  before = λ ne live. before (change_of d n) refl ne live;
  after = λ ne live. ap (λ z. is_some z) (is n) ∙ after (change_of d n) refl ne live;
  gone = λ g. ap (λ z. is_some z) (is n) ∙ gone (change_of d n) (held_page b n) refl refl g;
  listed = listed;
} where
  before : (c : Option PageChange) → change_of d n ≡ c → (u n ≡ t n → ⊥) → IsSome (t n) → IsSome (held_page b n)
  before None i ne live = absurd (ne (ch.to.others n block i))
  before (Some change) i ne live = ch.held n change i live

  set : (new : Option (ℕ × List ℕ)) (g : Option PageHeld) → IsSome (stored_block new) → IsSome (landed_page_by new g)
  set None g s = absurd (gone_some {A = Unfolded} None s refl)
  set (Some new) None s = refl
  set (Some new) (Some g) s = refl

  unset : (new : Option (ℕ × List ℕ)) (g : Option PageHeld) → IsNone (stored_block new) → IsNone (landed_page_by new g)
  unset None g s = refl
  unset (Some new) g s = absurd (gone_some (stored_block (Some new)) refl s)

  after : (c : Option PageChange) → change_of d n ≡ c → (u n ≡ t n → ⊥) → IsSome (u n) → IsSome (landed_page c (held_page b n))
  after None i ne live = absurd (ne (ch.to.others n block i))
  after (Some change) i ne live = set change.new (held_page b n) (subst IsSome (ch.to.changed n change i) live)

  gone : (c : Option PageChange) (g : Option PageHeld) → change_of d n ≡ c → held_page b n ≡ g → IsNone (u n) → IsNone (landed_page c g)
  gone None None i j s = refl
  gone None (Some g) i j s = absurd (gone_some (u n) (ap (λ z. is_some z) (ch.to.others n block i ∙ shows n g j)) s)
  gone (Some change) g i j s = unset change.new g (subst IsNone (ch.to.changed n change i) s)

-- touching where nothing changed leaves what is out
left_page_out : (g : PageHeld) (out : Option Out) → TiedPage (Some g) out → option_map (touched_if g.touched) out ≡ out
left_page_out g None t = refl
left_page_out g (Some o) t = ap Some (by g.touched (t.touched g o refl refl)) where
  by : (b : Bool) → (b ≡ true → o.touched ≡ true) → touched_if b o ≡ o
  by true f = ap (λ z. record { who = o.who; since = o.since; request = o.request; doing = o.doing; crowded = o.crowded; touched = z }) (sym (f refl))
  by false f = refl

-- and where a resident page is set anew, it is touched
renewed_out : (g : PageHeld) (out : Option Out) → TiedPage (Some g) out → option_map (touched_if (touched_after g.out g.touched)) out ≡ option_map touched out
renewed_out g None t = refl
renewed_out g (Some o) t = ap Some (touched_anew g.out g.touched o (λ e. t.unknown g o refl refl e))

quiet : (out : Option Out) → option_map (touched_if false) out ≡ out
quiet None = refl
quiet (Some o) = refl

pub pages_move : (k : Kept) → l.PagesMove k
pages_move k past x n None None doomed out h t same = Still same (ap (λ o. cell_of_page None doomed o) (quiet out))
pages_move k past x n None (Some p) doomed out h t left =
    Changed left.0 (h.before left.0) (λ live. record { resident = refl; dirty = ap (λ (z : PageHeld). z.dirty) left.1; doomed = refl })
    (λ gone. absurd (gone_some (Some p) refl (h.gone gone))) (came_out out)
pages_move k past x n (Some g) None doomed out h t ne =
    Changed ne (h.before ne) (λ live. absurd (gone_some {A = PageHeld} None (h.after ne live) refl)) (λ gone. record { resident = refl; dirty = refl; doomed = refl }) (came_out out)
pages_move k past x n (Some g) (Some p) doomed out h t (inl left) =
    Still left.0 (ap (λ z. cell_of_page (Some z) doomed (option_map (touched_if z.touched) out)) left.1 ∙ ap (λ o. cell_of_page (Some g) doomed o) (left_page_out g out t))
pages_move k past x n (Some g) (Some p) doomed out h t (inr left) =
    Changed left.0 (h.before left.0) (λ live. record { resident = refl; dirty = ap (λ (z : PageHeld). z.dirty) left.1; doomed = h.listed refl })
    (λ gone. absurd (gone_some (Some p) refl (h.gone gone))) (ap (λ z. option_map (touched_if z) out) (ap (λ (z : PageHeld). z.touched) left.1) ∙ renewed_out g out t)

-- an end that is told ok, and untouched at the desk, unmarks exactly so
pub pages_end : l.PagesEnd
pages_end = record { known = λ g out ok t. known g out ok out.touched refl t; unknown = λ g out ok t e. unknown ok out.touched g (t.unknown g out refl refl e) } where
  not_touched : (b : Bool) → (b ≡ true → ⊥) → b ≡ false
  not_touched true f = absurd (f refl)
  not_touched false f = refl

  off : (d a : Bool) → a ≡ false → (d && not (true && not a)) ≡ false
  off true false e = refl
  off false a e = refl
  off d true e = absurd (true_false true refl e)

  keep : (d c : Bool) → (d && not (false && c)) ≡ d
  keep true c = refl
  keep false c = refl

  known : (g : PageHeld) (out : Out) (ok u : Bool) → out.touched ≡ u → TiedPage (Some g) (Some out) → (finished_page (ok && not u) g).dirty ≡ cond (ok && not u) false g.dirty
  known g out true false e t = off g.dirty g.touched (not_touched g.touched (λ f. true_false _ (t.touched g out refl refl f) e))
  known g out true true e t = keep g.dirty (not g.touched)
  known g out false u e t = keep g.dirty (not g.touched)

  unknown : (ok u : Bool) (g : PageHeld) → u ≡ true → cond (ok && not u) false g.dirty ≡ g.dirty
  unknown true true g e = refl
  unknown false u g e = refl
  unknown true false g e = absurd (true_false true refl (sym e))

-- what ties the pages' fields to what is out stays, whatever a draft leaves, and holds where something begins
pub pages_stay_tied : l.PagesStayTied
pages_stay_tied = record { moves = λ t u n g h out left tied. moves t u n g h out left tied; begins = λ who g out. begins who g out } where
  one : (a b : Bool) → a ≡ true → (a || b) ≡ true
  one true b e = refl
  one false b e = absurd (true_false true refl (sym e))

  both : (a b : Bool) → b ≡ true → (a || b) ≡ true
  both true b e = refl
  both false b e = e

  of_one : (P : PageHeld → Out → Type 0) (h : PageHeld) (o : Out) → P h o → (a : PageHeld) (p : Out) → Some h ≡ Some a → Some o ≡ Some p → P a p
  of_one P h o z a p e f = let i : h ≡ a = cc in let j : o ≡ p = cc in subst (λ y. P y p) i (subst (P h) j z)

  tied_by : (h : PageHeld) (o : Out) → (h.touched ≡ true → o.touched ≡ true) → (h.out ≡ None → o.touched ≡ true) → TiedPage (Some h) (Some o)
  tied_by h o f g = record {
    touched = λ a p e i. of_one (λ x y. x.touched ≡ true → y.touched ≡ true) h o f a p e i;
    unknown = λ a p e i. of_one (λ x y. x.out ≡ None → y.touched ≡ true) h o g a p e i;
  }

  moves : (t u : Shown) (n : Name) (g h : Option PageHeld) (out : Option Out) → LeftPage (u n ≡ t n) g h → TiedPage g out → TiedPage h (option_map (touched_if (page_touched g h)) out)
  moves t u n g None out left tied = record { touched = λ a o e f. absurd (let z = e in cc); unknown = λ a o e f. absurd (let z = e in cc) }
  moves t u n g (Some h) None left tied = record { touched = λ a o e f. absurd (let z = f in cc); unknown = λ a o e f. absurd (let z = f in cc) }
  moves t u n None (Some h) (Some o) left tied = tied_by h (touched_if true o) (λ f. refl) (λ f. refl)
  moves t u n (Some g) (Some h) (Some o) (inl left) tied = tied_by h (touched_if h.touched o) (λ f. one h.touched o.touched f)
      (λ f. both h.touched o.touched (tied.unknown g o refl refl (sym (ap (λ (z : PageHeld). z.out) left.1) ∙ f)))
  moves t u n (Some g) (Some h) (Some o) (inr left) tied = tied_by h (touched_if h.touched o) (λ f. one h.touched o.touched f)
      (λ f. both h.touched o.touched (tied.unknown g o refl refl (sym (ap (λ (z : PageHeld). z.out) left.1) ∙ f)))

  begins : (who : ℕ) (g : Option PageHeld) (out : Out) → TiedPage (option_map (begun_page who) g) (Some out)
  begins who None out = record { touched = λ a o e f. absurd (let z = e in cc); unknown = λ a o e f. absurd (let z = e in cc) }
  begins who (Some g) out = tied_by (begun_page who g) out (λ f. absurd (true_false true refl (sym f))) (λ f. absurd (let z = f in cc))
