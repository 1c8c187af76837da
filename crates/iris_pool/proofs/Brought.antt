-- Two pools between which a get brings a node or a page, which is kept for its caller.
use Rattle.std.proofs.Common.{◌≡◌, ◌≢◌, ◌&&◌, ◌==◌, ℕ, List, Bool, true, false, cond, Option, Some, None, refl, sym, ◌∙◌, ap, subst, eq-eqb}
use Rattle.std.proofs.lemmas.Bool.{eqb-true}
use Rattle.iris_blocks.specs.declared.held.PageHeld.{PageHeld}
use Rattle.iris_blocks.specs.Held.{newcomer_page, pinned_page}
use Rattle.iris_blocks.specs.Paged.{held_page}
use Rattle.iris_cache.specs.declared.held.Held.{Held}
use Rattle.iris_cache.specs.Held.{newcomer_node, pinned_node}
use Rattle.iris_cache.specs.Resident.{held_node}
use Rattle.iris_desk.specs.AtDesks.{asked_by, is_doomed, keeps_for, out_of}
use Rattle.iris_desk.specs.declared.out.Out.{Out}
use Rattle.iris_desk.specs.Laws.{EndsFor}
use Rattle.iris_invariant.specs.Agrees as seen
use Rattle.iris_invariant.specs.Cells.{cell_of, cell_of_page, dirty_in, dirty_page_in, has_pin}
use Rattle.iris_invariant.specs.Events.{Brings, Brought, Inserted, Passed, Pinned}
use Rattle.iris_invariant.proofs.Pins.{pinned_elsewhere, pinned_here, pinned_own}
use Rattle.iris_name.specs.declared.name.Name.{Name}
use Rattle.iris_name.specs.declared.name.Name.TheVariants.{Entry, Part, Block}
use Rattle.iris_name.specs.Names.{same_name}
use Rattle.iris_name.specs.NameLaws.{same_name-refl}
use Rattle.iris_node.specs.declared.node.Node.{Node}
use Rattle.iris_pool.specs.Parts.{ended_node, ended_page}
use Rattle.iris_pool.specs.Pool.{PoolState}
use Rattle.iris_pool.specs.View.{IsPool, out_seen, is_pinned_for, pinned_node_in, pinned_page_in, pool_view}
use Rattle.iris_pool.proofs.Apart.{Apart, IsPoolAt, elsewhere, free_at, pool_moves}
use Rattle.iris_pool.proofs.ByName.{ended_dirty, ended_out, ended_page_dirty, ended_page_out, ended_page_quiet, ended_quiet}
use Rattle.iris_pool.proofs.Happenings.{doomed_same, out_is}
use Rattle.iris_pool.proofs.OutSeen.{asked_for, seen_at, seen_none}

-- what a get makes of what was held of its node: what is cached gets a pin, what is absent and untouched comes
pub data NodeComesOf (who : ℕ) (touched : Bool) (g h : Option Held) : Type 0 where
  NodePinned : (a : Held) → g ≡ Some a → h ≡ Some (pinned_node who (ended_node false a)) → NodeComesOf who touched g h
  NodePassed : g ≡ None → touched ≡ true → h ≡ None → NodeComesOf who touched g h
  NodeCame : (parent : Option Name) (node : Node) (kids : ℕ) → g ≡ None → touched ≡ false → h ≡ Some (newcomer_node parent node who kids) → NodeComesOf who touched g h

pub data PageComesOf (who : ℕ) (touched : Bool) (g h : Option PageHeld) : Type 0 where
  PagePinned : (a : PageHeld) → g ≡ Some a → h ≡ Some (pinned_page who (ended_page false a)) → PageComesOf who touched g h
  PagePassed : g ≡ None → touched ≡ true → h ≡ None → PageComesOf who touched g h
  PageCame : (version : ℕ) (page : List ℕ) → g ≡ None → touched ≡ false → h ≡ Some (newcomer_page version page who) → PageComesOf who touched g h

node_brings : (who : ℕ) (touched d e : Bool) (o u : Option seen.Out) (g h : Option Held) → NodeComesOf who touched g h
    → Brings who touched (cell_of g d o) (cell_of h e u) (λ w. pinned_node_in w g) (λ w. pinned_node_in w h)
node_brings who touched d e o u g h (NodePinned a s t) =
    let pins = (ended_quiet false).pins a in
    Pinned (ap (λ z. (cell_of z d o).resident) s) (ap (λ z. (cell_of z e u).resident) t)
    (ap (λ z. (cell_of z e u).settled) t ∙ (((ended_quiet false).alike a).1.1 ∙ sym (ap (λ z. (cell_of z d o).settled) s)))
    (ap (pinned_node_in who) t ∙ pinned_here who (ended_node false a).pins)
    (λ w ne. ap (pinned_node_in w) t ∙ (pinned_elsewhere who w (ended_node false a).pins ne ∙ (ap (has_pin w) pins ∙ sym (ap (pinned_node_in w) s))))
node_brings who touched d e o u g h (NodePassed s on t) = Passed (ap (λ z. (cell_of z d o).resident) s) on (ap (λ z. (cell_of z e u).resident) t)
node_brings who touched d e o u g h (NodeCame parent node kids s off t) =
    Inserted (ap (λ z. (cell_of z d o).resident) s) off (ap (λ z. (cell_of z e u).resident) t) (ap (λ z. (cell_of z e u).settled) t) (ap (pinned_node_in who) t ∙ pinned_own who)

page_brings : (who : ℕ) (touched d e : Bool) (o u : Option seen.Out) (g h : Option PageHeld) → PageComesOf who touched g h
    → Brings who touched (cell_of_page g d o) (cell_of_page h e u) (λ w. pinned_page_in w g) (λ w. pinned_page_in w h)
page_brings who touched d e o u g h (PagePinned a s t) =
    let pins = (ended_page_quiet false).pins a in
    Pinned (ap (λ z. (cell_of_page z d o).resident) s) (ap (λ z. (cell_of_page z e u).resident) t)
    (ap (λ z. (cell_of_page z e u).settled) t ∙ sym (ap (λ z. (cell_of_page z d o).settled) s))
    (ap (pinned_page_in who) t ∙ pinned_here who (ended_page false a).pins)
    (λ w ne. ap (pinned_page_in w) t ∙ (pinned_elsewhere who w (ended_page false a).pins ne ∙ (ap (has_pin w) pins ∙ sym (ap (pinned_page_in w) s))))
page_brings who touched d e o u g h (PagePassed s on t) = Passed (ap (λ z. (cell_of_page z d o).resident) s) on (ap (λ z. (cell_of_page z e u).resident) t)
page_brings who touched d e o u g h (PageCame version page s off t) =
    Inserted (ap (λ z. (cell_of_page z d o).resident) s) off (ap (λ z. (cell_of_page z e u).resident) t) (ap (λ z. (cell_of_page z e u).settled) t) (ap (pinned_page_in who) t ∙ pinned_own who)

node_dirty : (who : ℕ) (touched : Bool) (g h : Option Held) → NodeComesOf who touched g h → dirty_in h ≡ dirty_in g
node_dirty who touched g h (NodePinned a s t) = ap dirty_in t ∙ (ended_dirty a ∙ sym (ap dirty_in s))
node_dirty who touched g h (NodePassed s on t) = ap dirty_in t ∙ sym (ap dirty_in s)
node_dirty who touched g h (NodeCame parent node kids s off t) = ap dirty_in t ∙ sym (ap dirty_in s)

page_dirty : (who : ℕ) (touched : Bool) (g h : Option PageHeld) → PageComesOf who touched g h → dirty_page_in h ≡ dirty_page_in g
page_dirty who touched g h (PagePinned a s t) = ap dirty_page_in t ∙ (ended_page_dirty a ∙ sym (ap dirty_page_in s))
page_dirty who touched g h (PagePassed s on t) = ap dirty_page_in t ∙ sym (ap dirty_page_in s)
page_dirty who touched g h (PageCame version page s off t) = ap dirty_page_in t ∙ sym (ap dirty_page_in s)

node_out : (who : ℕ) (touched : Bool) (g h : Option Held) → NodeComesOf who touched g h → (a : Held) → h ≡ Some a → a.out ≡ None
node_out who touched g h (NodePinned b s t) a e = let x : Some (pinned_node who (ended_node false b)) ≡ Some a = sym t ∙ e in let y : pinned_node who (ended_node false b) ≡ a = cc in ap (λ (z : Held). z.out) (sym y) ∙ ended_out false b
node_out who touched g h (NodePassed s on t) a e = absurd (let x : None ≡ Some a = sym t ∙ e in cc)
node_out who touched g h (NodeCame parent node kids s off t) a e = let x : Some (newcomer_node parent node who kids) ≡ Some a = sym t ∙ e in let y : newcomer_node parent node who kids ≡ a = cc in ap (λ (z : Held). z.out) (sym y)

page_out : (who : ℕ) (touched : Bool) (g h : Option PageHeld) → PageComesOf who touched g h → (a : PageHeld) → h ≡ Some a → a.out ≡ None
page_out who touched g h (PagePinned b s t) a e = let x : Some (pinned_page who (ended_page false b)) ≡ Some a = sym t ∙ e in let y : pinned_page who (ended_page false b) ≡ a = cc in ap (λ (z : PageHeld). z.out) (sym y) ∙ ended_page_out false b
page_out who touched g h (PagePassed s on t) a e = absurd (let x : None ≡ Some a = sym t ∙ e in cc)
page_out who touched g h (PageCame version page s off t) a e = let x : Some (newcomer_page version page who) ≡ Some a = sym t ∙ e in let y : newcomer_page version page who ≡ a = cc in ap (λ (z : PageHeld). z.out) (sym y)

-- what is held of n, whichever its name is of
abbrev pub ComesAt : Name → ℕ → Bool → PoolState → PoolState → Type 0
ComesAt (Entry i) who touched p q = NodeComesOf who touched (held_node p.nodes (Entry i)) (held_node q.nodes (Entry i))
ComesAt (Part k l i) who touched p q = NodeComesOf who touched (held_node p.nodes (Part k l i)) (held_node q.nodes (Part k l i))
ComesAt (Block k i) who touched p q = PageComesOf who touched (held_page p.pages (Block k i)) (held_page q.pages (Block k i))

pub record Keeps (who : ℕ) (n : Name) (touched : Bool) (p q : PoolState) : Type 0 where
  pub apart : Apart n p q
  pub comes : ComesAt n who touched p q
  pub ends : EndsFor who true n p.desks q.desks
  pub doomed : is_doomed q.desks n ≡ is_doomed p.desks n

-- what the end at the desk leaves elsewhere
pub kept_else : (who w : ℕ) (n m : Name) (b : Bool) → same_name n m ≡ false → cond (true && ((w == who) && same_name n m)) true b ≡ b
kept_else who w n m b ne = ap (λ s. cond ((w == who) && s) true b) ne ∙ by (w == who) where
  by : (e : Bool) → cond (e && false) true b ≡ b
  by true = refl
  by false = refl

module _ (who : ℕ) (n : Name) (x : Out) (p q : PoolState) (at : out_of p.desks n ≡ Some (who, x)) (k : Keeps who n x.touched p q) where
  kept_free : out_of q.desks n ≡ None
  kept_free = k.ends.out n ∙ ap (λ b. cond b None (out_of p.desks n)) (same_name-refl n)

  kept_here : keeps_for q.desks who n ≡ true
  kept_here = k.ends.kept who n ∙ (ap (λ b. cond (b && same_name n n) true (keeps_for p.desks who n)) (eq-eqb who who refl) ∙ ap (λ b. cond b true (keeps_for p.desks who n)) (same_name-refl n))

  kept_others : (w : ℕ) → w ≢ who → keeps_for q.desks w n ≡ keeps_for p.desks w n
  kept_others w ne = k.ends.kept w n ∙ by (w == who) refl where
    by : (b : Bool) → (w == who) ≡ b → cond (b && same_name n n) true (keeps_for p.desks w n) ≡ keeps_for p.desks w n
    by true e = absurd (ne (eqb-true w who e))
    by false e = refl

  pub kept_pool : IsPool p → IsPool q
  kept_pool pool = pool_moves n p q pool k.apart (here n kept_free k.comes) where
    here : (m : Name) → out_of q.desks m ≡ None → ComesAt m who x.touched p q → IsPoolAt q m
    here (Entry i) free c = free_at q (Entry i) free (λ is. node_out who x.touched (held_node p.nodes (Entry i)) (held_node q.nodes (Entry i)) c) (λ is. absurd is)
    here (Part f l i) free c = free_at q (Part f l i) free (λ is. node_out who x.touched (held_node p.nodes (Part f l i)) (held_node q.nodes (Part f l i)) c) (λ is. absurd is)
    here (Block f i) free c = free_at q (Block f i) free (λ is. absurd is) (λ is. page_out who x.touched (held_page p.pages (Block f i)) (held_page q.pages (Block f i)) c)

  module _ (key : List ℕ) where
    dirty : (m : Name) → ComesAt m who x.touched p q → ((pool_view key q).cell m).dirty ≡ ((pool_view key p).cell m).dirty
    dirty (Entry i) c = node_dirty who x.touched (held_node p.nodes (Entry i)) (held_node q.nodes (Entry i)) c
    dirty (Part f l i) c = node_dirty who x.touched (held_node p.nodes (Part f l i)) (held_node q.nodes (Part f l i)) c
    dirty (Block f i) c = page_dirty who x.touched (held_page p.pages (Block f i)) (held_page q.pages (Block f i)) c

    brings : (m : Name) → ComesAt m who x.touched p q → Brings who x.touched ((pool_view key p).cell m) ((pool_view key q).cell m) (λ w. is_pinned_for p w m) (λ w. is_pinned_for q w m)
    brings (Entry i) c = node_brings who x.touched (is_doomed p.desks (Entry i)) (is_doomed q.desks (Entry i)) (out_seen key p.desks (Entry i)) (out_seen key q.desks (Entry i)) (held_node p.nodes (Entry i)) (held_node q.nodes (Entry i)) c
    brings (Part f l i) c = node_brings who x.touched (is_doomed p.desks (Part f l i)) (is_doomed q.desks (Part f l i)) (out_seen key p.desks (Part f l i)) (out_seen key q.desks (Part f l i)) (held_node p.nodes (Part f l i)) (held_node q.nodes (Part f l i)) c
    brings (Block f i) c = page_brings who x.touched (is_doomed p.desks (Block f i)) (is_doomed q.desks (Block f i)) (out_seen key p.desks (Block f i)) (out_seen key q.desks (Block f i)) (held_page p.pages (Block f i)) (held_page q.pages (Block f i)) c

    it : Brought n (asked_for key (asked_by p.desks who) (who, x)) (pool_view key p) (pool_view key q)
    it = record {
      rest = elsewhere key n p q k.apart;
      out = out_is key n p q None (seen_none key q.desks n kept_free);
      dirty = dirty n k.comes;
      doomed = doomed_same key n p q k.doomed;
      kept = kept_here;
      others = kept_others;
      brings = brings n k.comes;
    }

    pub kept_event : (o : seen.Out) → out_seen key p.desks n ≡ Some o → Brought n o (pool_view key p) (pool_view key q)
    kept_event o e = subst (λ z. Brought n z (pool_view key p) (pool_view key q)) (sym (seen_at key p.desks n who x o at e)) it
