-- Two pools that are the same but at one name: what that says of the invariant's views, and what the second keeps.
use Rattle.std.proofs.Common.{◌≡◌, ℕ, List, Bool, true, false, Option, Some, None, refl, sym, ◌∙◌, ap, subst}
use Rattle.iris_blocks.specs.declared.held.PageHeld.{PageHeld}
use Rattle.iris_blocks.specs.Paged.{has_page_room, held_page, IsBlock}
use Rattle.iris_cache.specs.declared.held.Held.{Held}
use Rattle.iris_cache.specs.Resident.{has_room, held_node}
use Rattle.iris_desk.specs.AtDesks.{asked_by, is_doomed, keeps_for, out_of}
use Rattle.iris_desk.specs.declared.out.Doing.TheVariants.{Get}
use Rattle.iris_desk.specs.declared.out.Out.{Out}
use Rattle.iris_invariant.specs.Agrees as seen
use Rattle.iris_invariant.specs.Cells.{cell_at, cell_of, cell_of_page, Tied, TiedPage}
use Rattle.iris_invariant.specs.Events.{Elsewhere}
use Rattle.iris_name.specs.declared.name.Name.{Name}
use Rattle.iris_name.specs.declared.name.Name.TheVariants.{Entry, Part, Block}
use Rattle.iris_name.specs.Names.{same_name}
use Rattle.iris_name.specs.NameLaws.{same_name-true}
use Rattle.iris_node.specs.Trees.{IsNodeName}
use Rattle.iris_pool.specs.Pool.{PoolState, IsAbsentIn, has_place}
use Rattle.iris_pool.specs.View.{IsPool, out_by, out_seen, is_pinned_for, pinned_page_in, pool_view}
use Rattle.iris_pool.proofs.OutSeen.{seen_same}
use Rattle.iris_pool.proofs.SameNodes.{SameNode, SamePageTies, SameTies, node_ties, page_held, page_ties, page_ties_none, same_cell, same_pins, same_tied, same_tied_page, tied_held, ties_none}

-- the same but at n
pub record Apart (n : Name) (p q : PoolState) : Type 0 where
  pub nodes : (m : Name) → same_name n m ≡ false → SameNode (held_node p.nodes m) (held_node q.nodes m)
  pub pages : (m : Name) → same_name n m ≡ false → held_page q.pages m ≡ held_page p.pages m
  pub node_places : (m : Name) → same_name n m ≡ false → has_room q.nodes m ≡ has_room p.nodes m
  pub page_places : (m : Name) → same_name n m ≡ false → has_page_room q.pages m ≡ has_page_room p.pages m
  pub out : (m : Name) → same_name n m ≡ false → out_of q.desks m ≡ out_of p.desks m
  pub kept : (w : ℕ) (m : Name) → same_name n m ≡ false → keeps_for q.desks w m ≡ keeps_for p.desks w m
  pub doomed : (m : Name) → same_name n m ≡ false → is_doomed q.desks m ≡ is_doomed p.desks m
  pub asked : (w : ℕ) → asked_by q.desks w ≡ asked_by p.desks w

pub cell_same : (m : Name) (g h : Option Held) (a b : Option PageHeld) (d e : Bool) (o u : Option seen.Out) → SameNode g h → b ≡ a → e ≡ d → u ≡ o → cell_at m h b e u ≡ cell_at m g a d o
cell_same (Entry i) g h a b d e o u s pages doomed out = same_cell g h e u s ∙ (ap (λ z. cell_of g z u) doomed ∙ ap (cell_of g d) out)
cell_same (Part f l i) g h a b d e o u s pages doomed out = same_cell g h e u s ∙ (ap (λ z. cell_of g z u) doomed ∙ ap (cell_of g d) out)
cell_same (Block f i) g h a b d e o u s pages doomed out = ap (λ z. cell_of_page z e u) pages ∙ (ap (λ z. cell_of_page a z u) doomed ∙ ap (cell_of_page a d) out)

pub pinned_same : (p q : PoolState) (who : ℕ) (m : Name) → SameNode (held_node p.nodes m) (held_node q.nodes m) → held_page q.pages m ≡ held_page p.pages m → is_pinned_for q who m ≡ is_pinned_for p who m
pinned_same p q who (Entry i) s e = same_pins who (held_node p.nodes (Entry i)) (held_node q.nodes (Entry i)) s
pinned_same p q who (Part f l i) s e = same_pins who (held_node p.nodes (Part f l i)) (held_node q.nodes (Part f l i)) s
pinned_same p q who (Block f i) s e = ap (pinned_page_in who) e

pub elsewhere : (key : List ℕ) (n : Name) (p q : PoolState) → Apart n p q → Elsewhere n (pool_view key p) (pool_view key q)
elsewhere key n p q a = record {
  cell = λ m ne. cell_same m (held_node p.nodes m) (held_node q.nodes m) (held_page p.pages m) (held_page q.pages m) (is_doomed p.desks m) (is_doomed q.desks m) (out_seen key p.desks m) (out_seen key q.desks m) (a.nodes m ne) (a.pages m ne) (a.doomed m ne) (seen_same key p.desks q.desks m (a.out m ne) a.asked);
  asked = a.asked;
  kept = a.kept;
  pinned = λ w m ne. pinned_same p q w m (a.nodes m ne) (a.pages m ne);
}

-- what a pool keeps, of one name
pub record IsPoolAt (p : PoolState) (n : Name) : Type 0 where
  pub nodes : (key : List ℕ) → IsNodeName n → Tied (held_node p.nodes n) (out_seen key p.desks n)
  pub pages : (key : List ℕ) → IsBlock n → TiedPage (held_page p.pages n) (out_seen key p.desks n)
  pub known : (h : Held) (who : ℕ) → IsNodeName n → held_node p.nodes n ≡ Some h → h.out ≡ Some who → (o : Out) × (out_of p.desks n ≡ Some (who, o))
  pub known_page : (h : PageHeld) (who : ℕ) → IsBlock n → held_page p.pages n ≡ Some h → h.out ≡ Some who → (o : Out) × (out_of p.desks n ≡ Some (who, o))
  pub places : (who : ℕ) (o : Out) → out_of p.desks n ≡ Some (who, o) → o.doing ≡ Get → o.touched ≡ false → IsAbsentIn p n → has_place p n ≡ true

pub each_at : (p : PoolState) → ((n : Name) → IsPoolAt p n) → IsPool p
each_at p at = record {
  nodes = λ key n. (at n).nodes key;
  pages = λ key n. (at n).pages key;
  known = λ n. (at n).known;
  known_page = λ n. (at n).known_page;
  places = λ n. (at n).places;
}

-- a name that is absent in the second was in the first, and has its place as before
place_same : (p q : PoolState) (m : Name) → SameTies (held_node p.nodes m) (held_node q.nodes m) → SamePageTies (held_page p.pages m) (held_page q.pages m)
    → has_room q.nodes m ≡ has_room p.nodes m → has_page_room q.pages m ≡ has_page_room p.pages m
    → (IsAbsentIn p m → has_place p m ≡ true) → IsAbsentIn q m → has_place q m ≡ true
place_same p q (Entry i) s e r t f absent = r ∙ f (ties_none (held_node p.nodes (Entry i)) (held_node q.nodes (Entry i)) s absent)
place_same p q (Part g l i) s e r t f absent = r ∙ f (ties_none (held_node p.nodes (Part g l i)) (held_node q.nodes (Part g l i)) s absent)
place_same p q (Block g i) s e r t f absent = t ∙ f (page_ties_none (held_page p.pages (Block g i)) (held_page q.pages (Block g i)) e absent)

-- what a pool keeps of a name that is tied as before, the other keeps
pub kept_at : (p q : PoolState) (m : Name) → IsPool p → SameTies (held_node p.nodes m) (held_node q.nodes m) → SamePageTies (held_page p.pages m) (held_page q.pages m)
    → has_room q.nodes m ≡ has_room p.nodes m → has_page_room q.pages m ≡ has_page_room p.pages m
    → out_of q.desks m ≡ out_of p.desks m → ((key : List ℕ) → out_seen key q.desks m ≡ out_seen key p.desks m) → IsPoolAt q m
kept_at p q m pool s e r t out seen = record {
  nodes = λ key node. subst (Tied (held_node q.nodes m)) (sym (seen key)) (same_tied (held_node p.nodes m) (held_node q.nodes m) (out_seen key p.desks m) s (pool.nodes key m node));
  pages = λ key block. subst (TiedPage (held_page q.pages m)) (sym (seen key)) (same_tied_page (held_page p.pages m) (held_page q.pages m) (out_seen key p.desks m) e (pool.pages key m block));
  known = λ h who node held on.
      (let b = tied_held (held_node p.nodes m) (held_node q.nodes m) h s held in
      let k = pool.known m b.0 who node b.1 (sym b.2 ∙ on) in
      (k.0, out ∙ k.1));
  known_page = λ h who block held on.
      (let b = page_held (held_page p.pages m) (held_page q.pages m) h e held in
      let k = pool.known_page m b.0 who block b.1 (sym b.2 ∙ on) in
      (k.0, out ∙ k.1));
  places = λ who o at get untouched absent. place_same p q m s e r t (pool.places m who o (sym out ∙ at) get untouched) absent;
}

-- what is the same but at n is a pool if it is one at n
pub pool_moves : (n : Name) (p q : PoolState) → IsPool p → Apart n p q → IsPoolAt q n → IsPool q
pool_moves n p q pool a here = each_at q (λ m. by m (same_name n m) refl) where
  by : (m : Name) (b : Bool) → same_name n m ≡ b → IsPoolAt q m
  by m true e = subst (IsPoolAt q) (same_name-true n m e) here
  by m false e = kept_at p q m pool (node_ties (held_node p.nodes m) (held_node q.nodes m) (a.nodes m e)) (page_ties (held_page p.pages m) (held_page q.pages m) (a.pages m e)) (a.node_places m e) (a.page_places m e) (a.out m e) (λ key. seen_same key p.desks q.desks m (a.out m e) a.asked)

-- where nothing is out, nothing may be out in cache or blocks
pub free_at : (q : PoolState) (n : Name) → out_of q.desks n ≡ None
    → (IsNodeName n → (h : Held) → held_node q.nodes n ≡ Some h → h.out ≡ None) → (IsBlock n → (h : PageHeld) → held_page q.pages n ≡ Some h → h.out ≡ None) → IsPoolAt q n
free_at q n free node page = record {
  nodes = λ key is. record { touched = λ g o e f t. absurd (not_seen key o f); unknown = λ g o e f t. absurd (not_seen key o f) };
  pages = λ key is. record { touched = λ g o e f t. absurd (not_seen key o f); unknown = λ g o e f t. absurd (not_seen key o f) };
  known = λ h who is held on. absurd (let z = node is h held in let x : None ≡ Some who = sym z ∙ on in cc);
  known_page = λ h who is held on. absurd (let z = page is h held in let x : None ≡ Some who = sym z ∙ on in cc);
  places = λ who o at get untouched absent. absurd (let x : None ≡ Some (who, o) = sym free ∙ at in cc);
} where
  not_seen : (key : List ℕ) (o : seen.Out) → out_seen key q.desks n ≡ Some o → ⊥
  not_seen key o f = let x : None ≡ Some o = sym (ap (out_by key q.desks) free) ∙ f in cc
