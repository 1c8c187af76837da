-- What a cache keeps where a node is hung under a parent, or taken from it.
use Rattle.std.proofs.Common.{◌≡◌, nat_lt, ◌||◌, ◌+◌, ◌-◌, ◌≤◌, ◌<◌, ◌^◌, ℕ, Bool, true, false, cond, List, Option, Some, None, IsSome, refl, ap, sym, ◌∙◌, subst, arith, length, true≢false, is_some}
use Rattle.std.specs.Option.{option_map}
use Rattle.std.proofs.lemmas.Grind.{common_steps}
use Rattle.std.specs.List.{list_any}
use Rattle.std.specs.Prelude.{IfSome}
use Rattle.iris_name.specs.Names.{same_name}
use Rattle.iris_name.specs.NameLaws.{same_name-true}
use Rattle.iris_name.specs.declared.name.Name.{Name}
use Rattle.iris_node.specs.Nodes.{name_of}
use Rattle.iris_cache.specs.declared.held.Held.{Held}
use Rattle.iris_cache.specs.Held.{points, with_parent, kid_more, kid_less}
use Rattle.iris_cache.specs.Resident.{Resident, held_node, children, map_if, IsSoundCache}
use Rattle.iris_cache.proofs.Counts.{weight}
use Rattle.iris_cache.proofs.HeldChanges.{Once, one, children-mapped, children-parent, map_if-none, none-back, own-mapped, kids_in, is-none, before-map, IfSome-by, children-le, kids-under, kids-of, points-own}

module _ (c d : Resident) (n : Name) (sound : IsSoundCache c) where
  kids-held : (p : Option Name) (q : Name) (h : Held) → ((q : Name) → held_node d q ≡ map_if (same_name n q) (with_parent p) (held_node c q)) → held_node d q ≡ Some h → h.kids ≡ children c q
  kids-held p q h first is =
      let at = sym (first q) ∙ is in
      kids-under p (same_name n q) (held_node c q) h at ∙ kids-of c q sound (held_node c q) refl (before-map (same_name n q) (with_parent p) (held_node c q) h at)

-- ---- a node without a parent is hung under one
module _ (c d : Resident) (n : Name) (parent : Option Name) (h0 : Held)
    (sound : IsSoundCache c) (at : held_node c n ≡ Some h0) (alone : h0.parent ≡ None)
    (first : (q : Name) → held_node d q ≡ map_if (same_name n q) (with_parent parent) (held_node c q)) (od : Once d) where
  pub linked-first : (m : Name) → children d m ≡ children c m + cond (points parent m) 1 0
  linked-first m =
      let a = children-mapped m n c d (with_parent parent) sound.once od first in
      let b : weight (one m) (held_node c n) ≡ 0 = ap (weight (one m)) at ∙ ap (λ p. cond (points p m) 1 0) alone in
      let v : weight (one m) (option_map (with_parent parent) (held_node c n)) ≡ cond (points parent m) 1 0 = ap (λ o. weight (one m) (option_map (with_parent parent) o)) at in
      omega (arith, a, b, v)

  pub linked-fits : length d.nodes ≡ length c.nodes → (p : Name) → parent ≡ Some p → IfSome (held_node d p) (λ h. h.kids + 1 < 2 ^ 32)
  linked-fits count p is = IfSome-by (held_node d p) (λ h. h.kids + 1 < 2 ^ 32) (λ h s.
      let k = kids-held c d n sound parent p h first s in
      let a : children d p ≡ children c p + 1 = linked-first p ∙ ap (λ x. children c p + cond (points x p) 1 0) is ∙ ap (λ b. children c p + cond b 1 0) (points-own p) in
      let l = children-le d p in
      let f = sound.few in
      omega (arith, k, a, l, f, count))

module _ (c d e : Resident) (n : Name) (parent : Option Name) (h0 : Held)
    (sound : IsSoundCache c) (at : held_node c n ≡ Some h0) (alone : h0.parent ≡ None)
    (first : (q : Name) → held_node d q ≡ map_if (same_name n q) (with_parent parent) (held_node c q))
    (second : (q : Name) → held_node e q ≡ map_if (points parent q) kid_more (held_node d q))
    (od : Once d) (oe : Once e) where
  pub linked-children : (m : Name) → children e m ≡ children c m + cond (points parent m) 1 0
  linked-children m = children-parent m parent d e kid_more (λ h. refl) od oe second ∙ linked-first c d n parent h0 sound at alone first od m

  pub both : (q : Name) → held_node e q ≡ map_if (points parent q) kid_more (map_if (same_name n q) (with_parent parent) (held_node c q))
  both q = second q ∙ ap (map_if (points parent q) kid_more) (first q)

  pub linked-none : (q : Name) → held_node e q ≡ None → held_node c q ≡ None
  linked-none q is = none-back (same_name n q) (with_parent parent) (held_node c q) _ refl (none-back (points parent q) kid_more _ (held_node e q) (both q) is)

  -- where its parent is resident, no node strays
  home-in : (parent : Option Name) (m : Name) (b : Bool) → points parent m ≡ b → ((p : Name) → parent ≡ Some p → IsSome (held_node d p)) → held_node d m ≡ None → ◌≡◌ {A = ℕ} (cond b 1 0) 0
  home-in None m true s f none = absurd (true≢false (sym s))
  home-in (Some p) m true s f none = absurd (true≢false (sym (f p refl) ∙ ap (λ (k : Name). is_some (held_node d k)) (same_name-true p m s) ∙ ap (λ (x : Option Held). is_some x) none))
  home-in parent m false s f none = refl

  pub linked-homed : ((q : Name) → held_node c q ≡ None → children c q ≡ 0) → ((p : Name) → parent ≡ Some p → IsSome (held_node d p)) → (q : Name) → held_node e q ≡ None → children e q ≡ 0
  linked-homed homed home q none =
      let z = homed q (linked-none q none) in
      let w = home-in parent q (points parent q) refl home (none-back (points parent q) kid_more (held_node d q) (held_node e q) (second q) none) in
      let k = linked-children q in
      omega (arith, z, w, k)

  kids-linked : (b t : Bool) (o : Option Held) (h : Held) → map_if b kid_more (map_if t (with_parent parent) o) ≡ Some h → h.kids ≡ kids_in o + cond b 1 0
  kids-linked true true None h is = absurd (is-none _ h refl is)
  kids-linked true false None h is = absurd (is-none _ h refl is)
  kids-linked false true None h is = absurd (is-none _ h refl is)
  kids-linked false false None h is = absurd (is-none _ h refl is)
  kids-linked true true (Some g) h is = ap kids_in (sym is)
  kids-linked true false (Some g) h is = ap kids_in (sym is)
  kids-linked false true (Some g) h is = let k : h.kids ≡ g.kids = ap kids_in (sym is) in omega (arith, k)
  kids-linked false false (Some g) h is = let k : h.kids ≡ g.kids = ap kids_in (sym is) in omega (arith, k)

  kids-before : (q : Name) (o : Option Held) (h : Held) → held_node c q ≡ o → held_node e q ≡ Some h → kids_in o ≡ children c q
  kids-before q None h o-is is = absurd (is-none (held_node e q) h (both q ∙ map_if-none (points parent q) kid_more _ (map_if-none (same_name n q) (with_parent parent) (held_node c q) o-is)) is)
  kids-before q (Some g) h o-is is = sound.kids q g o-is

  own-linked : (q : Name) (h : Held) → held_node e q ≡ Some h → name_of h.node ≡ q
  own-linked q h is =
      own-mapped kid_more (λ g. refl) q (points parent q) (held_node d q) (held_node e q) h (second q) is
      (λ g dis. own-mapped (with_parent parent) (λ k. refl) q (same_name n q) (held_node c q) (held_node d q) g (first q) dis (sound.own q))

  pub linked-sound : e.room ≡ c.room → length e.nodes ≡ length c.nodes → IsSoundCache e
  linked-sound room count = record {
    once = oe;
    own = own-linked;
    kids = λ q h is.
        let a = kids-linked (points parent q) (same_name n q) (held_node c q) h (sym (both q) ∙ is) in
        let b = kids-before q (held_node c q) h refl is in
        let k = linked-children q in
        omega (arith, a, b, k);
    empty = λ q has. both q ∙ map_if-none (points parent q) kid_more _ (map_if-none (same_name n q) (with_parent parent) (held_node c q) (sound.empty q (subst (λ (r : List Name). list_any (same_name q) r ≡ true) room has)));
    few = let r : length e.room ≡ length c.room = ap length room in let f = sound.few in omega (arith, r, count, f);
  }

-- ---- a node is taken from its parent
module _ (c d : Resident) (n : Name) (h0 : Held)
    (sound : IsSoundCache c) (at : held_node c n ≡ Some h0)
    (first : (q : Name) → held_node d q ≡ map_if (same_name n q) (with_parent None) (held_node c q)) (od : Once d) where
  pub unlinked-first : (m : Name) → children d m + cond (points h0.parent m) 1 0 ≡ children c m
  unlinked-first m =
      let a = children-mapped m n c d (with_parent None) sound.once od first in
      let b : weight (one m) (held_node c n) ≡ cond (points h0.parent m) 1 0 = ap (weight (one m)) at in
      let v : weight (one m) (option_map (with_parent None) (held_node c n)) ≡ 0 = ap (λ o. weight (one m) (option_map (with_parent None) o)) at in
      omega (arith, a, b, v)

  pub unlinked-fits : (p : Name) → h0.parent ≡ Some p → IfSome (held_node d p) (λ h. 1 ≤ h.kids)
  unlinked-fits p is = IfSome-by (held_node d p) (λ h. 1 ≤ h.kids) (λ h s.
      let k = kids-held c d n sound None p h first s in
      let a : children d p + 1 ≡ children c p = sym (ap (λ x. children d p + cond (points x p) 1 0) is ∙ ap (λ b. children d p + cond b 1 0) (points-own p)) ∙ unlinked-first p in
      omega (arith, k, a))

module _ (c d e : Resident) (n : Name) (h0 : Held)
    (sound : IsSoundCache c) (at : held_node c n ≡ Some h0)
    (first : (q : Name) → held_node d q ≡ map_if (same_name n q) (with_parent None) (held_node c q))
    (second : (q : Name) → held_node e q ≡ map_if (points h0.parent q) kid_less (held_node d q))
    (od : Once d) (oe : Once e) where
  pub unlinked-children : (m : Name) → children e m + cond (points h0.parent m) 1 0 ≡ children c m
  unlinked-children m = ap (λ k. k + cond (points h0.parent m) 1 0) (children-parent m h0.parent d e kid_less (λ h. refl) od oe second) ∙ unlinked-first c d n h0 sound at first od m

  pub un-both : (q : Name) → held_node e q ≡ map_if (points h0.parent q) kid_less (map_if (same_name n q) (with_parent None) (held_node c q))
  un-both q = second q ∙ ap (map_if (points h0.parent q) kid_less) (first q)

  pub unlinked-none : (q : Name) → held_node e q ≡ None → held_node c q ≡ None
  unlinked-none q is = none-back (same_name n q) (with_parent None) (held_node c q) _ refl (none-back (points h0.parent q) kid_less _ (held_node e q) (un-both q) is)

  pub unlinked-homed : ((q : Name) → held_node c q ≡ None → children c q ≡ 0) → (q : Name) → held_node e q ≡ None → children e q ≡ 0
  unlinked-homed homed q none =
      let z = homed q (unlinked-none q none) in
      let k = unlinked-children q in
      omega (arith, z, k)

  kids-unlinked : (b t : Bool) (o : Option Held) (h : Held) → map_if b kid_less (map_if t (with_parent None) o) ≡ Some h → h.kids ≡ kids_in o - cond b 1 0
  kids-unlinked true true None h is = absurd (is-none _ h refl is)
  kids-unlinked true false None h is = absurd (is-none _ h refl is)
  kids-unlinked false true None h is = absurd (is-none _ h refl is)
  kids-unlinked false false None h is = absurd (is-none _ h refl is)
  kids-unlinked true true (Some g) h is = ap kids_in (sym is)
  kids-unlinked true false (Some g) h is = ap kids_in (sym is)
  kids-unlinked false true (Some g) h is = let k : h.kids ≡ g.kids = ap kids_in (sym is) in omega (arith, k)
  kids-unlinked false false (Some g) h is = let k : h.kids ≡ g.kids = ap kids_in (sym is) in omega (arith, k)

  un-kids-before : (q : Name) (o : Option Held) (h : Held) → held_node c q ≡ o → held_node e q ≡ Some h → kids_in o ≡ children c q
  un-kids-before q None h o-is is = absurd (is-none (held_node e q) h (un-both q ∙ map_if-none (points h0.parent q) kid_less _ (map_if-none (same_name n q) (with_parent None) (held_node c q) o-is)) is)
  un-kids-before q (Some g) h o-is is = sound.kids q g o-is

  own-unlinked : (q : Name) (h : Held) → held_node e q ≡ Some h → name_of h.node ≡ q
  own-unlinked q h is =
      own-mapped kid_less (λ g. refl) q (points h0.parent q) (held_node d q) (held_node e q) h (second q) is
      (λ g dis. own-mapped (with_parent None) (λ k. refl) q (same_name n q) (held_node c q) (held_node d q) g (first q) dis (sound.own q))

  pub unlinked-sound : e.room ≡ c.room → length e.nodes ≡ length c.nodes → IsSoundCache e
  unlinked-sound room count = record {
    once = oe;
    own = own-unlinked;
    kids = λ q h is.
        let a = kids-unlinked (points h0.parent q) (same_name n q) (held_node c q) h (sym (un-both q) ∙ is) in
        let b = un-kids-before q (held_node c q) h refl is in
        let k = unlinked-children q in
        omega (arith, a, b, k);
    empty = λ q has. un-both q ∙ map_if-none (points h0.parent q) kid_less _ (map_if-none (same_name n q) (with_parent None) (held_node c q) (sound.empty q (subst (λ (r : List Name). list_any (same_name q) r ≡ true) room has)));
    few = let r : length e.room ≡ length c.room = ap length room in let f = sound.few in omega (arith, r, count, f);
  }

pub or-parts : (a b : Bool) → (a || b) ≡ false → (a ≡ false) × (b ≡ false)
or-parts true b h = absurd (true≢false h)
or-parts false b h = (refl, h)

pub not-above : (k : ℕ) → nat_lt 0 k ≡ false → k ≡ 0
not-above k h = grind (arith, common_steps)
