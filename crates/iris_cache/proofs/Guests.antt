-- What a cache keeps where a node without a parent comes, or goes.
use Rattle.std.proofs.Common.{◌≡◌, ◌+◌, Bool, true, false, cond, List, Option, Some, None, refl, ap, sym, ◌∙◌, subst, arith, length, true≢false, is_some}
use Rattle.std.specs.List.{list_any}
use Rattle.iris_name.specs.Names.{same_name}
use Rattle.iris_name.specs.NameLaws.{same_name-true}
use Rattle.iris_name.specs.declared.name.Name.{Name}
use Rattle.iris_node.specs.Nodes.{name_of}
use Rattle.iris_cache.specs.declared.held.Held.{Held}
use Rattle.iris_cache.specs.Held.{points}
use Rattle.iris_cache.specs.Resident.{Resident, held_node, has_room, children, IsSoundCache}
use Rattle.iris_cache.proofs.Counts.{weight}
use Rattle.iris_cache.proofs.HeldChanges.{Once, one, children-updated, cond-some}

-- ---- a node without a parent comes, or goes

module _ (c e : Resident) (n : Name) (v : Held)
    (sound : IsSoundCache c) (absent : held_node c n ≡ None) (alone : v.parent ≡ None) (named : name_of v.node ≡ n) (counts : v.kids ≡ children c n)
    (is : (q : Name) → held_node e q ≡ cond (same_name n q) (Some v) (held_node c q)) (oe : Once e) where
  pub put-children : (m : Name) → children e m ≡ children c m
  put-children m =
      let a = children-updated m n c e (Some v) sound.once oe is in
      let b : weight (one m) (held_node c n) ≡ 0 = ap (weight (one m)) absent in
      let w : weight (one m) (Some v) ≡ 0 = ap (λ p. cond (points p m) 1 0) alone in
      omega (arith, a, b, w)

  cond-none : (b : Bool) (o : Option Held) → cond b (Some v) o ≡ None → o ≡ None
  cond-none true o none = absurd (true≢false (ap (λ (x : Option Held). is_some x) none))
  cond-none false o none = none

  pub put-none : (q : Name) → held_node e q ≡ None → held_node c q ≡ None
  put-none q none = cond-none (same_name n q) (held_node c q) (sym (is q) ∙ none)

  put-empty : (q : Name) (b : Bool) → same_name n q ≡ b → cond b false (has_room c q) ≡ true → held_node c q ≡ None → cond b (Some v) (held_node c q) ≡ None
  put-empty q true s has none = absurd (true≢false (sym has))
  put-empty q false s has none = none

  put-room : (b r : Bool) → cond b false r ≡ true → r ≡ true
  put-room true r has = absurd (true≢false (sym has))
  put-room false r has = has

  pub put-sound : ((q : Name) → has_room e q ≡ cond (same_name n q) false (has_room c q)) → length e.nodes + length e.room ≡ length c.nodes + length c.room → IsSoundCache e
  put-sound room count = record {
    once = oe;
    own = λ q h at. cond-some (same_name n q) v h (held_node c q) (λ x. name_of x.node ≡ q) (sym (is q) ∙ at) (λ s. named ∙ same_name-true n q s) (sound.own q h);
    kids = λ q h at. cond-some (same_name n q) v h (held_node c q) (λ x. x.kids ≡ children e q) (sym (is q) ∙ at)
        (λ s. counts ∙ ap (children c) (same_name-true n q s) ∙ sym (put-children q)) (λ o. sound.kids q h o ∙ sym (put-children q));
    empty = λ q has. let h = sym (room q) ∙ has in is q ∙ put-empty q (same_name n q) refl h (sound.empty q (put-room (same_name n q) (has_room c q) h));
    few = let f = sound.few in omega (arith, count, f);
  }

module _ (c e : Resident) (n : Name) (h0 : Held)
    (sound : IsSoundCache c) (at : held_node c n ≡ Some h0) (alone : h0.parent ≡ None)
    (is : (q : Name) → held_node e q ≡ cond (same_name n q) None (held_node c q)) (oe : Once e) where
  pub take-children : (m : Name) → children e m ≡ children c m
  take-children m =
      let a = children-updated m n c e None sound.once oe is in
      let b : weight (one m) (held_node c n) ≡ 0 = ap (weight (one m)) at ∙ ap (λ p. cond (points p m) 1 0) alone in
      omega (arith, a, b)

  take-some : (b : Bool) (o : Option Held) (h : Held) → cond b None o ≡ Some h → o ≡ Some h
  take-some true o h s = absurd (true≢false (ap (λ (x : Option Held). is_some x) (sym s)))
  take-some false o h s = s

  to-none : (b : Bool) (o : Option Held) → o ≡ None → cond b None o ≡ None
  to-none true o none = refl
  to-none false o none = none

  pub take-sound : e.room ≡ c.room → length e.nodes + 1 ≡ length c.nodes → IsSoundCache e
  take-sound room count = record {
    once = oe;
    own = λ q h s. sound.own q h (take-some (same_name n q) (held_node c q) h (sym (is q) ∙ s));
    kids = λ q h s. sound.kids q h (take-some (same_name n q) (held_node c q) h (sym (is q) ∙ s)) ∙ sym (take-children q);
    empty = λ q has. is q ∙ to-none (same_name n q) (held_node c q) (sound.empty q (subst (λ (r : List Name). list_any (same_name q) r ≡ true) room has));
    few = let r : length e.room ≡ length c.room = ap length room in let f = sound.few in omega (arith, r, count, f);
  }

  -- where its name has no children, none come without a parent
  take-none : (q : Name) (b : Bool) → same_name n q ≡ b → cond b None (held_node c q) ≡ None → children c n ≡ 0 → (held_node c q ≡ None → children c q ≡ 0) → children c q ≡ 0
  take-none q true s none k f = ap (children c) (sym (same_name-true n q s)) ∙ k
  take-none q false s none k f = f none

  pub take-homed : h0.kids ≡ 0 → ((q : Name) → held_node c q ≡ None → children c q ≡ 0) → (q : Name) → held_node e q ≡ None → children e q ≡ 0
  take-homed childless homed q none = take-children q ∙ take-none q (same_name n q) refl (sym (is q) ∙ none) (sym (sound.kids n h0 at) ∙ childless) (homed q)
