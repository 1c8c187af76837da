-- On the way up from a child whose count may have changed.
use Rattle.std.proofs.Common.{◌≡◌, ◌⊎◌, ◌||◌, ◌+◌, inl, inr, ℕ, suc, true, Option, Some, refl, ap, sym, ◌∙◌, subst, length, true≢false}
use Rattle.std.specs.Prelude.{IsSome}
use Rattle.iris_name.specs.Names.{same_name}
use Rattle.iris_name.specs.NameLaws.{same_name-true, same_name-refl}
use Rattle.iris_name.specs.declared.name.Name.{Name}
use Rattle.iris_node.specs.Trees.{Shown, IsTree, IsParent}
use Rattle.iris_cache.specs.Applied.{is_above_within}
use Rattle.iris_cache.specs.Resident.{Resident}
use Rattle.iris_cache.specs.Drafted.{Drafted, drafted, seen}
use Rattle.iris_cache.specs.Pictures.{parent_after}
use Rattle.iris_cache.proofs.Ways.{over-met}
use Rattle.iris_treepaths.specs.Counts.{IsEntryName, Recounts}
use Rattle.iris_treepaths.specs.Hands.{Holding}
use Rattle.iris_treepaths.specs.Lags.{Lags}
use Rattle.iris_treepaths.specs.Planted.{IsOver, next, far}
use Rattle.iris_treepaths.specs.Rows.{Row, IsCountable}
use Rattle.iris_treepaths.proofs.Sizes.{never_over, over_through}
use Rattle.iris_treepaths.proofs.Recounts.{climbed, parent_made, topmost}
use Rattle.iris_cache.proofs.Rising.{or-split, or-right}

-- what was met from the start lies below, or is met from here
pub Left : Shown → (Name → Option Name) → ℕ → ℕ → Name → Name → Type 0
Left made over most left start at = (q : Name) → is_above_within over most (Some start) q ≡ true → IsOver made at q ⊎ (is_above_within over left (Some at) q ≡ true)

-- so far up from the start
pub record Climbing (d : Drafted) (c : Resident) (start : Name) (most left : ℕ) (e : Drafted) (at : Name) : Type 0 where
  pub lags : (old new made : Shown) (hand : Option Row) → IsTree made → IsCountable made → Lags old new made hand start d c → Lags old new made hand at e c × Left made (parent_after d c) most left start at
  pub reach : (q : Name) (k : ℕ) → is_above_within (parent_after d c) k (Some at) q ≡ true → (j : ℕ) × (is_above_within (parent_after d c) j (Some start) q ≡ true)
  pub parents : (q : Name) → parent_after e c q ≡ parent_after d c q
  pub stays : (n : Name) → IsSome (seen d c n) → IsSome (seen e c n)
  pub others : (n : Name) → (IsEntryName n → ⊥) → drafted e n ≡ drafted d n

pub begins : (d : Drafted) (c : Resident) (start : Name) (most : ℕ) → Climbing d c start most most d start
unfolding Left
begins d c start most = record {
  lags = λ old new made hand tree countable lags. (lags, λ q m. inr m);
  reach = λ q k m. (k, m);
  parents = λ q. refl;
  stays = λ n s. s;
  others = λ n s. refl;
}

pub step-up : (over : Name → Option Name) (k : ℕ) (at p q : Name) → over at ≡ Some p → is_above_within over k (Some p) q ≡ true → is_above_within over (suc k) (Some at) q ≡ true
step-up over k at p q e m = or-right (same_name at q) (is_above_within over k (over at) q) (ap (λ o. is_above_within over k o q) e ∙ m)

step-left : (made : Shown) (over : Name → Option Name) (most k : ℕ) (start at p : Name) → over at ≡ Some p → IsParent made p at → Left made over most (suc k) start at → Left made over most k start p
unfolding Left
step-left made over most k start at p e parent left q m = elim (left q m) [
  | inl o ↦ inl (over_through made p at q (next p at parent) o)
  | inr x ↦ elim (or-split (same_name at q) (is_above_within over k (over at) q) x) [
    | inl s ↦ inl (subst (IsOver made p) (same_name-true at q s) (next p at parent))
    | inr y ↦ inr (ap (λ o. is_above_within over k o q) (sym e) ∙ y)
  ]
]

pub climbs_on : (d : Drafted) (c : Resident) (start : Name) (most k : ℕ) (e f : Drafted) (at p : Name) → Climbing d c start most (suc k) e at → parent_after e c at ≡ Some p → IsSome (seen e c p) → Recounts at p e f c → Climbing d c start most k f p
climbs_on d c start most k e f at p so up sees step =
    let over : parent_after d c at ≡ Some p = sym (so.parents at) ∙ up in
    record {
      lags = λ old new made hand tree countable lags.
          (let x = so.lags old new made hand tree countable lags in
          let parent = parent_made old new made hand at p e c tree x.0 up sees in
          (climbed old new made hand at p e f c tree countable x.0 parent sees step, step-left made (parent_after d c) most k start at p over parent x.1));
      reach = λ q k m. so.reach q (suc k) (step-up (parent_after d c) k at p q over m);
      parents = λ q. step.parents q ∙ so.parents q;
      stays = λ n s. step.stays n (so.stays n s);
      others = λ n s. step.entries n s ∙ so.others n s;
    }

pub ends : (d : Drafted) (c : Resident) (start : Name) (most k : ℕ) (e : Drafted) (at : Name) → Climbing d c start most k e at → ((p : Name) → parent_after e c at ≡ Some p → IsSome (seen e c p) → ⊥)
    → (old new made : Shown) (hand : Option Row) → IsTree made → IsCountable made → Lags old new made hand start d c → Holding old made hand e c
ends d c start most k e at so none old new made hand tree countable lags = topmost old new made hand at e c ((so.lags old new made hand tree countable lags).0) none

pub at-parent : (over : Name → Option Name) (at p : Name) → over at ≡ Some p → is_above_within over 2 (Some at) p ≡ true
at-parent over at p e = or-right (same_name at p) (is_above_within over 1 (over at) p) (ap (λ o. is_above_within over 1 o p) e ∙ ap (λ b. b || is_above_within over 0 (over p) p) (same_name-refl p))

-- after as many steps as there are names the way is at its end
pub runs_out : (d : Drafted) (c : Resident) (start : Name) (most : ℕ) (e : Drafted) (at : Name) → most ≡ length c.nodes + length d.changes + 1 → Climbing d c start most 0 e at
    → (old new made : Shown) (hand : Option Row) → IsTree made → IsCountable made → Lags old new made hand start d c → Holding old made hand e c
unfolding Left
runs_out d c start most e at enough so old new made hand tree countable lags = topmost old new made hand at e c x.0 none
  where
    x : Lags old new made hand at e c × Left made (parent_after d c) most 0 start at
    x = so.lags old new made hand tree countable lags

    none : (p : Name) → parent_after e c at ≡ Some p → IsSome (seen e c p) → ⊥
    none p up sees =
        let parent = parent_made old new made hand at p e c tree x.0 up sees in
        let m = subst (λ k. is_above_within (parent_after d c) k (Some start) p ≡ true) (sym enough) (over-met d c start p (so.reach p 2 (at-parent (parent_after d c) at p (sym (so.parents at) ∙ up)))) in
        elim (x.1 p m) [ inl o ↦ never_over made tree at at (far at p at parent o) refl | inr z ↦ true≢false (sym z) ]
