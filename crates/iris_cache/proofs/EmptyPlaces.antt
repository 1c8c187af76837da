-- What a cache keeps where empty places come.
use Rattle.std.proofs.Common.{◌≡◌, ◌||◌, ◌&&◌, not, ◌+◌, ◌<◌, ◌^◌, Bool, true, false, cond, List, Option, Some, None, refl, ap, sym, ◌∙◌, subst, arith, length, true≢false, is_some}
use Rattle.std.specs.Map.{lookup, keys_of, values_of}
use Rattle.std.specs.List.{count_by, IsDistinct}
use Rattle.iris_name.specs.Names.{same_name}
use Rattle.iris_name.specs.NameLaws.{same_name-true}
use Rattle.iris_name.specs.declared.name.Name.{Name}
use Rattle.iris_cache.specs.declared.held.Held.{Held}
use Rattle.iris_cache.specs.Held.{is_child}
use Rattle.iris_cache.specs.Resident.{Resident, held_node, has_room, IsSoundCache}

-- ---- an empty place more
module _ (c e : Resident) (n : Name) (sound : IsSoundCache c) (absent : held_node c n ≡ None) (nodes : e.nodes ≡ c.nodes) where
  roomy-empty : (b : Bool) (q : Name) → same_name n q ≡ b → cond b true (has_room c q) ≡ true → held_node c q ≡ None
  roomy-empty true q s has = ap (held_node c) (sym (same_name-true n q s)) ∙ absent
  roomy-empty false q s has = sound.empty q has

  pub roomy-sound : ((q : Name) → has_room e q ≡ cond (same_name n q) true (has_room c q)) → length c.nodes + length e.room < 2 ^ 32 → IsSoundCache e
  roomy-sound room few = record {
    once = subst (λ (l : List (Name × Held)). IsDistinct same_name (keys_of l)) (sym nodes) sound.once;
    own = λ q h s. sound.own q h (ap (λ (l : List (Name × Held)). lookup (same_name q) l) (sym nodes) ∙ s);
    kids = λ q h s. sound.kids q h (ap (λ (l : List (Name × Held)). lookup (same_name q) l) (sym nodes) ∙ s) ∙ ap (λ (l : List (Name × Held)). count_by (is_child q) (values_of l)) (sym nodes);
    empty = λ q has. ap (λ (l : List (Name × Held)). lookup (same_name q) l) nodes ∙ roomy-empty (same_name n q) q refl (sym (room q) ∙ has);
    few = let l : length e.nodes ≡ length c.nodes = ap length nodes in omega (arith, l, few);
  }

pub not-there : (o : Option Held) → is_some o ≡ false → o ≡ None
not-there None h = refl
not-there (Some g) h = absurd (true≢false h)

-- ---- empty places more, none of a resident name
module _ (c e : Resident) (sound : IsSoundCache c) (nodes : e.nodes ≡ c.nodes) where
  pub roomier-sound : ((q : Name) → has_room e q ≡ true → held_node c q ≡ None) → length c.nodes + length e.room < 2 ^ 32 → IsSoundCache e
  roomier-sound free few = record {
    once = subst (λ (l : List (Name × Held)). IsDistinct same_name (keys_of l)) (sym nodes) sound.once;
    own = λ q h s. sound.own q h (ap (λ (l : List (Name × Held)). lookup (same_name q) l) (sym nodes) ∙ s);
    kids = λ q h s. sound.kids q h (ap (λ (l : List (Name × Held)). lookup (same_name q) l) (sym nodes) ∙ s) ∙ ap (λ (l : List (Name × Held)). count_by (is_child q) (values_of l)) (sym nodes);
    empty = λ q has. ap (λ (l : List (Name × Held)). lookup (same_name q) l) nodes ∙ free q has;
    few = let l : length e.nodes ≡ length c.nodes = ap length nodes in omega (arith, l, few);
  }

free-or : (r s : Bool) (o : Option Held) → (r || (s && not (is_some o))) ≡ true → (r ≡ true → o ≡ None) → o ≡ None
free-or r s None h f = refl
free-or true s (Some g) h f = f refl
free-or false true (Some g) h f = absurd (true≢false (sym h))
free-or false false (Some g) h f = absurd (true≢false (sym h))

pub still-free : (c e : Resident) (sets : Name → Bool) → IsSoundCache c → ((q : Name) → has_room e q ≡ (has_room c q || (sets q && not (is_some (held_node c q))))) → (q : Name) → has_room e q ≡ true → held_node c q ≡ None
still-free c e sets sound is q has = free-or (has_room c q) (sets q) (held_node c q) (sym (is q) ∙ has) (sound.empty q)

-- a resident name has no empty place
pub no-place : (c : Resident) (n q : Name) (s : Bool) → IsSoundCache c → is_some (held_node c n) ≡ true → same_name n q ≡ s → has_room c q ≡ (has_room c q && not s)
no-place c n q true sound there e = by (has_room c q) refl
  where
    by : (b : Bool) → has_room c q ≡ b → b ≡ (b && false)
    by false r = refl
    by true r = absurd (true≢false (sym there ∙ ap (λ (x : Option Held). is_some x) (ap (held_node c) (same_name-true n q e) ∙ sound.empty q r)))
no-place c n q false sound there e = by (has_room c q)
  where
    by : (b : Bool) → b ≡ (b && true)
    by true = refl
    by false = refl
