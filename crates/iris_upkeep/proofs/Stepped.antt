-- What a step of settling leaves of what was held, in every cache.
use Rattle.std.proofs.Common.{◌≡◌, Bool, true, false, Option, Some, None, refl, ap, sym, ◌∙◌, true≢false, is_some}
use Rattle.std.specs.Prelude.{IsSomeAnd}
use Rattle.std.specs.Map.{keys_of}
use Rattle.std.specs.List.{list_any}
use Rattle.std.proofs.lemmas.Map.Made.{is_some-lookup}
use Rattle.iris_name.specs.Names.{same_name}
use Rattle.iris_name.specs.NameLaws.{same_name-true}
use Rattle.iris_name.specs.declared.name.Hash32.{Hash32}
use Rattle.iris_name.specs.declared.name.Name.{Name}
use Rattle.iris_cache.specs.declared.held.Held.{Held}
use Rattle.iris_cache.specs.Held.{points, settled_so}
use Rattle.iris_cache.specs.Rehash.{with_hash}
use Rattle.iris_cache.specs.Resident.{Resident, held_node, map_if, parent_in}
use Rattle.iris_cache.proofs.Settling.{local-same}
use Rattle.iris_upkeep.specs.declared.descent.What.TheVariants.{Unsettled}
use Rattle.iris_upkeep.specs.Marks.{HasMark}
use Rattle.iris_upkeep.specs.SettlesInto.{SettlesInto}

pub into-same : (o : Option Held) → SettlesInto o o
into-same None = tt
into-same (Some g) = (refl, (refl, λ s. s))

pub into-then : (o p q : Option Held) → SettlesInto o p → SettlesInto p q → SettlesInto o q
into-then None None None a b = tt
into-then None None (Some k) a b = b
into-then None (Some h) q a b = absurd a
into-then (Some g) None q a b = absurd a
into-then (Some g) (Some h) None a b = b
into-then (Some g) (Some h) (Some k) a b = (b.0 ∙ ap (λ (z : Held). record z { node = k.node; settled = k.settled }) a.0, (b.1.0 ∙ a.1.0, λ s. b.1.1 (a.1.1 s)))

-- what is held with a child's hash in its node, or settled
abbrev pub Stepped : Bool → Bool → Name → Hash32 → Option Held → Option Held
Stepped b d n x o = map_if b (with_hash n x) (map_if d settled_so o)

pub into-stepped : (b d : Bool) (n : Name) (x : Hash32) (o : Option Held) → SettlesInto o (Stepped b d n x o)
into-stepped true true n x None = tt
into-stepped true false n x None = tt
into-stepped false true n x None = tt
into-stepped false false n x None = tt
into-stepped true true n x (Some g) = (refl, (local-same n x g.node, λ s. refl))
into-stepped true false n x (Some g) = (refl, (local-same n x g.node, λ s. s))
into-stepped false true n x (Some g) = (refl, (refl, λ s. refl))
into-stepped false false n x (Some g) = (refl, (refl, λ s. s))

pub loose-stepped : (b d : Bool) (n : Name) (x : Hash32) (o : Option Held) → d ≡ false → IsSomeAnd o (HasMark Unsettled) → IsSomeAnd (Stepped b d n x o) (HasMark Unsettled)
loose-stepped b true n x o e m = absurd (true≢false e)
loose-stepped b false n x None e m = absurd m
loose-stepped true false n x (Some g) e m = m
loose-stepped false false n x (Some g) e m = m

pub parent-stepped : (b d : Bool) (n : Name) (x : Hash32) (o : Option Held) → parent_in (Stepped b d n x o) ≡ parent_in o
parent-stepped true true n x None = refl
parent-stepped true false n x None = refl
parent-stepped false true n x None = refl
parent-stepped false false n x None = refl
parent-stepped true true n x (Some g) = refl
parent-stepped true false n x (Some g) = refl
parent-stepped false true n x (Some g) = refl
parent-stepped false false n x (Some g) = refl

-- a name is resident and settled
abbrev pub IsOver : Resident → Name → Type 0
IsOver c n = IsSomeAnd (held_node c n) (λ h. h.settled ≡ true)

pub over-stepped : (b d : Bool) (n : Name) (x : Hash32) (h : Held) (o : Option Held) → d ≡ true → o ≡ Some h → IsSomeAnd (Stepped b d n x o) (λ g. g.settled ≡ true)
over-stepped b false n x h o e at = absurd (true≢false (sym e))
over-stepped b true n x h None e at = absurd (true≢false (ap (λ (z : Option Held). is_some z) (sym at)))
over-stepped true true n x h (Some g) e at = refl
over-stepped false true n x h (Some g) e at = refl

pub not-both : (o : Option Held) → IsSomeAnd o (λ h. h.settled ≡ true) → IsSomeAnd o (HasMark Unsettled) → ⊥
not-both None s l = s
not-both (Some h) s l = true≢false (sym s ∙ l)

pub pointed : (o : Option Name) (q : Name) → points o q ≡ true → o ≡ Some q
pointed None q e = absurd (true≢false (sym e))
pointed (Some p) q e = ap Some (same_name-true p q e)

pub held-of : (P : Held → Type 0) (o : Option Held) → IsSomeAnd o P → (h : Held) × (o ≡ Some h) × P h
held-of P None m = absurd m
held-of P (Some h) m = (h, refl, m)

pub over-member : (c : Resident) (q : Name) → IsOver c q → list_any (same_name q) (keys_of c.nodes) ≡ true
over-member c q o = let r = held-of (λ h. h.settled ≡ true) (held_node c q) o in sym (is_some-lookup (same_name q) c.nodes) ∙ ap (λ (z : Option Held). is_some z) r.1
