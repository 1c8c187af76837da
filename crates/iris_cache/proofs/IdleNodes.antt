-- The names that can go, where nodes come and go, or change.
use Rattle.std.proofs.Common.{◌≡◌, ◌||◌, ◌&&◌, ℕ, Bool, true, false, cond, not, List, [], Option, Some, None, refl, ap, sym, ◌∙◌, subst, true≢false, is_some, nat_lt, slice_get, Bor}
use Rattle.std.specs.Prelude.{◌≢◌, is_none, IfSome, IsSomeAnd, bit_and, ◌-◌, ◌^◌}
use Rattle.std.specs.Int.Bits.{and_zero_l}
use Rattle.std.specs.Option.{option_map, option_copied}
use Rattle.std.specs.List.{list_any}
use Rattle.std.specs.Map.{lookup}
use Rattle.iris_name.specs.Names.{same_name}
use Rattle.iris_name.specs.NameLaws.{same_name-true}
use Rattle.iris_name.specs.declared.name.Name.{Name}
use Rattle.iris_cache.specs.declared.held.Held.{Held}
use Rattle.iris_cache.specs.declared.held.Stay.{Stay}
use Rattle.iris_cache.specs.declared.held.Edited.{Edited}
use Rattle.iris_cache.specs.declared.held.Edited.TheVariants.{Missing, Kept, Turned}
use Rattle.iris_cache.specs.Held.{stay_by, stay_of, unpinned_node}
use Rattle.iris_cache.specs.Idle.{IdleNames, is_idle, is_free, is_freed_by, is_turned, is_missing, AreIdle, CanGo}
use Rattle.iris_cache.specs.Resident.{Resident, held_node, map_if}
use Rattle.iris_cache.proofs.Drafts.{key-in}
use Rattle.iris_cache.proofs.Hangs.{not-above}

-- what is free stays free, and nothing else comes
pub idle-same : (c e : Resident) (i j : IdleNames) → j ≡ i → ((q : Name) → is_free (held_node e q) ≡ is_free (held_node c q)) → AreIdle c i → AreIdle e j
idle-same c e i j same free idle = subst (AreIdle e) (sym same) (λ sure q. idle sure q ∙ sym (free q))

pub idle-again : (c e : Resident) (i j : IdleNames) → e.nodes ≡ c.nodes → j ≡ i → AreIdle c i → AreIdle e j
idle-again c e i j nodes same idle = idle-same c e i j same (λ q. ap (λ (es : List (Name × Held)). is_free (lookup (same_name q) es)) nodes) idle

-- a change that keeps whether a node can go
pub free-mapped : (f : Held → Held) → ((h : Held) → is_none (stay_of (f h)) ≡ is_none (stay_of h)) → (b : Bool) (o : Option Held) → is_free (map_if b f o) ≡ is_free o
free-mapped f keeps true None = refl
free-mapped f keeps true (Some h) = keeps h
free-mapped f keeps false o = refl

-- an edit of one node, that keeps whether it can go
pub free-edited : (g : Name → Option Held) (f : Held → Held) (n q : Name) (h : Held) → Some h ≡ g n → is_none (stay_of (f h)) ≡ is_none (stay_of h) → is_free (map_if (same_name n q) f (g q)) ≡ is_free (g q)
free-edited g f n q h at keeps = by (same_name n q) refl
  where
    by : (b : Bool) → same_name n q ≡ b → is_free (map_if b f (g q)) ≡ is_free (g q)
    by true s =
        let e : g q ≡ Some h = ap g (sym (same_name-true n q s)) ∙ sym at in
        ap (λ o. is_free (option_map f o)) e ∙ keeps ∙ sym (ap is_free e)
    by false s = refl

-- names that pass a test are filed anew
module _ (c e : Resident) (i j : IdleNames) (t b : Name → Bool)
    (sure : j.unsure ≡ false → i.unsure ≡ false)
    (filed : j.unsure ≡ false → (q : Name) → is_idle j q ≡ cond (t q) (b q) (is_idle i q))
    (new : (q : Name) → t q ≡ true → b q ≡ is_free (held_node e q))
    (kept : (q : Name) → t q ≡ false → is_free (held_node e q) ≡ is_free (held_node c q))
    (idle : AreIdle c i) where
  at-name : (q : Name) (s : Bool) → t q ≡ s → j.unsure ≡ false → cond s (b q) (is_idle i q) ≡ is_free (held_node e q)
  at-name q true s w = new q s
  at-name q false s w = idle (sure w) q ∙ sym (kept q s)

  pub idle-filed : AreIdle e j
  idle-filed = λ w q. filed w q ∙ at-name q (t q) refl w

turned-by : {P : Type 0} (x : Edited) (s : Bool) → (is_turned x && s) ≡ false → (x ≢ Turned → P) → (s ≡ false → P) → P
turned-by Missing s h f g = f (λ e. cc)
turned-by Kept s h f g = f (λ e. cc)
turned-by Turned s h f g = g h

-- after an edit of names that pass a test, those are filed anew, if it turned
pub idle-edited : (c e : Resident) (i j : IdleNames) (s : Name → Bool) (f : Held → Held) (x : Edited)
    → (j.unsure ≡ false → i.unsure ≡ false)
    → (j.unsure ≡ false → (q : Name) → is_idle j q ≡ cond (is_turned x && s q) (is_free (held_node e q)) (is_idle i q))
    → ((q : Name) → held_node e q ≡ map_if (s q) f (held_node c q))
    → (x ≢ Turned → (q : Name) → is_free (held_node e q) ≡ is_free (held_node c q))
    → AreIdle c i → AreIdle e j
idle-edited c e i j s f x sure filed is same idle =
    idle-filed c e i j (λ q. is_turned x && s q) (λ q. is_free (held_node e q)) sure filed (λ q h. refl)
    (λ q h. turned-by x (s q) h (λ differs. same differs q) (λ out. ap is_free (is q ∙ ap (λ b. map_if b f (held_node c q)) out))) idle

-- a node comes
pub idle-came : (c e : Resident) (i j : IdleNames) (n : Name) (v : Held) (b : Bool)
    → (j.unsure ≡ false → i.unsure ≡ false)
    → (j.unsure ≡ false → (q : Name) → is_idle j q ≡ cond (same_name n q) b (is_idle i q))
    → b ≡ is_none (stay_of v)
    → ((q : Name) → held_node e q ≡ cond (same_name n q) (Some v) (held_node c q))
    → AreIdle c i → AreIdle e j
idle-came c e i j n v b sure filed own is idle =
    idle-filed c e i j (same_name n) (λ q. b) sure filed
    (λ q s. own ∙ sym (ap is_free (is q ∙ ap (λ x. cond x (Some v) (held_node c q)) s)))
    (λ q s. ap is_free (is q ∙ ap (λ x. cond x (Some v) (held_node c q)) s)) idle

-- a node goes
pub idle-went : (c e : Resident) (i j : IdleNames) (n : Name)
    → (j.unsure ≡ false → i.unsure ≡ false)
    → (j.unsure ≡ false → (q : Name) → is_idle j q ≡ cond (same_name n q) false (is_idle i q))
    → ((q : Name) → held_node e q ≡ cond (same_name n q) None (held_node c q))
    → AreIdle c i → AreIdle e j
idle-went c e i j n sure filed is idle =
    idle-filed c e i j (same_name n) (λ q. false) sure filed
    (λ q s. sym (ap is_free (is q ∙ ap (λ x. cond x None (held_node c q)) s)))
    (λ q s. ap is_free (is q ∙ ap (λ x. cond x None (held_node c q)) s)) idle

-- ---- pins are taken off
free-without : (a d k p r : Bool) → is_none (stay_by a d k p) ≡ true → (p ≡ false → r ≡ false) → is_none (stay_by a d k r) ≡ true
free-without true d k p r h f = absurd (true≢false (sym h))
free-without false true k p r h f = absurd (true≢false (sym h))
free-without false false true p r h f = absurd (true≢false (sym h))
free-without false false false true r h f = absurd (true≢false (sym h))
free-without false false false false r h f = ap (λ b. is_none (stay_by false false false b)) (f refl)

pins-less : (who pins : ℕ) → nat_lt 0 pins ≡ false → nat_lt 0 (bit_and pins (2 ^ 32 - 1 - 2 ^ who)) ≡ false
pins-less who pins none = ap (λ k. nat_lt 0 (bit_and k (2 ^ 32 - 1 - 2 ^ who))) (not-above pins none) ∙ ap (nat_lt 0) (and_zero_l (2 ^ 32 - 1 - 2 ^ who))

still-free : (who : ℕ) (h : Held) → is_none (stay_of h) ≡ true → is_none (stay_of (unpinned_node who h)) ≡ true
still-free who h free = free-without (is_some h.out) h.dirty (nat_lt 0 h.kids) (nat_lt 0 h.pins) (nat_lt 0 (bit_and h.pins (2 ^ 32 - 1 - 2 ^ who))) free (pins-less who h.pins)

or-freed : (b x : Bool) → (b ≡ true → x ≡ true) → (b || (not b && x)) ≡ x
or-freed true x f = sym (f refl)
or-freed false x f = refl

free-or-freed : (who : ℕ) (o : Option Held) → (is_free o || is_freed_by who o) ≡ is_free (option_map (unpinned_node who) o)
free-or-freed who None = refl
free-or-freed who (Some h) = or-freed (is_none (stay_of h)) (is_none (stay_of (unpinned_node who h))) (still-free who h)

-- a caller's pins are taken off all nodes
pub idle-released : (c e : Resident) (i j : IdleNames) (who : ℕ)
    → (j.unsure ≡ false → i.unsure ≡ false)
    → (j.unsure ≡ false → (q : Name) → is_idle j q ≡ (is_idle i q || is_freed_by who (held_node c q)))
    → ((q : Name) → held_node e q ≡ option_map (unpinned_node who) (held_node c q))
    → AreIdle c i → AreIdle e j
idle-released c e i j who sure filed is idle = λ w q.
    filed w q ∙ ap (λ b. b || is_freed_by who (held_node c q)) (idle (sure w) q) ∙ free-or-freed who (held_node c q) ∙ sym (ap is_free (is q))

-- one by one
pub freed-step : (o a s x y : Bool) → (s ≡ true → y ≡ x) → ((o || (a && x)) || (s && y)) ≡ (o || ((a || s) && x))
freed-step true a s x y f = refl
freed-step false true true true y f = refl
freed-step false true true false y f = f refl
freed-step false true false true y f = refl
freed-step false true false false y f = refl
freed-step false false true x y f = f refl
freed-step false false false x y f = refl

pub freed-there : (who : ℕ) (o : Option Held) → (is_some o && is_freed_by who o) ≡ is_freed_by who o
freed-there who None = refl
freed-there who (Some h) = refl

-- a test at a name, or at one that is the same
pub named-at : (g : Name → Bool) (n q : Name) (x : Bool) → cond (same_name n q) (g n) x ≡ cond (same_name n q) (g q) x
named-at g n q x = by (same_name n q) refl
  where
    by : (b : Bool) → same_name n q ≡ b → cond b (g n) x ≡ cond b (g q) x
    by true s = ap g (same_name-true n q s)
    by false s = refl

-- ---- what can go
pub free-stays : (h : Held) → is_none (stay_of h) ≡ true → stay_of h ≡ None
free-stays h free = by (stay_of h) refl
  where
    by : (o : Option Stay) → stay_of h ≡ o → stay_of h ≡ None
    by None e = e
    by (Some s) e = absurd (true≢false (sym free ∙ ap (λ (x : Option Stay). is_none x) e))

goes-by : (o : Option Held) → is_free o ≡ true → IsSomeAnd o (λ (h : Held). stay_of h ≡ None)
goes-by None free = absurd (true≢false (sym free))
goes-by (Some h) free = free-stays h free

pub goes-free : (c : Resident) (n : Name) → is_free (held_node c n) ≡ true → CanGo c n
goes-free c n free = goes-by (held_node c n) free

free-by : (o : Option Held) → IsSomeAnd o (λ (h : Held). stay_of h ≡ None) → is_free o ≡ true
free-by None g = absurd g
free-by (Some h) g = ap (λ (x : Option Stay). is_none x) g

pub free-goes : (c : Resident) (n : Name) → CanGo c n → is_free (held_node c n) ≡ true
free-goes c n g = free-by (held_node c n) g

pub not-missing : (x : Edited) → is_missing x ≡ false → x ≢ Missing
not-missing Missing m = absurd (true≢false m)
not-missing Kept m = λ e. cc
not-missing Turned m = λ e. cc

stays-by : (o : Option Held) → ((h : Held) → o ≡ Some h → is_none (stay_of h) ≡ false) → is_free o ≡ false
stays-by None f = refl
stays-by (Some h) f = f h refl

-- where all stay, none can go
pub none-goes : (c : Resident) → ((n : Name) (h : Held) → held_node c n ≡ Some h → is_none (stay_of h) ≡ false) → (n : Name) → CanGo c n → ⊥
none-goes c stay n g = true≢false (sym (free-goes c n g) ∙ stays-by (held_node c n) (stay n))

-- the first of the names is one of them
pub first-named : (o : Option (Bor Name)) (ks : List Name) → option_copied o ≡ slice_get ks 0 → IfSome o (λ n. list_any (same_name n.now) ks ≡ true)
first-named None ks at = tt
first-named (Some r) ks at = key-in ks 0 r.now (sym at)

-- nothing is resident, and nothing is named
pub idle-none : (c : Resident) (i : IdleNames) → c.nodes ≡ [] → ((n : Name) → is_idle i n ≡ false) → AreIdle c i
idle-none c i none free = λ sure n. free n ∙ sym (ap (λ (es : List (Name × Held)). is_free (lookup (same_name n) es)) none)
