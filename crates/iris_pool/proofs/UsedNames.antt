-- Which names are in use, desk by desk, and which can leave.
use Rattle.std.proofs.Common.{◌≡◌, inl, inr, ◌||◌, ◌+◌, ◌<◌, ◌≤◌, ℕ, suc, Bool, true, false, not, List, [], ◌∷◌, Option, Some, None, refl, ap, sym, ◌∙◌, subst, arith, true≢false, is_some, slice_get, length, get_or}
use Rattle.std.specs.Prelude.{◌↔◌, IsSomeAnd, IfNone, Contains, is_none}
use Rattle.std.specs.List.{list_any}
use Rattle.std.specs.Option.{option_and_then}
use Rattle.std.proofs.lemmas.Map.Entries.{lookup_from_place, place_from_lookup}
use Rattle.std.proofs.lemmas.Option.{slice_get_within, slice_get_read}
use Rattle.std.proofs.lemmas.Bool.{cases_lt}
use Rattle.iris_blocks.specs.declared.held.PageHeld.{PageHeld}
use Rattle.iris_blocks.specs.Held.{page_stay_of}
use Rattle.iris_blocks.specs.Paged.{ArePagesSound, held_page}
use Rattle.iris_cache.specs.declared.held.Held.{Held}
use Rattle.iris_cache.specs.Held.{stay_of}
use Rattle.iris_cache.specs.Idle.{is_free}
use Rattle.iris_cache.specs.Pictures.{Holds}
use Rattle.iris_cache.specs.Resident.{held_node}
use Rattle.iris_cache.proofs.IdleNodes.{free-goes, goes-free}
use Rattle.iris_desk.specs.AtDesk.{DeskState}
use Rattle.iris_desk.specs.AtDesks.{DesksState, AreDesksSound, desk_at, out_of}
use Rattle.iris_desk.specs.declared.out.Doing.TheVariants.{Get}
use Rattle.iris_desk.specs.declared.out.Out.{Out}
use Rattle.iris_desk.specs.Outs.{out_in}
use Rattle.iris_desk.proofs.LookingUp.{listed_is, out_is_at}
use Rattle.iris_desk.proofs.OutLists.{found_listed, found_name}
use Rattle.iris_name.specs.Names.{same_name}
use Rattle.iris_name.specs.NameLaws.{same_name_equiv, same_name-true}
use Rattle.iris_name.specs.declared.name.Name.{Name}
use Rattle.iris_node.specs.declared.node.Node.{Node}
use Rattle.iris_upkeep.specs.Children.{HasHash}
use Rattle.iris_pool.specs.Going.{CanLeave, IsFetched, IsInUse, IsParentOf, IsParentOfAny, IsUsedAs, PageCanLeave}
use Rattle.iris_pool.specs.Pool.{PoolState}

-- ---- at the desks

pub parent_used : (d : DesksState) (n : Name) (node : Node) (who : ℕ) (desk : DeskState) → AreDesksSound d → desk_at d who ≡ Some desk → IsParentOfAny node desk.out → IsUsedAs d n node
parent_used d n node who desk sound at p =
    let e : out_of d p.0.name ≡ Some (who, p.0) = (listed_is d who desk p.0 sound at).0 p.1 in
    inr (p.0.name, subst (λ o. IsSomeAnd o (λ (x : ℕ × Out). x.1.doing ≡ Get)) (sym e) p.2.0, p.2.1)

-- the desk where a name is out, with what is out for it
at_its_desk : (d : DesksState) (m : Name) (w : ℕ) (o : Out) → AreDesksSound d → out_of d m ≡ Some (w, o) → (desk : DeskState) × (desk_at d w ≡ Some desk) × Contains desk.out o × (m ≡ o.name)
at_its_desk d m w o sound at = by (desk_at d w) refl ((out_is_at d m w o sound).0 at) where
  by : (z : Option DeskState) → desk_at d w ≡ z → option_and_then (λ desk. out_in desk.out m) z ≡ Some o → (desk : DeskState) × (desk_at d w ≡ Some desk) × Contains desk.out o × (m ≡ o.name)
  by None is e = absurd (cc)
  by (Some desk) is e = (desk, is, found_listed m o desk.out e, found_name m o desk.out e)

fetched_at : (d : DesksState) (m : Name) → IsFetched d m → (p : ℕ × Out) × (out_of d m ≡ Some p) × (p.1.doing ≡ Get)
fetched_at d m f = by (out_of d m) refl f where
  by : (z : Option (ℕ × Out)) → out_of d m ≡ z → IsSomeAnd z (λ (p : ℕ × Out). p.1.doing ≡ Get) → (p : ℕ × Out) × (out_of d m ≡ Some p) × (p.1.doing ≡ Get)
  by None is f = absurd f
  by (Some p) is f = (p, is, f)

pub not_used : (d : DesksState) (n : Name) (node : Node) (i : ℕ) → AreDesksSound d → out_of d n ≡ None → 17 ≤ i → ((w : ℕ) (desk : DeskState) → w < i → desk_at d w ≡ Some desk → IsParentOfAny node desk.out → ⊥) → IsUsedAs d n node → ⊥
not_used d n node i sound free le none (inl s) = true≢false (sym s ∙ ap (λ (o : Option (ℕ × Out)). is_some o) free)
not_used d n node i sound free le none (inr u) =
    let f = fetched_at d u.0 u.1 in
    let k = at_its_desk d u.0 f.0.0 f.0.1 sound f.1 in
    let w = slice_get_within d.desks f.0.0 k.0 k.1 in
    none f.0.0 k.0 (let s = sound.seats in omega (arith, w, s, le)) k.1 (f.0.1, k.2, (f.2, subst (λ m. HasHash (Holds node m)) k.3 u.2))

-- ---- of what is cached

pub used_as : (p : PoolState) (n : Name) (h : Held) → held_node p.nodes n ≡ Some h → IsInUse p n → IsUsedAs p.desks n h.node
used_as p n h at (inl s) = inl s
used_as p n h at (inr u) = inr (u.0, u.1, subst (λ o. IsSomeAnd o (λ (g : Held). HasHash (Holds g.node u.0))) at u.2)

pub in_use : (p : PoolState) (n : Name) (h : Held) → held_node p.nodes n ≡ Some h → IsUsedAs p.desks n h.node → IsInUse p n
in_use p n h at (inl s) = inl s
in_use p n h at (inr u) = inr (u.0, u.1, subst (λ o. IsSomeAnd o (λ (g : Held). HasHash (Holds g.node u.0))) (sym at) u.2)

pub can_leave : (p : PoolState) (n : Name) (h : Held) → held_node p.nodes n ≡ Some h → is_none (stay_of h) ≡ true → (IsUsedAs p.desks n h.node → ⊥) → CanLeave p n
can_leave p n h at free unused = (goes-free p.nodes n (ap is_free at ∙ free), λ u. unused (used_as p n h at u))

pub leaves_not : (p : PoolState) (n : Name) (h : Held) → held_node p.nodes n ≡ Some h → IsUsedAs p.desks n h.node → CanLeave p n → ⊥
leaves_not p n h at used leave = leave.1 (in_use p n h at used)

pub stays_not : (p : PoolState) (n : Name) (h : Held) → held_node p.nodes n ≡ Some h → is_none (stay_of h) ≡ false → CanLeave p n → ⊥
stays_not p n h at stay leave = true≢false (sym (free-goes p.nodes n leave.0) ∙ ap is_free at ∙ stay)

leaver : (p : PoolState) (n : Name) → CanLeave p n → (h : Held) × (held_node p.nodes n ≡ Some h)
leaver p n leave = by (held_node p.nodes n) refl leave.0 where
  by : (o : Option Held) → held_node p.nodes n ≡ o → IsSomeAnd o (λ (h : Held). stay_of h ≡ None) → (h : Held) × (held_node p.nodes n ≡ Some h)
  by None is s = absurd s
  by (Some h) is s = (h, is)

-- where none of the cached leaves, none does
pub none_cached : (p : PoolState) (i : ℕ) → length p.nodes.nodes ≤ i → ((k : ℕ) (e : Name × Held) → k < i → slice_get p.nodes.nodes k ≡ Some e → CanLeave p e.0 → ⊥) → (n : Name) → CanLeave p n → ⊥
none_cached p i le none n leave =
    let h = leaver p n leave in
    let k = place_from_lookup (same_name n) p.nodes.nodes h.0 h.1 in
    let w = slice_get_within p.nodes.nodes k.0 (k.1, h.0) k.2 in
    none k.0 (k.1, h.0) (omega (arith, w, le)) k.2 (subst (CanLeave p) (same_name-true n k.1 k.3) leave)

-- a name that passes is one of the list
listed : (ks : List Name) (n : Name) → list_any (same_name n) ks ≡ true → (k : ℕ) × (slice_get ks k ≡ Some n)
listed [] n e = absurd (true≢false (sym e))
listed (x ∷ ks) n e = by (same_name n x) refl e (listed ks n) where
  by : (b : Bool) → same_name n x ≡ b → (b || list_any (same_name n) ks) ≡ true → (list_any (same_name n) ks ≡ true → (k : ℕ) × (slice_get ks k ≡ Some n)) → (k : ℕ) × (slice_get (x ∷ ks) k ≡ Some n)
  by true s e f = (0, ap (λ m. Some m) (sym (same_name-true n x s)))
  by false s e f = let g = f e in (suc g.0, g.1)

pub none_named : (p : PoolState) (ks : List Name) (i : ℕ) → ((n : Name) → list_any (same_name n) ks ≡ is_free (held_node p.nodes n)) → length ks ≤ i → ((k : ℕ) (n : Name) → k < i → slice_get ks k ≡ Some n → CanLeave p n → ⊥) → (n : Name) → CanLeave p n → ⊥
none_named p ks i names le none n leave =
    let k = listed ks n (names n ∙ free-goes p.nodes n leave.0) in
    let w = slice_get_within ks k.0 n k.1 in
    none k.0 n (omega (arith, w, le)) k.1 leave

-- ---- of the resident blocks

pub page_leaves : (p : PoolState) (i : ℕ) (n : Name) (h : PageHeld) → ArePagesSound p.pages → slice_get p.pages.pages i ≡ Some (n, h) → page_stay_of h ≡ None → out_of p.desks n ≡ None → PageCanLeave p n
page_leaves p i n h sound at stay free = (subst (λ o. IsSomeAnd o (λ (g : PageHeld). page_stay_of g ≡ None)) (sym (lookup_from_place same_name_equiv p.pages.pages i n h sound.once at)) stay, free)

pub no_page : (p : PoolState) (first end i : ℕ) → ((k : ℕ) (n : Name) (h : PageHeld) → slice_get p.pages.pages k ≡ Some (n, h) → ((first ≤ k) × (k < end)) ↔ (page_stay_of h ≡ None)) → end ≤ i
    → ((k : ℕ) (n : Name) (h : PageHeld) → first ≤ k → k < i → slice_get p.pages.pages k ≡ Some (n, h) → out_of p.desks n ≡ None → ⊥) → (n : Name) → PageCanLeave p n → ⊥
no_page p first end i idle le none n leave = by (held_page p.pages n) refl leave.0 where
  by : (o : Option PageHeld) → held_page p.pages n ≡ o → IsSomeAnd o (λ (g : PageHeld). page_stay_of g ≡ None) → ⊥
  by None is s = s
  by (Some h) is s =
      let k = place_from_lookup (same_name n) p.pages.pages h is in
      let r = (idle k.0 k.1 h k.2).1 s in
      none k.0 k.1 h r.0 (let lt = r.1 in omega (arith, lt, le)) k.2 (ap (out_of p.desks) (sym (same_name-true n k.1 k.3)) ∙ leave.1)

-- ---- loops

-- none of the first, and not the next
pub none_more : {A : Type 0} (P : A → Type 0) (xs : List A) (i : ℕ) (x : A) → slice_get xs i ≡ Some x → ((k : ℕ) (y : A) → k < i → slice_get xs k ≡ Some y → P y → ⊥) → (P x → ⊥)
    → (k : ℕ) (y : A) → k < i + 1 → slice_get xs k ≡ Some y → P y → ⊥
none_more P xs i x at none not k y lt is = elim (cases_lt k i) [
  | inl below ↦ none k y below is
  | inr ge ↦ (let e : k ≡ i = omega (arith, lt, ge) in λ h. not (subst P (the (sym is ∙ ap (λ j. slice_get xs j) e ∙ at)) h))
] where
  the : Some y ≡ Some x → y ≡ x
  the e = cc

pub some_parent : (node : Node) (outs : List Out) (i : ℕ) (x : Out) → i < length outs → x ≡ get_or outs i x → IsParentOf node x → IsParentOfAny node outs
some_parent node outs i x lt is p = (x, (i, lt, sym is), p)

pub no_parent : (node : Node) (outs : List Out) (i : ℕ) → length outs ≤ i → ((k : ℕ) (o : Out) → k < i → slice_get outs k ≡ Some o → IsParentOf node o → ⊥) → IsParentOfAny node outs → ⊥
no_parent node outs i le none p = none p.1.0 p.0 (let lt = p.1.1 in omega (arith, lt, le)) (slice_get_read outs (length outs) p.1.0 p.0 refl p.1.1 (sym p.1.2)) p.2

pub absent_leaves_not : (p : PoolState) (n : Name) → held_node p.nodes n ≡ None → CanLeave p n → ⊥
absent_leaves_not p n none leave = let h = leaver p n leave in true≢false (ap (λ (o : Option Held). is_some o) (sym h.1 ∙ none))

pub none_free : (o : Option (ℕ × Out)) (r : Option ℕ) {b : Bool} → b ≡ is_some r → b ≡ false → IfNone r (o ≡ None) → o ≡ None
none_free o None test none free = free
none_free o (Some w) test none free = absurd (true≢false (sym test ∙ none))

pub when_none : (P : Type 0) (r : Option ℕ) {b : Bool} → is_some r ≡ not b → b ≡ true → IfNone r P → P
when_none P None test none free = free
when_none P (Some w) test none free = absurd (true≢false (test ∙ ap not none))
