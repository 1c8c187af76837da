-- A node or a page leaves the pool: what is seen of it, and that the pool stays one.
use Rattle.std.proofs.Common.{◌≡◌, inl, inr, ◌==◌, ◌^◌, ℕ, Bool, true, false, not, cond, List, Option, Some, None, refl, ap, sym, ◌∙◌, subst, arith, true≢false, is_some}
use Rattle.std.specs.Prelude.{IsSome, IsSomeAnd, nat_lt}
use Rattle.std.specs.Int.Bits.{and_zero_l}
use Rattle.std.proofs.lemmas.Bool.{cases_lt, lt-ltb}
use Rattle.iris_blocks.specs.declared.held.PageHeld.{PageHeld}
use Rattle.iris_blocks.specs.Held.{page_stay_by}
use Rattle.iris_blocks.specs.Paged.{held_page, IsBlock}
use Rattle.iris_cache.specs.declared.held.Held.{Held}
use Rattle.iris_cache.specs.Held.{kid_less, points, stay_by, stay_of}
use Rattle.iris_cache.specs.Resident.{Resident, IsSoundCache, held_node, map_if, resident_parent}
use Rattle.iris_desk.specs.AtDesks.{out_of, is_doomed}
use Rattle.iris_desk.specs.declared.out.Out as pending
use Rattle.iris_invariant.specs.Agrees.{Out}
use Rattle.iris_invariant.specs.Cells.{cell_at, cell_of, dirty_in, has_pin}
use Rattle.iris_invariant.specs.Events.{Elsewhere, Evicted}
use Rattle.iris_name.specs.Names.{same_name}
use Rattle.iris_name.specs.NameLaws.{same_name-true, same_name-refl}
use Rattle.iris_name.specs.declared.name.Name.{Name}
use Rattle.iris_name.specs.declared.name.Name.TheVariants.{Entry, Part, Block}
use Rattle.iris_pool.specs.Changes.{NodeGoes}
use Rattle.iris_pool.specs.Going.{CanLeave}
use Rattle.iris_pool.specs.Pool.{PoolState}
use Rattle.iris_pool.specs.View.{IsPool, out_by, out_seen, is_pinned_for, pinned_node_in, pool_view}
use Rattle.iris_pool.proofs.LandedDrafts.{name_of_node}
use Rattle.iris_pool.proofs.StayingPool.{KeepsFlags, keeps_pool, same_places}

stay_parts : (o d k p : Bool) → stay_by o d k p ≡ None → (o ≡ false) × (d ≡ false) × (p ≡ false)
stay_parts true d k p e = absurd (cc)
stay_parts false true k p e = absurd (cc)
stay_parts false false true p e = absurd (cc)
stay_parts false false false true e = absurd (cc)
stay_parts false false false false e = (refl, refl, refl)

pub page_stay_parts : (o d p : Bool) → page_stay_by o d p ≡ None → (o ≡ false) × (d ≡ false) × (p ≡ false)
page_stay_parts true d p e = absurd (cc)
page_stay_parts false true p e = absurd (cc)
page_stay_parts false false true e = absurd (cc)
page_stay_parts false false false e = (refl, refl, refl)

not_above : (n : ℕ) → nat_lt 0 n ≡ false → n ≡ 0
not_above n e = elim (cases_lt 0 n) [
  | inl lt ↦ absurd (true≢false (sym (lt-ltb 0 n lt) ∙ e))
  | inr ge ↦ omega (arith, ge)
]

pub no_pin : (w pins : ℕ) → nat_lt 0 pins ≡ false → has_pin w pins ≡ false
no_pin w pins e = ap (has_pin w) (not_above pins e) ∙ ap (λ b. not (b == 0)) (and_zero_l (2 ^ w))

-- what may be held that keeps nothing
module _ {A : Type 0} (P : A → Type 0) where
  pub held_there : (o : Option A) → IsSomeAnd o P → (h : A) × (o ≡ Some h) × P h
  held_there None s = absurd s
  held_there (Some h) s = (h, refl, s)

none_not : {A : Type 0} (o : Option A) → (IsSome o → ⊥) → o ≡ None
none_not None f = refl
none_not (Some x) f = absurd (f refl)

-- ---- a node goes

less_cell : (b doomed : Bool) (o : Option Held) (out : Option Out) → cell_of (map_if b kid_less o) doomed out ≡ cell_of o doomed out
less_cell true doomed None out = refl
less_cell true doomed (Some h) out = refl
less_cell false doomed o out = refl

less_pinned : (b : Bool) (w : ℕ) (o : Option Held) → pinned_node_in w (map_if b kid_less o) ≡ pinned_node_in w o
less_pinned true w None = refl
less_pinned true w (Some h) = refl
less_pinned false w o = refl

less_none : (b : Bool) (o : Option Held) → map_if b kid_less o ≡ None → o ≡ None
less_none true None e = refl
less_none true (Some h) e = absurd (cc)
less_none false o e = e

less_some : (b : Bool) (o : Option Held) (h : Held) → map_if b kid_less o ≡ Some h → (g : Held) × (o ≡ Some g) × KeepsFlags g h
less_some true None h e = absurd (cc)
less_some true (Some g) h e = let k : kid_less g ≡ h = cc in (g, refl, (ap (λ (x : Held). x.out) (sym k), ap (λ (x : Held). x.touched) (sym k)))
less_some false None h e = absurd (cc)
less_some false (Some g) h e = let k : g ≡ h = cc in (g, refl, (ap (λ (x : Held). x.out) (sym k), ap (λ (x : Held). x.touched) (sym k)))

cell_elsewhere : (q : Name) (b doomed : Bool) (o : Option Held) (page : Option PageHeld) (out : Option Out) → cell_at q (map_if b kid_less o) page doomed out ≡ cell_at q o page doomed out
cell_elsewhere (Entry i) b doomed o page out = less_cell b doomed o out
cell_elsewhere (Part f l i) b doomed o page out = less_cell b doomed o out
cell_elsewhere (Block f s) b doomed o page out = refl

module _ (p : PoolState) (e : Resident) (n : Name) (cache : IsSoundCache p.nodes) (leave : CanLeave p n) (goes : NodeGoes p (record p { nodes = e }) n) where
  there : (h : Held) × (held_node p.nodes n ≡ Some h) × (stay_of h ≡ None)
  there = held_there (λ (h : Held). stay_of h ≡ None) (held_node p.nodes n) leave.0

  parts : (is_some there.0.out ≡ false) × (there.0.dirty ≡ false) × (nat_lt 0 there.0.pins ≡ false)
  unfolding there
  parts = stay_parts (is_some there.0.out) there.0.dirty (nat_lt 0 there.0.kids) (nat_lt 0 there.0.pins) there.2

  free : out_of p.desks n ≡ None
  free = none_not (out_of p.desks n) (λ s. leave.1 (inl s))

  node_name : IsBlock n → ⊥
  unfolding there
  node_name block = name_of_node there.0.node (subst IsBlock (sym (cache.own n there.0 there.1)) block)

  gone : held_node e n ≡ None
  gone = goes n ∙ ap (λ b. map_if (points (resident_parent p.nodes n) n) kid_less (cond b None (held_node p.nodes n))) (same_name-refl n) ∙ by (points (resident_parent p.nodes n) n) where
    by : (b : Bool) → map_if b kid_less None ≡ None
    by true = refl
    by false = refl

  other : (m : Name) → same_name n m ≡ false → held_node e m ≡ map_if (points (resident_parent p.nodes n) m) kid_less (held_node p.nodes m)
  other m s = goes m ∙ ap (λ b. map_if (points (resident_parent p.nodes n) m) kid_less (cond b None (held_node p.nodes m))) s

  -- what is held after was held, with what is out
  was_held : (m : Name) (h : Held) → held_node e m ≡ Some h → (g : Held) × (held_node p.nodes m ≡ Some g) × KeepsFlags g h
  was_held m h at = by (same_name n m) refl where
    by : (b : Bool) → same_name n m ≡ b → (g : Held) × (held_node p.nodes m ≡ Some g) × KeepsFlags g h
    by true s = let z : None ≡ Some h = sym gone ∙ ap (held_node e) (same_name-true n m s) ∙ at in absurd (cc)
    by false s = less_some (points (resident_parent p.nodes n) m) (held_node p.nodes m) h (sym (other m s) ∙ at)

  -- what is absent after was so, or is the one that goes
  was_absent : (m : Name) → same_name n m ≡ false → held_node e m ≡ None → held_node p.nodes m ≡ None
  was_absent m s none = less_none (points (resident_parent p.nodes n) m) (held_node p.nodes m) (sym (other m s) ∙ none)

  pins_elsewhere : (w : ℕ) (m : Name) → same_name n m ≡ false → is_pinned_for (record p { nodes = e }) w m ≡ is_pinned_for p w m
  pins_elsewhere w (Entry i) s = ap (pinned_node_in w) (other (Entry i) s) ∙ less_pinned (points (resident_parent p.nodes n) (Entry i)) w (held_node p.nodes (Entry i))
  pins_elsewhere w (Part f l i) s = ap (pinned_node_in w) (other (Part f l i) s) ∙ less_pinned (points (resident_parent p.nodes n) (Part f l i)) w (held_node p.nodes (Part f l i))
  pins_elsewhere w (Block f b) s = refl

  -- of the one that goes
  clean : dirty_in (held_node p.nodes n) ≡ false
  unfolding there parts
  clean = ap dirty_in there.1 ∙ parts.1

  unpinned : (w : ℕ) → pinned_node_in w (held_node p.nodes n) ≡ false
  unfolding there parts
  unpinned w = ap (pinned_node_in w) there.1 ∙ no_pin w there.0.pins parts.2

  idle : (key : List ℕ) → out_seen key p.desks n ≡ None
  idle key = ap (out_by key p.desks) free

  rest : (key : List ℕ) → Elsewhere n (pool_view key p) (pool_view key (record p { nodes = e }))
  rest key = record {
    cell = λ m s. ap (λ o. cell_at m o (held_page p.pages m) (is_doomed p.desks m) (out_seen key p.desks m)) (other m s)
        ∙ cell_elsewhere m (points (resident_parent p.nodes n) m) (is_doomed p.desks m) (held_node p.nodes m) (held_page p.pages m) (out_seen key p.desks m);
    asked = λ w. refl;
    kept = λ w m s. refl;
    pinned = pins_elsewhere;
  }

  evicted_as : (key : List ℕ) (m : Name) → m ≡ n → Evicted m (pool_view key p) (pool_view key (record p { nodes = e }))
  evicted_as key (Block f s) is = absurd (node_name (subst IsBlock is tt))
  evicted_as key (Entry i) is = record {
    rest = subst (λ m. Elsewhere m (pool_view key p) (pool_view key (record p { nodes = e }))) (sym is) (rest key);
    pins = record { kept = λ w. refl; pinned = λ w. ap (λ m. pinned_node_in w (held_node e m)) is ∙ ap (pinned_node_in w) gone ∙ sym (ap (λ m. pinned_node_in w (held_node p.nodes m)) is ∙ unpinned w) };
    clean = ap (λ m. dirty_in (held_node p.nodes m)) is ∙ clean;
    idle = ap (out_seen key p.desks) is ∙ idle key;
    unpinned = λ w. ap (λ m. pinned_node_in w (held_node p.nodes m)) is ∙ unpinned w;
    resident = ap (λ m. is_some (held_node e m)) is ∙ ap (λ (o : Option Held). is_some o) gone;
    dirty = ap (λ m. dirty_in (held_node e m)) is ∙ ap dirty_in gone;
    doomed = refl;
    out = ap (out_seen key p.desks) is ∙ idle key;
  }
  evicted_as key (Part f l i) is = record {
    rest = subst (λ m. Elsewhere m (pool_view key p) (pool_view key (record p { nodes = e }))) (sym is) (rest key);
    pins = record { kept = λ w. refl; pinned = λ w. ap (λ m. pinned_node_in w (held_node e m)) is ∙ ap (pinned_node_in w) gone ∙ sym (ap (λ m. pinned_node_in w (held_node p.nodes m)) is ∙ unpinned w) };
    clean = ap (λ m. dirty_in (held_node p.nodes m)) is ∙ clean;
    idle = ap (out_seen key p.desks) is ∙ idle key;
    unpinned = λ w. ap (λ m. pinned_node_in w (held_node p.nodes m)) is ∙ unpinned w;
    resident = ap (λ m. is_some (held_node e m)) is ∙ ap (λ (o : Option Held). is_some o) gone;
    dirty = ap (λ m. dirty_in (held_node e m)) is ∙ ap dirty_in gone;
    doomed = refl;
    out = ap (out_seen key p.desks) is ∙ idle key;
  }

  pub evicted : (key : List ℕ) → Evicted n (pool_view key p) (pool_view key (record p { nodes = e }))
  evicted key = evicted_as key n refl

  -- the pool stays one
  pub is_pool : IsPool p → e.room ≡ p.nodes.room → IsPool (record p { nodes = e })
  is_pool pool room = keeps_pool p e pool (λ m h at. inl (was_held m h at)) (λ m who o at none. (was_absent m (by m who o at (same_name n m) refl) none, same_places p.nodes e room m)) where
    by : (m : Name) (who : ℕ) (o : pending.Out) → out_of p.desks m ≡ Some (who, o) → (b : Bool) → same_name n m ≡ b → b ≡ false
    by m who o at false s = refl
    by m who o at true s = absurd (true≢false (ap (λ (x : Option (ℕ × pending.Out)). is_some x) (sym at ∙ ap (out_of p.desks) (sym (same_name-true n m s)) ∙ free)))
