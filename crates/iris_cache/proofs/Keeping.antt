-- A cache goes on picturing a table where nodes come and go.
use Rattle.std.proofs.Common.{◌≡◌, ◌≤◌, ◌⊎◌, inl, inr, Bool, true, false, cond, ℕ, Option, Some, None, IsSome, refl, ap, sym, ◌∙◌, subst, arith, true≢false, is_some}
use Rattle.std.specs.Prelude.{unwrap_or as option_unwrap_or, nat_lt}
use Rattle.std.proofs.lemmas.Map.Entries.{sum_by-remove_entry}
use Rattle.iris_name.specs.Names.{same_name}
use Rattle.iris_name.specs.NameLaws.{same_name_equiv, same_name-true}
use Rattle.iris_name.specs.declared.name.Name.{Name}
use Rattle.iris_name.specs.declared.name.Hash32.{Hash32}
use Rattle.iris_node.specs.declared.node.Node.{Node}
use Rattle.iris_cache.specs.declared.held.Held.{Held}
use Rattle.iris_cache.specs.declared.held.Stay.{Stay}
use Rattle.iris_cache.specs.Held.{points, kid_less, kid_more, newcomer_node, stay_by, stay_of}
use Rattle.iris_cache.specs.Resident.{Resident, held_node, children, map_if, resident_parent, IsSoundCache}
use Rattle.iris_cache.specs.Laws.{AlikeKeeps, AreAlike, EvictKeeps, InsertKeeps}
use Rattle.iris_node.specs.Trees.{Shown, IsParent}
use Rattle.iris_cache.specs.Pictures.{Pictures, IsSettled, IsHashOf, IsLike, Holds}
use Rattle.iris_cache.proofs.Counts.{weight}
use Rattle.iris_cache.proofs.HeldChanges.{one}
use Rattle.iris_cache.proofs.Hangs.{not-above}

-- a node with a resident child counts it
child-counts : (c : Resident) (n q : Name) (g : Held) → held_node c q ≡ Some g → g.parent ≡ Some n → 1 ≤ children c n
child-counts c n q g at of =
    let e = sum_by-remove_entry (one n) (same_name q) c.nodes in
    let w : weight (one n) (held_node c q) ≡ 1 = ap (weight (one n)) at ∙ ap (λ p. cond (points p n) 1 0) of ∙ ap (λ (b : Bool). cond b 1 0) (same_name_equiv.refl n) in
    omega (arith, e, w)

no-kids-by : (a b k p : Bool) → stay_by a b k p ≡ None → k ≡ false
no-kids-by true b k p e = absurd (true≢false (ap (λ (x : Option Stay). is_some x) e))
no-kids-by false true k p e = absurd (true≢false (ap (λ (x : Option Stay). is_some x) e))
no-kids-by false false true p e = absurd (true≢false (ap (λ (x : Option Stay). is_some x) e))
no-kids-by false false false p e = refl

record Kept (t : Bool) (o : Option Held) (h : Held) : Type 0 where
  was : Held
  at : o ≡ Some was
  stays : t ≡ false
  node : h.node ≡ was.node
  parent : h.parent ≡ was.parent
  settled : h.settled ≡ was.settled

kept-in : (b : Bool) (g h : Held) → map_if b kid_less (Some g) ≡ Some h → Kept false (Some g) h
kept-in true g h is = let e : kid_less g ≡ h = ap (λ (x : Option Held). option_unwrap_or x g) is in
    record { was = g; at = refl; stays = refl; node = ap (λ (x : Held). x.node) (sym e); parent = ap (λ (x : Held). x.parent) (sym e); settled = ap (λ (x : Held). x.settled) (sym e) }
kept-in false g h is = let e : g ≡ h = ap (λ (x : Option Held). option_unwrap_or x g) is in
    record { was = g; at = refl; stays = refl; node = ap (λ (x : Held). x.node) (sym e); parent = ap (λ (x : Held). x.parent) (sym e); settled = ap (λ (x : Held). x.settled) (sym e) }

none-some : (o : Option Held) (h : Held) → o ≡ None → o ≡ Some h → ⊥
none-some o h a b = true≢false (ap (λ (x : Option Held). is_some x) (sym b ∙ a))

kept : (b t : Bool) (o : Option Held) (h : Held) → map_if b kid_less (cond t None o) ≡ Some h → Kept t o h
kept true true o h is = absurd (none-some (map_if true kid_less None) h refl is)
kept false true o h is = absurd (none-some None h refl is)
kept true false None h is = absurd (none-some (map_if true kid_less None) h refl is)
kept false false None h is = absurd (none-some None h refl is)
kept b false (Some g) h is = kept-in b g h is

still : (b t : Bool) (o : Option Held) → t ≡ false → IsSome o → IsSome (map_if b kid_less (cond t None o))
still b t None e s = absurd (true≢false (sym s))
still true t (Some g) e s = ap (λ x. is_some (map_if true kid_less (cond x None (Some g)))) e
still false t (Some g) e s = ap (λ x. is_some (map_if false kid_less (cond x None (Some g)))) e

known-back : (b t : Bool) (o : Option Held) → IsSettled (map_if b kid_less (cond t None o)) → (t ≡ true → IsSettled o) → IsSettled o
known-back b true o k f = f refl
known-back true false None k f = tt
known-back false false None k f = tt
known-back true false (Some g) k f = k
known-back false false (Some g) k f = k

module _ (shown : Shown) (c e : Resident) (n : Name) (h0 : Held) (pictures : Pictures shown c) (sound : IsSoundCache c) (at : held_node c n ≡ Some h0) (free : stay_of h0 ≡ None) (settled : h0.settled ≡ true)
    (is : (q : Name) → held_node e q ≡ map_if (points (resident_parent c n) q) kid_less (cond (same_name n q) None (held_node c q))) where
  back : (q : Name) (h : Held) → held_node e q ≡ Some h → Kept (same_name n q) (held_node c q) h
  back q h s = kept (points (resident_parent c n) q) (same_name n q) (held_node c q) h (sym (is q) ∙ s)

  childless : (q : Name) (g : Held) → held_node c q ≡ Some g → g.parent ≡ Some n → ⊥
  childless q g s of =
      let none : h0.kids ≡ 0 = not-above h0.kids (no-kids-by (is_some h0.out) h0.dirty (nat_lt 0 h0.kids) (nat_lt 0 h0.pins) free) in
      let count = sound.kids n h0 at in
      let some = child-counts c n q g s of in
      omega (arith, none, count, some)

  apart-from : (p : Name) (b : Bool) → same_name n p ≡ b → (n ≡ p → ⊥) → b ≡ false
  apart-from p true s f = absurd (f (same_name-true n p s))
  apart-from p false s f = refl

  known : (m : Name) → IsSettled (held_node e m) → IsSettled (held_node c m)
  known m k = known-back (points (resident_parent c n) m) (same_name n m) (held_node c m) (subst IsSettled (is m) k)
      (λ s. subst (λ (p : Name). IsSettled (held_node c p)) (same_name-true n m s) (subst IsSettled (sym at) settled))

  evicted-keeps : Pictures shown e
  evicted-keeps = record {
    nodes = λ q h s. let b = back q h s in subst (IsLike (shown q)) (sym b.node) (pictures.nodes q b.was b.at);
    hashes = λ q m h x s holds k. let b = back q h s in pictures.hashes q m b.was x b.at (subst (λ v. Holds v m x) b.node holds) (known m k);
    parents = λ q p h s parent.
        let b = back q h s in
        let r = pictures.parents q p b.was b.at parent in
        let apart = apart-from p (same_name n p) refl (λ same. childless q b.was b.at (r.0 ∙ ap Some (sym same))) in
        (b.parent ∙ r.0, subst IsSome (sym (is p)) (still (points (resident_parent c n) p) (same_name n p) (held_node c p) apart r.1));
    tied = λ q p h s of. let b = back q h s in pictures.tied q p b.was b.at (sym b.parent ∙ of);
    rising = λ q p h g s of at-p up-settled.
        let b = back q h s in
        let d = back p g at-p in
        b.settled ∙ pictures.rising q p b.was d.was b.at (sym b.parent ∙ of) d.at (sym d.settled ∙ up-settled);
  }

pub evict-keeps : EvictKeeps
evict-keeps shown c e n h pictures sound at free settled is = evicted-keeps shown c e n h pictures sound at free settled is

-- ---- a node comes
record Came (t : Bool) (v : Held) (o : Option Held) (h : Held) : Type 0 where
  was : Held
  at : ((t ≡ true) × (was ≡ v)) ⊎ (o ≡ Some was)
  node : h.node ≡ was.node
  parent : h.parent ≡ was.parent
  settled : h.settled ≡ was.settled

came-in : (b t : Bool) (g v h : Held) (o : Option Held) → ((t ≡ true) × (g ≡ v)) ⊎ (o ≡ Some g) → map_if b kid_more (Some g) ≡ Some h → Came t v o h
came-in true t g v h o a is = let e : kid_more g ≡ h = ap (λ (x : Option Held). option_unwrap_or x g) is in
    record { was = g; at = a; node = ap (λ (x : Held). x.node) (sym e); parent = ap (λ (x : Held). x.parent) (sym e); settled = ap (λ (x : Held). x.settled) (sym e) }
came-in false t g v h o a is = let e : g ≡ h = ap (λ (x : Option Held). option_unwrap_or x g) is in
    record { was = g; at = a; node = ap (λ (x : Held). x.node) (sym e); parent = ap (λ (x : Held). x.parent) (sym e); settled = ap (λ (x : Held). x.settled) (sym e) }

came : (b t : Bool) (v : Held) (o : Option Held) (h : Held) → map_if b kid_more (cond t (Some v) o) ≡ Some h → Came t v o h
came b true v o h is = came-in b true v v h o (inl (refl, refl)) is
came true false v None h is = absurd (none-some (map_if true kid_more None) h refl is)
came false false v None h is = absurd (none-some None h refl is)
came b false v (Some g) h is = came-in b false g v h (Some g) (inr refl) is

stays : (b t : Bool) (v : Held) (o : Option Held) → IsSome o → IsSome (map_if b kid_more (cond t (Some v) o))
stays b t v None s = absurd (true≢false (sym s))
stays true true v (Some g) s = refl
stays true false v (Some g) s = refl
stays false true v (Some g) s = refl
stays false false v (Some g) s = refl

known-before : (b t : Bool) (v : Held) (o : Option Held) → IsSettled (map_if b kid_more (cond t (Some v) o)) → (t ≡ true → o ≡ None) → IsSettled o
known-before b true v o k f = subst IsSettled (sym (f refl)) tt
known-before true false v None k f = tt
known-before false false v None k f = tt
known-before true false v (Some g) k f = k
known-before false false v (Some g) k f = k

module _ (shown : Shown) (c e : Resident) (n : Name) (parent : Option Name) (node : Node) (who kids : ℕ) (pictures : Pictures shown c) (absent : held_node c n ≡ None)
    (own : IsLike (shown n) node)
    (true-hashes : (m : Name) (x : Hash32) → Holds node m x → IsHashOf (shown m) x)
    (above-it : (p : Name) → IsParent shown p n → (parent ≡ Some p) × IsSome (held_node c p))
    (links-it : (p : Name) → parent ≡ Some p → IsParent shown p n)
    (is : (q : Name) → held_node e q ≡ map_if (points parent q) kid_more (cond (same_name n q) (Some (newcomer_node parent node who kids)) (held_node c q))) where
  since : (q : Name) (h : Held) → held_node e q ≡ Some h → Came (same_name n q) (newcomer_node parent node who kids) (held_node c q) h
  since q h s = came (points parent q) (same_name n q) (newcomer_node parent node who kids) (held_node c q) h (sym (is q) ∙ s)

  known-m : (m : Name) → IsSettled (held_node e m) → IsSettled (held_node c m)
  known-m m k = known-before (points parent m) (same_name n m) (newcomer_node parent node who kids) (held_node c m) (subst IsSettled (is m) k) (λ s. ap (held_node c) (sym (same_name-true n m s)) ∙ absent)

  there-still : (p : Name) → IsSome (held_node c p) → IsSome (held_node e p)
  there-still p s = subst IsSome (sym (is p)) (stays (points parent p) (same_name n p) (newcomer_node parent node who kids) (held_node c p) s)

  nodes-at : (q : Name) (h : Held) → held_node e q ≡ Some h → IsLike (shown q) h.node
  nodes-at q h s = let b = since q h s in
      elim b.at [
        | inl r ↦ subst (IsLike (shown q)) (sym (b.node ∙ ap (λ (x : Held). x.node) r.1)) (subst (λ (p : Name). IsLike (shown p) node) (same_name-true n q r.0) own)
        | inr o ↦ subst (IsLike (shown q)) (sym b.node) (pictures.nodes q b.was o)
      ]

  hashes-at : (q m : Name) (h : Held) (x : Hash32) → held_node e q ≡ Some h → Holds h.node m x → IsSettled (held_node e m) → IsHashOf (shown m) x
  hashes-at q m h x s holds k = let b = since q h s in
      elim b.at [
        | inl r ↦ true-hashes m x (subst (λ y. Holds y m x) (b.node ∙ ap (λ (z : Held). z.node) r.1) holds)
        | inr o ↦ pictures.hashes q m b.was x o (subst (λ y. Holds y m x) b.node holds) (known-m m k)
      ]

  parents-at : (q p : Name) (h : Held) → held_node e q ≡ Some h → IsParent shown p q → (h.parent ≡ Some p) × IsSome (held_node e p)
  parents-at q p h s up-it = let b = since q h s in
      elim b.at [
        | inl r ↦ (let a = above-it p (subst (λ (k : Name). IsParent shown p k) (sym (same_name-true n q r.0)) up-it) in (b.parent ∙ ap (λ (z : Held). z.parent) r.1 ∙ a.0, there-still p a.1))
        | inr o ↦ (let a = pictures.parents q p b.was o up-it in (b.parent ∙ a.0, there-still p a.1))
      ]

  tied-at : (q p : Name) (h : Held) → held_node e q ≡ Some h → h.parent ≡ Some p → IsParent shown p q
  tied-at q p h s of = let b = since q h s in
      elim b.at [
        | inl r ↦ subst (λ (k : Name). IsParent shown p k) (same_name-true n q r.0) (links-it p (sym (b.parent ∙ ap (λ (z : Held). z.parent) r.1) ∙ of))
        | inr o ↦ pictures.tied q p b.was o (sym b.parent ∙ of)
      ]

  -- no resident node has the parent n, which was absent
  orphan : (q : Name) (g : Held) → held_node c q ≡ Some g → g.parent ≡ Some n → ⊥
  orphan q g s of = true≢false (sym ((pictures.parents q n g s (pictures.tied q n g s of)).1) ∙ ap (λ (x : Option Held). is_some x) absent)

  rising-at : (q p : Name) (h g : Held) → held_node e q ≡ Some h → h.parent ≡ Some p → held_node e p ≡ Some g → g.settled ≡ true → h.settled ≡ true
  rising-at q p h g s of at-p settled = let b = since q h s in let d = since p g at-p in
      elim b.at [
        | inl r ↦ b.settled ∙ ap (λ (z : Held). z.settled) r.1
        | inr o ↦ elim d.at [
          | inl r ↦ absurd (orphan q b.was o (sym b.parent ∙ of ∙ ap Some (sym (same_name-true n p r.0))))
          | inr u ↦ b.settled ∙ pictures.rising q p b.was d.was o (sym b.parent ∙ of) u (sym d.settled ∙ settled)
        ]
      ]

  inserted-keeps : Pictures shown e
  inserted-keeps = record { nodes = nodes-at; hashes = hashes-at; parents = parents-at; tied = tied-at; rising = rising-at }

pub insert-keeps : InsertKeeps
insert-keeps t c e n parent node who kids pictures absent own true-hashes above-it links-it is = inserted-keeps t c e n parent node who kids pictures absent own true-hashes above-it links-it is

-- ---- pins, dirty marks and what is out

record Alike (o : Option Held) (h : Held) : Type 0 where
  was : Held
  at : o ≡ Some was
  node : h.node ≡ was.node
  parent : h.parent ≡ was.parent
  settled : h.settled ≡ was.settled

alike-in : (o v : Option Held) (h : Held) → AreAlike o v → v ≡ Some h → Alike o h
alike-in None None h a e = absurd (none-some None h refl e)
alike-in None (Some g) h a e = absurd a
alike-in (Some g) None h a e = absurd a
alike-in (Some g) (Some k) h a e =
    let q : k ≡ h = ap (λ (x : Option Held). option_unwrap_or x k) e in
    subst (Alike (Some g)) q (record { was = g; at = refl; node = a.0; parent = a.1.0; settled = a.1.1 })

alike-there : (o v : Option Held) → AreAlike o v → IsSome o → IsSome v
alike-there None v a s = absurd (true≢false (sym s))
alike-there (Some g) None a s = absurd a
alike-there (Some g) (Some h) a s = refl

alike-settled : (o v : Option Held) → AreAlike o v → IsSettled v → IsSettled o
alike-settled None v a s = tt
alike-settled (Some g) None a s = absurd a
alike-settled (Some g) (Some h) a s = sym a.1.1 ∙ s

pub alike-keeps : AlikeKeeps
alike-keeps t c e pictures alike = record {
  nodes = λ q h s. let b = back q h s in subst (IsLike (t q)) (sym b.node) (pictures.nodes q b.was b.at);
  hashes = λ q m h x s holds k. let b = back q h s in pictures.hashes q m b.was x b.at (subst (λ v. Holds v m x) b.node holds) (alike-settled (held_node c m) (held_node e m) (alike m) k);
  parents = λ q p h s parent. let b = back q h s in let r = pictures.parents q p b.was b.at parent in (b.parent ∙ r.0, alike-there (held_node c p) (held_node e p) (alike p) r.1);
  tied = λ q p h s of. let b = back q h s in pictures.tied q p b.was b.at (sym b.parent ∙ of);
  rising = λ q p h g s of at settled. let b = back q h s in let d = back p g at in b.settled ∙ pictures.rising q p b.was d.was b.at (sym b.parent ∙ of) d.at (sym d.settled ∙ settled);
}
  where
    back : (q : Name) (h : Held) → held_node e q ≡ Some h → Alike (held_node c q) h
    back q h s = alike-in (held_node c q) (held_node e q) h (alike q) s
