-- Once both roots are settled, every cached node is; each cell is as it was but for the mark that it is settled; and the hashes that
-- are kept of the roots are true.
use Rattle.std.proofs.Common.{◌≡◌, ◌⊎◌, inl, inr, ℕ, zero, suc, Bool, true, false, Option, Some, None, refl, ap, sym, ◌∙◌, subst, true≢false, is_some}
use Rattle.std.specs.Prelude.{IfSome, IsSomeAnd}
use Rattle.std.specs.Option.{option_map}
use Rattle.iris_cache.proofs.Rising.{above-none, above-same, or-left, or-right}
use Rattle.iris_cache.specs.Applied.{is_above_within}
use Rattle.iris_cache.specs.declared.held.Held.{Held}
use Rattle.iris_cache.specs.Laws.{AreFormed}
use Rattle.iris_cache.specs.Pictures.{IsHashOf, IsSettled, Pictures}
use Rattle.iris_cache.specs.Resident.{held_node, parent_in, resident_parent}
use Rattle.iris_forest.proofs.NodesWithTrueHashes.{settled_is_true}
use Rattle.iris_name.specs.declared.name.Hash32.{Hash32}
use Rattle.iris_name.specs.declared.name.Name.{Name}
use Rattle.iris_name.specs.declared.name.Name.TheVariants.{Entry}
use Rattle.iris_name.specs.NameLaws.{same_name_equiv}
use Rattle.iris_name.specs.Names.{same_name}
use Rattle.iris_node.specs.Trees.{Shown, IsParent, IsTree}
use Rattle.iris_node.specs.Unfolded.{hash, id_of}
use Rattle.iris_pool.specs.Pool.{PoolState}
use Rattle.iris_standing.proofs.RootsAbove.{below_root}
use Rattle.iris_standing.specs.Calls.{SettlesBoth, SettlesRoot, kept_hash}
use Rattle.iris_treepaths.specs.Rows.{IsRooted}
use Rattle.iris_upkeep.specs.Marks.{HasMark, IsAtOrBelow, IsMarked, PicturesTree}
use Rattle.iris_upkeep.specs.SettlesInto.{SettlesInto, StaysOrIsTold}
use Rattle.iris_upkeep.specs.declared.descent.What.TheVariants.{Unsettled}

abbrev visible_root : Name
visible_root = Entry (id_of 0)

abbrev trash_root : Name
trash_root = Entry (id_of 1)

-- what settling leaves was held, with the same parent
parent_kept : (g h : Option Held) → SettlesInto g h → parent_in h ≡ parent_in g
parent_kept None None s = refl
parent_kept None (Some h) s = absurd s
parent_kept (Some g) None s = absurd s
parent_kept (Some g) (Some h) s = ap (λ (k : Held). k.parent) s.0

record IsHeldBefore (g : Option Held) (h : Held) : Type 0 where
  was : Held
  at : g ≡ Some was
  settled : was.settled ≡ true → h.settled ≡ true

held_before : (g o : Option Held) (h : Held) → SettlesInto g o → o ≡ Some h → IsHeldBefore g h
held_before None None h s e = absurd (true≢false (sym (ap (λ (o : Option Held). is_some o) e)))
held_before None (Some x) h s e = absurd s
held_before (Some g) None h s e = absurd s
held_before (Some g) (Some x) h s e = record { was = g; at = refl; settled = λ b. let f = s.1.1 b in cc }

-- the hash that is told is that of the node there
told_of : (o : Option Held) (y : Hash32) → option_map (λ (h : Held). hash h.node) o ≡ Some y → (h : Held) × (o ≡ Some h) × (Some (hash h.node) ≡ Some y)
told_of None y e = absurd (true≢false (sym (ap (λ (o : Option Hash32). is_some o) e)))
told_of (Some h) y e = (h, refl, e)

-- what isn't marked as unsettled is settled, or absent
settled_unless : (o : Option Held) → ((h : Held) → o ≡ Some h → h.settled ≡ false → ⊥) → IsSettled o
settled_unless None f = tt
settled_unless (Some h) f = by h.settled refl where
  by : (b : Bool) → h.settled ≡ b → h.settled ≡ true
  by true e = e
  by false e = absurd (f h refl e)

unsettled_marked : (p : PoolState) (root : Name) (h : Held) → held_node p.nodes root ≡ Some h → h.settled ≡ false → IsMarked Unsettled p.nodes root
unsettled_marked p root h e s = subst (λ (o : Option Held). IsSomeAnd o (HasMark Unsettled)) (sym e) s

module _ (t : Shown) (tree : IsTree t) (formed : AreFormed t) where
  abbrev pictured : (p : PoolState) → Pictures t p.nodes → PicturesTree p.nodes
  pictured p pic = (t, pic, (tree, formed))

  -- one root
  module _ (root : Name) (p q : PoolState) (told : Option Hash32) (s : SettlesRoot root p q told) (pic : Pictures t p.nodes) where
    told_hash : (y : Hash32) → option_map (λ (h : Held). hash h.node) (held_node q.nodes root) ≡ Some y → IsHashOf (t root) y
    told_hash y e v live =
        let h = told_of (held_node q.nodes root) y e in
        let below : (n : Name) (g : Held) → held_node q.nodes n ≡ Some g → g.parent ≡ Some root → g.settled ≡ true = λ n g at of.
        let up : resident_parent p.nodes n ≡ Some root = sym (parent_kept (held_node p.nodes n) (held_node q.nodes n) (s.nodes n)) ∙ ap parent_in at ∙ of in
        s.settled (pictured p pic) n g (child_below n up) at in
        ap (option_map hash) (settled_is_true t q.nodes root v h.0 (s.pictures t pic tree formed) tree formed h.1 live below) ∙ h.2
      where
        child_below : (n : Name) → resident_parent p.nodes n ≡ Some root → IsAtOrBelow p.nodes n root
        child_below n up = (
          2,
          or-right (same_name n root) (is_above_within (resident_parent p.nodes) 1 (resident_parent p.nodes n) root)
              (ap (λ o. is_above_within (resident_parent p.nodes) 1 o root) up ∙ or-left (same_name root root) false (same_name_equiv.refl root)),
        )

    pub hash_kept : (x : Hash32) → (IsSettled (held_node p.nodes root) → IsHashOf (t root) x) → IsHashOf (t root) (kept_hash told x)
    hash_kept x f = by told s.tells s.some where
      by : (o : Option Hash32) → IfSome o (λ y. option_map (λ (h : Held). hash h.node) (held_node q.nodes root) ≡ Some y) → (PicturesTree p.nodes → IsMarked Unsettled p.nodes root → is_some o ≡ true) → IsHashOf (t root) (kept_hash o x)
      by None e some = f (settled_unless (held_node p.nodes root) (λ h at un. true≢false (sym (some (pictured p pic) (unsettled_marked p root h at un)))))
      by (Some y) e some = told_hash y e

  -- both roots
  module _ (rooted : IsRooted t) (top : (p : Name) → IsParent t p visible_root → ⊥) (top_of_trash : (p : Name) → IsParent t p trash_root → ⊥)
      (p q : PoolState) (visible trash : Option Hash32) (s : SettlesBoth p q visible trash) (pic : Pictures t p.nodes) where
    picture_between : Pictures t s.middle.nodes
    picture_between = s.first.pictures t pic tree formed

    pub picture_settled : Pictures t q.nodes
    picture_settled = s.second.pictures t picture_between tree formed

    same_parents : (n : Name) → resident_parent p.nodes n ≡ resident_parent s.middle.nodes n
    same_parents n = sym (parent_kept (held_node p.nodes n) (held_node s.middle.nodes n) (s.first.nodes n))

    still_below : (n r : Name) → IsAtOrBelow p.nodes n r → IsAtOrBelow s.middle.nodes n r
    still_below n r b = (b.0, sym (above-same (resident_parent p.nodes) (resident_parent s.middle.nodes) same_parents b.0 (Some n) r) ∙ b.1)

    pub all_settled : (n : Name) (h : Held) → held_node q.nodes n ≡ Some h → h.settled ≡ true
    all_settled n h at = by (below_root t p.nodes pic tree rooted n before.was before.at) where
      between : IsHeldBefore (held_node s.middle.nodes n) h
      between = held_before (held_node s.middle.nodes n) (held_node q.nodes n) h (s.second.nodes n) at

      before : IsHeldBefore (held_node p.nodes n) between.was
      before = held_before (held_node p.nodes n) (held_node s.middle.nodes n) between.was (s.first.nodes n) between.at

      by : IsAtOrBelow p.nodes n visible_root ⊎ IsAtOrBelow p.nodes n trash_root → h.settled ≡ true
      by (inl b) = between.settled (s.first.settled (pictured p pic) n between.was b between.at)
      by (inr b) = s.second.settled (pictured s.middle picture_between) n h (still_below n trash_root b) at

    pub visible_hash : (x : Hash32) → (IsSettled (held_node p.nodes visible_root) → IsHashOf (t visible_root) x) → IsHashOf (t visible_root) (kept_hash visible x)
    visible_hash x f = hash_kept visible_root p s.middle visible s.first pic x f

    -- no root has a parent
    parentless : (r : Name) → ((p : Name) → IsParent t p r → ⊥) → resident_parent p.nodes r ≡ None
    parentless r none = by (held_node p.nodes r) refl where
      by : (o : Option Held) → held_node p.nodes r ≡ o → parent_in o ≡ None
      by None e = refl
      by (Some h) e = by_parent h.parent refl where
        by_parent : (a : Option Name) → h.parent ≡ a → a ≡ None
        by_parent None f = refl
        by_parent (Some b) f = absurd (none b (pic.tied r b h e f))

    not_below : IsAtOrBelow p.nodes trash_root visible_root → ⊥
    not_below b = go b.0 b.1 where
      go : (k : ℕ) → is_above_within (resident_parent p.nodes) k (Some trash_root) visible_root ≡ true → ⊥
      go zero e = true≢false (sym e)
      go (suc k) e = true≢false (sym e ∙ ap (λ o. is_above_within (resident_parent p.nodes) k o visible_root) (parentless trash_root top_of_trash) ∙ above-none (resident_parent p.nodes) k visible_root)

    trash_stays : held_node s.middle.nodes trash_root ≡ held_node p.nodes trash_root
    trash_stays = by (s.first.elsewhere (pictured p pic) trash_root not_below) where
      by : StaysOrIsTold p.nodes s.middle.nodes visible_root trash_root → held_node s.middle.nodes trash_root ≡ held_node p.nodes trash_root
      by (inl e) = e
      by (inr w) = absurd (true≢false (sym (ap (λ (o : Option Name). is_some o) (sym (parentless visible_root top) ∙ w.0))))

    pub trash_hash : (x : Hash32) → (IsSettled (held_node p.nodes trash_root) → IsHashOf (t trash_root) x) → IsHashOf (t trash_root) (kept_hash trash x)
    trash_hash x f = hash_kept trash_root s.middle q trash s.second picture_between x (λ b. f (subst IsSettled trash_stays b))
