-- Where the count of a child is right already, so are all above.
use Rattle.std.proofs.Common.{◌≡◌, ◌⊎◌, ◌+◌, inl, inr, ℕ, zero, suc, Bool, true, false, if◌then◌else◌, Option, Some, None, refl, ap, sym, ◌∙◌, subst, length, true≢false, is_some}
use Rattle.std.specs.Prelude.{IsSome}
use Rattle.std.specs.Option.{option_map}
use Rattle.iris_name.specs.Names.{same_name}
use Rattle.iris_name.specs.NameLaws.{same_name-true, same_name-refl}
use Rattle.iris_name.specs.declared.name.Name.{Name}
use Rattle.iris_name.specs.declared.name.Name.TheVariants as name
use Rattle.iris_node.specs.Local.{FolderAt, LeafAt, local, local_of, led, even}
use Rattle.iris_node.specs.Trees.{Shown, IsTree, IsParent, IsAbove, node_name, said}
use Rattle.iris_node.specs.Unfolded.{Unfolded, Absent, Folder, Leaf, Even, Split, Stored, id_of, blocks}
use Rattle.iris_cache.specs.Applied.{is_above_within}
use Rattle.iris_cache.specs.Resident.{Resident}
use Rattle.iris_cache.specs.Drafted.{Drafted, seen}
use Rattle.iris_cache.specs.Pictures.{parent_after}
use Rattle.iris_cache.proofs.Rising.{above-none, or-split}
use Rattle.iris_cache.proofs.Ways.{over-met}
use Rattle.iris_treepaths.specs.Counts.{count_of, with_blocks, counted_lead, HasChildCount, Recounts}
use Rattle.iris_treepaths.specs.Hands.{Holding}
use Rattle.iris_treepaths.specs.Lags.{Lags, IsUpFrom}
use Rattle.iris_treepaths.specs.Planted.{IsOver, next, far}
use Rattle.iris_treepaths.specs.Rows.{Row, IsCountable}
use Rattle.iris_treepaths.proofs.Recounts.{like_said, said_like, said_counted, over_top, out_none, climbed, parent_made, right_said}
use Rattle.iris_treepaths.proofs.CountsUp.{Climbing, step-up, at-parent}
use Rattle.iris_treepaths.proofs.Sizes.{never_over, over_parent}
use Rattle.iris_treepaths.proofs.There.{got, is_there, one_of}

-- ---- counts of a tree are right in it

lead-by : (s : Shown) (m : Name) (id : ℕ) (w : Unfolded) (b : Bool) → same_name (name.Entry (id_of id)) m ≡ b → s (name.Entry (id_of id)) ≡ Some w → (if b then count_of (s m) else blocks w) ≡ blocks w
lead-by s m id w true e live = ap (λ n. count_of (s n)) (sym (same_name-true (name.Entry (id_of id)) m e)) ∙ ap count_of live
lead-by s m id w false e live = refl

lead-same : (s : Shown) (m : Name) (w : Unfolded) → ((n : Name) → node_name w ≡ Some n → s n ≡ Some w) → counted_lead m (count_of (s m)) (led w) ≡ led w
lead-same s m (Folder id label less more kept) live =
    ap (λ k. Some (record { id = id; blocks = k })) (lead-by s m id (Folder id label less more kept) (same_name (name.Entry (id_of id)) m) refl (live (name.Entry (id_of id)) refl))
lead-same s m (Leaf id label less more size counter versions) live =
    ap (λ k. Some (record { id = id; blocks = k })) (lead-by s m id (Leaf id label less more size counter versions) (same_name (name.Entry (id_of id)) m) refl (live (name.Entry (id_of id)) refl))
lead-same s m Absent live = refl
lead-same s m (Even version) live = refl
lead-same s m (Split file level index low high) live = refl
lead-same s m (Stored version bytes) live = refl

node-same : (s : Shown) → IsTree s → (q m : Name) (v : Unfolded) → s q ≡ Some v → option_map (with_blocks m (count_of (s m))) (local v) ≡ local v
node-same s tree q m (Folder id label less more kept) live =
    let v = Folder id label less more kept in
    let a = lead-same s m less (λ n e. tree.below q n v less live (inl refl) e) in
    let b = lead-same s m more (λ n e. tree.below q n v more live (inr (inl refl)) e) in
    let k = lead-same s m kept (λ n e. tree.below q n v kept live (inr (inr refl)) e) in
    λ x. Some (FolderAt id label (a x) (b x) (k x))
node-same s tree q m (Leaf id label less more size counter versions) live =
    let v = Leaf id label less more size counter versions in
    let a = lead-same s m less (λ n e. tree.below q n v less live (inl refl) e) in
    let b = lead-same s m more (λ n e. tree.below q n v more live (inr (inl refl)) e) in
    λ x. Some (LeafAt id label (a x) (b x) size counter (even versions))
node-same s tree q m Absent live = refl
node-same s tree q m (Even version) live = refl
node-same s tree q m (Split file level index low high) live = refl
node-same s tree q m (Stored version bytes) live = refl

shown-same : (s : Shown) → IsTree s → (q m : Name) → option_map (with_blocks m (count_of (s m))) (said (s q)) ≡ said (s q)
shown-same s tree q m = by (s q) refl
  where
    by : (o : Option Unfolded) → s q ≡ o → option_map (with_blocks m (count_of (s m))) (said (s q)) ≡ said (s q)
    by None live = ap (λ o. option_map (with_blocks m (count_of (s m))) (said o)) live ∙ sym (ap said live)
    by (Some v) live = ap (λ o. option_map (with_blocks m (count_of (s m))) (said o)) live ∙ node-same s tree q m v live ∙ sym (ap said live)

above-said : (u w : Unfolded) → IsAbove u w → IsSome (local u)
above-said (Folder id label less more kept) w h = refl
above-said (Leaf id label less more size counter versions) w h = refl
above-said (Split g level index low high) w h = refl
above-said Absent w h = absurd h
above-said (Even version) w h = absurd h
above-said (Stored version bytes) w h = absurd h

parent-said : (s : Shown) (q m : Name) → IsParent s q m → IsSome (said (s q))
parent-said s q m h = subst (λ o. IsSome (said o)) (sym h.live) (above-said h.parent h.child h.above)

module _ (old new made : Shown) (hand : Option Row) (p : Name) (e : Drafted) (c : Resident) (is : IsTree new) (made_is : IsTree made) (lags : Lags old new made hand p e c) where
  abbrev over : Name → Option Name
  over = parent_after e c

  -- ---- what is said above

  up-same : (q m : Name) → IsParent made q m → IsUpFrom made p m → said (made m) ≡ said (new m) → IsSome (said (made m)) → said (made q) ≡ said (new q)
  up-same q m parent way same there =
      let l = got (said (made m)) there in
      let k : count_of (made m) ≡ count_of (new m) = said_counted (made m) l.0 l.1 ∙ sym (said_counted (new m) l.0 (sym same ∙ l.1)) in
      lags.counts q m parent way ∙ ap (λ n. option_map (with_blocks m n) (said (new q))) k ∙ shown-same new is q m

  all-same : (n m : Name) → IsOver made n m → IsUpFrom made p m → said (made m) ≡ said (new m) → IsSome (said (made m)) → said (made n) ≡ said (new n)
  all-same _ _ (next n m h) way same there = up-same n m h way same there
  all-same _ _ (far n q m h o) way same there = all-same n q o (inr (up-way m q h way)) (up-same q m h way same there) (parent-said made q m h)
    where
      up-way : (m q : Name) → IsParent made q m → IsUpFrom made p m → IsOver made q p
      up-way m q h (inl x) = subst (IsOver made q) x (next q m h)
      up-way m q h (inr x) = through m q p h x
        where
          through : (m q r : Name) → IsParent made q m → IsOver made m r → IsOver made q r
          through _ q _ h (next m r k) = far q m r k (next q m h)
          through _ q _ h (far m s r k o) = far q s r k (through m q s h o)

  -- ---- which names stand above

  over-way : (n m : Name) → IsOver made n m → IsSome (seen e c m) → (k : ℕ) × (is_above_within over k (Some m) n ≡ true)
  over-way _ _ (next n m h) s = let g = got (seen e c m) s in (2, at-parent over m n ((lags.parents m n g.0 g.1 h).0))
  over-way _ _ (far n q m h o) s =
      let g = got (seen e c m) s in
      let x = lags.parents m q g.0 g.1 h in
      let r = over-way n q o x.1 in
      (suc r.0, step-up over r.0 m q n x.0 r.1)

  Decided : Name → Name → Type 0
  Decided n m = IsOver made n m ⊎ (IsOver made n m → ⊥)

  decide-up : (k : ℕ) (m q n : Name) → IsSome (seen e c m) → over m ≡ Some q → is_above_within over k (Some q) n ≡ true → (IsSome (seen e c q) → Decided n q) → Decided n m
  unfolding Decided
  decide-up k m q n s up way rest =
      let g = got (seen e c m) s in
      elim (lags.tied m q g.0 g.1 up) [
        | inl parent ↦ by (same_name q n) refl parent (rest (lags.parents m q g.0 g.1 parent).1)
        | inr below ↦ inr (λ o.
            (let r = over_top made n m o in
            let x = lags.parents m r.0 g.0 g.1 r.1 in
            let f : r.0 ≡ q = one_of r.0 q (sym x.0 ∙ up) in
            true≢false (sym (ap is_some (sym (ap made f ∙ out_none hand made q m below lags.out) ∙ r.1.live)))))
      ]
    where
      by : (b : Bool) → same_name q n ≡ b → IsParent made q m → IsOver made n q ⊎ (IsOver made n q → ⊥) → IsOver made n m ⊎ (IsOver made n m → ⊥)
      by true f parent h = inl (subst (λ z. IsOver made z m) (same_name-true q n f) (next q m parent))
      by false f parent (inl o) = inl (far n q m parent o)
      by false f parent (inr free) = inr (λ o. elim (over_parent made made_is n m q o parent) [ inl z ↦ true≢false (sym (ap (same_name q) z ∙ same_name-refl q) ∙ f) | inr z ↦ free z ])

  decide : (k : ℕ) (m n : Name) → IsSome (seen e c m) → is_above_within over k (Some m) n ≡ true → Decided n m
  unfolding Decided
  decide zero m n s way = absurd (true≢false (sym way))
  decide (suc k) m n s way = by (λ q. decide k q n) (or-split (same_name m n) (is_above_within over k (over m) n) way) (over m) refl
    where
      by : ((q : Name) → IsSome (seen e c q) → is_above_within over k (Some q) n ≡ true → Decided n q) → (same_name m n ≡ true) ⊎ (is_above_within over k (over m) n ≡ true) → (o : Option Name) → over m ≡ o → IsOver made n m ⊎ (IsOver made n m → ⊥)
      by rest (inl x) o up = inr (λ h. never_over made made_is n m h (sym (same_name-true m n x)))
      by rest (inr x) None up = absurd (true≢false (sym x ∙ ap (λ z. is_above_within over k z n) up ∙ above-none over k n))
      by rest (inr x) (Some q) up = let w = ap (λ z. is_above_within over k z n) (sym up) ∙ x in decide-up k m q n s up w (λ t. rest q t w)

  decided : (n : Name) → Decided n p
  unfolding Decided
  decided n = by (is_above_within over (length c.nodes + length e.changes + 1) (Some p) n) refl
    where
      by : (b : Bool) → is_above_within over (length c.nodes + length e.changes + 1) (Some p) n ≡ b → IsOver made n p ⊎ (IsOver made n p → ⊥)
      by true h = decide (length c.nodes + length e.changes + 1) p n lags.there h
      by false h = inr (λ o. true≢false (sym (over-met e c p n (over-way n p o lags.there)) ∙ h))

  right : said (made p) ≡ said (new p) → Holding old made hand e c
  unfolding Decided
  right same =
      let g = got (seen e c p) lags.there in
      let like = lags.nodes p g.0 g.1 (λ o. never_over made made_is p p o refl) in
      let there : IsSome (said (made p)) = is_there (said (made p)) (local_of g.0) (like_said (made p) g.0 like) in
      record {
        before = lags.before;
        nodes = λ n k s. elim (decided n) [
          | inl o ↦ said_like (made n) k (all-same n p o (inl refl) same there ∙ like_said (new n) k (lags.above n k s o))
          | inr free ↦ lags.nodes n k s free
        ];
        hashes = lags.hashes;
        parents = lags.parents;
        tied = lags.tied;
        hangs = lags.hangs;
        gone = lags.gone;
        away = lags.away;
        resident = lags.resident;
        out = lags.out;
      }

-- where the child says what it said, nothing lags
pub right_above : (old new made : Shown) (hand : Option Row) (p : Name) (e : Drafted) (c : Resident) → IsTree new → IsTree made → Lags old new made hand p e c → said (made p) ≡ said (new p) → Holding old made hand e c
right_above old new made hand p e c is made_is lags same = right old new made hand p e c is made_is lags same

-- the way up ends where the parent has the child's count already
pub stops : (d : Drafted) (c : Resident) (start : Name) (most k : ℕ) (e f : Drafted) (at p : Name) → Climbing d c start most k e at → parent_after e c at ≡ Some p → IsSome (seen e c p) → Recounts at p e f c → HasChildCount at p e c
    → (old new made : Shown) (hand : Option Row) → IsTree new → IsTree made → IsCountable made → Lags old new made hand start d c → Holding old made hand f c
stops d c start most k e f at p so up sees step right old new made hand is made_is countable lags =
    let x = (so.lags old new made hand made_is countable lags).0 in
    let parent = parent_made old new made hand at p e c made_is x up sees in
    right_above old new made hand p f c is made_is (climbed old new made hand at p e f c made_is countable x parent sees step) (right_said old new made hand at p e f c made_is countable x parent sees step right)
