-- A node in which a directory has something else inside: what changes lies above that directory.
use Rattle.std.proofs.Common.{◌≡◌, ◌||◌, ◌==◌, inl, inr, ℕ, Bool, true, false, if◌then◌else◌, List, Some, refl, ap, sym, ◌∙◌, subst, true≢false, is_some}
use Rattle.std.specs.Option.{option_map}
use Rattle.std.proofs.lemmas.Bool.{eqb-true}
use Rattle.iris_name.specs.Names.{same_name}
use Rattle.iris_name.specs.NameLaws.{same_name-true, same_name-refl}
use Rattle.iris_name.specs.declared.name.Name.{Name}
use Rattle.iris_name.specs.declared.name.Name.TheVariants as name
use Rattle.iris_node.specs.Local.{FolderAt, LeafAt, local, led, even}
use Rattle.iris_node.specs.Trees.{Shown, IsTree, IsParent, IsAbove, node_name}
use Rattle.iris_node.specs.Unfolded.{Unfolded, Absent, Folder, Leaf, Even, Split, Stored, id_of, blocks}
use Rattle.iris_treepaths.specs.Counts.{count_of, with_blocks, counted_lead}
use Rattle.iris_treepaths.specs.Lags.{IsUpFrom}
use Rattle.iris_treepaths.specs.Planted.{IsOver, next, far}
use Rattle.iris_treepaths.specs.Rows.{refilled}
use Rattle.iris_treepaths.proofs.Sizes.{never_over, over_parent, over_lined}
use Rattle.iris_treepaths.proofs.There.{one_of}
use Rattle.iris_cache.proofs.Rising.{or-split}
use Rattle.iris_cache.proofs.Hangs.{or-parts}

-- whether the directory of an id lies at or below
abbrev pub lies : ℕ → Unfolded → Bool
lies i (Folder id label less more kept) = (id == i) || (lies i less || (lies i more || lies i kept))
lies i (Leaf id label less more length counter versions) = lies i less || lies i more
lies i Absent = false
lies i (Even version) = false
lies i (Split file level index low high) = false
lies i (Stored version bytes) = false

-- where it doesn't lie there, nothing changes
pub untouched : (i : ℕ) (inside u : Unfolded) → lies i u ≡ false → refilled i inside u ≡ u
untouched i inside (Folder id label less more kept) h =
    let a = or-parts (id == i) (lies i less || (lies i more || lies i kept)) h in
    let b = or-parts (lies i less) (lies i more || lies i kept) a.1 in
    let c = or-parts (lies i more) (lies i kept) b.1 in
    let l = untouched i inside less b.0 in
    let m = untouched i inside more c.0 in
    let k : (if id == i then inside else refilled i inside kept) ≡ kept = ap (λ x. if x then inside else refilled i inside kept) a.0 ∙ untouched i inside kept c.1 in
    λ x. Folder id label (l x) (m x) (k x)
untouched i inside (Leaf id label less more length counter versions) h =
    let a = or-parts (lies i less) (lies i more) h in
    let l = untouched i inside less a.0 in
    let m = untouched i inside more a.1 in
    λ x. Leaf id label (l x) (m x) length counter versions
untouched i inside Absent h = refl
untouched i inside (Even version) h = refl
untouched i inside (Split file level index low high) h = refl
untouched i inside (Stored version bytes) h = refl

pub refilled_name : (i : ℕ) (inside u : Unfolded) → node_name (refilled i inside u) ≡ node_name u
refilled_name i inside (Folder id label less more kept) = refl
refilled_name i inside (Leaf id label less more length counter versions) = refl
refilled_name i inside Absent = refl
refilled_name i inside (Even version) = refl
refilled_name i inside (Split file level index low high) = refl
refilled_name i inside (Stored version bytes) = refl

-- where a directory lies there is an entry
pub lies_named : (i : ℕ) (u : Unfolded) → lies i u ≡ true → (m : Name) × (node_name u ≡ Some m)
lies_named i (Folder id label less more kept) h = (name.Entry (id_of id), refl)
lies_named i (Leaf id label less more length counter versions) h = (name.Entry (id_of id), refl)
lies_named i Absent h = absurd (true≢false (sym h))
lies_named i (Even version) h = absurd (true≢false (sym h))
lies_named i (Split file level index low high) h = absurd (true≢false (sym h))
lies_named i (Stored version bytes) h = absurd (true≢false (sym h))

module _ (t : Shown) (tree : IsTree t) (i : ℕ) (inside : Unfolded) where
  -- from a child in which the directory lies, up to its parent
  step : (n m : Name) (u w : Unfolded) → t n ≡ Some u → IsAbove u w → node_name w ≡ Some m → IsUpFrom t (name.Entry (id_of i)) m → IsOver t n (name.Entry (id_of i))
  step n m u w live above named up =
      let parent : IsParent t n m = record { parent = u; child = w; live = live; above = above; named = named } in
      elim up [ inl e ↦ subst (IsOver t n) e (next n m parent) | inr o ↦ through n m (name.Entry (id_of i)) parent o ]
    where
      through : (p q d : Name) → IsParent t p q → IsOver t q d → IsOver t p d
      through p _ _ parent (next q d h) = far p q d h (next p q parent)
      through p _ _ parent (far q r d h o) = far p r d h (through p q r parent o)

  -- a live node in which the directory lies is the directory's, or stands above it
  Up : Unfolded → Type 0
  Up u = (n : Name) → lies i u ≡ true → node_name u ≡ Some n → t n ≡ Some (refilled i inside u) → IsUpFrom t (name.Entry (id_of i)) n

  -- the same of what stands directly below a live node
  lies-below : (w : Unfolded) → Up w → (n : Name) (u : Unfolded) → lies i w ≡ true → t n ≡ Some u → IsAbove u (refilled i inside w) → IsOver t n (name.Entry (id_of i))
  unfolding Up
  lies-below w ih n u h live above =
      let m = lies_named i w h in
      let named = refilled_name i inside w ∙ m.1 in
      step n m.0 u (refilled i inside w) live above named (ih m.0 h m.1 (tree.below n m.0 u (refilled i inside w) live above named))

  folder-up : (id : ℕ) (label : List ℕ) (less more kept : Unfolded) → Up less → Up more → Up kept → (b : Bool) → (id == i) ≡ b → Up (Folder id label less more kept)
  unfolding Up
  folder-up id label less more kept f g k true e n h named live = inl (sym (one_of (name.Entry (id_of id)) n named) ∙ ap (λ x. name.Entry (id_of x)) (eqb-true id i e))
  folder-up id label less more kept f g k false e n h named live =
      let u = refilled i inside (Folder id label less more kept) in
      elim (or-split (lies i less) (lies i more || lies i kept) (ap (λ x. x || (lies i less || (lies i more || lies i kept))) (sym e) ∙ h)) [
        | inl x ↦ inr (lies-below less f n u x live (inl refl))
        | inr y ↦ elim (or-split (lies i more) (lies i kept) y) [
          | inl x ↦ inr (lies-below more g n u x live (inr (inl refl)))
          | inr x ↦ inr (lies-below kept k n u x live (inr (inr (ap (λ z. if z then inside else refilled i inside kept) (sym e)))))
        ]
      ]

  leaf-up : (id : ℕ) (label : List ℕ) (less more : Unfolded) (length counter : ℕ) (versions : Unfolded) → Up less → Up more → Up (Leaf id label less more length counter versions)
  unfolding Up
  leaf-up id label less more length counter versions f g n h named live =
      let u = refilled i inside (Leaf id label less more length counter versions) in
      elim (or-split (lies i less) (lies i more) h) [
        | inl x ↦ inr (lies-below less f n u x live (inl refl))
        | inr x ↦ inr (lies-below more g n u x live (inr (inl refl)))
      ]

  none-up : (u : Unfolded) → lies i u ≡ false → Up u
  unfolding Up
  none-up u e n h named live = absurd (true≢false (sym h ∙ e))

  all-up : (u : Unfolded) → Up u
  all-up (Folder id label less more kept) = folder-up id label less more kept (all-up less) (all-up more) (all-up kept) (id == i) refl
  all-up (Leaf id label less more length counter versions) = leaf-up id label less more length counter versions (all-up less) (all-up more)
  all-up Absent = none-up Absent refl
  all-up (Even version) = none-up (Even version) refl
  all-up (Split file level index low high) = none-up (Split file level index low high) refl
  all-up (Stored version bytes) = none-up (Stored version bytes) refl

  pub lies_up : (u : Unfolded) (n : Name) → lies i u ≡ true → node_name u ≡ Some n → t n ≡ Some (refilled i inside u) → IsUpFrom t (name.Entry (id_of i)) n
  unfolding Up
  lies_up u = all-up u

  pub lies_over : (w : Unfolded) (n : Name) (u : Unfolded) → lies i w ≡ true → t n ≡ Some u → IsAbove u (refilled i inside w) → IsOver t n (name.Entry (id_of i))
  lies_over w = lies-below w (all-up w)

  -- no node between a child and its parent
  none-between : (m p q : Name) → IsOver t m q → IsParent t p q → IsParent t p m → ⊥
  none-between m p q o pq pm = elim (over_parent t tree m q p o pq) [
    | inl e ↦ never_over t tree p m (next p m pm) (sym e)
    | inr x ↦ never_over t tree m m (far m p m pm x) refl
  ]

  -- two children of a node that stand above one name are one
  pub one_child : (d p m q : Name) → IsParent t p m → IsParent t p q → IsUpFrom t d m → IsUpFrom t d q → m ≡ q
  one_child d p m q pm pq (inl e) (inl f) = e ∙ sym f
  one_child d p m q pm pq (inl e) (inr o) = absurd (none-between q p m (subst (IsOver t q) (sym e) o) pm pq)
  one_child d p m q pm pq (inr o) (inl f) = absurd (none-between m p q (subst (IsOver t m) (sym f) o) pq pm)
  one_child d p m q pm pq (inr o) (inr r) = elim (over_lined t tree m q d o r) [
    | inl e ↦ e
    | inr x ↦ elim x [ inl y ↦ absurd (none-between m p q y pq pm) | inr y ↦ absurd (none-between q p m y pm pq) ]
  ]

  -- a link to what may have changed, with the count of the one on the way
  module _ (q : Name) where
    lead-by : (id : ℕ) (w : Unfolded) (b : Bool) → same_name (name.Entry (id_of id)) q ≡ b → t (name.Entry (id_of id)) ≡ Some (refilled i inside w) → (lies i w ≡ true → name.Entry (id_of id) ≡ q)
        → blocks (refilled i inside w) ≡ (if b then count_of (t q) else blocks w)
    lead-by id w true e live only = sym (ap count_of live) ∙ ap (λ n. count_of (t n)) (same_name-true (name.Entry (id_of id)) q e)
    lead-by id w false e live only = ap blocks (untouched i inside w (by (lies i w) refl))
      where
        by : (x : Bool) → lies i w ≡ x → lies i w ≡ false
        by true l = absurd (true≢false (sym (same_name-refl (name.Entry (id_of id))) ∙ ap (same_name (name.Entry (id_of id))) (only l) ∙ e))
        by false l = l

    pub lead_counted : (w : Unfolded) → ((m : Name) → node_name w ≡ Some m → t m ≡ Some (refilled i inside w)) → ((m : Name) → node_name w ≡ Some m → lies i w ≡ true → m ≡ q)
        → led (refilled i inside w) ≡ counted_lead q (count_of (t q)) (led w)
    lead_counted (Folder id label less more kept) live only =
        let w = Folder id label less more kept in
        ap (λ k. Some (record { id = id; blocks = k })) (lead-by id w (same_name (name.Entry (id_of id)) q) refl (live (name.Entry (id_of id)) refl) (only (name.Entry (id_of id)) refl))
    lead_counted (Leaf id label less more length counter versions) live only =
        let w = Leaf id label less more length counter versions in
        ap (λ k. Some (record { id = id; blocks = k })) (lead-by id w (same_name (name.Entry (id_of id)) q) refl (live (name.Entry (id_of id)) refl) (only (name.Entry (id_of id)) refl))
    lead_counted Absent live only = refl
    lead_counted (Even version) live only = refl
    lead_counted (Split file level index low high) live only = refl
    lead_counted (Stored version bytes) live only = refl

  -- what a refilled node says by itself, where it stands above the directory
  pub refilled_counts : (v : Unfolded) (p q : Name) → t p ≡ Some (refilled i inside v) → node_name v ≡ Some p → (p ≡ name.Entry (id_of i) → ⊥) → IsParent t p q → IsUpFrom t (name.Entry (id_of i)) q
      → local (refilled i inside v) ≡ option_map (with_blocks q (count_of (t q))) (local v)
  refilled_counts (Folder id label less more kept) p q live named apart parent up =
      let u = refilled i inside (Folder id label less more kept) in
      let k = count_of (t q) in
      let a = lead_counted q less (λ m e. tree.below p m u (refilled i inside less) live (inl refl) (refilled_name i inside less ∙ e))
      (λ m e l. one_child (name.Entry (id_of i)) p m q (record { parent = u; child = refilled i inside less; live = live; above = inl refl; named = refilled_name i inside less ∙ e }) parent
      (lies_up less m l e (tree.below p m u (refilled i inside less) live (inl refl) (refilled_name i inside less ∙ e))) up) in
      let b = lead_counted q more (λ m e. tree.below p m u (refilled i inside more) live (inr (inl refl)) (refilled_name i inside more ∙ e))
      (λ m e l. one_child (name.Entry (id_of i)) p m q (record { parent = u; child = refilled i inside more; live = live; above = inr (inl refl); named = refilled_name i inside more ∙ e }) parent
      (lies_up more m l e (tree.below p m u (refilled i inside more) live (inr (inl refl)) (refilled_name i inside more ∙ e))) up) in
      let f : (id == i) ≡ false = other id p named apart in
      let g : (if id == i then inside else refilled i inside kept) ≡ refilled i inside kept = ap (λ z. if z then inside else refilled i inside kept) f in
      let c = lead_counted q kept (λ m e. tree.below p m u (refilled i inside kept) live (inr (inr (sym g))) (refilled_name i inside kept ∙ e))
      (λ m e l. one_child (name.Entry (id_of i)) p m q (record { parent = u; child = refilled i inside kept; live = live; above = inr (inr (sym g)); named = refilled_name i inside kept ∙ e }) parent
      (lies_up kept m l e (tree.below p m u (refilled i inside kept) live (inr (inr (sym g))) (refilled_name i inside kept ∙ e))) up) in
      let h = ap led g ∙ c in
      λ x. Some (FolderAt id label (a x) (b x) (h x))
    where
      other : (id : ℕ) (p : Name) → Some (name.Entry (id_of id)) ≡ Some p → (p ≡ name.Entry (id_of i) → ⊥) → (id == i) ≡ false
      other id p named apart = by (id == i) refl
        where
          by : (b : Bool) → (id == i) ≡ b → (id == i) ≡ false
          by true e = absurd (apart (sym (one_of (name.Entry (id_of id)) p named) ∙ ap (λ x. name.Entry (id_of x)) (eqb-true id i e)))
          by false e = e
  refilled_counts (Leaf id label less more length counter versions) p q live named apart parent up =
      let u = refilled i inside (Leaf id label less more length counter versions) in
      let a = lead_counted q less (λ m e. tree.below p m u (refilled i inside less) live (inl refl) (refilled_name i inside less ∙ e))
      (λ m e l. one_child (name.Entry (id_of i)) p m q (record { parent = u; child = refilled i inside less; live = live; above = inl refl; named = refilled_name i inside less ∙ e }) parent
      (lies_up less m l e (tree.below p m u (refilled i inside less) live (inl refl) (refilled_name i inside less ∙ e))) up) in
      let b = lead_counted q more (λ m e. tree.below p m u (refilled i inside more) live (inr (inl refl)) (refilled_name i inside more ∙ e))
      (λ m e l. one_child (name.Entry (id_of i)) p m q (record { parent = u; child = refilled i inside more; live = live; above = inr (inl refl); named = refilled_name i inside more ∙ e }) parent
      (lies_up more m l e (tree.below p m u (refilled i inside more) live (inr (inl refl)) (refilled_name i inside more ∙ e))) up) in
      λ x. Some (LeafAt id label (a x) (b x) length counter (even versions))
  refilled_counts Absent p q live named apart parent up = absurd (true≢false (sym (ap is_some named)))
  refilled_counts (Even version) p q live named apart parent up = absurd (true≢false (sym (ap is_some named)))
  refilled_counts (Split file level index low high) p q live named apart parent up = refl
  refilled_counts (Stored version bytes) p q live named apart parent up = absurd (true≢false (sym (ap is_some named)))
