-- The versions of a file in a table, as its nodes hold them.
use Rattle.std.proofs.Common.{◌≡◌, ◌⊎◌, ◌+◌, ◌-◌, ◌*◌, ◌≤◌, ◌^◌, inl, inr, ℕ, suc, Option, Some, None, refl, ap, sym, ◌∙◌, subst, arith}
use Rattle.std.specs.Prelude.{IsSomeAnd}
use Rattle.iris_name.specs.declared.name.FileId.{FileId}
use Rattle.iris_name.specs.declared.name.Name.{Name}
use Rattle.iris_name.specs.declared.name.Name.TheVariants as name
use Rattle.iris_node.specs.declared.node.Side.{Side}
use Rattle.iris_node.specs.declared.node.Side.TheVariants.{Fold as Same, Below}
use Rattle.iris_node.specs.declared.node.Body.{Body}
use Rattle.iris_node.specs.declared.node.Body.TheVariants.{Dir, File}
use Rattle.iris_node.specs.declared.node.Node.TheVariants as node
use Rattle.iris_node.specs.Fields.{EntryFields, PartFields}
use Rattle.iris_node.specs.Unfolded.{Unfolded, Absent, Folder, Leaf, Even, Split, Stored, id_of}
use Rattle.iris_node.specs.Local.{even, even_by, local, entry_local}
use Rattle.iris_shape.specs.Folds.{Fold, One, Two, folded}
use Rattle.iris_shape.specs.Sides.{unfolded_side, part_of}
use Rattle.iris_shape.proofs.FoldProofs.{folded_halves}
use Rattle.iris_node.specs.Trees.{Shown, node_name, IsParent}
use Rattle.iris_cache.specs.Pictures.{IsLike}
use Rattle.iris_version_tree.specs.Versions.{HasVersions, IsFileOf, places}
use Rattle.iris_version_tree.specs.Sides.{side_of_body}
use Rattle.iris_version_tree.specs.Reached.{IsTwo, IsSideOf, IsDirectlyOver}
use Rattle.iris_version_tree.proofs.Levels.{fits_up, only_top}

pub side_of : (f l i : ℕ) (g : Fold) (s : Side) → even (unfolded_side f l i g) ≡ even_by s → IsSideOf g s
side_of f l i (One v) (Same w) h = cc
side_of f l i (One v) (Below x) h = cc
side_of f l i (Two a b) (Same w) h = cc
side_of f l i (Two a b) (Below x) h = tt

pub below_two : (g : Fold) (x : _) → IsSideOf g (Below x) → IsTwo g
below_two (One v) x h = absurd h
below_two (Two a b) x h = tt

pub same_one : (g : Fold) (w : ℕ) → IsSideOf g (Same w) → g ≡ One w
same_one (One v) w h = ap One (sym h)
same_one (Two a b) w h = absurd h

-- a part that holds the halves of a range
pub record LikePart (file : FileId) (v : ℕ → ℕ) (k i : ℕ) (p : PartFields) : Type 0 where
  pub file_is : p.file ≡ file
  pub level_is : p.level ≡ suc k
  pub index_is : p.index ≡ i
  pub two : folded v (suc k) i ≡ Two (folded v k (2 * i)) (folded v k (2 * i + 1))
  pub low : IsSideOf (folded v k (2 * i)) p.low
  pub high : IsSideOf (folded v k (2 * i + 1)) p.high

pub halves_of_two : (v : ℕ → ℕ) (k i : ℕ) → IsTwo (folded v (suc k) i) → folded v (suc k) i ≡ Two (folded v k (2 * i)) (folded v k (2 * i + 1))
halves_of_two v k i two = elim (folded_halves v k i) [ inl d ↦ d.1 | inr w ↦ absurd (subst IsTwo w.3 two) ]

like_part : (file : FileId) (v : ℕ → ℕ) (k i : ℕ) (p : PartFields) → (g : Fold) → folded v (suc k) i ≡ g → IsLike (part_of file.0 (suc k) i g) (node.Part p) → LikePart file v k i p
like_part file v k i p (One w) e h = absurd h
like_part file v k i p (Two a b) e h =
    let t = halves_of_two v k i (subst IsTwo (sym e) tt) in
    let ab : Two a b ≡ Two (folded v k (2 * i)) (folded v k (2 * i + 1)) = sym e ∙ t in
    let ea : a ≡ folded v k (2 * i) = cc in
    let eb : b ≡ folded v k (2 * i + 1) = cc in
    let fe : file.0 ≡ p.file.0 = cc in
    let le : suc k ≡ p.level = cc in
    let ie : i ≡ p.index = cc in
    let lo : even (unfolded_side file.0 (suc k - 1) (2 * i) a) ≡ even_by p.low = cc in
    let hi : even (unfolded_side file.0 (suc k - 1) (2 * i + 1) b) ≡ even_by p.high = cc in
    let P : Side → Fold → Type 0 = λ s g. IsSideOf g s in
    record {
      file_is = ap id_of (sym fe);
      level_is = sym le;
      index_is = sym ie;
      two = t;
      low = subst (P p.low) ea (side_of file.0 (suc k - 1) (2 * i) a p.low lo);
      high = subst (P p.high) eb (side_of file.0 (suc k - 1) (2 * i + 1) b p.high hi);
    }

-- what is like a part of a table
pub part_like : (t : Shown) (file : FileId) (v : ℕ → ℕ) (k i : ℕ) (p : PartFields) → HasVersions t file v → (i + 1) * 2 ^ suc k ≤ places → IsLike (t (name.Part file (suc k) i)) (node.Part p) → LikePart file v k i p
part_like t file v k i p has fits like =
    let L : Option Unfolded → Type 0 = λ o. IsLike o (node.Part p) in
    like_part file v k i p (folded v (suc k) i) refl (subst L (has.parts (suc k) i fits) like)

-- no entry is like a part of a table
pub not_entry : (file l i : ℕ) (g : Fold) (e : EntryFields) (b : Body) → IsSomeAnd (part_of file l i g) (λ u. local u ≡ Some (entry_local e b)) → ⊥
not_entry file l i (One v) e b h = h
not_entry file l i (Two x y) e (Dir top) h = cc
not_entry file l i (Two x y) e (File n k s) h = cc

pub never_entry : (t : Shown) (file : FileId) (v : ℕ → ℕ) (l i : ℕ) (e : EntryFields) → HasVersions t file v → (i + 1) * 2 ^ l ≤ places → IsLike (t (name.Part file l i)) (node.Entry e) → ⊥
never_entry t file v l i e has fits like =
    let L : Option Unfolded → Type 0 = λ o. IsLike o (node.Entry e) in
    not_entry file.0 l i (folded v l i) e e.body (subst L (has.parts l i fits) like)

-- an entry that holds the versions of its file
pub record LikeTop (file : ℕ) (g : Fold) (e : EntryFields) (s : Side) : Type 0 where
  pub id_is : e.id.0 ≡ file
  pub like : IsSideOf g s

top_body : (f : ℕ) (g : Fold) (e : EntryFields) (b : Body) (s : Side) (id : ℕ) (label : _) (less more : Unfolded) (size counter : ℕ) (kept : Unfolded)
    → id ≡ f → kept ≡ unfolded_side f 16 0 g → local (Leaf id label less more size counter kept) ≡ Some (entry_local e b) → side_of_body b ≡ Some s → LikeTop f g e s
top_body f g e (Dir top) s id label less more size counter kept fe ke h is = cc
top_body f g e (File n k versions) s id label less more size counter kept fe ke h is =
    let ie : id ≡ e.id.0 = cc in
    let ve : even kept ≡ even_by versions = cc in
    let se : versions ≡ s = cc in
    record { id_is = sym ie ∙ fe; like = side_of f 16 0 g s (sym (ap even ke) ∙ ve ∙ ap even_by se) }

pub like_top : (o : Option Unfolded) (f : ℕ) (g : Fold) (e : EntryFields) (s : Side) → IsFileOf f (unfolded_side f 16 0 g) o → IsLike o (node.Entry e) → side_of_body e.body ≡ Some s → LikeTop f g e s
like_top None f g e s at like is = absurd at
like_top (Some (Leaf id label less more size counter kept)) f g e s at like is = top_body f g e e.body s id label less more size counter kept at.0 at.1 like is
like_top (Some (Folder id label less more inside)) f g e s at like is = absurd at
like_top (Some Absent) f g e s at like is = absurd at
like_top (Some (Even w)) f g e s at like is = absurd at
like_top (Some (Split h l i a b)) f g e s at like is = absurd at
like_top (Some (Stored w bytes)) f g e s at like is = absurd at

-- ---- parents

side_name : (f l i : ℕ) (g : Fold) → IsTwo g → node_name (unfolded_side f l i g) ≡ Some (name.Part (id_of f) l i)
side_name f l i (One v) h = absurd h
side_name f l i (Two a b) h = refl

top_parent : (t : Shown) (file : FileId) (g : Fold) (o : Option Unfolded) → t (name.Entry file) ≡ o → IsFileOf file.0 (unfolded_side file.0 16 0 g) o → IsTwo g → IsParent t (name.Entry file) (name.Part file 16 0)
top_parent t file g None e at two = absurd at
top_parent t file g (Some (Leaf id label less more size counter kept)) e at two =
    record { parent = Leaf id label less more size counter kept; child = kept; live = e; above = inr (inr refl); named = ap node_name at.1 ∙ side_name file.0 16 0 g two }
top_parent t file g (Some (Folder id label less more inside)) e at two = absurd at
top_parent t file g (Some Absent) e at two = absurd at
top_parent t file g (Some (Even w)) e at two = absurd at
top_parent t file g (Some (Split h l i a b)) e at two = absurd at
top_parent t file g (Some (Stored w bytes)) e at two = absurd at

pub two_above : (v : ℕ → ℕ) (l j : ℕ) → IsTwo (folded v l (2 * j)) ⊎ IsTwo (folded v l (2 * j + 1)) → folded v (suc l) j ≡ Two (folded v l (2 * j)) (folded v l (2 * j + 1))
two_above v l j two = elim (folded_halves v l j) [
  | inl d ↦ d.1
  | inr w ↦ elim two [ inl a ↦ absurd (subst IsTwo w.1 a) | inr b ↦ absurd (subst IsTwo w.2 b) ]
]

module _ (t : Shown) (file : FileId) (v : ℕ → ℕ) (has : HasVersions t file v) (l j : ℕ) (fits : (j + 1) * 2 ^ suc l ≤ places) where
  low_parent : IsTwo (folded v l (2 * j)) → IsParent t (name.Part file (suc l) j) (name.Part file l (2 * j))
  low_parent two =
      let e = two_above v l j (inl two) in
      let z : suc l - 1 ≡ l = omega arith in
      record {
        parent = unfolded_side file.0 (suc l) j (Two (folded v l (2 * j)) (folded v l (2 * j + 1)));
        child = unfolded_side file.0 (suc l - 1) (2 * j) (folded v l (2 * j));
        live = has.parts (suc l) j fits ∙ ap (part_of file.0 (suc l) j) e;
        above = inl refl;
        named = side_name file.0 (suc l - 1) (2 * j) (folded v l (2 * j)) two ∙ ap (λ k. Some (name.Part file k (2 * j))) z;
      }

  high_parent : IsTwo (folded v l (2 * j + 1)) → IsParent t (name.Part file (suc l) j) (name.Part file l (2 * j + 1))
  high_parent two =
      let e = two_above v l j (inr two) in
      let z : suc l - 1 ≡ l = omega arith in
      record {
        parent = unfolded_side file.0 (suc l) j (Two (folded v l (2 * j)) (folded v l (2 * j + 1)));
        child = unfolded_side file.0 (suc l - 1) (2 * j + 1) (folded v l (2 * j + 1));
        live = has.parts (suc l) j fits ∙ ap (part_of file.0 (suc l) j) e;
        above = inr refl;
        named = side_name file.0 (suc l - 1) (2 * j + 1) (folded v l (2 * j + 1)) two ∙ ap (λ k. Some (name.Part file k (2 * j + 1))) z;
      }

-- the parent of a live part
pub part_parent : (t : Shown) (file : FileId) (v : ℕ → ℕ) (l i : ℕ) (q : Name) → HasVersions t file v → IsDirectlyOver file l i q → (i + 1) * 2 ^ l ≤ places → IsTwo (folded v l i) → IsParent t q (name.Part file l i)
part_parent t file v l i q has (inl o) fits two =
    let z = only_top l i o.0 fits in
    let T : ℕ → ℕ → Type 0 = λ l i. IsTwo (folded v l i) in
    let two' : IsTwo (folded v 16 0) = subst (T 16) z (subst (λ l. T l i) o.0 two) in
    let P : Name → ℕ → ℕ → Type 0 = λ q l i. IsParent t q (name.Part file l i) in
    subst (λ q. P q l i) (sym o.1) (subst (λ l. P (name.Entry file) l i) (sym o.0) (subst (P (name.Entry file) 16) (sym z) (top_parent t file (folded v 16 0) (t (name.Entry file)) refl has.entry two')))
part_parent t file v l i q has (inr o) fits two =
    let j = o.0 in
    let P : Name → ℕ → Type 0 = λ q i. IsParent t q (name.Part file l i) in
    subst (λ q. P q i) (sym o.2) (elim o.3 [
      | inl e ↦ subst (P (name.Part file (suc l) j)) (sym e) (low_parent t file v has l j (fits_up l i j o.1 (omega (arith, e)) fits) (subst (λ k. IsTwo (folded v l k)) e two))
      | inr e ↦ subst (P (name.Part file (suc l) j)) (sym e) (high_parent t file v has l j (fits_up l i j o.1 (omega (arith, e)) fits) (subst (λ k. IsTwo (folded v l k)) e two))
    ])
