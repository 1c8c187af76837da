-- A draft in which the versions of a file were set, name by name.
use Rattle.std.proofs.Common.{◌≡◌, ◌+◌, ◌-◌, ◌*◌, ◌≤◌, ◌^◌, inl, inr, ℕ, Option, Some, None, refl, ap, sym, ◌∙◌, subst}
use Rattle.std.specs.Option.{option_map}
use Rattle.std.proofs.lemmas.Bool.{cases_lt}
use Rattle.iris_name.specs.declared.name.FileId.{FileId}
use Rattle.iris_name.specs.declared.name.Hash32.{Hash32}
use Rattle.iris_name.specs.declared.name.Name.{Name}
use Rattle.iris_name.specs.declared.name.Name.TheVariants as name
use Rattle.iris_name.specs.declared.note.Expect.{Expect}
use Rattle.iris_node.specs.declared.node.Side.{Side}
use Rattle.iris_node.specs.declared.node.Side.TheVariants.{Below}
use Rattle.iris_node.specs.declared.node.Node.{Node}
use Rattle.iris_node.specs.Unfolded.{Unfolded, Absent, Folder, Leaf, Even, Split, Stored, id_of}
use Rattle.iris_shape.specs.Folds.{Fold, One, Two, folded}
use Rattle.iris_shape.specs.Sides.{unfolded_side, part_of}
use Rattle.iris_cache.specs.declared.held.Short.{Short}
use Rattle.iris_cache.specs.declared.held.Short.TheVariants.{Need, NoMemory}
use Rattle.iris_cache.specs.Resident.{Resident, held_node}
use Rattle.iris_cache.specs.Drafted.{Drafted, drafted, seen}
use Rattle.iris_node.specs.Trees.{Shown, node_name, IsTree, IsParent, IsAbove}
use Rattle.iris_cache.specs.Pictures.{IsLike, WasHash}
use Rattle.iris_cache.proofs.Lacking.{parent_named, unknown}
use Rattle.iris_version_tree.specs.Versions.{Versioned, HasVersions, Reversions, IsOfOtherFile, IsFileOf, whole, reversioned, places}
use Rattle.iris_version_tree.specs.Needs.{LacksPart, IsPartShort}
use Rattle.iris_version_tree.specs.Sides.{side_seen, over_name}
use Rattle.iris_version_tree.specs.Reached.{IsTwo, IsLinkedSide, Reached}
use Rattle.iris_version_tree.specs.Ranges.{Within, AtPart, Under, SideAt, IsMissing}
use Rattle.iris_version_tree.proofs.Tables.{part_parent}
use Rattle.iris_version_tree.proofs.Walks.{reached_top, part_wanted}
use Rattle.iris_version_tree.proofs.Hashes.{over_is}
use Rattle.iris_version_tree.proofs.Likes.{two_node, node_with}
use Rattle.iris_version_tree.proofs.Reversions.{above_forth, above_back, IsTopSide}

pub within_fits : (k j : ℕ) → Within 16 0 k j → (j + 1) * 2 ^ k ≤ places
within_fits k j w = let h : (j + 1) * 2 ^ k ≤ 65536 = w.to in h

some_of_two : (f l i : ℕ) (g : Fold) → part_of f l i g ≡ None → IsTwo g → ⊥
some_of_two f l i (One v) e two = two
some_of_two f l i (Two a b) e two = cc

pub none_of : (f l i : ℕ) (g : Fold) → (IsTwo g → ⊥) → part_of f l i g ≡ None
none_of f l i (One v) h = refl
none_of f l i (Two a b) h = absurd (h tt)

-- ---- before: what a draft pictures of a file's parts

module _ (old new : Shown) (file : FileId) (v : ℕ → ℕ) (d : Drafted) (c : Resident) (pic : Versioned old new file v d c) where
  at_part : (l i : ℕ) → 1 ≤ l → Within 16 0 l i → AtPart old c file l i (folded v l i) (drafted d (name.Part file l i)) (held_node c (name.Part file l i))
  at_part l i some w =
      let n = name.Part file l i in
      let fits = within_fits l i w in
      let g = folded v l i in
      let is = pic.versions.parts l i fits in
      let L : Node → Option Unfolded → Type 0 = λ m o. IsLike o m in
      let nodes = λ (m : Node) (e : seen d c n ≡ Some m). node_with file l i g m (subst (L m) is (pic.drafts.nodes n m e)) in
      record {
        node = nodes;
        hashes = λ m p x e. pic.drafts.hashes n p m x e;
        over = λ m e. (let q = over_name file l i in
            let o = over_is file l i w.level in
            (q, (pic.drafts.parents n q m e (part_parent new file v l i q pic.versions o fits (two_node file l i g m (nodes m e)))).0, o));
        gone = λ e two. some_of_two file.0 l i g (sym is ∙ pic.drafts.gone n tt e) two;
        away = λ e. sym is ∙ pic.drafts.away n tt e;
        resident = pic.drafts.resident n;
      }

  pub under_of : Under old v d c file 16 0
  under_of = record { parts = at_part }

  side_by : (s : Side) (h : Hash32) → Reached d c file v 16 0 s → s ≡ Below h → WasHash old c (name.Part file 16 0) h
  side_by s h r is =
      let link = subst (IsLinkedSide d c file 16 0) is r.linked in
      pic.drafts.hashes link.parent (name.Part file 16 0) link.node h link.is_seen link.holds

  pub side_of_top : (s : Side) → side_seen (seen d c (name.Entry file)) ≡ Some s → SideAt old c file v 16 0 s
  side_of_top s is = let r = reached_top old new d c file v s pic is in record { like = r.like; hash = λ h e. side_by s h r e }

-- ---- what a range lacks

pub short_of : (d : Drafted) (c : Resident) (file : FileId) (s : Side) (low high : ℕ) (e : Short) → side_seen (seen d c (name.Entry file)) ≡ Some s → IsMissing d c file 16 0 s low high e → IsPartShort d c file low high e
short_of d c file s low high NoMemory is m = tt
short_of d c file s low high (Need n x) is m =
    let q = name.Part file m.level m.index in
    let L : Name → Expect → Type 0 = λ n x. LacksPart d c file low high n x in
    let none = unknown d c q m.missing in
    subst (λ n. L n x) (sym m.named) (subst (L q) (sym m.expected) (
      (refl, m.covers),
      record {
        unset = none.0;
        absent = none.1;
        needed = λ old new v pic. (
          tt,
          part_wanted old new d c file v m.level m.index m.hash pic (within_fits m.level m.index m.within)
              (m.reached old v (under_of old new file v d c pic) (reached_top old new d c file v s pic is)) m.missing,
        );
      },
    ))

-- ---- after: parents in the table with other versions

side_child : (f l i : ℕ) (g : Fold) (n : Name) → node_name (unfolded_side f l i g) ≡ Some n → IsOfOtherFile (id_of f) n → ⊥
side_child f l i (One v) n e o = cc
side_child f l i (Two a b) n e o = let q : name.Part (id_of f) l i ≡ n = cc in let h = subst (IsOfOtherFile (id_of f)) (sym q) o in h refl

part_child_by : (f l i : ℕ) (g : Fold) (u w : Unfolded) (n : Name) → part_of f l i g ≡ Some u → IsAbove u w → node_name w ≡ Some n → IsOfOtherFile (id_of f) n → ⊥
part_child_by f l i (One v) u w n e a named o = cc
part_child_by f l i (Two x y) u w n e a named o =
    let q : u ≡ unfolded_side f l i (Two x y) = cc in
    elim (subst (λ u. IsAbove u w) q a) [
      | inl h ↦ side_child f (l - 1) (2 * i) x n (sym (ap node_name h) ∙ named) o
      | inr h ↦ side_child f (l - 1) (2 * i + 1) y n (sym (ap node_name h) ∙ named) o
    ]

part_child : (t : Shown) (file : FileId) (v : ℕ → ℕ) (l i : ℕ) (n : Name) → HasVersions t file v → IsParent t (name.Part file l i) n → IsOfOtherFile file n → ⊥
part_child t file v l i n has is other = elim (cases_lt places ((i + 1) * 2 ^ l)) [
  | inl h ↦ (let e = has.outside l i h in let q = is.live in let r : None ≡ Some is.parent = sym e ∙ q in cc)
  | inr h ↦ part_child_by file.0 l i (folded v l i) is.parent is.child n (sym (has.parts l i h) ∙ is.live) is.above is.named other
]

-- the parent of what isn't a part of the file isn't either
pub other_parent : (t : Shown) (file : FileId) (v : ℕ → ℕ) (p n : Name) → IsTree t → HasVersions t file v → IsParent t p n → IsOfOtherFile file n → IsOfOtherFile file p
other_parent t file v (name.Entry i) n tree has is other = tt
other_parent t file v (name.Part g l i) n tree has is other = λ e. part_child t file v l i n has (subst (λ g. IsParent t (name.Part g l i) n) e is) other
other_parent t file v (name.Block g p) n tree has is other = parent_named t (name.Block g p) n tree is

back_by : (new : Shown) (file : FileId) (v : ℕ → ℕ) (p n : Name) (o : Option Unfolded) (u w : Unfolded) → new p ≡ o → option_map (reversioned file.0 (whole file.0 v)) o ≡ Some u → IsAbove u w → node_name w ≡ Some n → IsOfOtherFile file n → IsParent new p n
back_by new file v p n None u w at e a named other = cc
back_by new file v p n (Some x) u w at e a named other =
    let q : u ≡ reversioned file.0 (whole file.0 v) x = cc in
    elim (above_back file.0 (whole file.0 v) x w (subst (λ u. IsAbove u w) q a)) [
      | inl h ↦ absurd (side_child file.0 16 0 (folded v 16 0) n (sym (ap node_name h) ∙ named) other)
      | inr h ↦ record { parent = x; child = h.0; live = at; above = h.1; named = h.2 ∙ named }
    ]

pub parent_back : (new made : Shown) (file : FileId) (v : ℕ → ℕ) (p n : Name) → IsTree made → Reversions new made file v → IsOfOtherFile file n → IsParent made p n → IsParent new p n
parent_back new made file v p n tree rev other is =
    let o = other_parent made file v p n tree rev.versions is other in
    back_by new file v p n (new p) is.parent is.child refl (sym (rev.others p o) ∙ is.live) is.above is.named other

top_child : (f : ℕ) (h u w : Unfolded) → IsTopSide f (whole f (λ x. x)) u w → IsFileOf f h (Some u) → w ≡ h
top_child f h (Leaf id label less more size counter kept) w top at = top.1 ∙ at.1
top_child f h (Folder id label less more inside) w top at = absurd top
top_child f h Absent w top at = absurd top
top_child f h (Even v) w top at = absurd top
top_child f h (Split g l i a b) w top at = absurd top
top_child f h (Stored v bytes) w top at = absurd top

top_name : (f : ℕ) (s u w : Unfolded) → IsTopSide f s u w → node_name u ≡ Some (name.Entry (id_of f))
top_name f s (Leaf id label less more size counter kept) w top = ap (λ n. Some (name.Entry (id_of n))) top.0
top_name f s (Folder id label less more inside) w top = absurd top
top_name f s Absent w top = absurd top
top_name f s (Even v) w top = absurd top
top_name f s (Split g l i a b) w top = absurd top
top_name f s (Stored v bytes) w top = absurd top

top_same : (f : ℕ) (s t u w : Unfolded) → IsTopSide f s u w → IsTopSide f t u w
top_same f s t (Leaf id label less more size counter kept) w top = top
top_same f s t (Folder id label less more inside) w top = absurd top
top_same f s t Absent w top = absurd top
top_same f s t (Even v) w top = absurd top
top_same f s t (Split g l i a b) w top = absurd top
top_same f s t (Stored v bytes) w top = absurd top

pub parent_forth : (new made : Shown) (file : FileId) (v w : ℕ → ℕ) (p n : Name) → IsTree new → HasVersions new file v → Reversions new made file w → IsOfOtherFile file n → IsParent new p n → IsParent made p n
parent_forth new made file v w p n tree has rev other is =
    let o = other_parent new file v p n tree has is other in
    let s = whole file.0 w in
    let at : made p ≡ Some (reversioned file.0 s is.parent) = rev.others p o ∙ ap (option_map (reversioned file.0 s)) is.live in
    elim (above_forth file.0 s is.parent is.child is.above) [
      | inl h ↦ (let q = tree.own p (name.Entry file) is.parent is.live (top_name file.0 s is.parent is.child h) in
          let F : Name → Type 0 = λ p. IsFileOf file.0 (whole file.0 v) (new p) in
          let f = subst (IsFileOf file.0 (whole file.0 v)) is.live (subst F q has.entry) in
          let e = top_child file.0 (whole file.0 v) is.parent is.child (top_same file.0 s (whole file.0 (λ x. x)) is.parent is.child h) f in
          absurd (side_child file.0 16 0 (folded v 16 0) n (sym (ap node_name e) ∙ is.named) other))
      | inr h ↦ record { parent = reversioned file.0 s is.parent; child = h.0; live = at; above = h.1; named = h.2 ∙ is.named }
    ]
