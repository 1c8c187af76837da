-- Parts made of two halves, and the hashes that they keep.
use Rattle.std.proofs.Common.{◌≡◌, ◌==◌, ◌⊎◌, ◌+◌, ◌-◌, ◌*◌, ◌/◌, ◌%◌, ◌<◌, ◌≤◌, ◌^◌, inl, inr, ℕ, suc, Bool, true, false, cond, Option, Some, None, refl, ap, sym, ◌∙◌, subst, arith}
use Rattle.std.specs.Prelude.{IsSome, IsSomeAnd, IfSome}
use Rattle.std.proofs.lemmas.Bool.{eqb-true, eqb-false, cases_lt}
use Rattle.iris_name.specs.declared.name.FileId.{FileId}
use Rattle.iris_name.specs.declared.name.Hash32.{Hash32}
use Rattle.iris_name.specs.declared.name.Name.{Name}
use Rattle.iris_name.specs.declared.name.Name.TheVariants as name
use Rattle.iris_node.specs.declared.node.Side.{Side}
use Rattle.iris_node.specs.declared.node.Side.TheVariants.{Fold as Same, Below}
use Rattle.iris_node.specs.declared.node.Body.{Body}
use Rattle.iris_node.specs.declared.node.Body.TheVariants.{Dir, File}
use Rattle.iris_node.specs.declared.node.Node.{Node}
use Rattle.iris_node.specs.declared.node.Node.TheVariants as node
use Rattle.iris_node.specs.Nodes.{name_of}
use Rattle.iris_node.specs.Rules.{IsEntry, IsDir, IsFileBody}
use Rattle.iris_version_tree.specs.Needs.{IsFileNode}
use Rattle.iris_node.specs.Fields.{EntryFields, PartFields}
use Rattle.iris_node.specs.Unfolded.{Unfolded, Absent, Folder, Leaf, Even, Split, Stored, id_of}
use Rattle.iris_node.specs.Local.{local, entry_local}
use Rattle.iris_shape.specs.Folds.{Fold, One, Two, folded}
use Rattle.iris_shape.specs.Sides.{unfolded_side, part_of}
use Rattle.iris_cache.specs.declared.held.Held.{Held}
use Rattle.iris_cache.specs.Rehash.{low_part, high_part, top_part}
use Rattle.iris_cache.specs.Resident.{Resident, held_node, parent_in, IsSoundCache}
use Rattle.iris_cache.specs.Drafted.{Drafted, seen, IsDraft}
use Rattle.iris_node.specs.Trees.{Shown}
use Rattle.iris_cache.specs.Pictures.{Pictures, IsLike, Holds, SideHolds, BodyHolds, IsHeldHash, WasHash}
use Rattle.iris_version_tree.specs.Versions.{HasVersions, HadVersions, IsFileOf, places}
use Rattle.iris_version_tree.specs.Sides.{part_seen, side_below, side_of_body, side_toward, over_name, held_side}
use Rattle.iris_version_tree.specs.Reached.{IsTwo, IsSideOf, IsDirectlyOver}
use Rattle.iris_cache.proofs.OwnNames.{seen_own}
use Rattle.iris_version_tree.proofs.Levels.{only_top, fits_up}
use Rattle.iris_version_tree.proofs.Tables.{LikePart, part_like, never_entry, like_top, part_parent}

-- ---- the hash that the cache holds of a part

below_of : (g : Fold) (s : Side) → IsTwo g → IsSideOf g s → (x : Hash32) × (s ≡ Below x)
below_of (One v) s two like = absurd two
below_of (Two a b) (Same w) two like = absurd like
below_of (Two a b) (Below x) two like = (x, refl)

-- a node that holds a hash of a part
abbrev pub HoldsPart : FileId → ℕ → ℕ → Node → Type 0
HoldsPart file l i k = (x : Hash32) × (side_below k i ≡ Some (Below x)) × Holds k (name.Part file l i) x

top_entry : (file : FileId) (g : Fold) (e : EntryFields) (b : Body) (id : ℕ) (label : _) (less more : Unfolded) (size counter : ℕ) (kept : Unfolded)
    → local (Leaf id label less more size counter kept) ≡ Some (entry_local e b) → (s : Side) × (side_of_body b ≡ Some s)
top_entry file g e (Dir top) id label less more size counter kept like = cc
top_entry file g e (File n k s) id label less more size counter kept like = (s, refl)

body_holds : (b : Body) (s : Side) (id : FileId) (x : Hash32) → side_of_body b ≡ Some s → s ≡ Below x → BodyHolds id b (top_part id) x
body_holds (Dir top) s id x is e = cc
body_holds (File n k versions) s id x is e =
    let q : versions ≡ Below x = cc in
    let P : Side → Type 0 = λ s. SideHolds (top_part id) s (top_part id) x in
    subst P (sym q) (refl, refl)

top_holds : (file : FileId) (g : Fold) (o : Option Unfolded) (k : Node) → IsFileOf file.0 (unfolded_side file.0 16 0 g) o → IsLike o k → IsTwo g → HoldsPart file 16 0 k
top_holds file g None k at like two = absurd at
top_holds file g (Some (Leaf id label less more size counter kept)) (node.Part p) at like two = cc
top_holds file g (Some (Leaf id label less more size counter kept)) (node.Entry e) at like two =
    let b = top_entry file g e e.body id label less more size counter kept like in
    let t = like_top (Some (Leaf id label less more size counter kept)) file.0 g e b.0 at like b.1 in
    let x = below_of g b.0 two t.like in
    let P : FileId → Type 0 = λ f. Holds (node.Entry e) (name.Part f 16 0) x.0 in
    (x.0, b.1 ∙ ap Some x.1, subst P (ap id_of t.id_is) (inr (inr (body_holds e.body b.0 e.id x.0 b.1 x.1))))
top_holds file g (Some (Folder id label less more inside)) k at like two = absurd at
top_holds file g (Some Absent) k at like two = absurd at
top_holds file g (Some (Even w)) k at like two = absurd at
top_holds file g (Some (Split h l i a b)) k at like two = absurd at
top_holds file g (Some (Stored w bytes)) k at like two = absurd at

pub low_name : (file : FileId) (v : ℕ → ℕ) (k j : ℕ) (p : PartFields) → LikePart file v k j p → name.Part file k (2 * j) ≡ low_part p
low_name file v k j p like =
    let a : file ≡ p.file = sym like.file_is in
    let le = like.level_is in
    let b : k ≡ p.level - 1 = omega arith in
    let i : 2 * j ≡ 2 * p.index = ap (λ x. 2 * x) (sym like.index_is) in
    cc

pub high_name : (file : FileId) (v : ℕ → ℕ) (k j : ℕ) (p : PartFields) → LikePart file v k j p → name.Part file k (2 * j + 1) ≡ high_part p
high_name file v k j p like =
    let a : file ≡ p.file = sym like.file_is in
    let le = like.level_is in
    let b : k ≡ p.level - 1 = omega arith in
    let i : 2 * j + 1 ≡ 2 * p.index + 1 = ap (λ x. 2 * x + 1) (sym like.index_is) in
    cc

toward_low : (j : ℕ) (p : PartFields) → side_toward ((2 * j) % 2) p ≡ p.low
toward_low j p = let z : (2 * j) % 2 ≡ 0 = omega arith in ap (λ b. side_toward b p) z

toward_high : (j : ℕ) (p : PartFields) → side_toward ((2 * j + 1) % 2) p ≡ p.high
toward_high j p = let z : (2 * j + 1) % 2 ≡ 1 = omega arith in ap (λ b. side_toward b p) z

part_holds : (file : FileId) (v : ℕ → ℕ) (l i j : ℕ) (p : PartFields) → LikePart file v l j p → (i ≡ 2 * j) ⊎ (i ≡ 2 * j + 1) → IsTwo (folded v l i) → HoldsPart file l i (node.Part p)
part_holds file v l i j p like (inl e) two =
    let x = below_of (folded v l (2 * j)) p.low (subst (λ k. IsTwo (folded v l k)) e two) like.low in
    let P : Side → Type 0 = λ s. SideHolds (low_part p) s (name.Part file l (2 * j)) x.0 in
    let Q : ℕ → Type 0 = λ i. HoldsPart file l i (node.Part p) in
    subst Q (sym e) (x.0, ap Some (toward_low j p ∙ x.1), inl (subst P (sym x.1) (low_name file v l j p like, refl)))
part_holds file v l i j p like (inr e) two =
    let x = below_of (folded v l (2 * j + 1)) p.high (subst (λ k. IsTwo (folded v l k)) e two) like.high in
    let P : Side → Type 0 = λ s. SideHolds (high_part p) s (name.Part file l (2 * j + 1)) x.0 in
    let Q : ℕ → Type 0 = λ i. HoldsPart file l i (node.Part p) in
    subst Q (sym e) (x.0, ap Some (toward_high j p ∙ x.1), inr (subst P (sym x.1) (high_name file v l j p like, refl)))

mid_holds : (t : Shown) (file : FileId) (v : ℕ → ℕ) (l i j : ℕ) (k : Node) → HasVersions t file v → (j + 1) * 2 ^ suc l ≤ places → (i ≡ 2 * j) ⊎ (i ≡ 2 * j + 1) → IsTwo (folded v l i) → IsLike (t (name.Part file (suc l) j)) k → HoldsPart file l i k
mid_holds t file v l i j (node.Entry e) has fits at two like = absurd (never_entry t file v (suc l) j e has fits like)
mid_holds t file v l i j (node.Part p) has fits at two like = part_holds file v l i j p (part_like t file v l j p has fits like) at two

-- what is like the node over a live part holds a hash of it
over_holds : (t : Shown) (file : FileId) (v : ℕ → ℕ) (l i : ℕ) (q : Name) (k : Node) → HasVersions t file v → IsDirectlyOver file l i q → (i + 1) * 2 ^ l ≤ places → IsTwo (folded v l i) → IsLike (t q) k → HoldsPart file l i k
over_holds t file v l i q k has (inl o) fits two like =
    let z = only_top l i o.0 fits in
    let T : ℕ → ℕ → Type 0 = λ l i. IsTwo (folded v l i) in
    let two' : IsTwo (folded v 16 0) = subst (T 16) z (subst (λ l. T l i) o.0 two) in
    let H : ℕ → ℕ → Type 0 = λ l i. HoldsPart file l i k in
    subst (λ l. H l i) (sym o.0) (subst (H 16) (sym z) (top_holds file (folded v 16 0) (t (name.Entry file)) k has.entry (subst (λ q. IsLike (t q) k) o.1 like) two'))
over_holds t file v l i q k has (inr o) fits two like =
    let le : 2 * o.0 ≤ i = elim o.3 [ inl e ↦ omega (arith, e) | inr e ↦ omega (arith, e) ] in
    mid_holds t file v l i o.0 k has (fits_up l i o.0 o.1 le fits) o.3 two (subst (λ q. IsLike (t q) k) o.2 like)

pub over_is : (file : FileId) (l i : ℕ) → l ≤ 16 → IsDirectlyOver file l i (over_name file l i)
over_is file l i le = go (l == 16) refl
  where
    half : (i : ℕ) → (i ≡ 2 * (i / 2)) ⊎ (i ≡ 2 * (i / 2) + 1)
    half i = by (i % 2 == 0) refl
      where
        by : (b : Bool) → (i % 2 == 0) ≡ b → (i ≡ 2 * (i / 2)) ⊎ (i ≡ 2 * (i / 2) + 1)
        by true e = let z : i % 2 ≡ 0 = eqb-true (i % 2) 0 e in inl (omega arith)
        by false e = let z : i % 2 ≡ 0 → ⊥ = eqb-false (i % 2) 0 e in inr (omega arith)

    go : (b : Bool) → (l == 16) ≡ b → IsDirectlyOver file l i (over_name file l i)
    go true e = inl (eqb-true l 16 e, ap (λ b. cond b (name.Entry file) (name.Part file (l + 1) (i / 2))) e)
    go false e =
        let z : l ≡ 16 → ⊥ = eqb-false l 16 e in
        let s : l + 1 ≡ suc l = omega arith in
        inr (i / 2, omega arith, ap (λ b. cond b (name.Entry file) (name.Part file (l + 1) (i / 2))) e ∙ ap (λ k. name.Part file k (i / 2)) s, half i)

two_of_like : (f l i : ℕ) (g : Fold) (k : Node) → IsLike (part_of f l i g) k → IsTwo g
two_of_like f l i (One v) k h = absurd h
two_of_like f l i (Two a b) k h = tt

some_of : (o : Option Held) → IsSome o → (h : Held) × (o ≡ Some h)
some_of None e = cc
some_of (Some h) e = (h, refl)

-- a hash that the resident parent holds is the one that is held
is_held : (c : Resident) (n q : Name) (h g : Held) (x : Hash32) → held_node c n ≡ Some h → h.parent ≡ Some q → held_node c q ≡ Some g → Holds g.node n x → IsHeldHash c n x
is_held c n q h g x at up above holds k m p e f a =
    let u : Some q ≡ Some p = sym up ∙ ap parent_in (sym at ∙ e) ∙ f in
    let r : q ≡ p = cc in
    subst (λ w. IsSomeAnd w (λ g. Holds g.node n x)) (sym above ∙ ap (λ n. held_node c n) r ∙ a) holds

-- the hash that the cache holds of a part, where a table is pictured
abbrev pub HeldWas : Shown → Resident → FileId → ℕ → ℕ → Type 0
HeldWas old c file l i = (x : Hash32) × (held_side (held_node c (over_name file l i)) i ≡ Some (Below x)) × WasHash old c (name.Part file l i) x

pub held_was : (old : Shown) (c : Resident) (file : FileId) (l i : ℕ) → l ≤ 16 → (i + 1) * 2 ^ l ≤ places → Pictures old c → HadVersions old file → IsSome (held_node c (name.Part file l i)) → HeldWas old c file l i
held_was old c file l i le fits pic (inr none) some =
    let n = name.Part file l i in
    let h = some_of (held_node c n) some in
    absurd (subst (λ o. IsLike o h.0.node) (none l i) (pic.nodes n h.0 h.1))
held_was old c file l i le fits pic (inl (v, has)) some =
    let n = name.Part file l i in
    let q = over_name file l i in
    let o = over_is file l i le in
    let h = some_of (held_node c n) some in
    let two = two_of_like file.0 l i (folded v l i) h.0.node (subst (λ o. IsLike o h.0.node) (has.parts l i fits) (pic.nodes n h.0 h.1)) in
    let p = pic.parents n q h.0 h.1 (part_parent old file v l i q has o fits two) in
    let g = some_of (held_node c q) p.1 in
    let k = over_holds old file v l i q g.0.node has o fits two (pic.nodes q g.0 g.1) in
    (k.0, ap (λ o. held_side o i) g.1 ∙ k.1, (pic.hashes q n g.0 k.0 g.1 k.2, is_held c n q h.0 g.0 k.0 h.1 p.0 g.1 k.2))

-- an entry of a file has an id above those of the roots
pub file_named : (file : FileId) (e : EntryFields) (o : Option Node) → IsEntry e → e.id ≡ file → o ≡ Some (node.Entry e) → IsFileNode o → 2 ≤ file.0
file_named file e o rules id is at = subst (λ f. 2 ≤ f.0) id (go (cases_lt e.id.0 2))
  where
    no_dir : (b : Body) → IsFileBody b → IsDir b → ⊥
    no_dir (Dir top) f d = f
    no_dir (File n k s) f d = d

    go : (e.id.0 < 2) ⊎ (2 ≤ e.id.0) → 2 ≤ e.id.0
    go (inl lt) = absurd (no_dir e.body (subst IsFileNode is at) (rules.root lt).body)
    go (inr le) = le

part_own_by : (n : Name) (r : Option PartFields) (o : Option Node) → r ≡ part_seen o → ((k : Node) → o ≡ Some k → name_of k ≡ n) → IfSome r (λ p. name.Part p.file p.level p.index ≡ n)
part_own_by n None o e own = tt
part_own_by n (Some p) None e own = cc
part_own_by n (Some p) (Some (node.Entry x)) e own = cc
part_own_by n (Some p) (Some (node.Part x)) e own = let q : p ≡ x = cc in ap (λ y. name_of (node.Part y)) q ∙ own (node.Part x) refl

pub part_own : (d : Drafted) (c : Resident) (n : Name) (r : Option PartFields) → IsDraft d → IsSoundCache c → r ≡ part_seen (seen d c n) → IfSome r (λ p. name.Part p.file p.level p.index ≡ n)
part_own d c n r ds cs e = part_own_by n r (seen d c n) e (λ k at. seen_own d c n k ds cs at)
