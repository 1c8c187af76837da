-- Ways down to a place.
use Rattle.std.proofs.Common.{◌≡◌, ◌==◌, ◌+◌, ◌-◌, ◌*◌, ◌/◌, ◌%◌, ◌<◌, ◌≤◌, ◌^◌, inl, inr, ℕ, suc, Bool, true, false, cond, Option, Some, None, refl, ap, sym, ◌∙◌, subst, arith}
use Rattle.std.specs.Prelude.{IsSome}
use Rattle.std.proofs.lemmas.Bool.{eqb-true, eqb-false}
use Rattle.iris_name.specs.declared.name.FileId.{FileId}
use Rattle.iris_name.specs.declared.name.Hash32.{Hash32}
use Rattle.iris_name.specs.declared.name.Name.{Name}
use Rattle.iris_name.specs.declared.name.Name.TheVariants as name
use Rattle.iris_name.specs.declared.note.Expect.{Expect}
use Rattle.iris_name.specs.declared.note.Expect.TheVariants.{Hash}
use Rattle.iris_cache.specs.declared.held.Short.{Short}
use Rattle.iris_cache.specs.declared.held.Short.TheVariants.{Need, NoMemory}
use Rattle.iris_shape.proofs.FoldProofs.{folded-zero}
use Rattle.iris_node.specs.declared.node.Side.{Side}
use Rattle.iris_node.specs.declared.node.Side.TheVariants.{Fold as Same, Below}
use Rattle.iris_node.specs.declared.node.Body.{Body}
use Rattle.iris_node.specs.declared.node.Body.TheVariants.{Dir, File}
use Rattle.iris_node.specs.declared.node.Node.{Node}
use Rattle.iris_node.specs.declared.node.Node.TheVariants as node
use Rattle.iris_node.specs.Fields.{EntryFields, PartFields}
use Rattle.iris_node.specs.Unfolded.{Unfolded, id_of}
use Rattle.iris_shape.specs.Folds.{Fold, One, Two, folded}
use Rattle.iris_shape.specs.Sides.{part_of}
use Rattle.iris_cache.specs.Rehash.{low_part, high_part, top_part}
use Rattle.iris_cache.specs.Resident.{Resident}
use Rattle.iris_cache.specs.Drafted.{Drafted, seen, known, there_by}
use Rattle.iris_node.specs.Trees.{Shown}
use Rattle.iris_cache.specs.Pictures.{IsLike, Holds, SideHolds, BodyHolds}
use Rattle.iris_cache.proofs.Lacking.{sees_beside, unknown, wanted}
use Rattle.iris_cache.specs.Needs.{IsWanted}
use Rattle.iris_version_tree.specs.Versions.{Versioned, HasVersions, places}
use Rattle.iris_version_tree.specs.Needs.{Covers, LacksPart, IsPartLack, IsFirstLack, AreHoles}
use Rattle.iris_version_tree.specs.Sides.{part_seen, side_seen, side_of_body, side_toward}
use Rattle.iris_version_tree.specs.Reached.{IsTwo, IsSideOf, IsLinkedSide, Reached}
use Rattle.iris_version_tree.proofs.Levels.{over, div_step}
use Rattle.iris_version_tree.proofs.Tables.{LikePart, LikeTop, part_like, never_entry, like_top, below_two, part_parent}

pub low_linked : (d : Drafted) (c : Resident) (file : FileId) (v : ℕ → ℕ) (k j : ℕ) (p : PartFields) (s : Side) → LikePart file v k j p → k < 16 → seen d c (name.Part file (suc k) j) ≡ Some (node.Part p) → p.low ≡ s → IsLinkedSide d c file k (2 * j) s
low_linked d c file v k j p (Same w) like lt at e = tt
low_linked d c file v k j p (Below h) like lt at e =
    let a : file ≡ p.file = sym like.file_is in
    let le = like.level_is in
    let b : k ≡ p.level - 1 = omega arith in
    let i : 2 * j ≡ 2 * p.index = ap (λ x. 2 * x) (sym like.index_is) in
    let n : name.Part file k (2 * j) ≡ low_part p = cc in
    let P : Side → Type 0 = λ s. SideHolds (low_part p) s (name.Part file k (2 * j)) h in
    record { parent = name.Part file (suc k) j; node = node.Part p; is_seen = at; holds = inl (subst P (sym e) (n, refl)); over = inr (j, lt, refl, inl refl) }

pub high_linked : (d : Drafted) (c : Resident) (file : FileId) (v : ℕ → ℕ) (k j : ℕ) (p : PartFields) (s : Side) → LikePart file v k j p → k < 16 → seen d c (name.Part file (suc k) j) ≡ Some (node.Part p) → p.high ≡ s → IsLinkedSide d c file k (2 * j + 1) s
high_linked d c file v k j p (Same w) like lt at e = tt
high_linked d c file v k j p (Below h) like lt at e =
    let a : file ≡ p.file = sym like.file_is in
    let le = like.level_is in
    let b : k ≡ p.level - 1 = omega arith in
    let i : 2 * j + 1 ≡ 2 * p.index + 1 = ap (λ x. 2 * x + 1) (sym like.index_is) in
    let n : name.Part file k (2 * j + 1) ≡ high_part p = cc in
    let P : Side → Type 0 = λ s. SideHolds (high_part p) s (name.Part file k (2 * j + 1)) h in
    record { parent = name.Part file (suc k) j; node = node.Part p; is_seen = at; holds = inr (subst P (sym e) (n, refl)); over = inr (j, lt, refl, inr refl) }

-- the halves of a part that is seen
pub reached_halves : (old new : Shown) (d : Drafted) (c : Resident) (file : FileId) (v : ℕ → ℕ) (k j : ℕ) (p : PartFields) → Versioned old new file v d c → k < 16 → (j + 1) * 2 ^ suc k ≤ places
    → seen d c (name.Part file (suc k) j) ≡ Some (node.Part p) → LikePart file v k j p × Reached d c file v k (2 * j) p.low × Reached d c file v k (2 * j + 1) p.high
reached_halves old new d c file v k j p pic lt fits at =
    let like = part_like new file v k j p pic.versions fits (pic.drafts.nodes (name.Part file (suc k) j) (node.Part p) at) in
    (like, record { like = like.low; linked = low_linked d c file v k j p p.low like lt at refl }, record { like = like.high; linked = high_linked d c file v k j p p.high like lt at refl })

body_is : (b : Body) (s : Side) (id : FileId) (h : Hash32) → side_of_body b ≡ Some s → s ≡ Below h → BodyHolds id b (top_part id) h
body_is (Dir top) s id h is e = cc
body_is (File n k versions) s id h is e =
    let q : versions ≡ Below h = cc in
    let P : Side → Type 0 = λ s. SideHolds (top_part id) s (top_part id) h in
    subst P (sym q) (refl, refl)

top_linked : (d : Drafted) (c : Resident) (file : FileId) (g : Fold) (e : EntryFields) (s r : Side) → LikeTop file.0 g e s → seen d c (name.Entry file) ≡ Some (node.Entry e) → side_of_body e.body ≡ Some s → s ≡ r → IsLinkedSide d c file 16 0 r
top_linked d c file g e s (Same w) like at is q = tt
top_linked d c file g e s (Below h) like at is q =
    let P : FileId → Type 0 = λ f. Holds (node.Entry e) (name.Part f 16 0) h in
    record { parent = name.Entry file; node = node.Entry e; is_seen = at; holds = subst P (ap id_of like.id_is) (inr (inr (body_is e.body s e.id h is q))); over = inl (refl, refl) }

top_reached : (old new : Shown) (d : Drafted) (c : Resident) (file : FileId) (v : ℕ → ℕ) (s : Side) (o : Option Node) → Versioned old new file v d c → seen d c (name.Entry file) ≡ o → side_seen o ≡ Some s → Reached d c file v 16 0 s
top_reached old new d c file v s None pic at is = cc
top_reached old new d c file v s (Some (node.Part p)) pic at is = cc
top_reached old new d c file v s (Some (node.Entry e)) pic at is =
    let like = like_top (new (name.Entry file)) file.0 (folded v 16 0) e s pic.versions.entry (pic.drafts.nodes (name.Entry file) (node.Entry e) at) is in
    record { like = like.like; linked = top_linked d c file (folded v 16 0) e s s like at is refl }

-- the side of all versions
pub reached_top : (old new : Shown) (d : Drafted) (c : Resident) (file : FileId) (v : ℕ → ℕ) (s : Side) → Versioned old new file v d c → side_seen (seen d c (name.Entry file)) ≡ Some s → Reached d c file v 16 0 s
reached_top old new d c file v s pic is = top_reached old new d c file v s (seen d c (name.Entry file)) pic refl is

-- ---- what is missing

some_part : (f l i : ℕ) (g : Fold) → IsTwo g → IsSome (part_of f l i g)
some_part f l i (One v) two = absurd two
some_part f l i (Two a b) two = refl

pub is_there : (o : Option Node) (x : Node) → o ≡ Some x → IsSome o
is_there o x e = let P : Option Node → Type 0 = λ o. IsSome o in subst P (sym e) refl

-- a part whose hash is held, and that is missing
pub part_wanted : (old new : Shown) (d : Drafted) (c : Resident) (file : FileId) (v : ℕ → ℕ) (l i : ℕ) (h : Hash32) → Versioned old new file v d c → (i + 1) * 2 ^ l ≤ places → Reached d c file v l i (Below h)
    → known d c (name.Part file l i) ≡ None → IsWanted old new c (name.Part file l i) (Hash h)
part_wanted old new d c file v l i h pic fits at k =
    let link = at.linked in
    let over = part_parent new file v l i link.parent pic.versions link.over fits (below_two (folded v l i) h at.like) in
    wanted old new d c (sees_beside old new None d c pic.was pic.is pic.drafts) link.parent (name.Part file l i) link.node h link.is_seen link.holds over k

-- what a walk to a place lacks
pub lacks_at : (d : Drafted) (c : Resident) (file : FileId) (place l : ℕ) (h : Hash32) → l ≤ 16 → (place / 2 ^ l + 1) * 2 ^ l ≤ places → known d c (name.Part file l (place / 2 ^ l)) ≡ None
    → ((old new : Shown) (v : ℕ → ℕ) → Versioned old new file v d c → Reached d c file v l (place / 2 ^ l) (Below h))
    → LacksPart d c file place (place + 1) (name.Part file l (place / 2 ^ l)) (Hash h)
lacks_at d c file place l h le fits k at =
    let u = unknown d c (name.Part file l (place / 2 ^ l)) k in
    let covers : Covers l (place / 2 ^ l) place (place + 1) = record { place = place; from = omega arith; to = omega arith; under = over l place } in
    ((refl, covers), record { unset = u.0; absent = u.1; needed = λ old new v pic. (tt, part_wanted old new d c file v l (place / 2 ^ l) h pic fits (at old new v pic) k) })

-- ---- one step down

choose : (P : ℕ → Side → Type 0) (x : PartFields) (j r : ℕ) (t : Bool) → (r == 0) ≡ t → r < 2 → P (2 * j) x.low → P (2 * j + 1) x.high → P (2 * j + r) (cond t x.low x.high)
choose P x j r true e h a b = let z : 2 * j ≡ 2 * j + r = omega (arith, eqb-true r 0 e) in subst (λ k. P k x.low) z a
choose P x j r false e h a b = let n : r ≡ 0 → ⊥ = eqb-false r 0 e in let z : 2 * j + 1 ≡ 2 * j + r = omega arith in subst (λ k. P k x.high) z b

part_is : (o : Option Node) (p : PartFields) → Some p ≡ part_seen o → o ≡ Some (node.Part p)
part_is None p e = cc
part_is (Some (node.Entry x)) p e = cc
part_is (Some (node.Part x)) p e = let q : x ≡ p = cc in ap (λ y. Some (node.Part y)) q

pub step_down : (old new : Shown) (d : Drafted) (c : Resident) (file : FileId) (v : ℕ → ℕ) (place k n : ℕ) (p : PartFields) → n ≡ suc k → Versioned old new file v d c → k < 16 → (place / 2 ^ n + 1) * 2 ^ n ≤ places
    → Some p ≡ part_seen (seen d c (name.Part file n (place / 2 ^ n))) → Reached d c file v k (place / 2 ^ k) (side_toward ((place / 2 ^ k) % 2) p)
step_down old new d c file v place k n p e pic lt fits at =
    let j = (place / 2 ^ k) / 2 in
    let r = (place / 2 ^ k) % 2 in
    let F : ℕ → Type 0 = λ n. (place / 2 ^ n + 1) * 2 ^ n ≤ places in
    let A : ℕ → Type 0 = λ n. Some p ≡ part_seen (seen d c (name.Part file n (place / 2 ^ n))) in
    let dj : place / 2 ^ suc k ≡ j = div_step k place in
    let at' : Some p ≡ part_seen (seen d c (name.Part file (suc k) j)) = subst (λ i. Some p ≡ part_seen (seen d c (name.Part file (suc k) i))) dj (subst A e at) in
    let fits' : (j + 1) * 2 ^ suc k ≤ places = subst (λ i. (i + 1) * 2 ^ suc k ≤ places) dj (subst F e fits) in
    let h = reached_halves old new d c file v k j p pic lt fits' (part_is (seen d c (name.Part file (suc k) j)) p at') in
    let Q : ℕ → Side → Type 0 = λ i s. Reached d c file v k i s in
    let z : 2 * j + r ≡ place / 2 ^ k = omega arith in
    subst (λ i. Q i (side_toward r p)) z (choose Q p j r _ refl (omega arith) h.1 h.2)

-- where a part is reached, it is seen or missing
no_part_by : (file : FileId) (t : Shown) (v : ℕ → ℕ) (l i : ℕ) (x : Option (Option Node)) → IsSome x → part_seen (there_by x) ≡ None → HasVersions t file v → (i + 1) * 2 ^ l ≤ places → IsTwo (folded v l i)
    → ((node : Node) → there_by x ≡ Some node → IsLike (t (name.Part file l i)) node) → (x ≡ Some None → t (name.Part file l i) ≡ None) → ⊥
no_part_by file t v l i None some none has fits two nodes gone = let e : false ≡ true = some in cc
no_part_by file t v l i (Some None) some none has fits two nodes gone =
    let e : part_of file.0 l i (folded v l i) ≡ None = sym (has.parts l i fits) ∙ gone refl in
    let s = some_part file.0 l i (folded v l i) two in
    let P : Option Unfolded → Type 0 = λ o. IsSome o in
    let q : false ≡ true = subst P e s in cc
no_part_by file t v l i (Some (Some (node.Part p))) some none has fits two nodes gone = cc
no_part_by file t v l i (Some (Some (node.Entry e))) some none has fits two nodes gone = never_entry t file v l i e has fits (nodes (node.Entry e) refl)

pub no_part : (old new : Shown) (d : Drafted) (c : Resident) (file : FileId) (v : ℕ → ℕ) (l i : ℕ) → Versioned old new file v d c → (i + 1) * 2 ^ l ≤ places → IsTwo (folded v l i)
    → IsSome (known d c (name.Part file l i)) → None ≡ part_seen (seen d c (name.Part file l i)) → ⊥
no_part old new d c file v l i pic fits two some none =
    no_part_by file new v l i (known d c (name.Part file l i)) some (sym none) pic.versions fits two (pic.drafts.nodes (name.Part file l i)) (pic.drafts.gone (name.Part file l i) tt)

pub lack_is : (d : Drafted) (c : Resident) (file : FileId) (low high : ℕ) (e : Short) (n : Name) (x : Expect) → e ≡ Need n x → LacksPart d c file low high n x → IsPartLack d c file low high e
lack_is d c file low high e n x is h = let P : Short → Type 0 = λ e. IsPartLack d c file low high e in subst P (sym is) h

-- a hash of a part can't stand over a single place
pub no_floor : (v : ℕ → ℕ) (i : ℕ) (h : Hash32) → IsSideOf (folded v 0 i) (Below h) → ⊥
no_floor v i h like = let P : Fold → Type 0 = λ g. IsSideOf g (Below h) in subst P (folded-zero v i) like

-- why a search stops where its walk to a place does
pub first_lack : (d : Drafted) (c : Resident) (file : FileId) (from place : ℕ) (e : Short) → from ≤ place → place < places → ((old new : Shown) (v : ℕ → ℕ) → Versioned old new file v d c → AreHoles v from place) → IsPartLack d c file place (place + 1) e → IsFirstLack d c file from e
first_lack d c file from place (Need n x) after within holes h = record { place = place; after = after; within = within; holes = holes; lacks = h }
first_lack d c file from place NoMemory after within holes h = absurd h
