-- Which nodes hold a hash of a name.
use Rattle.std.proofs.Common.{◌≡◌, ◌⊎◌, ◌+◌, ◌-◌, ◌*◌, ◌/◌, ◌≤◌, ◌<◌, ◌||◌, ◌^◌, inl, inr, ℕ, zero, suc, List, [], ◌∷◌, slice_get, Bool, true, false, cond, Option, Some, None, refl, ap, sym, ◌∙◌, subst, arith, true≢false, nat_lt}
use Rattle.std.specs.Prelude.{IsSomeAnd}
use Rattle.std.specs.Map.{values_of}
use Rattle.std.specs.List.{sum_by}
use Rattle.std.proofs.lemmas.List.Sums.{sum_by-cons}
use Rattle.std.proofs.lemmas.Bool.{lt-ltb}
use Rattle.std.proofs.lemmas.Map.Entries.{sum_by-remove_entry, lookup_from_place}
use Rattle.iris_name.specs.Names.{same_name}
use Rattle.iris_name.specs.NameLaws.{same_name_equiv, same_name-true}
use Rattle.iris_name.specs.declared.name.FileId.{FileId}
use Rattle.iris_name.specs.declared.name.Hash32.{Hash32}
use Rattle.iris_name.specs.declared.name.Name as names
use Rattle.iris_name.specs.declared.name.Name.TheVariants as name
use Rattle.iris_node.specs.Nodes.{name_of}
use Rattle.iris_node.specs.Rules.{most_level}
use Rattle.iris_node.specs.Fields.{PartFields}
use Rattle.iris_node.specs.declared.node.Side.{Side}
use Rattle.iris_node.specs.declared.node.Side.TheVariants.{Fold, Below}
use Rattle.iris_node.specs.declared.node.Link.{Link}
use Rattle.iris_node.specs.declared.node.Body.{Body}
use Rattle.iris_node.specs.declared.node.Body.TheVariants.{Dir, File}
use Rattle.iris_node.specs.declared.node.Node.{Node}
use Rattle.iris_node.specs.declared.node.Node.TheVariants.{Entry, Part}
use Rattle.iris_links.specs.Links.{LinkIndex, same_id, linked_count, linked_sum, AreHolders, IsSameSum}
use Rattle.iris_links.specs.NodeLinks.{link_count, link_inside, links_to, entry_id, sum_to}
use Rattle.iris_links.specs.declared.linked.Holders.TheVariants.{One}
use Rattle.iris_cache.specs.declared.held.Held.{Held}
use Rattle.iris_cache.specs.Indexed.{resident_sum, IsInRanges, IsIndexed}
use Rattle.iris_cache.specs.Holders.{IsHolder, HasNoHolder, link_leads, side_leads, body_leads, has_hash_of, part_above}
use Rattle.iris_cache.specs.Pictures.{Holds, LinkHolds, SideHolds, BodyHolds}
use Rattle.iris_cache.specs.Rehash.{top_part, low_part, high_part}
use Rattle.iris_cache.specs.Resident.{Resident, held_node, IsSoundCache}
use Rattle.iris_cache.proofs.Counts.{weight}
use Rattle.iris_cache.proofs.Rising.{or-split, or-left, or-right}

-- ---- the test says whether a node holds a hash of a name
link-held : (l : Option Link) (n : names.Name) → link_leads l n ≡ true → (x : Hash32) × LinkHolds l n x
link-held None n t = absurd (true≢false (sym t))
link-held (Some l) n t = (l.hash, (sym (same_name-true (name.Entry l.id) n t), refl))

side-held : (a : names.Name) (s : Side) (n : names.Name) → side_leads a s n ≡ true → (x : Hash32) × SideHolds a s n x
side-held a (Fold v) n t = absurd (true≢false (sym t))
side-held a (Below h) n t = (h, (sym (same_name-true a n t), refl))

body-held : (id : FileId) (b : Body) (n : names.Name) → body_leads id b n ≡ true → (x : Hash32) × BodyHolds id b n x
body-held id (Dir top) n t = link-held top n t
body-held id (File size counter versions) n t = side-held (top_part id) versions n t

pub node-held : (k : Node) (n : names.Name) → has_hash_of k n ≡ true → (x : Hash32) × Holds k n x
node-held (Entry e) n t = elim (or-split (link_leads e.left n || link_leads e.right n) (body_leads e.id e.body n) t) [
  | inl u ↦ elim (or-split (link_leads e.left n) (link_leads e.right n) u) [
    | inl a ↦ (let p = link-held e.left n a in (p.0, inl p.1))
    | inr b ↦ (let p = link-held e.right n b in (p.0, inr (inl p.1)))
  ]
  | inr d ↦ (let p = body-held e.id e.body n d in (p.0, inr (inr p.1)))
]
node-held (Part p) n t = elim (or-split (side_leads (low_part p) p.low n) (side_leads (high_part p) p.high n) t) [
  | inl a ↦ (let q = side-held (low_part p) p.low n a in (q.0, inl q.1))
  | inr b ↦ (let q = side-held (high_part p) p.high n b in (q.0, inr q.1))
]

same-as : (a n : names.Name) → n ≡ a → same_name a n ≡ true
same-as a n e = ap (λ k. same_name k n) (sym e) ∙ same_name_equiv.refl n

held-link : (l : Option Link) (n : names.Name) (x : Hash32) → LinkHolds l n x → link_leads l n ≡ true
held-link None n x h = absurd h
held-link (Some l) n x h = same-as (name.Entry l.id) n h.0

held-side : (a : names.Name) (s : Side) (n : names.Name) (x : Hash32) → SideHolds a s n x → side_leads a s n ≡ true
held-side a (Fold v) n x h = absurd h
held-side a (Below y) n x h = same-as a n h.0

held-body : (id : FileId) (b : Body) (n : names.Name) (x : Hash32) → BodyHolds id b n x → body_leads id b n ≡ true
held-body id (Dir top) n x h = held-link top n x h
held-body id (File size counter versions) n x h = held-side (top_part id) versions n x h

pub held-node : (k : Node) (n : names.Name) (x : Hash32) → Holds k n x → has_hash_of k n ≡ true
held-node (Entry e) n x (inl h) = or-left (link_leads e.left n || link_leads e.right n) (body_leads e.id e.body n) (or-left (link_leads e.left n) (link_leads e.right n) (held-link e.left n x h))
held-node (Entry e) n x (inr (inl h)) = or-left (link_leads e.left n || link_leads e.right n) (body_leads e.id e.body n) (or-right (link_leads e.left n) (link_leads e.right n) (held-link e.right n x h))
held-node (Entry e) n x (inr (inr h)) = or-right (link_leads e.left n || link_leads e.right n) (body_leads e.id e.body n) (held-body e.id e.body n x h)
held-node (Part p) n x (inl h) = or-left (side_leads (low_part p) p.low n) (side_leads (high_part p) p.high n) (held-side (low_part p) p.low n x h)
held-node (Part p) n x (inr h) = or-right (side_leads (low_part p) p.low n) (side_leads (high_part p) p.high n) (held-side (high_part p) p.high n x h)

-- ---- a holder is resident
abbrev entry_of : ℕ → names.Name
entry_of k = name.Entry (record { 0 = k })

abbrev links_among : FileId → List (names.Name × Held) → ℕ
links_among id es = sum_by (λ (g : Held). links_to id g.node) (values_of es)

abbrev sums_among : FileId → List (names.Name × Held) → ℕ
sums_among id es = sum_by (λ (g : Held). sum_to id g.node) (values_of es)

pub holder-in : (c : Resident) (p n : names.Name) (h : Held) → held_node c p ≡ Some h → has_hash_of h.node n ≡ true → IsHolder c p n
holder-in c p n h at t = subst (λ (o : Option Held). IsSomeAnd o (λ g. (x : Hash32) × Holds g.node n x)) (sym at) (node-held h.node n t)

pub record HeldBy (c : Resident) (p n : names.Name) : Type 0 where
  pub held : Held
  pub at : held_node c p ≡ Some held
  pub hash : Hash32
  pub holds : Holds held.node n hash

held-by : (c : Resident) (p n : names.Name) (o : Option Held) → held_node c p ≡ o → IsSomeAnd o (λ g. (x : Hash32) × Holds g.node n x) → HeldBy c p n
held-by c p n None at h = absurd h
held-by c p n (Some g) at h = record { held = g; at = at; hash = h.0; holds = h.1 }

pub holder-node : (c : Resident) (p n : names.Name) → IsHolder c p n → HeldBy c p n
holder-node c p n h = held-by c p n (held_node c p) refl h

-- who is tested and fails holds none
pub no-holder-by : (c : Resident) (n : names.Name) → ((p : names.Name) (h : Held) → held_node c p ≡ Some h → has_hash_of h.node n ≡ false) → HasNoHolder c n
no-holder-by c n none = λ p h. let b = holder-node c p n h in true≢false (sym (held-node b.held.node n b.hash b.holds) ∙ none p b.held b.at)

-- ---- an entry
the-id : (a b : FileId) → name.Entry a ≡ name.Entry b → a ≡ b
the-id a b e = cc

counted-link : (l : Option Link) (id : FileId) (x : Hash32) → LinkHolds l (name.Entry id) x → 1 ≤ link_count l id
counted-link None id x h = absurd h
counted-link (Some l) id x h = let one : link_count (Some l) id ≡ 1 = ap (λ (b : Bool). cond b 1 0) (same-as (name.Entry l.id) (name.Entry id) h.0) in omega (arith, one)

part-aside : (own : FileId) (level index : ℕ) (s : Side) (id : FileId) (x : Hash32) → SideHolds (name.Part own level index) s (name.Entry id) x → ⊥
part-aside own level index (Fold v) id x h = h
part-aside own level index (Below y) id x h = let e : name.Entry id ≡ name.Part own level index = h.0 in cc

counted-body : (own : FileId) (b : Body) (id : FileId) (x : Hash32) → BodyHolds own b (name.Entry id) x → 1 ≤ link_count (link_inside b) id
counted-body own (Dir top) id x h = counted-link top id x h
counted-body own (File size counter versions) id x h = absurd (part-aside own most_level 0 versions id x h)

counted : (k : Node) (id : FileId) (x : Hash32) → Holds k (name.Entry id) x → 1 ≤ links_to id k
counted (Entry e) id x (inl h) = let a = counted-link e.left id x h in omega (arith, a)
counted (Entry e) id x (inr (inl h)) = let a = counted-link e.right id x h in omega (arith, a)
counted (Entry e) id x (inr (inr h)) = let a = counted-body e.id e.body id x h in omega (arith, a)
counted (Part p) id x (inl h) = absurd (part-aside p.file (p.level - 1) (2 * p.index) p.low id x h)
counted (Part p) id x (inr h) = absurd (part-aside p.file (p.level - 1) (2 * p.index + 1) p.high id x h)

-- where no link to it is counted, nobody holds a hash of it
pub unlinked-unheld : (c : Resident) (l : LinkIndex) (id : FileId) → IsIndexed c l → l.partial ≡ false → linked_count l id ≡ 0 → HasNoHolder c (name.Entry id)
unlinked-unheld c l id indexed sure none = λ p holder.
    let b = holder-node c p (name.Entry id) holder in
    let w : Held → ℕ = λ g. links_to id g.node in
    let all = sum_by-remove_entry w (same_name p) c.nodes in
    let own : weight w (held_node c p) ≡ links_to id b.held.node = ap (weight w) b.at in
    let some = counted b.held.node id b.hash b.holds in
    let count = indexed.counts sure id in
    omega (arith, none, all, own, some, count)

-- ---- where one link leads to an entry
none-in : (id : FileId) (es : List (names.Name × Held)) → links_among id es ≡ 0 → sums_among id es ≡ 0
none-in id [] none = refl
none-in id (e ∷ es) none =
    let a = sum_by-cons (λ (g : Held). links_to id g.node) e.1 (values_of es) in
    let b = sum_by-cons (λ (g : Held). sum_to id g.node) e.1 (values_of es) in
    let own : links_to id e.1.node ≡ 0 = omega (arith, a, none) in
    let rest = none-in id es (omega (arith, a, none)) in
    let sum : sum_to id e.1.node ≡ 0 * entry_id e.1.node = ap (λ k. k * entry_id e.1.node) own in
    omega (arith, b, rest, sum)

-- the one entry that has the link: all sums are its id
record Only (id : FileId) (es : List (names.Name × Held)) : Type 0 where
  place : ℕ
  name : names.Name
  held : Held
  at : slice_get es place ≡ Some (name, held)
  link : links_to id held.node ≡ 1
  sum : sums_among id es ≡ entry_id held.node

only-in : (id : FileId) (es : List (names.Name × Held)) → links_among id es ≡ 1 → Only id es
only-in id [] one = absurd (let e : 0 ≡ 1 = one in omega (arith, e))
only-in id (e ∷ es) one = by (links_to id e.1.node) refl (only-in id es)
  where
    a : links_among id (e ∷ es) ≡ links_to id e.1.node + links_among id es
    a = sum_by-cons (λ (g : Held). links_to id g.node) e.1 (values_of es)

    b : sums_among id (e ∷ es) ≡ sum_to id e.1.node + sums_among id es
    b = sum_by-cons (λ (g : Held). sum_to id g.node) e.1 (values_of es)

    by : (k : ℕ) → links_to id e.1.node ≡ k → (links_among id es ≡ 1 → Only id es) → Only id (e ∷ es)
    by zero own more =
        let r = more (omega (arith, a, one, own)) in
        let sum : sum_to id e.1.node ≡ 0 * entry_id e.1.node = ap (λ k. k * entry_id e.1.node) own in
        let rest = r.sum in
        record { place = suc r.place; name = r.name; held = r.held; at = r.at; link = r.link; sum = omega (arith, b, sum, rest) }
    by (suc k) own more =
        let once : links_to id e.1.node ≡ 1 = omega (arith, a, one, own) in
        let rest = none-in id es (omega (arith, a, one, own)) in
        let sum : sum_to id e.1.node ≡ 1 * entry_id e.1.node = ap (λ k. k * entry_id e.1.node) once in
        record { place = 0; name = e.0; held = e.1; at = refl; link = once; sum = omega (arith, b, sum, rest) }

linked-link : (l : Option Link) (id : FileId) → 1 ≤ link_count l id → (x : Hash32) × LinkHolds l (name.Entry id) x
linked-link None id some = absurd (omega (arith, some))
linked-link (Some l) id some = by (same_id l.id id) refl
  where
    by : (b : Bool) → same_id l.id id ≡ b → (x : Hash32) × LinkHolds (Some l) (name.Entry id) x
    by true s = (l.hash, (sym (same_name-true (name.Entry l.id) (name.Entry id) s), refl))
    by false s = absurd (let e : link_count (Some l) id ≡ 0 = ap (λ (b : Bool). cond b 1 0) s in omega (arith, some, e))

linked-body : (own : FileId) (b : Body) (id : FileId) → 1 ≤ link_count (link_inside b) id → (x : Hash32) × BodyHolds own b (name.Entry id) x
linked-body own (Dir top) id some = linked-link top id some
linked-body own (File size counter versions) id some = absurd (omega (arith, some))

-- a node with a link to an entry is an entry's, and holds a hash of it
record Linked (k : Node) (id : FileId) : Type 0 where
  hash : Hash32
  holds : Holds k (name.Entry id) hash
  fits : entry_id k < 2 ^ 64
  named : name_of k ≡ entry_of (entry_id k)

linked-node : (k : Node) (id : FileId) → IsInRanges k → 1 ≤ links_to id k → Linked k id
linked-node (Part p) id has some = absurd (omega (arith, some))
linked-node (Entry e) id has some = by (link_count e.left id) (link_count e.right id) refl refl
  where
    by : (i j : ℕ) → link_count e.left id ≡ i → link_count e.right id ≡ j → Linked (Entry e) id
    by (suc i) j a b = let h = linked-link e.left id (omega (arith, a)) in record { hash = h.0; holds = inl h.1; fits = has; named = refl }
    by zero (suc j) a b = let h = linked-link e.right id (omega (arith, b)) in record { hash = h.0; holds = inr (inl h.1); fits = has; named = refl }
    by zero zero a b = let h = linked-body e.id e.body id (omega (arith, some, a, b)) in record { hash = h.0; holds = inr (inr h.1); fits = has; named = refl }

one-id : (sum own all holder : ℕ) → holder ≡ sum → holder < 2 ^ 64 → IsSameSum sum all → all ≡ own → own < 2 ^ 64 → holder ≡ own
one-id sum own all holder e fits same is own-fits = omega (arith, e, fits, same, is, own-fits)

pub only-holder : (c : Resident) (l : LinkIndex) (id holder : FileId) → IsSoundCache c → IsIndexed c l → AreHolders l id (One holder) → IsHolder c (name.Entry holder) (name.Entry id)
only-holder c l id holder sound indexed told =
    let one = sym (indexed.counts told.0 id) ∙ told.1 in
    let r = only-in id c.nodes one in
    let at = lookup_from_place same_name_equiv c.nodes r.place r.name r.held sound.once r.at in
    let link = r.link in
    let k = linked-node r.held.node id (indexed.ranges r.name r.held at) (omega (arith, link)) in
    let same : holder.0 ≡ entry_id r.held.node = one-id (linked_sum l id) (entry_id r.held.node) (resident_sum c id) holder.0 told.2 told.3 (indexed.sums told.0 id) r.sum k.fits in
    let is : r.name ≡ name.Entry holder = sym (sound.own r.name r.held at) ∙ k.named ∙ sym (ap entry_of same) in
    subst (λ (p : names.Name). IsHolder c p (name.Entry id)) is (subst (λ (o : Option Held). IsSomeAnd o (λ g. (x : Hash32) × Holds g.node (name.Entry id) x)) (sym at) (k.hash, k.holds))

-- ---- a part
part-linked : {P : Type 0} (l : Option Link) (f : FileId) (level index : ℕ) (x : Hash32) → LinkHolds l (name.Part f level index) x → P
part-linked None f level index x h = absurd h
part-linked (Some l) f level index x h = absurd (let e : name.Part f level index ≡ name.Entry l.id = h.0 in cc)

above-top : (own f : FileId) (level index : ℕ) → name.Part f level index ≡ top_part own → name.Entry own ≡ part_above f level index
above-top own f level index e =
    let file : f ≡ own = cc in
    let top : level ≡ most_level = cc in
    ap name.Entry (sym file) ∙ sym (ap (λ k. cond (nat_lt k most_level) (name.Part f (k + 1) (index / 2)) (name.Entry f)) top)

above-body : (own : FileId) (b : Body) (f : FileId) (level index : ℕ) (x : Hash32) → BodyHolds own b (name.Part f level index) x → name.Entry own ≡ part_above f level index
above-body own (Dir top) f level index x h = part-linked top f level index x h
above-body own (File size counter (Fold v)) f level index x h = absurd h
above-body own (File size counter (Below y)) f level index x h = above-top own f level index h.0

halved : (i j : ℕ) → (i ≡ 2 * j) ⊎ (i ≡ 2 * j + 1) → j ≡ i / 2
halved i j (inl e) = omega (arith, e)
halved i j (inr e) = omega (arith, e)

above-part : (p : PartFields) (f : FileId) (level index i : ℕ) → (i ≡ 2 * p.index) ⊎ (i ≡ 2 * p.index + 1) → IsInRanges (Part p) → name.Part f level index ≡ name.Part p.file (p.level - 1) i → name.Part p.file p.level p.index ≡ part_above f level index
above-part p f level index i half has e =
    let file : p.file ≡ f = cc in
    let low : level ≡ p.level - 1 = cc in
    let at : i ≡ index = cc in
    let one = has.0 in
    let most = has.1 in
    let up : p.level ≡ level + 1 = omega (arith, low, one) in
    let place : p.index ≡ index / 2 = halved i p.index half ∙ ap (λ k. k / 2) at in
    let under : level < most_level = omega (arith, low, one, most) in
    let test : nat_lt level most_level ≡ true = lt-ltb level most_level under in
    (λ t. name.Part (file t) (up t) (place t)) ∙ sym (ap (λ (b : Bool). cond b (name.Part f (level + 1) (index / 2)) (name.Entry f)) test)

above-side : (p : PartFields) (s : Side) (f : FileId) (level index i : ℕ) (x : Hash32) → (i ≡ 2 * p.index) ⊎ (i ≡ 2 * p.index + 1) → IsInRanges (Part p) → SideHolds (name.Part p.file (p.level - 1) i) s (name.Part f level index) x → name.Part p.file p.level p.index ≡ part_above f level index
above-side p (Fold v) f level index i x half has h = absurd h
above-side p (Below y) f level index i x half has h = above-part p f level index i half has h.0

-- a node that holds a hash of a part is the one above it
above-node : (k : Node) (f : FileId) (level index : ℕ) (x : Hash32) → IsInRanges k → Holds k (name.Part f level index) x → name_of k ≡ part_above f level index
above-node (Entry e) f level index x has (inl h) = part-linked e.left f level index x h
above-node (Entry e) f level index x has (inr (inl h)) = part-linked e.right f level index x h
above-node (Entry e) f level index x has (inr (inr h)) = above-body e.id e.body f level index x h
above-node (Part p) f level index x has (inl h) = above-side p p.low f level index (2 * p.index) x (inl refl) has h
above-node (Part p) f level index x has (inr h) = above-side p p.high f level index (2 * p.index + 1) x (inr refl) has h

-- where the node above a part doesn't hold a hash of it, nobody does
pub above-alone : (c : Resident) (l : LinkIndex) (f : FileId) (level index : ℕ) → IsSoundCache c → IsIndexed c l → (IsHolder c (part_above f level index) (name.Part f level index) → ⊥) → HasNoHolder c (name.Part f level index)
above-alone c l f level index sound indexed none = λ p holder.
    let b = holder-node c p (name.Part f level index) holder in
    let e : p ≡ part_above f level index = sym (sound.own p b.held b.at) ∙ above-node b.held.node f level index b.hash (indexed.ranges p b.held b.at) b.holds in
    none (subst (λ (q : names.Name). IsHolder c q (name.Part f level index)) e holder)

-- ---- a block
block-linked : (l : Option Link) (f : FileId) (place : ℕ) (x : Hash32) → LinkHolds l (name.Block f place) x → ⊥
block-linked None f place x h = h
block-linked (Some l) f place x h = let e : name.Block f place ≡ name.Entry l.id = h.0 in cc

block-aside : (own g : FileId) (level index : ℕ) (s : Side) (place : ℕ) (x : Hash32) → SideHolds (name.Part own level index) s (name.Block g place) x → ⊥
block-aside own g level index (Fold v) place x h = h
block-aside own g level index (Below y) place x h = let e : name.Block g place ≡ name.Part own level index = h.0 in cc

block-inside : (own f : FileId) (b : Body) (place : ℕ) (x : Hash32) → BodyHolds own b (name.Block f place) x → ⊥
block-inside own f (Dir top) place x h = block-linked top f place x h
block-inside own f (File size counter versions) place x h = block-aside own f most_level 0 versions place x h

no-block : (k : Node) (f : FileId) (place : ℕ) (x : Hash32) → Holds k (name.Block f place) x → ⊥
no-block (Entry e) f place x (inl h) = block-linked e.left f place x h
no-block (Entry e) f place x (inr (inl h)) = block-linked e.right f place x h
no-block (Entry e) f place x (inr (inr h)) = block-inside e.id f e.body place x h
no-block (Part p) f place x (inl h) = block-aside p.file f (p.level - 1) (2 * p.index) p.low place x h
no-block (Part p) f place x (inr h) = block-aside p.file f (p.level - 1) (2 * p.index + 1) p.high place x h

pub block-unheld : (c : Resident) (f : FileId) (place : ℕ) → HasNoHolder c (name.Block f place)
block-unheld c f place = λ p holder. let b = holder-node c p (name.Block f place) holder in no-block b.held.node f place b.hash b.holds
