-- What a draft makes of a cache pictures the table after.
use Rattle.std.proofs.Common.{◌≡◌, ◌⊎◌, if◌then◌else◌, inl, inr, ℕ, zero, suc, Bool, true, false, Option, Some, None, IsSome, refl, ap, sym, ◌∙◌, subst, true≢false, is_some}
use Rattle.std.specs.Prelude.{◌≢◌, unwrap_or as option_unwrap_or}
use Rattle.std.specs.Option.{option_map}
use Rattle.iris_name.specs.Names.{same_name}
use Rattle.iris_name.specs.NameLaws.{same_name_equiv, same_name-true}
use Rattle.iris_name.specs.declared.name.Hash32.{Hash32}
use Rattle.iris_name.specs.declared.name.Name.{Name}
use Rattle.iris_node.specs.declared.node.Node.{Node}
use Rattle.iris_node.specs.Unfolded.{Unfolded, Absent, Folder, Leaf, Even, Split, Stored}
use Rattle.iris_node.specs.Local.{local, local_of}
use Rattle.iris_node.proofs.Same.{same_node, node_is, node_same}
use Rattle.iris_cache.specs.declared.held.Held.{Held}
use Rattle.iris_cache.specs.declared.draft.Change.{Change}
use Rattle.iris_cache.specs.Held.{moved_node, with_kids}
use Rattle.iris_cache.specs.Resident.{Resident, held_node, children, map_if}
use Rattle.iris_cache.specs.Drafted.{Drafted, drafted, known, seen, known_by, there_by}
use Rattle.iris_cache.specs.Applied.{Lands, Changed, Differs, IsSelfOrAncestor, is_above_within as over, landed_node, landed_node_by, arrived_node}
use Rattle.iris_node.specs.Trees.{Shown, IsTree, IsParent, IsAbove, IsNodeName, node_name}
use Rattle.iris_cache.specs.Pictures.{IsLike, IsHashOf, IsSettled, Holds, Pictures, Drafts, parent_after, parent_by}
use Rattle.iris_cache.specs.Laws.{AreFormed, HaveApart, ApplyKeeps, ApplyMarks, KeepsMarks, Left}
use Rattle.iris_cache.proofs.Children.{same-node, live-name, held-named}
use Rattle.iris_cache.proofs.Lacking.{named, unknown}
use Rattle.iris_cache.proofs.Sparing.{sets-held}
use Rattle.iris_cache.proofs.Rising.{or-split, or-left, or-right, above-none}

-- one step further up
over-up : (up : Name → Option Name) (m n : Name) → up m ≡ Some n → (k : ℕ) (at : Option Name) → over up k at m ≡ true → over up (suc k) at n ≡ true
over-up up m n is zero at h = absurd (true≢false (sym h))
over-up up m n is (suc k) None h = absurd (true≢false (sym h))
over-up up m n is (suc k) (Some x) h = elim (or-split (same_name x m) (over up k (up x) m) h) [
  | inl s ↦ or-right (same_name x n) (over up (suc k) (up x) n)
      (ap (λ o. over up (suc k) o n) (ap up (same_name-true x m s) ∙ is) ∙ or-left (same_name n n) (over up k (up n) n) (same_name_equiv.refl n))
  | inr r ↦ or-right (same_name x n) (over up (suc k) (up x) n) (over-up up m n is k (up x) r)
]

over-self : (up : Name → Option Name) (n : Name) → IsSelfOrAncestor up n n
over-self up n = (1, or-left (same_name n n) (over up 0 (up n) n) (same_name_equiv.refl n))

-- ---- what is held of a name after

-- a node that came is dirty and unsettled, and nothing is out
abbrev Came : Held → Type 0
Came h = KeepsMarks (arrived_node h.parent h.node) h

record After (o : Option Change) (w : Option Held) (b : Bool) (h : Held) : Type 0 where
  node : there_by (known_by o w) ≡ Some h.node
  parent : parent_by o w ≡ h.parent
  was : ((w ≡ None) × Came h) ⊎ ((g : Held) × (w ≡ Some g) × KeepsMarks (if b then moved_node g else g) h)

no-held : {P : Type 0} (h : Held) → None ≡ Some h → P
no-held h e = absurd (true≢false (sym (ap (λ (x : Option Held). is_some x) e)))

the-held : (x h : Held) → Some x ≡ Some h → x ≡ h
the-held x h e = ap (λ (o : Option Held). option_unwrap_or o x) e

set-after : (change : Change) (node : Option Node) (w : Option Held) (b : Bool) (k : ℕ) (h : Held) → change.node ≡ node → option_map (with_kids k) (landed_node_by change.parent node (map_if b moved_node w)) ≡ Some h → After (Some change) w b h
set-after change None w b k h n e = no-held h e
set-after change (Some node) None true k h n e = subst (After (Some change) None true) (the-held (with_kids k (arrived_node change.parent node)) h e) (record { node = n; parent = refl; was = inl (refl, refl) })
set-after change (Some node) None false k h n e = subst (After (Some change) None false) (the-held (with_kids k (arrived_node change.parent node)) h e) (record { node = n; parent = refl; was = inl (refl, refl) })
set-after change (Some node) (Some g) true k h n e = subst (After (Some change) (Some g) true) (the-held (record (moved_node g) { node = node; parent = change.parent; kids = k }) h e) (record { node = n; parent = refl; was = inr (g, refl, refl) })
set-after change (Some node) (Some g) false k h n e = subst (After (Some change) (Some g) false) (the-held (record g { node = node; parent = change.parent; kids = k }) h e) (record { node = n; parent = refl; was = inr (g, refl, refl) })

after : (o : Option Change) (w : Option Held) (b : Bool) (k : ℕ) (h : Held) → option_map (with_kids k) (landed_node o (map_if b moved_node w)) ≡ Some h → After o w b h
after (Some change) w b k h e = set-after change change.node w b k h refl e
after None None true k h e = no-held h e
after None None false k h e = no-held h e
after None (Some g) true k h e = subst (After None (Some g) true) (the-held (with_kids k (moved_node g)) h e) (record { node = refl; parent = refl; was = inr (g, refl, refl) })
after None (Some g) false k h e = subst (After None (Some g) false) (the-held (with_kids k g) h e) (record { node = refl; parent = refl; was = inr (g, refl, refl) })

set-stays : (p : Option Name) (node : Option Node) (w : Option Held) (b : Bool) (k : ℕ) → IsSome node → IsSome (option_map (with_kids k) (landed_node_by p node (map_if b moved_node w)))
set-stays p None w b k s = absurd (true≢false (sym s))
set-stays p (Some node) None true k s = refl
set-stays p (Some node) None false k s = refl
set-stays p (Some node) (Some g) true k s = refl
set-stays p (Some node) (Some g) false k s = refl

-- what is seen is held after
stays : (o : Option Change) (w : Option Held) (b : Bool) (k : ℕ) → IsSome (there_by (known_by o w)) → IsSome (option_map (with_kids k) (landed_node o (map_if b moved_node w)))
stays (Some change) w b k s = set-stays change.parent change.node w b k s
stays None None b k s = absurd (true≢false (sym s))
stays None (Some g) true k s = refl
stays None (Some g) false k s = refl

-- a node that isn't changed is the one that is held
record Same (w : Option Held) (node : Node) : Type 0 where
  was : Held
  at : w ≡ Some was
  is : was.node ≡ node

by-test : (node : Node) (h : Held) (t : Bool) → same_node node h.node ≡ t → (node ≢ h.node → ⊥) → h.node ≡ node
by-test node h true s f = sym (node_is node h.node s)
by-test node h false s f = absurd (f (λ e. true≢false (sym (node_same node h.node e) ∙ s)))

set-same : (n : Option Node) (w : Option Held) (node : Node) → n ≡ Some node → (Differs n w → ⊥) → Same w node
set-same None w node e f = absurd (true≢false (sym (ap (λ (x : Option Node). is_some x) e)))
set-same (Some k) None node e f = absurd (f tt)
set-same (Some k) (Some h) node e f = let q : k ≡ node = ap (λ (x : Option Node). option_unwrap_or x k) e in record { was = h; at = refl; is = by-test k h (same_node k h.node) refl f ∙ q }

same-by : (o : Option Change) (w : Option Held) (node : Node) → there_by (known_by o w) ≡ Some node → (Changed o w → ⊥) → Same w node
same-by (Some change) w node e f = set-same change.node w node e f
same-by None (Some h) node e f = record { was = h; at = refl; is = ap (λ (x : Option Node). option_unwrap_or x h.node) e }
same-by None None node e f = absurd (true≢false (sym (ap (λ (x : Option Node). is_some x) e)))

came-changed : (o : Option Change) (w : Option Held) (node : Node) → there_by (known_by o w) ≡ Some node → w ≡ None → Changed o w
came-changed (Some change) None node e z = subst (λ n. Differs n None) (sym e) tt
came-changed (Some change) (Some h) node e z = absurd (true≢false (ap (λ (x : Option Held). is_some x) z))
came-changed None None node e z = absurd (true≢false (sym (ap (λ (x : Option Node). is_some x) e)))
came-changed None (Some h) node e z = absurd (true≢false (ap (λ (x : Option Held). is_some x) z))

-- a changed name is set
record SetTo (o : Option Change) (w : Option Held) : Type 0 where
  change : Change
  node : Node
  at : o ≡ Some change
  is : change.node ≡ Some node
  sees : there_by (known_by o w) ≡ Some node
  differs : Differs (Some node) w

set-node : (change : Change) (w : Option Held) (n : Option Node) → change.node ≡ n → Differs n w → SetTo (Some change) w
set-node change w None e f = absurd f
set-node change w (Some node) e f = record { change = change; node = node; at = refl; is = e; sees = e; differs = f }

set-to : (o : Option Change) (w : Option Held) → Changed o w → SetTo o w
set-to None w f = absurd f
set-to (Some change) w f = set-node change w change.node refl f

some-node : (o : Option Node) → IsSome o → (node : Node) × (o ≡ Some node)
some-node None s = absurd (true≢false (sym s))
some-node (Some node) s = (node, refl)

-- a live node that is like
record Live (o : Option Unfolded) (node : Node) : Type 0 where
  it : Unfolded
  at : o ≡ Some it
  says : local it ≡ Some (local_of node)

live : (o : Option Unfolded) (node : Node) → IsLike o node → Live o node
live None node l = absurd l
live (Some u) node l = record { it = u; at = refl; says = l }

no-unfolded : {P : Type 0} (o : Option Unfolded) (u : Unfolded) → o ≡ None → o ≡ Some u → P
no-unfolded o u a b = absurd (true≢false (ap (λ (x : Option Unfolded). is_some x) (sym b ∙ a)))

the-unfolded : (u w : Unfolded) → Some u ≡ Some w → u ≡ w
the-unfolded u w e = ap (λ (o : Option Unfolded). option_unwrap_or o u) e

false-by : (b : Bool) → (b ≡ true → ⊥) → b ≡ false
false-by true f = absurd (f refl)
false-by false f = refl

unsettled-not : {P : Type 0} (h g : Held) → KeepsMarks g h → g.settled ≡ false → h.settled ≡ true → P
unsettled-not h g keeps un settled = absurd (true≢false (sym settled ∙ ap (λ (x : Held). x.settled) keeps ∙ un))

module _ (old new : Shown) (d : Drafted) (c e : Resident) (pic : Drafts old new d c) (was : IsTree old) (is : IsTree new) (fo : AreFormed old) (fn : AreFormed new) (lands : (q : Name) → Lands d c e q) where
  -- nothing is detached
  is-tied : (n p : Name) (node : Node) → seen d c n ≡ Some node → parent_after d c n ≡ Some p → IsParent new p n
  is-tied n p node sees up = elim (pic.tied n p node sees up) [ inl i ↦ i | inr below ↦ absurd below ]

  abbrev marked : Name → Bool
  marked n = (lands n).marked

  after-of : (q : Name) (h : Held) → held_node e q ≡ Some h → After (drafted d q) (held_node c q) (marked q) h
  after-of q h s = after (drafted d q) (held_node c q) (marked q) (children e q) h (sym ((lands q).is) ∙ s)

  stays-of : (q : Name) → IsSome (seen d c q) → IsSome (held_node e q)
  stays-of q s = subst IsSome (sym ((lands q).is)) (stays (drafted d q) (held_node c q) (marked q) (children e q) s)

  -- marks go up
  up-one : (m n : Name) → parent_after d c m ≡ Some n → marked n ≡ false → marked m ≡ false
  up-one m n at un = false-by (marked m) (λ t.
      let f = (lands m).from t in
      let o : IsSelfOrAncestor (parent_after d c) f.0 n = (suc f.2.0, over-up (parent_after d c) m n at f.2.0 (Some f.0) f.2.1) in
      true≢false (sym ((lands n).all f.0 f.1 o) ∙ un))

  unchanged : (n : Name) → marked n ≡ false → Changed (drafted d n) (held_node c n) → ⊥
  unchanged n un ch = true≢false (sym ((lands n).all n ch (over-self (parent_after d c) n)) ∙ un)

  -- where a name isn't marked, it stands for the same
  abbrev IsSame : Unfolded → Type 0
  IsSame u = (n : Name) → new n ≡ Some u → node_name u ≡ Some n → marked n ≡ false → old n ≡ Some u

  child-same : (u w : Unfolded) (n m : Name) → IsSame w → IsAbove u w → node_name w ≡ Some m → new n ≡ Some u → marked n ≡ false → old m ≡ Some w
  child-same u w n m ih a nm at un = by (known d c m) refl
    where
      parent : IsParent new n m
      parent = record { parent = u; child = w; live = at; above = a; named = nm }

      there : new m ≡ Some w
      there = is.below n m u w at a nm

      by : (k : Option (Option Node)) → known d c m ≡ k → old m ≡ Some w
      by None k = sym (pic.away m (named w m nm) k) ∙ there
      by (Some None) k = no-unfolded (new m) w (pic.gone m (named w m nm) k) there
      by (Some (Some node)) k = ih m there nm (up-one m n ((pic.parents m n node (ap there_by k) parent).0) un)

  same-seen : (u : Unfolded) (n : Name) (node : Node) → ((w : Unfolded) → IsAbove u w → IsSame w) → seen d c n ≡ Some node → new n ≡ Some u → marked n ≡ false → old n ≡ Some u
  same-seen u n node ih sees at un =
      let l = live (new n) node (pic.nodes n node sees) in
      let says : local u ≡ Some (local_of node) = ap local (the-unfolded u l.it (sym at ∙ l.at)) ∙ l.says in
      let s = same-by (drafted d n) (held_node c n) node sees (unchanged n un) in
      let lo = live (old n) node (subst (IsLike (old n)) s.is (pic.before.nodes n s.was s.at)) in
      let e : u ≡ lo.it = same-node u lo.it (local_of node) says lo.says (fn n u at) (fo n lo.it lo.at)
      (λ w x m aw ax nw nx. the-unfolded w x (sym (child-same u w n m (ih w aw) aw nw at un) ∙ was.below n m lo.it x lo.at ax nx)) in
      lo.at ∙ ap Some (sym e)

  step : (u : Unfolded) → ((w : Unfolded) → IsAbove u w → IsSame w) → IsSame u
  step u ih n at nm un = by (known d c n) refl
    where
      by : (k : Option (Option Node)) → known d c n ≡ k → old n ≡ Some u
      by None k = sym (pic.away n (named u n nm) k) ∙ at
      by (Some None) k = no-unfolded (new n) u (pic.gone n (named u n nm) k) at
      by (Some (Some node)) k = same-seen u n node ih (ap there_by k) at un

  all-same : (u : Unfolded) → IsSame u
  all-same (Folder id label less more inside) = step (Folder id label less more inside) (λ w a. elim a [
    | inl r ↦ subst IsSame (sym r) (all-same less)
    | inr r ↦ elim r [ inl q ↦ subst IsSame (sym q) (all-same more) | inr q ↦ subst IsSame (sym q) (all-same inside) ]
  ])
  all-same (Leaf id label less more size counter versions) = step (Leaf id label less more size counter versions) (λ w a. elim a [
    | inl r ↦ subst IsSame (sym r) (all-same less)
    | inr r ↦ elim r [ inl q ↦ subst IsSame (sym q) (all-same more) | inr q ↦ subst IsSame (sym q) (all-same versions) ]
  ])
  all-same (Split file level index low high) = step (Split file level index low high) (λ w a. elim a [ inl r ↦ subst IsSame (sym r) (all-same low) | inr r ↦ subst IsSame (sym r) (all-same high) ])
  all-same Absent = step Absent (λ w a. absurd a)
  all-same (Even v) = step (Even v) (λ w a. absurd a)
  all-same (Stored v bytes) = step (Stored v bytes) (λ w a. absurd a)

  -- a node that is seen and isn't marked stands for the same
  same-at : (n : Name) (node : Node) (u : Unfolded) → seen d c n ≡ Some node → marked n ≡ false → new n ≡ Some u → old n ≡ Some u
  same-at n node u sees un at =
      let l = live (new n) node (pic.nodes n node sees) in
      let says : local u ≡ Some (local_of node) = ap local (the-unfolded u l.it (sym at ∙ l.at)) ∙ l.says in
      all-same u n at (live-name new n u (local_of node) is at says) un

  -- ---- what is left pictures the table after

  -- a settled node was settled, and isn't marked
  record Settled (n : Name) : Type 0 where
    held-before : Held
    at : held_node c n ≡ Some held-before
    unmarked : marked n ≡ false
    settled : held-before.settled ≡ true

  settled-by : (n : Name) (h g : Held) (b : Bool) → held_node c n ≡ Some g → marked n ≡ b → KeepsMarks (if b then moved_node g else g) h → h.settled ≡ true → Settled n
  settled-by n h g true at m keeps s = unsettled-not h (moved_node g) keeps refl s
  settled-by n h g false at m keeps s = record { held-before = g; at = at; unmarked = m; settled = sym (ap (λ (x : Held). x.settled) keeps) ∙ s }

  settled-before : (n : Name) (h : Held) → held_node e n ≡ Some h → h.settled ≡ true → Settled n
  settled-before n h at s = let a = after-of n h at in elim a.was [
    | inl r ↦ unsettled-not h (arrived_node h.parent h.node) r.1 refl s
    | inr r ↦ settled-by n h r.0 (marked n) r.1 refl r.2 s
  ]

  hash-after : (n m : Name) (node : Node) (x : Hash32) (o : Option Held) → held_node e m ≡ o → seen d c n ≡ Some node → Holds node m x → IsSettled o → IsHashOf (new m) x
  hash-after n m node x (Some h) at sees holds s =
      let b = settled-before m h at s in
      let a = after-of m h at in
      let t = (pic.hashes n m node x sees holds).0 (subst IsSettled (sym b.at) b.settled) in
      λ u live. t u (same-at m h.node u a.node b.unmarked live)
  hash-after n m node x None at sees holds s = by (known d c m) refl
    where
      by : (k : Option (Option Node)) → known d c m ≡ k → IsHashOf (new m) x
      by None k = let t = (pic.hashes n m node x sees holds).0 (subst IsSettled (sym ((unknown d c m k).1)) tt) in subst (λ o. IsHashOf o x) (sym (pic.away m (held-named node m x holds) k)) t
      by (Some None) k = λ u live. no-unfolded (new m) u (pic.gone m (held-named node m x holds) k) live
      by (Some (Some y)) k = absurd (true≢false (sym (stays-of m (ap (λ o. is_some (there_by o)) k)) ∙ ap (λ (o : Option Held). is_some o) at))

  unmarked-stays : (q : Name) (h : Held) → held_node e q ≡ Some h → marked q ≡ false → (g : Held) × (held_node c q ≡ Some g) × (h.settled ≡ g.settled)
  unmarked-stays q h at un = let a = after-of q h at in elim a.was [
    | inl r ↦ absurd (unchanged q un (came-changed (drafted d q) (held_node c q) h.node a.node r.0))
    | inr r ↦ (r.0, r.1, ap (λ (x : Held). x.settled) (subst (λ b. KeepsMarks (if b then moved_node r.0 else r.0) h) un r.2))
  ]

  rising-after : (q p : Name) (h g : Held) → held_node e q ≡ Some h → h.parent ≡ Some p → held_node e p ≡ Some g → g.settled ≡ true → h.settled ≡ true
  rising-after q p h g at of at-p s =
      let a = after-of q h at in
      let z = after-of p g at-p in
      let b = settled-before p g at-p s in
      let up : parent_after d c q ≡ Some p = a.parent ∙ of in
      let r = unmarked-stays q h at (up-one q p up b.unmarked) in
      let i = is-tied q p h.node a.node up in
      let j : IsParent old p q = record { parent = i.parent; child = i.child; live = same-at p g.node i.parent z.node b.unmarked i.live; above = i.above; named = i.named } in
      let k = pic.before.parents q p r.0 r.1 j in
      r.2 ∙ pic.before.rising q p r.0 b.held-before r.1 k.0 b.at b.settled

  after-pictures : Pictures new e
  after-pictures = record {
    nodes = λ n h at. pic.nodes n h.node ((after-of n h at).node);
    hashes = λ n m h x at holds s. hash-after n m h.node x (held_node e m) refl ((after-of n h at).node) holds s;
    parents = λ n p h at parent. let a = after-of n h at in let r = pic.parents n p h.node a.node parent in (sym a.parent ∙ r.0, stays-of p r.1);
    tied = λ n p h at of. let a = after-of n h at in is-tied n p h.node a.node (a.parent ∙ of);
    rising = rising-after;
  }

  -- ---- what is marked stands for something else

  -- what is seen below a name that stands for the same stands for the same
  abbrev IsBelow : Name → ℕ → Type 0
  IsBelow n k = (m : Name) (node : Node) → over (parent_after d c) k (Some m) n ≡ true → seen d c m ≡ Some node → new n ≡ old n → new m ≡ old m

  below-next : (n : Name) (k : ℕ) → IsBelow n k → (m : Name) (node : Node) (o : Option Name) → parent_after d c m ≡ o → over (parent_after d c) k o n ≡ true → seen d c m ≡ Some node → new n ≡ old n → new m ≡ old m
  below-next n k ih m node None at h sees same = absurd (true≢false (sym h ∙ above-none (parent_after d c) k n))
  below-next n k ih m node (Some p) at h sees same =
      let i = is-tied m p node sees at in
      let s = some-node (seen d c p) ((pic.parents m p node sees i).1) in
      let q : new p ≡ old p = ih p s.0 h s.1 same in
      is.below p m i.parent i.child i.live i.above i.named ∙ sym (was.below p m i.parent i.child (sym q ∙ i.live) i.above i.named)

  same-below : (n : Name) (k : ℕ) → IsBelow n k
  same-below n zero m node h sees same = absurd (true≢false (sym h))
  same-below n (suc k) m node h sees same = elim (or-split (same_name m n) (over (parent_after d c) k (parent_after d c m) n) h) [
    | inl s ↦ subst (λ (p : Name). new p ≡ old p) (sym (same_name-true m n s)) same
    | inr r ↦ below-next n k (same-below n k) m node (parent_after d c m) refl r sees same
  ]

  new-name : (m : Name) (change : Change) (node : Node) → drafted d m ≡ Some change → seen d c m ≡ Some node → held_node c m ≡ None → new m ≡ old m → ⊥
  new-name m change node at sees absent same =
      let l = live (new m) node (pic.nodes m node sees) in
      elim (pic.resident m change at) [
        | inl s ↦ true≢false (sym s ∙ ap (λ (o : Option Held). is_some o) absent)
        | inr o ↦ no-unfolded (old m) l.it o (sym same ∙ l.at)
      ]

  changed-differs : (m : Name) (s : SetTo (drafted d m) (held_node c m)) (o : Option Held) → held_node c m ≡ o → HaveApart old → new m ≡ old m → ⊥
  changed-differs m s None at apart same = new-name m s.change s.node s.at s.sees at same
  changed-differs m s (Some h) at apart same = subst (Differs (Some s.node)) at s.differs (sets-held old new d c m s.node h pic was fo apart s.sees at same)

  marked-differs : (n : Name) → marked n ≡ true → HaveApart old → new n ≡ old n → ⊥
  marked-differs n t apart same =
      let f = (lands n).from t in
      let s = set-to (drafted d f.0) (held_node c f.0) f.1 in
      changed-differs f.0 s (held_node c f.0) refl apart (same-below n f.2.0 f.0 s.node f.2.1 s.sees same)

  unmarked-same : (n : Name) (node : Node) → seen d c n ≡ Some node → marked n ≡ false → new n ≡ old n
  unmarked-same n node sees un = let l = live (new n) node (pic.nodes n node sees) in l.at ∙ sym (same-at n node l.it sees un l.at)

  not-seen : (n : Name) (node : Node) → held_node e n ≡ None → known d c n ≡ Some (Some node) → ⊥
  not-seen n node at k = true≢false (sym (stays-of n (ap (λ o. is_some (there_by o)) k)) ∙ ap (λ (o : Option Held). is_some o) at)

  abbrev LeftOf : Name → Option Held → Option Held → Type 0
  LeftOf n w v = Left (new n ≡ old n) w v

  never-there : (n : Name) → IsNodeName n → held_node c n ≡ None → held_node e n ≡ None → new n ≡ old n
  never-there n kind absent at = by (known d c n) refl
    where
      removed : (o : Option Change) → drafted d n ≡ o → known d c n ≡ Some None → new n ≡ old n
      removed None dr k = let q = ap (known_by None) (sym absent) ∙ (ap (λ o. known_by o (held_node c n)) (sym dr) ∙ k) in absurd (true≢false (sym (ap (λ (x : Option (Option Node)). is_some x) q)))
      removed (Some change) dr k = elim (pic.resident n change dr) [
        | inl s ↦ absurd (true≢false (sym s ∙ ap (λ (o : Option Held). is_some o) absent))
        | inr o ↦ pic.gone n kind k ∙ sym o
      ]

      by : (k : Option (Option Node)) → known d c n ≡ k → new n ≡ old n
      by None k = pic.away n kind k
      by (Some None) k = removed (drafted d n) refl k
      by (Some (Some node)) k = absurd (not-seen n node at k)

  went : (n : Name) (g : Held) → IsNodeName n → held_node c n ≡ Some g → held_node e n ≡ None → new n ≡ old n → ⊥
  went n g kind was-at at same = by (known d c n) refl
    where
      by : (k : Option (Option Node)) → known d c n ≡ k → ⊥
      by None k = true≢false (sym (ap (λ (o : Option Held). is_some o) was-at) ∙ ap (λ (o : Option Held). is_some o) ((unknown d c n k).1))
      by (Some None) k = let l = live (old n) g.node (pic.before.nodes n g was-at) in no-unfolded (new n) l.it (pic.gone n kind k) (same ∙ l.at)
      by (Some (Some node)) k = not-seen n node at k

  came : (n : Name) (h : Held) → held_node c n ≡ None → held_node e n ≡ Some h → LeftOf n None (Some h)
  came n h absent at = let a = after-of n h at in elim a.was [
    | inl r ↦ (let s = set-to (drafted d n) (held_node c n) (came-changed (drafted d n) (held_node c n) h.node a.node r.0) in (λ same. new-name n s.change s.node s.at s.sees absent same, r.1))
    | inr r ↦ absurd (true≢false (sym (ap (λ (o : Option Held). is_some o) r.1) ∙ ap (λ (o : Option Held). is_some o) absent))
  ]

  unmarked-node : (n : Name) (g h : Held) → held_node c n ≡ Some g → seen d c n ≡ Some h.node → marked n ≡ false → g.node ≡ h.node
  unmarked-node n g h at sees un = let s = same-by (drafted d n) (held_node c n) h.node sees (unchanged n un) in ap (λ (x : Held). x.node) (the-held g s.was (sym at ∙ s.at)) ∙ s.is

  left-by : HaveApart old → (n : Name) (g h : Held) (b : Bool) → held_node c n ≡ Some g → seen d c n ≡ Some h.node → marked n ≡ b → KeepsMarks (if b then moved_node g else g) h → LeftOf n (Some g) (Some h)
  left-by apart n g h true at sees m keeps = inr (marked-differs n m apart, keeps)
  left-by apart n g h false at sees m keeps = inl (unmarked-same n h.node sees m, keeps ∙ ap (λ k. record g { node = k; parent = h.parent; kids = h.kids }) (sym (unmarked-node n g h at sees m)))

  stayed : HaveApart old → (n : Name) (g h : Held) → held_node c n ≡ Some g → held_node e n ≡ Some h → LeftOf n (Some g) (Some h)
  stayed apart n g h was-at at = let a = after-of n h at in elim a.was [
    | inl r ↦ absurd (true≢false (sym (ap (λ (o : Option Held). is_some o) was-at) ∙ ap (λ (o : Option Held). is_some o) r.0))
    | inr r ↦ left-by apart n g h (marked n) was-at a.node refl (subst (λ (x : Held). KeepsMarks (if marked n then moved_node x else x) h) (the-held r.0 g (sym r.1 ∙ was-at)) r.2)
  ]

  left : HaveApart old → (n : Name) (w v : Option Held) → IsNodeName n → held_node c n ≡ w → held_node e n ≡ v → LeftOf n w v
  left apart n None None kind a b = never-there n kind a b
  left apart n None (Some h) kind a b = came n h a b
  left apart n (Some g) None kind a b = went n g kind a b
  left apart n (Some g) (Some h) kind a b = stayed apart n g h a b

pub apply-keeps : ApplyKeeps
apply-keeps old new d c e pic was is fo fn lands = after-pictures old new d c e pic was is fo fn lands

pub apply-marks : ApplyMarks
apply-marks old new d c e pic was is fo fn apart lands n kind = left old new d c e pic was is fo fn lands apart n (held_node c n) (held_node e n) kind refl refl
