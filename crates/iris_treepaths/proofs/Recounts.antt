-- One step up of setting counts right.
use Rattle.std.proofs.Common.{◌≡◌, ◌⊎◌, ◌+◌, ◌/◌, ◌<◌, ◌^◌, inl, inr, ℕ, Bool, true, false, Option, Some, None, refl, ap, sym, ◌∙◌, subst, true≢false, is_some}
use Rattle.std.specs.Prelude.{IsSome, unwrap_or as option_unwrap_or}
use Rattle.std.specs.Option.{option_map}
use Rattle.iris_name.specs.Names.{same_name}
use Rattle.iris_name.specs.NameLaws.{same_name-true, same_name-refl}
use Rattle.iris_name.specs.declared.name.FileId.{FileId}
use Rattle.iris_name.specs.declared.name.Hash32.{Hash32}
use Rattle.iris_name.specs.declared.name.Name.{Name}
use Rattle.iris_node.specs.declared.node.Link.{Link}
use Rattle.iris_node.specs.declared.node.Body.{Body}
use Rattle.iris_node.specs.declared.node.Body.TheVariants.{Dir, File}
use Rattle.iris_node.specs.declared.node.Node.{Node}
use Rattle.iris_node.specs.declared.node.Node.TheVariants.{Entry, Part}
use Rattle.iris_node.specs.Fields.{EntryFields}
use Rattle.iris_node.specs.Local.{Local, FolderAt, LeafAt, local, local_of, entry_local, led, led_by, even_by}
use Rattle.iris_node.specs.Rules.{IsEntry, IsLinkToNamed, IsBody, IsDir}
use Rattle.iris_node.specs.Trees.{Shown, IsTree, IsParent, IsNodeName, said}
use Rattle.iris_node.specs.Unfolded.{Unfolded, Absent, Folder, Leaf, Even, Split, Stored, blocks}
use Rattle.iris_cache.specs.declared.held.Held.{Held}
use Rattle.iris_cache.specs.declared.draft.Change.{Change}
use Rattle.iris_cache.specs.Resident.{Resident, held_node}
use Rattle.iris_cache.specs.Drafted.{Drafted, drafted, known, seen, known_by, there_by}
use Rattle.iris_cache.specs.Pictures.{IsLike, Holds, LinkHolds, BodyHolds, parent_after}
use Rattle.iris_treepaths.specs.Counts.{count_of, lead_count, said_count, counted_lead, with_blocks, counted_link, counted_body, counted_entry, counted_node, HasChildCount, Recounts}
use Rattle.iris_treepaths.specs.Hands.{Holding, IsBelowHand, IsOut}
use Rattle.iris_treepaths.specs.Lags.{Lags, IsUpFrom}
use Rattle.iris_treepaths.specs.Planted.{IsOver, next, far}
use Rattle.iris_treepaths.specs.Rows.{Row, IsCountable}
use Rattle.iris_treepaths.proofs.Sizes.{never_over, none_over, over_parent}
use Rattle.iris_treepaths.proofs.There.{got, is_there, one_of}
use Rattle.iris_treepaths.proofs.Owned.{still_seen}

-- ---- what is there

pub like_said : (o : Option Unfolded) (k : Node) → IsLike o k → said o ≡ Some (local_of k)
like_said None k h = absurd h
like_said (Some u) k h = h

pub said_like : (o : Option Unfolded) (k : Node) → said o ≡ Some (local_of k) → IsLike o k
said_like None k h = absurd (true≢false (sym (ap is_some h)))
said_like (Some u) k h = h

-- ---- counts

led-count : (u : Unfolded) → lead_count (led u) ≡ blocks u
led-count Absent = refl
led-count (Folder id label less more inside) = refl
led-count (Leaf id label less more length counter versions) = refl
led-count (Even version) = refl
led-count (Split file level index low high) = refl
led-count (Stored version bytes) = refl

local-count : (u : Unfolded) (l : Local) → local u ≡ Some l → blocks u ≡ said_count l
local-count Absent l e = absurd (true≢false (sym (ap is_some e)))
local-count (Folder id label less more inside) l e = sym (ap (λ (o : Option Local). said_count (option_unwrap_or o l)) (sym e) ∙ (λ i. led-count less i + (led-count inside i + led-count more i)))
local-count (Leaf id label less more length counter versions) l e = sym (ap (λ (o : Option Local). said_count (option_unwrap_or o l)) (sym e) ∙ (λ i. led-count less i + ((length + 4095) / 4096 + led-count more i)))
local-count (Even version) l e = absurd (true≢false (sym (ap is_some e)))
local-count (Split file level index low high) l e = ap (λ (o : Option Local). said_count (option_unwrap_or o l)) e
local-count (Stored version bytes) l e = absurd (true≢false (sym (ap is_some e)))

pub said_counted : (o : Option Unfolded) (l : Local) → said o ≡ Some l → count_of o ≡ said_count l
said_counted None l h = absurd (true≢false (sym (ap is_some h)))
said_counted (Some u) l h = local-count u l h

pub like_count : (o : Option Unfolded) (k : Node) → IsLike o k → count_of o ≡ said_count (local_of k)
like_count None k h = absurd h
like_count (Some u) k h = local-count u (local_of k) h

led-counted : (n : Name) (k : ℕ) (l : Option Link) → led_by (counted_link n k l) ≡ counted_lead n k (led_by l)
led-counted n k None = refl
led-counted n k (Some l) = refl

entry-counted : (n : Name) (k : ℕ) (e : EntryFields) (b : Body) → entry_local (counted_entry n k e) (counted_body n k b) ≡ with_blocks n k (entry_local e b)
entry-counted n k e (Dir top) = λ i. FolderAt e.id.0 e.name (led-counted n k e.left i) (led-counted n k e.right i) (led-counted n k top i)
entry-counted n k e (File length counter versions) = λ i. LeafAt e.id.0 e.name (led-counted n k e.left i) (led-counted n k e.right i) length counter (even_by versions)

pub node_counted : (n : Name) (k : ℕ) (g : Node) → local_of (counted_node n k g) ≡ with_blocks n k (local_of g)
node_counted n k (Entry e) = entry-counted n k e e.body
node_counted n k (Part p) = refl

link-holds : (n : Name) (k : ℕ) (l : Option Link) (m : Name) (h : Hash32) → LinkHolds (counted_link n k l) m h → LinkHolds l m h
link-holds n k None m h x = x
link-holds n k (Some l) m h x = x

body-holds : (n : Name) (k : ℕ) (id : FileId) (b : Body) (m : Name) (h : Hash32) → BodyHolds id (counted_body n k b) m h → BodyHolds id b m h
body-holds n k id (Dir top) m h x = link-holds n k top m h x
body-holds n k id (File length counter versions) m h x = x

-- it holds no other hashes
pub node_holds : (n : Name) (k : ℕ) (g : Node) (m : Name) (h : Hash32) → Holds (counted_node n k g) m h → Holds g m h
node_holds n k (Entry e) m h (inl x) = inl (link-holds n k e.left m h x)
node_holds n k (Entry e) m h (inr (inl x)) = inr (inl (link-holds n k e.right m h x))
node_holds n k (Entry e) m h (inr (inr x)) = inr (inr (body-holds n k e.id e.body m h x))
node_holds n k (Part p) m h x = x

link-kept : (n : Name) (k : ℕ) (l : Option Link) → IsLinkToNamed l → IsLinkToNamed (counted_link n k l)
link-kept n k None h = h
link-kept n k (Some l) h = h

none-kept : (n : Name) (k : ℕ) (l : Option Link) → l ≡ None → counted_link n k l ≡ None
none-kept n k l e = ap (counted_link n k) e

body-kept : (n : Name) (k : ℕ) (b : Body) → IsBody b → IsBody (counted_body n k b)
body-kept n k (Dir top) h = link-kept n k top h
body-kept n k (File length counter versions) h = h

dir-kept : (n : Name) (k : ℕ) (b : Body) → IsDir b → IsDir (counted_body n k b)
dir-kept n k (Dir top) h = h
dir-kept n k (File length counter versions) h = h

-- an entry goes on keeping its rules
pub rules_kept : (n : Name) (k : ℕ) (e : EntryFields) → IsEntry e → IsEntry (counted_entry n k e)
rules_kept n k e h = record {
  root = λ lt. (let r = h.root lt in record { name = r.name; left = none-kept n k e.left r.left; right = none-kept n k e.right r.right; body = dir-kept n k e.body r.body });
  name = h.name;
  left = link-kept n k e.left h.left;
  right = link-kept n k e.right h.right;
  body = body-kept n k e.body h.body;
}

-- ---- one step up

-- what is seen is drafted or resident
seen-where : (o : Option Change) (h : Option Held) → IsSome (there_by (known_by o h)) → IsSome o ⊎ IsSome h
seen-where (Some x) h s = inl refl
seen-where None (Some h) s = inr refl
seen-where None None s = absurd (true≢false (sym s))

known-some : (o : Option (Option Node)) → IsSome (there_by o) → o ≡ Some None → ⊥
known-some o s e = true≢false (sym s ∙ ap (λ (x : Option (Option Node)). is_some (there_by x)) e)

known-there : (o : Option (Option Node)) → IsSome (there_by o) → o ≡ None → ⊥
known-there o s e = true≢false (sym s ∙ ap (λ (x : Option (Option Node)). is_some (there_by x)) e)

module _ (old new made : Shown) (hand : Option Row) (at p : Name) (d e : Drafted) (c : Resident)
    (tree : IsTree made) (countable : IsCountable made) (lags : Lags old new made hand at d c) (parent : IsParent made p at)
    (sees : IsSome (seen d c p)) (step : Recounts at p d e c) where
  child : (k : Node) × (seen d c at ≡ Some k)
  child = got (seen d c at) lags.there

  was : (k : Node) × (seen d c p ≡ Some k)
  was = got (seen d c p) sees

  child-like : IsLike (made at) child.0
  child-like = lags.nodes at child.0 child.1 (λ o. never_over made tree at at o refl)

  abbrev count : ℕ
  count = said_count (local_of child.0)

  count-is : count_of (made at) ≡ count
  count-is = like_count (made at) child.0 child-like

  live : made at ≡ Some parent.child
  live = tree.below p at parent.parent parent.child parent.live parent.above parent.named

  few : count < 2 ^ 64
  few = subst (λ k. k < 2 ^ 64) (sym (ap count_of live) ∙ count-is) (countable at parent.child live)

  now : seen e c p ≡ Some (counted_node at count was.0)
  now = step.counted_so child.0 was.0 child.1 few was.1

  up-like : IsLike (made p) (counted_node at count was.0)
  up-like = said_like (made p) (counted_node at count was.0) (
      lags.counts p at parent (inl refl) ∙ ap (λ k. option_map (with_blocks at k) (said (new p))) count-is
      ∙ ap (option_map (with_blocks at count)) (like_said (new p) was.0 (lags.above p was.0 was.1 (next p at parent))) ∙ ap Some (sym (node_counted at count was.0)))

  says : HasChildCount at p d c → said (made p) ≡ said (new p)
  says right =
      like_said (made p) (counted_node at count was.0) up-like ∙ ap (λ k. Some (local_of k)) (right child.0 was.0 child.1 few was.1)
      ∙ sym (like_said (new p) was.0 (lags.above p was.0 was.1 (next p at parent)))

  record From (n : Name) (k : Node) : Type 0 where
    node : Node
    at_it : seen d c n ≡ Some node
    holds : (m : Name) (h : Hash32) → Holds k m h → Holds node m h
    same : ((n ≡ p) × (k ≡ counted_node at count was.0)) ⊎ ((same_name p n ≡ false) × (k ≡ node))

  seen-other : (n : Name) → same_name p n ≡ false → seen e c n ≡ seen d c n
  seen-other n b = ap (λ o. there_by (known_by o (held_node c n))) (step.others n b)

  known-other : (n : Name) → same_name p n ≡ false → known e c n ≡ known d c n
  known-other n b = ap (λ o. known_by o (held_node c n)) (step.others n b)

  from-by : (n : Name) (k : Node) (b : Bool) → same_name p n ≡ b → seen e c n ≡ Some k → From n k
  from-by n k true b s =
      let e = same_name-true p n b in
      let is : k ≡ counted_node at count was.0 = one_of k (counted_node at count was.0) (sym s ∙ ap (seen _ c) (sym e) ∙ now) in
      record { node = was.0; at_it = ap (seen d c) (sym e) ∙ was.1; holds = λ m h x. node_holds at count was.0 m h (subst (λ g. Holds g m h) is x); same = inl (sym e, is) }
  from-by n k false b s = record { node = k; at_it = sym (seen-other n b) ∙ s; holds = λ m h x. x; same = inr (b, refl) }

  from : (n : Name) (k : Node) → seen e c n ≡ Some k → From n k
  from n k s = from-by n k (same_name p n) refl s

  stays : (n : Name) → IsSome (seen d c n) → IsSome (seen e c n)
  stays = still_seen _ _ c p (counted_node at count was.0) now step.others

  likes-by : (n : Name) (k : Node) → (IsOver made n p → ⊥) → From n k → IsLike (made n) k
  likes-by n k free f = elim f.same [
    | inl x ↦ subst (λ m. IsLike (made m) k) (sym x.0) (subst (IsLike (made p)) (sym x.1) up-like)
    | inr x ↦ lags.nodes n k (f.at_it ∙ ap Some (sym x.1)) (λ o. elim (over_parent made tree n at p o parent) [
      | inl z ↦ true≢false (sym (ap (same_name p) z ∙ same_name-refl p) ∙ x.0)
      | inr z ↦ free z
    ])
  ]

  above-like : (n : Name) (k : Node) → IsOver made n p → From n k → IsLike (new n) k
  above-like n k o f = elim f.same [
    | inl x ↦ absurd (never_over made tree n p o x.0)
    | inr x ↦ lags.above n k (f.at_it ∙ ap Some (sym x.1)) (far n p at parent o)
  ]

  gone-by : (n : Name) (b : Bool) → same_name p n ≡ b → IsNodeName n → known e c n ≡ Some None → made n ≡ None
  gone-by n true b is k = absurd (known-some (known e c n) (subst (λ m. IsSome (seen e c m)) (same_name-true p n b) (is_there (seen e c p) (counted_node at count was.0) now)) k)
  gone-by n false b is k = lags.gone n is (sym (known-other n b) ∙ k)

  away-by : (n : Name) (b : Bool) → same_name p n ≡ b → IsNodeName n → known e c n ≡ None → made n ≡ old n
  away-by n true b is k = absurd (known-there (known e c n) (subst (λ m. IsSome (seen e c m)) (same_name-true p n b) (is_there (seen e c p) (counted_node at count was.0) now)) k)
  away-by n false b is k = lags.away n is (sym (known-other n b) ∙ k)

  here : IsSome (held_node c p) ⊎ (old p ≡ None)
  here = elim (seen-where (drafted d p) (held_node c p) sees) [ inl s ↦ (let x = got (drafted d p) s in lags.resident p x.0 x.1) | inr s ↦ inl s ]

  resident-by : (n : Name) (change : Change) (b : Bool) → same_name p n ≡ b → drafted e n ≡ Some change → IsSome (held_node c n) ⊎ (old n ≡ None)
  resident-by n change true b is = subst (λ m. IsSome (held_node c m) ⊎ (old m ≡ None)) (same_name-true p n b) here
  resident-by n change false b is = lags.resident n change (sym (step.others n b) ∙ is)

  counts-up : (q m : Name) → IsParent made q m → IsUpFrom made p m → said (made q) ≡ option_map (with_blocks m (count_of (made m))) (said (new q))
  counts-up q m is (inl e) = lags.counts q m is (inr (subst (λ x. IsOver made x at) (sym e) (next p at parent)))
  counts-up q m is (inr o) = lags.counts q m is (inr (far m p at parent o))

  climbs : Lags old new made hand p e c
  climbs = record {
    before = lags.before;
    there = is_there (seen e c p) (counted_node at count was.0) now;
    above = λ n k s o. above-like n k o (from n k s);
    nodes = λ n k s free. likes-by n k free (from n k s);
    counts = counts-up;
    hashes = λ n m k h s holds. (let f = from n k s in lags.hashes n m f.node h f.at_it (f.holds m h holds));
    parents = λ n q k s is. (let f = from n k s in let x = lags.parents n q f.node f.at_it is in (step.parents n ∙ x.0, stays q x.1));
    tied = λ n q k s up. (let f = from n k s in lags.tied n q f.node f.at_it (sym (step.parents n) ∙ up));
    hangs = λ n q k s is. (let f = from n k s in step.parents n ∙ lags.hangs n q f.node f.at_it is);
    gone = λ n is k. gone-by n (same_name p n) refl is k;
    away = λ n is k. away-by n (same_name p n) refl is k;
    resident = λ n change is. resident-by n change (same_name p n) refl is;
    out = lags.out;
  }

-- where the parent has the child's count already, it says in the new table what it said
pub right_said : (old new made : Shown) (hand : Option Row) (at p : Name) (d e : Drafted) (c : Resident) → IsTree made → IsCountable made → Lags old new made hand at d c → IsParent made p at
    → IsSome (seen d c p) → Recounts at p d e c → HasChildCount at p d c → said (made p) ≡ said (new p)
right_said old new made hand at p d e c tree countable lags parent sees step right = says old new made hand at p d e c tree countable lags parent sees step right

-- counts lag no more above the parent
pub climbed : (old new made : Shown) (hand : Option Row) (at p : Name) (d e : Drafted) (c : Resident) → IsTree made → IsCountable made → Lags old new made hand at d c → IsParent made p at
    → IsSome (seen d c p) → Recounts at p d e c → Lags old new made hand p e c
climbed old new made hand at p d e c tree countable lags parent sees step = climbs old new made hand at p d e c tree countable lags parent sees step

-- a row in hand isn't seen
pub hand_unseen : (hand : Option Row) (made : Shown) (p n : Name) (k : Node) → IsOut hand made → IsBelowHand hand p n → IsLike (made p) k → ⊥
hand_unseen None made p n k out below like = below
hand_unseen (Some x) made p n k out below like = subst (λ o. IsLike o k) (ap made below.0 ∙ out) like

pub over_top : (t : Shown) (n q : Name) → IsOver t n q → (p : Name) × IsParent t p q
over_top t _ _ (next p n h) = (p, h)
over_top t _ _ (far p q n h o) = (q, h)

-- a row in hand isn't live
pub out_none : (g : Option Row) (t : Shown) (p n : Name) → IsBelowHand g p n → IsOut g t → t p ≡ None
out_none None t p n below out = absurd below
out_none (Some x) t p n below out = ap t below.0 ∙ out

-- the parent that is seen of a child that is seen is its parent in the table
pub parent_made : (old new made : Shown) (hand : Option Row) (at p : Name) (d : Drafted) (c : Resident) → IsTree made → Lags old new made hand at d c → parent_after d c at ≡ Some p → IsSome (seen d c p) → IsParent made p at
parent_made old new made hand at p d c tree lags up sees =
    let k = got (seen d c at) lags.there in
    elim (lags.tied at p k.0 k.1 up) [ inl x ↦ x | inr below ↦ absurd (by (got (seen d c p) sees) below) ]
  where
    none-over : IsBelowHand hand p at → IsOver made p at → ⊥
    none-over below o = none_over made tree p at (out_none hand made p at below lags.out) o

    by : (k : Node) × (seen d c p ≡ Some k) → IsBelowHand hand p at → ⊥
    by k below = hand_unseen hand made p at k.0 lags.out below (lags.nodes p k.0 k.1 (none-over below))

-- where no parent of the child is seen, nothing lags
pub topmost : (old new made : Shown) (hand : Option Row) (at : Name) (d : Drafted) (c : Resident) → Lags old new made hand at d c → ((p : Name) → parent_after d c at ≡ Some p → IsSome (seen d c p) → ⊥) → Holding old made hand d c
topmost old new made hand at d c lags none =
    let k = got (seen d c at) lags.there in
    let free : (n : Name) → IsOver made n at → ⊥ = λ n o. (let q = over_top made n at o in let x = lags.parents at q.0 k.0 k.1 q.1 in none q.0 x.0 x.1) in
    record {
      before = lags.before;
      nodes = λ n g s. lags.nodes n g s (free n);
      hashes = lags.hashes;
      parents = lags.parents;
      tied = lags.tied;
      hangs = lags.hangs;
      gone = lags.gone;
      away = lags.away;
      resident = lags.resident;
      out = lags.out;
    }
