-- Ways down in a table: what was met above a node is larger than what stands below, so no name is met twice, and a way of seen nodes isn't longer than there are names.
use Rattle.std.proofs.Common.{◌≡◌, ◌||◌, ◌+◌, ◌≤◌, ◌<◌, ◌++◌, inl, inr, ℕ, zero, suc, Bool, true, false, List, [], ◌∷◌, Option, Some, None, IsSome, refl, ap, sym, ◌∙◌, subst, arith, length, true≢false, is_some, length-append}
use Rattle.std.specs.Map.{keys_of}
use Rattle.std.specs.List.{list_any, IsDistinct, AllByRecursion}
use Rattle.std.proofs.lemmas.Map.Keys.{IsDistinct-cons}
use Rattle.std.proofs.lemmas.Map.Made.{is_some-lookup, length-le_from_is_member}
use Rattle.std.proofs.lemmas.Map.Entries.{length-keys_of}
use Rattle.std.proofs.lemmas.List.Folds.{list_any-append}
use Rattle.iris_name.specs.Names.{same_name}
use Rattle.iris_name.specs.NameLaws.{same_name_equiv, same_name-true}
use Rattle.iris_name.specs.declared.name.Name.{Name}
use Rattle.iris_node.specs.declared.node.Node.{Node}
use Rattle.iris_node.specs.Trees.{Shown, IsAbove}
use Rattle.iris_node.specs.Unfolded.{Unfolded}
use Rattle.iris_cache.specs.declared.held.Held.{Held}
use Rattle.iris_cache.specs.declared.draft.Change.{Change}
use Rattle.iris_cache.specs.Resident.{Resident, held_node}
use Rattle.iris_cache.specs.Drafted.{Drafted, drafted, seen, known_by, there_by}
use Rattle.iris_treepaths.specs.Reached.{size, MetInOrder}
use Rattle.iris_cache.proofs.Rising.{or-split}
use Rattle.iris_treepaths.proofs.Sizes.{above_larger}

pub past_less : (t : Shown) (s : Name → Option Node) (k v w : ℕ) → w ≤ v → MetInOrder t s k v → MetInOrder t s k w
past_less t s zero v w le p = tt
past_less t s (suc k) v w le p = let lt = p.4 in (p.0, p.1, p.2, p.3, omega arith, p.5)

-- one node more
pub past_more : (t : Shown) (s : Name → Option Node) (k : ℕ) (n : Name) (u w : Unfolded) → MetInOrder t s k (size u) → t n ≡ Some u → IsSome (s n) → IsAbove u w → MetInOrder t s (suc k) (size w)
past_more t s k n u w p live there above = (n, u, live, there, above_larger u w above, p)

module _ (t : Shown) (d : Drafted) (c : Resident) where
  abbrev names : (k v : ℕ) → MetInOrder t (seen d c) k v → List Name
  names zero v p = []
  names (suc k) v p = p.0 ∷ names k (size p.1) p.5

  names_length : (k v : ℕ) (p : MetInOrder t (seen d c) k v) → length (names k v p) ≡ k
  names_length zero v p = refl
  names_length (suc k) v p = ap suc (names_length k (size p.1) p.5)

  apart-one : (n m : Name) (u w : Unfolded) (v : ℕ) (b : Bool) → same_name n m ≡ b → t n ≡ Some w → t m ≡ Some u → size w ≤ v → v < size u → b ≡ false
  apart-one n m u w v false e at live le lt = refl
  apart-one n m u w v true e at live le lt =
      let i : n ≡ m = same_name-true n m e in
      let same : Some w ≡ Some u = sym at ∙ ap t i ∙ live in
      let q : w ≡ u = cc in
      let z : size w ≡ size u = ap size q in
      absurd (omega arith)

  apart : (n : Name) (w : Unfolded) (k v : ℕ) (p : MetInOrder t (seen d c) k v) → t n ≡ Some w → size w ≤ v → AllByRecursion (λ y. same_name n y ≡ false) (names k v p)
  apart n w zero v p at le = tt
  apart n w (suc k) v p at le =
      let lt = p.4 in
      (apart-one n p.0 p.1 w v (same_name n p.0) refl at p.2 le p.4, apart n w k (size p.1) p.5 at (omega arith))

  once : (k v : ℕ) (p : MetInOrder t (seen d c) k v) → IsDistinct same_name (names k v p)
  unfolding IsDistinct
  once zero v p = tt
  once (suc k) v p = IsDistinct-cons same_name p.0 (names k (size p.1) p.5) (apart p.0 p.1 k (size p.1) p.5 p.2 (omega arith)) (once k (size p.1) p.5)

  known-by : (o : Option Change) (h : Option Held) → IsSome (there_by (known_by o h)) → (is_some h || is_some o) ≡ true
  known-by (Some v) None e = refl
  known-by (Some v) (Some h) e = refl
  known-by None (Some h) e = refl
  known-by None None e = absurd (true≢false (sym e))

  all : (m : Name) → IsSome (seen d c m) → list_any (same_name m) (keys_of c.nodes ++ keys_of d.changes) ≡ true
  all m e =
      list_any-append (same_name m) (keys_of c.nodes) (keys_of d.changes)
      ∙ ap (λ b. b || list_any (same_name m) (keys_of d.changes)) (sym (is_some-lookup (same_name m) c.nodes))
      ∙ ap (λ b. is_some (held_node c m) || b) (sym (is_some-lookup (same_name m) d.changes))
      ∙ known-by (drafted d m) (held_node c m) e

  members : (k v : ℕ) (p : MetInOrder t (seen d c) k v) (m : Name) → list_any (same_name m) (names k v p) ≡ true → list_any (same_name m) (keys_of c.nodes ++ keys_of d.changes) ≡ true
  members zero v p m h = absurd (true≢false (sym h))
  members (suc k) v p m h =
      elim (or-split (same_name m p.0) (list_any (same_name m) (names k (size p.1) p.5)) h) [
        | inl s ↦ all m (let P : Name → Type 0 = λ n. IsSome (seen d c n) in subst P (sym (same_name-true m p.0 s)) p.3)
        | inr r ↦ members k (size p.1) p.5 m r
      ]

  -- no more nodes are met than there are names in draft and cache
  pub past_bound : (k v : ℕ) → MetInOrder t (seen d c) k v → k ≤ length d.changes + length c.nodes
  past_bound k v p =
      let keys = keys_of c.nodes ++ keys_of d.changes in
      let le : length (names k v p) ≤ length keys = length-le_from_is_member same_name_equiv (names k v p) keys (once k v p) (members k v p) in
      let l = names_length k v p in
      let a = length-append (keys_of c.nodes) (keys_of d.changes) in
      let x = length-keys_of c.nodes in
      let y = length-keys_of d.changes in
      omega (arith, le, l, a, x, y)
