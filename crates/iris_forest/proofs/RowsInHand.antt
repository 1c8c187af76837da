-- What a table with rows in hand shows is a tree.
use Rattle.std.proofs.Common.{◌≡◌, ◌⊎◌, inl, inr, ℕ, ◌+◌, ◌≤◌, List, cond, Option, Some, None, refl, sym, ◌∙◌, ap, subst, arith}
use Rattle.iris_name.specs.Names.{same_name}
use Rattle.iris_name.specs.declared.name.FileId.{FileId}
use Rattle.iris_name.specs.declared.name.Name.{Name}
use Rattle.iris_name.specs.declared.name.Name.TheVariants.{Entry, Part, Block}
use Rattle.iris_node.specs.Trees.{IsNodeName, IsAbove, node_name}
use Rattle.iris_node.specs.Unfolded.{Unfolded, id_of}
use Rattle.iris_shape.specs.Local.{either}
use Rattle.iris_rows.specs.Rows.{Rows, End, Row, Table}
use Rattle.iris_records.specs.Shown.{versions, treap_of_entries, owns, directory, in_directory, in_file, inside_rows, root_entry, trash_entry, roots, shown}
use Rattle.iris_rows.specs.Sound.{times_given}
use Rattle.iris_table_laws.proofs.NamesByNumber.{number, inside_by, many_rows, file_weight}
use Rattle.iris_table_laws.proofs.TreeOfTable.{few, trees, trees_own, IsLive, live_left, live_right, file_live, below_live, shown_live, root_counts, no_block, stored_unnamed, stored_lowest}
use Rattle.iris_table_laws.proofs.NestedNodes.{Nest, Bare, Both, Holds, IsOwn, many, nest, inner, held_own, above_top, held_inside, one_node, one_above}
use Rattle.iris_table_laws.proofs.NodesInTrees.{IsStored, Stands, below, below_stands, directory_stands, file_stands, either_of}
use Rattle.iris_forest.specs.Hands.{IsHeld, HeldTrees}

-- ---- what is in hand

-- what lies inside the rows in hand
abbrev pub hand_nest : List ℕ → Rows → Nest
hand_nest order End = Bare
hand_nest order (Row id name file inside next) = Both (inside_by id (treap_of_entries order (owns order inside)) file) (hand_nest order next)

-- both trees, and what is in hand
abbrev pub all_nest : List ℕ → Table → Nest
all_nest order t = Both (trees order t) (hand_nest order t.hand)

-- an entry or a part that stands in a nest
abbrev pub Seated : Name → Unfolded → Nest → Type 0
Seated n w x = (k : Nest) × Holds w n k x

pub stands_seated : (n : Name) (w : Unfolded) (x : Nest) → IsNodeName n → Stands n w x → Seated n w x
stands_seated (Entry i) w x m s = s
stands_seated (Part f l i) w x m s = s
stands_seated (Block f p) w x m s = absurd m

pub hand_seated : (order : List ℕ) (n : Name) (rows : Rows) (w : Unfolded) → IsNodeName n → inside_rows order n rows ≡ Some w → Seated n w (hand_nest order rows)
unfolding directory
hand_seated order n End w m e = absurd (cc)
hand_seated order n (Row id name None inside next) w m e = elim (either_of (below order n inside) (inside_rows order n next) w e) [
  | inl a ↦ (let s = stands_seated n w (nest (directory order inside)) m (below_stands order n inside w a) in (s.0, inl s.1))
  | inr a ↦ (let s = hand_seated order n next w m a in (s.0, inr s.1))
]
hand_seated order n (Row id name (Some f) inside next) w m e = elim (either_of (in_file n id f) (inside_rows order n next) w e) [
  | inl a ↦ (let s = stands_seated n w (nest (versions id f)) m (file_stands n id f w a) in (s.0, inl s.1))
  | inr a ↦ (let s = hand_seated order n next w m a in (s.0, inr s.1))
]

hand_live : (order : List ℕ) (w : Unfolded) (n : Name) (k : Nest) (rows : Rows) → Holds w n k (hand_nest order rows) → IsLive (inside_rows order n rows)
unfolding directory
hand_live order w n k End h = absurd h
hand_live order w n k (Row id name None inside next) h = elim h [
  | inl a ↦ live_left (below order n inside) (inside_rows order n next) (below_live order w n k inside a)
  | inr a ↦ live_right (below order n inside) (inside_rows order n next) (hand_live order w n k next a)
]
hand_live order w n k (Row id name (Some f) inside next) h = elim h [
  | inl a ↦ live_left (in_file n id f) (inside_rows order n next) (file_live w n k id f a)
  | inr a ↦ live_right (in_file n id f) (inside_rows order n next) (hand_live order w n k next a)
]

hand_own : (order : List ℕ) (rows : Rows) (w : Unfolded) (n : Name) (k : Nest) → Holds w n k (hand_nest order rows) → IsOwn w n k
hand_own order End w n k h = absurd h
hand_own order (Row id name None inside next) w n k h = elim h [ inl a ↦ held_own (treap_of_entries order (owns order inside)) w n k a | inr a ↦ hand_own order next w n k a ]
hand_own order (Row id name (Some f) inside next) w n k h = elim h [ inl a ↦ held_own (versions id f) w n k a | inr a ↦ hand_own order next w n k a ]

-- a name stands in hand no more often than its number
dir_counts : (order : List ℕ) (n : Name) (inside : Rows) → many n (nest (treap_of_entries order (owns order inside))) ≤ times_given (number n) inside
unfolding directory
dir_counts order n inside = many_rows order n inside

pub hand_counts : (order : List ℕ) (n : Name) (rows : Rows) → many n (hand_nest order rows) ≤ times_given (number n) rows
hand_counts order n End = omega arith
hand_counts order n (Row id name None inside next) = let a = dir_counts order n inside in let b = hand_counts order n next in omega (arith, a, b)
hand_counts order n (Row id name (Some f) inside next) = let a = file_weight n id f in let b = hand_counts order n next in omega (arith, a, b)

-- ---- the whole

pub all_once : (order : List ℕ) (t : Table) (n : Name) → IsHeld t → many n (all_nest order t) ≤ 1
all_once order t n s =
    let v = many_rows order n t.visible in let w = many_rows order n t.trash in let x = hand_counts order n t.hand in let o = s.once (number n) in
    let f = few (number n) t.next (cond (same_name n (Entry (id_of 0))) 1 0) (cond (same_name n (Entry (id_of 1))) 1 0) (many n (nest (directory order t.visible))) (many n (nest (directory order t.trash)) + many n (hand_nest order t.hand))
    (omega (arith, v, w, x, o)) (root_counts n 0) (root_counts n 1) in
    omega (arith, f)

pub all_own : (order : List ℕ) (t : Table) (w : Unfolded) (n : Name) (k : Nest) → Holds w n k (all_nest order t) → IsOwn w n k
all_own order t w n k h = elim h [ inl a ↦ trees_own order t w n k a | inr a ↦ hand_own order t.hand w n k a ]

pub all_live : (order : List ℕ) (t : Table) (w : Unfolded) (n : Name) (k : Nest) → Holds w n k (all_nest order t) → IsLive (shown order t n)
unfolding shown
all_live order t w n k h = elim h [
  | inl a ↦ shown_live order t w n k a
  | inr a ↦ live_right (in_directory n (root_entry order t)) (either (in_directory n (trash_entry order t)) (inside_rows order n (roots t)))
      (live_right (in_directory n (trash_entry order t)) (inside_rows order n (roots t))
      (live_right (below order n t.visible) (either (below order n t.trash) (inside_rows order n t.hand)) (live_right (below order n t.trash) (inside_rows order n t.hand) (hand_live order w n k t.hand a))))
]

pub all_seated : (order : List ℕ) (t : Table) (n : Name) (w : Unfolded) → IsNodeName n → shown order t n ≡ Some w → Seated n w (all_nest order t)
unfolding shown
all_seated order t n w m e = elim (either_of (in_directory n (root_entry order t)) _ w e) [
  | inl a ↦ (let s = stands_seated n w (nest (root_entry order t)) m (directory_stands n (root_entry order t) w a) in (s.0, inl (inl s.1)))
  | inr r ↦ elim (either_of (in_directory n (trash_entry order t)) _ w r) [
    | inl a ↦ (let s = stands_seated n w (nest (trash_entry order t)) m (directory_stands n (trash_entry order t) w a) in (s.0, inl (inr s.1)))
    | inr q ↦ elim (either_of (below order n t.visible) _ w q) [
      | inl a ↦ (let s = stands_seated n w (nest (directory order t.visible)) m (below_stands order n t.visible w a) in (s.0, inl (inl (inr (inr (inr s.1))))))
      | inr p ↦ elim (either_of (below order n t.trash) (inside_rows order n t.hand) w p) [
        | inl a ↦ (let s = stands_seated n w (nest (directory order t.trash)) m (below_stands order n t.trash w a) in (s.0, inl (inr (inr (inr (inr s.1))))))
        | inr a ↦ (let s = hand_seated order n t.hand w m a in (s.0, inr s.1))
      ]
    ]
  ]
]

-- what is held is shown
pub all_shown : (order : List ℕ) (t : Table) (w : Unfolded) (n : Name) (k : Nest) → IsHeld t → Holds w n k (all_nest order t) → shown order t n ≡ Some w
all_shown order t w n k s h = by (shown order t n) refl (all_live order t w n k h) where
  named : (n : Name) → node_name w ≡ Some n → IsNodeName n
  named (Entry i) e = tt
  named (Part f l i) e = tt
  named (Block f p) e = absurd (no_block w f p e)

  name_is : IsNodeName n
  name_is = named n (all_own order t w n k h).named

  by : (o : Option Unfolded) → shown order t n ≡ o → IsLive o → o ≡ Some w
  by None e l = absurd l
  by (Some v) e l = let q = all_seated order t n v name_is e in ap Some (one_node v w n q.0 k (all_nest order t) (all_once order t n s) q.1 h)

-- a block's name stands for a block
hand_stored : (order : List ℕ) (g : FileId) (p : ℕ) (rows : Rows) (w : Unfolded) → inside_rows order (Block g p) rows ≡ Some w → IsStored w
hand_stored order g p End w e = absurd (cc)
hand_stored order g p (Row id name None inside next) w e = elim (either_of (below order (Block g p) inside) (inside_rows order (Block g p) next) w e) [
  | inl a ↦ below_stands order (Block g p) inside w a
  | inr a ↦ hand_stored order g p next w a
]
hand_stored order g p (Row id name (Some f) inside next) w e = elim (either_of (in_file (Block g p) id f) (inside_rows order (Block g p) next) w e) [
  | inl a ↦ file_stands (Block g p) id f w a
  | inr a ↦ hand_stored order g p next w a
]

pub block_stored : (order : List ℕ) (t : Table) (g : FileId) (p : ℕ) (w : Unfolded) → shown order t (Block g p) ≡ Some w → IsStored w
unfolding shown
block_stored order t g p w e = elim (either_of (below order (Block g p) t.visible) _ w e) [
  | inl a ↦ below_stands order (Block g p) t.visible w a
  | inr q ↦ elim (either_of (below order (Block g p) t.trash) (inside_rows order (Block g p) t.hand) w q) [
    | inl a ↦ below_stands order (Block g p) t.trash w a
    | inr a ↦ hand_stored order g p t.hand w a
  ]
]

-- what stands for a name is a block, or stands in the nest
pub all_seen : (order : List ℕ) (t : Table) (n : Name) (u : Unfolded) → shown order t n ≡ Some u → IsStored u ⊎ Holds u n (inner u) (all_nest order t)
all_seen order t n u e = by n e where
  seated : (n : Name) → Seated n u (all_nest order t) → IsStored u ⊎ Holds u n (inner u) (all_nest order t)
  seated n s = inr (subst (λ z. Holds u n z (all_nest order t)) (all_own order t u n s.0 s.1).kids s.1)

  by : (n : Name) → shown order t n ≡ Some u → IsStored u ⊎ Holds u n (inner u) (all_nest order t)
  by (Entry i) e = seated (Entry i) (all_seated order t (Entry i) u tt e)
  by (Part f l i) e = seated (Part f l i) (all_seated order t (Part f l i) u tt e)
  by (Block f p) e = inl (block_stored order t f p u e)

over_held : (order : List ℕ) (t : Table) (p : Name) (u w : Unfolded) → shown order t p ≡ Some u → IsAbove u w → Holds u p (inner u) (all_nest order t)
over_held order t p u w e a = elim (all_seen order t p u e) [ inl h ↦ absurd (stored_lowest u w h a) | inr h ↦ h ]

pub held_trees : HeldTrees
held_trees order t s = record {
  own = λ n m u e f. elim (all_seen order t n u e) [
    | inl h ↦ absurd (stored_unnamed u m h f)
    | inr h ↦ same m n (sym f ∙ (all_own order t u n (inner u) h).named)
  ];
  below = λ p n u w e a m. all_shown order t w n (inner w) s (held_inside u w p n (inner u) (inner w) (all_nest order t) (over_held order t p u w e a) (above_top u w n a m));
  once = λ n p q a b. one_above a.parent b.parent a.child b.child n p q (inner a.parent) (inner b.parent) (inner a.child) (inner b.child) (all_nest order t) (all_once order t n s)
      (over_held order t p a.parent a.child a.live a.above) (above_top a.parent a.child n a.above a.named)
      (over_held order t q b.parent b.child b.live b.above) (above_top b.parent b.child n b.above b.named);
}
  where
    same : (m n : Name) → Some m ≡ Some n → m ≡ n
    same m n e = cc
