-- What stands in a table's two trees is live, so what a sound table shows is a tree.
use Rattle.std.proofs.Common.{◌≡◌, ◌⊎◌, inl, inr, ℕ, ◌+◌, ◌-◌, ◌*◌, ◌≤◌, List, [], Bool, true, false, ◌&&◌, cond, Option, Some, None, refl, sym, ◌∙◌, ap, subst, arith}
use Rattle.std.specs.Prelude.{◌==◌, nat_le, nat_lt}
use Rattle.std.proofs.lemmas.Bool.Decides.{nat_tests}
use Rattle.iris_name.specs.Hmac.{priority}
use Rattle.iris_name.specs.Names.{same_name}
use Rattle.iris_name.specs.declared.name.FileId.{FileId}
use Rattle.iris_name.specs.declared.name.Name.{Name}
use Rattle.iris_name.specs.declared.name.Name.TheVariants.{Entry, Part, Block}
use Rattle.iris_node.specs.Trees.{IsAbove, node_name}
use Rattle.iris_node.specs.Unfolded.{Unfolded, Absent, Folder, Leaf, Even, Split, Stored, id_of}
use Rattle.iris_shape.specs.Folds.{Fold, One, Two, folded}
use Rattle.iris_shape.specs.Local.{either}
use Rattle.iris_shape.specs.Order.{beside}
use Rattle.iris_shape.specs.Treap.{Treap, Empty, Over, treap}
use Rattle.iris_rows.specs.Rows.{File, Rows, End, Row, Table}
use Rattle.iris_shape.specs.Sides.{unfolded_side}
use Rattle.iris_records.specs.Shown.{Own, own_id, versions, entry_above, unfolded_entries, owns, directory, entry_in, part_in, in_directory, in_parts, in_file, inside_rows, root_entry, trash_entry, shown}
use Rattle.iris_rows.specs.Sound.{IsSound}
use Rattle.iris_records.specs.Walks.{at_top}
use Rattle.iris_table_laws.specs.Parents.{OneParent}
use Rattle.iris_table_laws.proofs.NamesByNumber.{number, inside_by, inside_own, many_rows}
use Rattle.iris_records.proofs.EntryRecords.{directory_over}
use Rattle.iris_table_laws.proofs.NestedNodes.{Nest, Both, Holds, IsOwn, many, nest, inner, held_own, above_top, held_inside, one_node, one_above, eq_self}
use Rattle.iris_table_laws.proofs.TreapRows.{Some_row, Some_in, of_treap}
use Rattle.iris_table_laws.proofs.NodesInTrees.{IsStored, Stands, below, below_stands, directory_stands, either_of, moved}

-- something is there
abbrev pub IsLive : Option Unfolded → Type 0
IsLive None = ⊥
IsLive (Some w) = Unit {0}

pub live_left : (a b : Option Unfolded) → IsLive a → IsLive (either a b)
live_left None b h = absurd h
live_left (Some w) b h = tt

pub live_right : (a b : Option Unfolded) → IsLive b → IsLive (either a b)
live_right None b h = h
live_right (Some w) b h = tt

live_cond : (c : Bool) (w : Unfolded) (b : Option Unfolded) → IsLive b → IsLive (cond c (Some w) b)
live_cond true w b h = tt
live_cond false w b h = h

live_here : (a b : ℕ) (w : Unfolded) (o : Option Unfolded) → a ≡ b → IsLive (cond (a == b) (Some w) o)
live_here a b w o e = subst (λ z. IsLive (cond (a == z) (Some w) o)) e (rw (eq_self a) tt)

-- an entry that stands in a directory, or inside one of its entries
top_live : (n : Name) (own : Own) (file : Option File) (less more : Unfolded) → n ≡ Entry (id_of own.id) → IsLive (in_directory n (entry_above own file less more))
top_live n own file less more e = subst (λ z. IsLive (in_directory z (entry_above own file less more))) (sym e) (by file) where
  by : (file : Option File) → IsLive (in_directory (Entry (id_of own.id)) (entry_above own file less more))
  by None = live_here own.id own.id (entry_above own None less more) (either (entry_in own.id less) (entry_in own.id more)) refl
  by (Some f) = live_here own.id own.id (entry_above own (Some f) less more) (either (entry_in own.id less) (entry_in own.id more)) refl

over_live : (n : Name) (own : Own) (file : Option File) (less more : Unfolded) → IsLive (either (in_directory n less) (in_directory n more)) → IsLive (in_directory n (entry_above own file less more))
over_live n own file less more h =
    subst IsLive (directory_over n own file less more) (live_right (at_top n (entry_above own file less more)) (either (in_directory n less) (in_directory n more)) h)

held_parts : (w : Unfolded) (n : Name) (k : Nest) (own : Own) (file : Option File) (less more : Unfolded) → Holds w n k (nest (entry_above own file less more))
    → (n ≡ Entry (id_of own.id)) ⊎ (Holds w n k (nest less) ⊎ (Holds w n k (nest more) ⊎ Holds w n k (inside_by own.id own.inside file)))
held_parts w n k own None less more h = elim h [ inl s ↦ inl s.1 | inr s ↦ inr s ]
held_parts w n k own (Some f) less more h = elim h [ inl s ↦ inl s.1 | inr s ↦ inr s ]

entries_live : (w : Unfolded) (n : Name) (k : Nest) (t : Treap Own) → Holds w n k (nest (unfolded_entries t)) → IsLive (in_directory n (unfolded_entries t)) ⊎ Some_in (λ o. Holds w n k (inside_own o)) t
entries_live w n k Empty h = absurd h
entries_live w n k (Over o l m) h = elim (held_parts w n k o o.file (unfolded_entries l) (unfolded_entries m) h) [
  | inl s ↦ inl (top_live n o o.file (unfolded_entries l) (unfolded_entries m) s)
  | inr s ↦ elim s [
    | inl a ↦ elim (entries_live w n k l a) [
      | inl b ↦ inl (over_live n o o.file (unfolded_entries l) (unfolded_entries m) (live_left (in_directory n (unfolded_entries l)) (in_directory n (unfolded_entries m)) b))
      | inr b ↦ inr (inr (inl b))
    ]
    | inr r ↦ elim r [
      | inl a ↦ elim (entries_live w n k m a) [
        | inl b ↦ inl (over_live n o o.file (unfolded_entries l) (unfolded_entries m) (live_right (in_directory n (unfolded_entries l)) (in_directory n (unfolded_entries m)) b))
        | inr b ↦ inr (inr (inr b))
      ]
      | inr a ↦ inr (inl a)
    ]
  ]
]

-- a part that stands below a file's entry
abbrev IsPartOf : ℕ → Unfolded → Name → Type 0
IsPartOf file u (Part g l i) = (g.0 ≡ file) × IsLive (part_in l i u)
IsPartOf file u (Entry i) = ⊥
IsPartOf file u (Block g p) = ⊥

split_live : (file level index : ℕ) (low high : Unfolded) → IsLive (part_in level index (Split file level index low high))
split_live file level index low high = rw (eq_self level, eq_self index) tt

part_low : (file level index : ℕ) (low high : Unfolded) (n : Name) → IsPartOf file low n → IsPartOf file (Split file level index low high) n
part_low file level index low high (Part g l i) h =
    (h.0, live_cond ((l == level) && (i == index)) (Split file level index low high) (either (part_in l i low) (part_in l i high)) (live_left (part_in l i low) (part_in l i high) h.1))
part_low file level index low high (Entry i) h = h
part_low file level index low high (Block g p) h = h

part_high : (file level index : ℕ) (low high : Unfolded) (n : Name) → IsPartOf file high n → IsPartOf file (Split file level index low high) n
part_high file level index low high (Part g l i) h =
    (h.0, live_cond ((l == level) && (i == index)) (Split file level index low high) (either (part_in l i low) (part_in l i high)) (live_right (part_in l i low) (part_in l i high) h.1))
part_high file level index low high (Entry i) h = h
part_high file level index low high (Block g p) h = h

side_live : (w : Unfolded) (n : Name) (k : Nest) (file level index : ℕ) (x : Fold) → Holds w n k (nest (unfolded_side file level index x)) → IsPartOf file (unfolded_side file level index x) n
side_live w n k file level index (One v) h = absurd h
side_live w n k file level index (Two x y) h =
    let low = unfolded_side file (level - 1) (2 * index) x in let high = unfolded_side file (level - 1) (2 * index + 1) y in
    elim h [
      | inl s ↦ subst (IsPartOf file (Split file level index low high)) (sym s.1) (refl, split_live file level index low high)
      | inr r ↦ elim r [
        | inl s ↦ part_low file level index low high n (side_live w n k file (level - 1) (2 * index) x s)
        | inr s ↦ part_high file level index low high n (side_live w n k file (level - 1) (2 * index + 1) y s)
      ]
    ]

part_live : (id : ℕ) (f : File) (n : Name) → IsPartOf id (versions id f) n → IsLive (in_file n id f)
part_live id f (Part g l i) h = live_left (in_parts (Part g l i) id (versions id f)) None (subst (λ z. IsLive (cond (g.0 == z) (part_in l i (versions id f)) None)) h.0 (rw (eq_self g.0) h.1))
part_live id f (Entry i) h = absurd h
part_live id f (Block g p) h = absurd h

pub file_live : (w : Unfolded) (n : Name) (k : Nest) (id : ℕ) (f : File) → Holds w n k (nest (versions id f)) → IsLive (in_file n id f)
file_live w n k id f h = part_live id f n (side_live w n k id 16 0 (folded f.version 16 0) h)

-- what stands inside the entries of rows is found inside the rows
inside_live : (order : List ℕ) (w : Unfolded) (n : Name) (k : Nest) (rows : Rows) → Some_row (λ o. Holds w n k (inside_own o)) (owns order rows) → IsLive (inside_rows order n rows)
unfolding directory
inside_live order w n k End h = absurd h
inside_live order w n k (Row id name None inside next) h = elim h [
  | inl s ↦ live_left (below order n inside) (inside_rows order n next) (elim (entries_live w n k (treap (beside (priority order) own_id) (owns order inside)) s) [
    | inl a ↦ live_left (in_directory n (directory order inside)) (inside_rows order n inside) a
    | inr a ↦ live_right (in_directory n (directory order inside)) (inside_rows order n inside)
        (inside_live order w n k inside (of_treap (λ o. Holds w n k (inside_own o)) (beside (priority order) own_id) (owns order inside) a))
  ])
  | inr s ↦ live_right (below order n inside) (inside_rows order n next) (inside_live order w n k next s)
]
inside_live order w n k (Row id name (Some f) inside next) h = elim h [
  | inl s ↦ live_left (in_file n id f) (inside_rows order n next) (file_live w n k id f s)
  | inr s ↦ live_right (in_file n id f) (inside_rows order n next) (inside_live order w n k next s)
]

pub below_live : (order : List ℕ) (w : Unfolded) (n : Name) (k : Nest) (rows : Rows) → Holds w n k (nest (directory order rows)) → IsLive (below order n rows)
unfolding directory
below_live order w n k rows h = elim (entries_live w n k (treap (beside (priority order) own_id) (owns order rows)) h) [
  | inl a ↦ live_left (in_directory n (directory order rows)) (inside_rows order n rows) a
  | inr a ↦ live_right (in_directory n (directory order rows)) (inside_rows order n rows)
      (inside_live order w n k rows (of_treap (λ o. Holds w n k (inside_own o)) (beside (priority order) own_id) (owns order rows) a))
]

-- both trees of a table

abbrev pub trees : List ℕ → Table → Nest
trees order t = Both (nest (root_entry order t)) (nest (trash_entry order t))

none_right : (order : List ℕ) (n : Name) (rows : Rows) (w : Unfolded) → rows ≡ End → inside_rows order n rows ≡ Some w → ⊥
none_right order n rows w e h = let k : inside_rows order n End ≡ Some w = subst (λ z. inside_rows order n z ≡ Some w) e h in cc

pub shown_stands : (order : List ℕ) (t : Table) (n : Name) (w : Unfolded) → t.hand ≡ End → shown order t n ≡ Some w → Stands n w (trees order t)
unfolding shown
shown_stands order t n w e h =
    elim (either_of (in_directory n (root_entry order t)) _ w h) [
      | inl s ↦ moved n w (nest (root_entry order t)) (trees order t) (λ w n k q. inl q) (directory_stands n (root_entry order t) w s)
      | inr s ↦ elim (either_of (in_directory n (trash_entry order t)) _ w s) [
        | inl a ↦ moved n w (nest (trash_entry order t)) (trees order t) (λ w n k q. inr q) (directory_stands n (trash_entry order t) w a)
        | inr a ↦ elim (either_of (below order n t.visible) _ w a) [
          | inl b ↦ moved n w (nest (directory order t.visible)) (trees order t) (λ w n k q. inl (inr (inr (inr q)))) (below_stands order n t.visible w b)
          | inr b ↦ elim (either_of (below order n t.trash) (inside_rows order n t.hand) w b) [
            | inl c ↦ moved n w (nest (directory order t.trash)) (trees order t) (λ w n k q. inr (inr (inr (inr q)))) (below_stands order n t.trash w c)
            | inr c ↦ absurd (none_right order n t.hand w e c)
          ]
        ]
      ]
    ]

root_live : (n : Name) (id : ℕ) (inside : Unfolded) → n ≡ Entry (id_of id) → IsLive (in_directory n (Folder id [] Absent Absent inside))
root_live n id inside e = subst (λ z. IsLive (in_directory z (Folder id [] Absent Absent inside))) (sym e) (live_here id id (Folder id [] Absent Absent inside) None refl)

root_parts : (w : Unfolded) (n : Name) (k : Nest) (id : ℕ) (inside : Unfolded) → Holds w n k (nest (Folder id [] Absent Absent inside)) → (n ≡ Entry (id_of id)) ⊎ Holds w n k (nest inside)
root_parts w n k id inside h = elim h [
  | inl s ↦ inl s.1
  | inr s ↦ elim s [ inl a ↦ absurd a | inr a ↦ elim a [ inl b ↦ absurd b | inr b ↦ inr b ] ]
]

pub shown_live : (order : List ℕ) (t : Table) (w : Unfolded) (n : Name) (k : Nest) → Holds w n k (trees order t) → IsLive (shown order t n)
unfolding shown
shown_live order t w n k h = elim h [
  | inl s ↦ elim (root_parts w n k 0 (directory order t.visible) s) [
    | inl a ↦ live_left (in_directory n (root_entry order t)) later (root_live n 0 (directory order t.visible) a)
    | inr a ↦ live_right (in_directory n (root_entry order t)) later (live_right (in_directory n (trash_entry order t)) rows (live_left (below order n t.visible) rest (below_live order w n k t.visible a)))
  ]
  | inr s ↦ elim (root_parts w n k 1 (directory order t.trash) s) [
    | inl a ↦ live_right (in_directory n (root_entry order t)) later (live_left (in_directory n (trash_entry order t)) rows (root_live n 1 (directory order t.trash) a))
    | inr a ↦ live_right (in_directory n (root_entry order t)) later (live_right (in_directory n (trash_entry order t)) rows (live_right (below order n t.visible) rest (live_left (below order n t.trash) (inside_rows order n t.hand) (below_live order w n k t.trash a))))
  ]
]
  where
    rest : Option Unfolded
    rest = either (below order n t.trash) (inside_rows order n t.hand)

    rows : Option Unfolded
    rows = either (below order n t.visible) rest

    later : Option Unfolded
    later = either (in_directory n (trash_entry order t)) rows

-- no name stands twice

pub root_counts : (n : Name) (id : ℕ) → cond (same_name n (Entry (id_of id))) 1 0 ≤ cond (number n == id) 1 0
root_counts (Entry j) id = omega arith
root_counts (Part g l i) id = omega arith
root_counts (Block g p) id = omega arith

pub few : (i next a b x y : ℕ) → x + y ≤ cond (nat_le 2 i && nat_lt i next) 1 0 → a ≤ cond (i == 0) 1 0 → b ≤ cond (i == 1) 1 0 → (a + x) + (b + y) ≤ 1
few i next a b x y h k l = by (nat_le 2 i) refl (nat_lt i next) h (i == 0) refl k (i == 1) refl l where
  by : (p : Bool) → nat_le 2 i ≡ p → (q : Bool) → x + y ≤ cond (p && q) 1 0 → (r : Bool) → (i == 0) ≡ r → a ≤ cond r 1 0 → (s : Bool) → (i == 1) ≡ s → b ≤ cond s 1 0 → (a + x) + (b + y) ≤ 1
  by true e q h true f k s g l = absurd (let u : 2 ≤ i = grind (arith, nat_tests) in let v : i ≡ 0 = grind (arith, nat_tests) in omega (arith, u, v))
  by true e q h false f k true g l = absurd (let u : 2 ≤ i = grind (arith, nat_tests) in let v : i ≡ 1 = grind (arith, nat_tests) in omega (arith, u, v))
  by true e true h false f k false g l = omega (arith, h, k, l)
  by true e false h false f k false g l = omega (arith, h, k, l)
  by false e q h true f k true g l = absurd (let u : i ≡ 0 = grind (arith, nat_tests) in let v : i ≡ 1 = grind (arith, nat_tests) in omega (arith, u, v))
  by false e q h true f k false g l = omega (arith, h, k, l)
  by false e q h false f k true g l = omega (arith, h, k, l)
  by false e q h false f k false g l = omega (arith, h, k, l)

pub once : (order : List ℕ) (t : Table) (n : Name) → IsSound t → many n (trees order t) ≤ 1
once order t n s =
    let v = many_rows order n t.visible in let w = many_rows order n t.trash in let o = s.once (number n) in
    let f = few (number n) t.next (cond (same_name n (Entry (id_of 0))) 1 0) (cond (same_name n (Entry (id_of 1))) 1 0) (many n (nest (directory order t.visible))) (many n (nest (directory order t.trash)))
    (omega (arith, v, w, o)) (root_counts n 0) (root_counts n 1) in
    omega (arith, f)

pub trees_own : (order : List ℕ) (t : Table) (w : Unfolded) (n : Name) (k : Nest) → Holds w n k (trees order t) → IsOwn w n k
trees_own order t w n k h = elim h [ inl s ↦ held_own (root_entry order t) w n k s | inr s ↦ held_own (trash_entry order t) w n k s ]

-- what is shown is a block, or stands in a tree
abbrev pub IsSeen : List ℕ → Table → Name → Unfolded → Type 0
IsSeen order t n w = IsStored w ⊎ Holds w n (inner w) (trees order t)

held_seen : (order : List ℕ) (t : Table) (n : Name) (w : Unfolded) (k : Nest) → Holds w n k (trees order t) → Holds w n (inner w) (trees order t)
held_seen order t n w k h = subst (λ z. Holds w n z (trees order t)) (trees_own order t w n k h).kids h

pub seen : (order : List ℕ) (t : Table) (n : Name) (w : Unfolded) → IsSound t → shown order t n ≡ Some w → IsSeen order t n w
seen order t n w s e = by n (shown_stands order t n w s.hand e) where
  by : (n : Name) → Stands n w (trees order t) → IsSeen order t n w
  by (Entry i) h = inr (held_seen order t (Entry i) w h.0 h.1)
  by (Part f l i) h = inr (held_seen order t (Part f l i) w h.0 h.1)
  by (Block f p) h = inl h

pub stored_unnamed : (w : Unfolded) (n : Name) → IsStored w → node_name w ≡ Some n → ⊥
stored_unnamed (Stored v b) n h e = cc
stored_unnamed Absent n h e = h
stored_unnamed (Folder id name less more inside) n h e = h
stored_unnamed (Leaf id name less more size counter versions) n h e = h
stored_unnamed (Even v) n h e = h
stored_unnamed (Split file level index low high) n h e = h

pub stored_lowest : (w u : Unfolded) → IsStored w → IsAbove w u → ⊥
stored_lowest (Stored v b) u h a = a
stored_lowest Absent u h a = h
stored_lowest (Folder id name less more inside) u h a = h
stored_lowest (Leaf id name less more size counter versions) u h a = h
stored_lowest (Even v) u h a = h
stored_lowest (Split file level index low high) u h a = h

-- what is above another is held, and that one directly in it
pub held_above : (order : List ℕ) (t : Table) (p : Name) (u w : Unfolded) → IsSound t → shown order t p ≡ Some u → IsAbove u w → Holds u p (inner u) (trees order t)
held_above order t p u w s e a = elim (seen order t p u s e) [ inl h ↦ absurd (stored_lowest u w h a) | inr h ↦ h ]

pub no_block : (w : Unfolded) (f : FileId) (p : ℕ) → node_name w ≡ Some (Block f p) → ⊥
no_block (Stored v b) f p e = cc
no_block Absent f p e = cc
no_block (Folder id name less more inside) f p e = cc
no_block (Leaf id name less more size counter versions) f p e = cc
no_block (Even v) f p e = cc
no_block (Split file level index low high) f p e = cc

-- what stands for the name of a node is held
pub seen_node : (order : List ℕ) (t : Table) (n : Name) (v w : Unfolded) → IsSound t → node_name w ≡ Some n → shown order t n ≡ Some v → Holds v n (inner v) (trees order t)
seen_node order t n v w s m e = by n m (shown_stands order t n v s.hand e) where
  by : (n : Name) → node_name w ≡ Some n → Stands n v (trees order t) → Holds v n (inner v) (trees order t)
  by (Entry i) m h = held_seen order t (Entry i) v h.0 h.1
  by (Part f l i) m h = held_seen order t (Part f l i) v h.0 h.1
  by (Block f p) m h = absurd (no_block w f p m)

pub held_shown : (order : List ℕ) (t : Table) (n : Name) (w : Unfolded) → IsSound t → node_name w ≡ Some n → Holds w n (inner w) (trees order t) → shown order t n ≡ Some w
held_shown order t n w s m h = by (shown order t n) refl (shown_live order t w n (inner w) h) where
  by : (o : Option Unfolded) → shown order t n ≡ o → IsLive o → o ≡ Some w
  by None e l = absurd l
  by (Some v) e l = ap Some (one_node v w n (inner v) (inner w) (trees order t) (once order t n s) (seen_node order t n v w s m e) h)

pub is_tree : OneParent
is_tree order t s = record {
  own = λ n m u e f. elim (seen order t n u s e) [
    | inl h ↦ absurd (stored_unnamed u m h f)
    | inr h ↦ (let g = (trees_own order t u n (inner u) h).named in same m n (sym f ∙ g))
  ];
  below = λ p n u w e a m. held_shown order t n w s m (held_inside u w p n (inner u) (inner w) (trees order t) (held_above order t p u w s e a) (above_top u w n a m));
  once = λ n p q a b. one_above a.parent b.parent a.child b.child n p q (inner a.parent) (inner b.parent) (inner a.child) (inner b.child) (trees order t) (once order t n s)
      (held_above order t p a.parent a.child s a.live a.above) (above_top a.parent a.child n a.above a.named)
      (held_above order t q b.parent b.child s b.live b.above) (above_top b.parent b.child n b.above b.named);
}
  where
    same : (m n : Name) → Some m ≡ Some n → m ≡ n
    same m n e = cc
