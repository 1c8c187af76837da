-- The counts that a table shows have 64 bits, also with rows in hand.
use Rattle.std.proofs.Common.{◌≡◌, ◌⊎◌, inl, inr, ℕ, ◌+◌, ◌-◌, ◌*◌, ◌<◌, ◌≤◌, ◌^◌, List, [], Some, None, refl, ap, arith}
use Rattle.iris_name.specs.declared.name.Name.{Name}
use Rattle.iris_node.specs.Unfolded.{Unfolded, Absent, Folder, Leaf, Even, Split, Stored, blocks}
use Rattle.iris_shape.specs.Folds.{folded}
use Rattle.iris_rows.specs.Rows.{Rows, End, Row}
use Rattle.iris_records.specs.Shown.{treap_of_entries, owns, directory, versions}
use Rattle.iris_rows.specs.Sound.{FitsRecord, AllFiles, rows_in}
use Rattle.iris_table_laws.proofs.Grammar.{blocks_rows}
use Rattle.iris_table_laws.proofs.NestedNodes.{Nest, Holds, nest, inner}
use Rattle.iris_table_laws.proofs.NodesInTrees.{IsStored}
use Rattle.iris_table_laws.proofs.SameTables.{IsSide, IsEntries, side_shape, arranged_shape, owns_shape, directory_shape}
use Rattle.iris_forest.specs.Forest.{TablesAreCountable}
use Rattle.iris_forest.specs.Hands.{HeldCounts}
use Rattle.iris_forest.proofs.RowsInHand.{hand_nest, all_nest, all_seen}
use Rattle.iris_forest.proofs.RowsOfDirectory.{held_of}

stored_blocks : (u : Unfolded) → IsStored u → blocks u ≡ 0
stored_blocks (Stored v bytes) s = refl
stored_blocks Absent s = absurd s
stored_blocks (Folder id name less more inside) s = absurd s
stored_blocks (Leaf id name less more size counter versions) s = absurd s
stored_blocks (Even v) s = absurd s
stored_blocks (Split f l j low high) s = absurd s

-- nothing counts below a file's entry
side_blocks : (file level index : ℕ) (u w : Unfolded) (n : Name) (k : Nest) → IsSide file level index u → Holds w n k (nest u) → blocks w ≡ 0
side_blocks file level index (Even v) w n k s h = absurd h
side_blocks file level index (Split f l j low high) w n k s h = elim h [
  | inl a ↦ ap blocks a.0
  | inr a ↦ elim a [
    | inl b ↦ side_blocks file (level - 1) (2 * index) low w n k s.3 b
    | inr b ↦ side_blocks file (level - 1) (2 * index + 1) high w n k s.4 b
  ]
]
side_blocks file level index Absent w n k s h = absurd s
side_blocks file level index (Folder id name less more inside) w n k s h = absurd s
side_blocks file level index (Leaf id name less more size counter versions) w n k s h = absurd s
side_blocks file level index (Stored v bytes) w n k s h = absurd s

held_blocks : (u w : Unfolded) (n : Name) (k : Nest) → IsEntries u → Holds w n k (nest u) → blocks w ≤ blocks u
held_blocks Absent w n k s h = absurd h
held_blocks (Folder id name less more inside) w n k s h = elim h [
  | inl a ↦ (let e = ap blocks a.0 in omega (arith, e))
  | inr a ↦ elim a [
    | inl b ↦ (let o = held_blocks less w n k s.0 b in omega (arith, o))
    | inr r ↦ elim r [
      | inl b ↦ (let o = held_blocks more w n k s.1 b in omega (arith, o))
      | inr b ↦ (let o = held_blocks inside w n k s.2 b in omega (arith, o))
    ]
  ]
]
held_blocks (Leaf id name less more size counter versions) w n k s h = elim h [
  | inl a ↦ (let e = ap blocks a.0 in omega (arith, e))
  | inr a ↦ elim a [
    | inl b ↦ (let o = held_blocks less w n k s.0 b in omega (arith, o))
    | inr r ↦ elim r [
      | inl b ↦ (let o = held_blocks more w n k s.1 b in omega (arith, o))
      | inr b ↦ (let o = side_blocks id 16 0 versions w n k s.2 b in omega (arith, o))
    ]
  ]
]
held_blocks (Even v) w n k s h = absurd s
held_blocks (Split f l j low high) w n k s h = absurd s
held_blocks (Stored v bytes) w n k s h = absurd s

arranged_blocks : (order : List ℕ) (rows : Rows) → AllFiles FitsRecord rows → blocks (treap_of_entries order (owns order rows)) ≤ 65536 * rows_in rows
unfolding directory
arranged_blocks order rows s = blocks_rows order rows s

hand_blocks : (order : List ℕ) (rows : Rows) (w : Unfolded) (n : Name) (k : Nest) → AllFiles FitsRecord rows → Holds w n k (hand_nest order rows) → blocks w ≤ 65536 * rows_in rows
hand_blocks order End w n k s h = absurd h
hand_blocks order (Row id name None inside next) w n k s h = elim h [
  | inl a ↦ (let o = held_blocks (treap_of_entries order (owns order inside)) w n k (arranged_shape order (owns order inside) (owns_shape order inside)) a in let b = arranged_blocks order inside s.1 in omega (arith, o, b))
  | inr a ↦ (let o = hand_blocks order next w n k s.2 a in omega (arith, o))
]
hand_blocks order (Row id name (Some f) inside next) w n k s h = elim h [
  | inl a ↦ (let o = side_blocks id 16 0 (versions id f) w n k (side_shape id 16 0 (folded f.version 16 0)) a in omega (arith, o))
  | inr a ↦ (let o = hand_blocks order next w n k s.2 a in omega (arith, o))
]

root_counts : (id : ℕ) (inside w : Unfolded) (n : Name) (k : Nest) → IsEntries inside → Holds w n k (nest (Folder id [] Absent Absent inside)) → blocks w ≤ blocks inside
root_counts id inside w n k s h = let o = held_blocks (Folder id [] Absent Absent inside) w n k (tt, tt, s) h in omega (arith, o)

pub held_counts : HeldCounts
held_counts order t s n u e = by (all_seen order t n u e) where
  few : rows_in t.visible + (rows_in t.trash + rows_in t.hand) ≤ 2199023255552
  few = s.few

  by : IsStored u ⊎ Holds u n (inner u) (all_nest order t) → blocks u < 2 ^ 64
  by h = elim h [
    | inl a ↦ (let z = stored_blocks u a in omega (arith, z))
    | inr r ↦ elim r [
      | inl q ↦ elim q [
        | inl a ↦ (let o = root_counts 0 (directory order t.visible) u n (inner u) (directory_shape order t.visible) a in let b = blocks_rows order t.visible s.short in let f = few in omega (arith, o, b, f))
        | inr a ↦ (let o = root_counts 1 (directory order t.trash) u n (inner u) (directory_shape order t.trash) a in let b = blocks_rows order t.trash s.trash_short in let f = few in omega (arith, o, b, f))
      ]
      | inr a ↦ (let o = hand_blocks order t.hand u n (inner u) s.hand_short a in let f = few in omega (arith, o, f))
    ]
  ]

pub countable : TablesAreCountable
countable order t s = held_counts order t (held_of t s)
