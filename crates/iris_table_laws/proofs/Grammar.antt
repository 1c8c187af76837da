-- The nodes of a sound table are in the grammar of records.
use Rattle.std.proofs.Common.{◌≡◌, inl, inr, ℕ, zero, suc, ◌+◌, ◌-◌, ◌*◌, ◌/◌, ◌^◌, ◌≤◌, ◌<◌, List, [], Bool, true, false, ◌&&◌, cond, Option, Some, None, refl, sym, ◌∙◌, subst, arith}
use Rattle.std.specs.Prelude.{nat_le, nat_lt}
use Rattle.std.proofs.lemmas.Bool.Decides.{nat_tests}
use Rattle.std.proofs.Math.Pow.{pow_mono}
use Rattle.sha2.proofs.Facts256.{length-sha256}
use Rattle.iris_name.specs.Hmac.{priority}
use Rattle.iris_name.specs.declared.name.Name.{Name}
use Rattle.iris_node.specs.Nodes.{IsNode, FitsLink, FitsSide, name_of}
use Rattle.iris_node.specs.Rules.{IsFileName, IsLinkToNamed, IsFold, AreUnequalSides, most_length}
use Rattle.iris_node.specs.Trees.{node_name}
use Rattle.iris_node.specs.Unfolded.{Unfolded, Absent, Folder, Leaf, Even, Split, Stored, blocks, link_to, side_to, node_of}
use Rattle.iris_node.specs.declared.node.Node.{Node}
use Rattle.iris_shape.specs.FoldLaws.{IsFoldOf}
use Rattle.iris_shape.specs.Folds.{Fold, One, Two, folded}
use Rattle.iris_shape.specs.Order.{beside}
use Rattle.iris_shape.specs.Treap.{Treap, Empty, Over, Each, Every, treap}
use Rattle.iris_shape.proofs.FoldProofs.{one_fold}
use Rattle.iris_shape.proofs.Treaps.{every_treap}
use Rattle.iris_records.specs.Pieces.{IsHalved}
use Rattle.iris_rows.specs.Rows.{File, Rows, End, Row}
use Rattle.iris_shape.specs.Sides.{unfolded_side}
use Rattle.iris_records.specs.Shown.{Own, own_id, versions, entry_above, unfolded_entries, treap_of_entries, owns, directory}
use Rattle.iris_rows.specs.Sound.{times_given, rows_in, AllFiles, FitsRecord, IsCounted, IsOrdered}
use Rattle.iris_table_laws.specs.Texts.{AreTexts, NodesFit}
use Rattle.iris_records.proofs.BlockRecords.{folded_halved}
use Rattle.iris_table_laws.proofs.TreeOfTable.{IsSeen, seen, trees, trees_own}
use Rattle.iris_rows.proofs.RowCount.{few_rows}
use Rattle.iris_table_laws.proofs.NamesByNumber.{at_own}
use Rattle.iris_records.proofs.EntryRecords.{file_name}
use Rattle.iris_records.proofs.RecordsOfItems.{trash_ordered}
use Rattle.iris_table_laws.proofs.NestedNodes.{Nest, Holds, nest, inner}
use Rattle.iris_records.proofs.PartRecords.{half_index, places_fold, sides_differ}
use Rattle.iris_table_laws.proofs.TreapRows.{sum_in, sum_row, sum_treap}
use Rattle.iris_table_laws.proofs.NodesInTrees.{IsStored}

abbrev IsNodeOf : Option Node → Type 0
IsNodeOf None = Unit {0}
IsNodeOf (Some n) = IsNode n

-- sides

record IsPlaced (file level index : ℕ) : Type 0 where
  pub least : 2 ≤ file
  pub most : file < 2 ^ 64
  pub some : 1 ≤ level
  pub height : level ≤ 16
  pub place : index < 2 ^ (16 - level)

abbrev SideFits : Unfolded → Type 0
SideFits (Even v) = v < 2 ^ 64
SideFits (Split f l j low high) = IsPlaced f l j × AreUnequalSides (side_to low (node_of low)) (side_to high (node_of high))
    × (l ≡ 1 → IsFold (side_to low (node_of low)) × IsFold (side_to high (node_of high))) × SideFits low × SideFits high
SideFits Absent = ⊥
SideFits (Folder id name less more inside) = ⊥
SideFits (Leaf id name less more size counter vs) = ⊥
SideFits (Stored v bytes) = ⊥

abbrev AreSmall : Fold → Type 0
AreSmall (One v) = v < 2 ^ 64
AreSmall (Two x y) = AreSmall x × AreSmall y

small_of : (v : ℕ → ℕ) (l i : ℕ) (f : Fold) → ((p : ℕ) → v p < 2 ^ 64) → IsFoldOf v l i f → AreSmall f
small_of v l i (One w) b h = subst (λ z. z < 2 ^ 64) (h (i * 2 ^ l) (at_own l i)) (b (i * 2 ^ l))
small_of v zero i (Two x y) b h = absurd h
small_of v (suc l) i (Two x y) b h = (small_of v l (2 * i) x b h.1, small_of v l (2 * i + 1) y b h.2)

side_fits : (file level index : ℕ) (x : Fold) → 2 ≤ file → file < 2 ^ 64 → level ≤ 16 → index < 2 ^ (16 - level) → IsHalved level x → AreSmall x → SideFits (unfolded_side file level index x)
side_fits file level index (One v) a b c d h s = s
side_fits file level index (Two x y) a b c d h s =
    let o = h.0 in let k = half_index level index o c d in (
      record { least = a; most = b; some = o; height = c; place = d },
      sides_differ file (level - 1) (2 * index) (2 * index + 1) x y h.1,
      (λ e. (places_fold file (level - 1) (2 * index) x (omega (arith, e)) h.2, places_fold file (level - 1) (2 * index + 1) y (omega (arith, e)) h.3)),
      side_fits file (level - 1) (2 * index) x a b (omega (arith, c)) (omega (arith, k)) h.2 s.0,
      side_fits file (level - 1) (2 * index + 1) y a b (omega (arith, c)) k h.3 s.1,
    )

fits_side : (u : Unfolded) → SideFits u → FitsSide (side_to u (node_of u))
unfolding node_of
fits_side (Even v) s = s
fits_side (Split f l j low high) s = length-sha256 _
fits_side u s = absurd s

part_node : (f l j : ℕ) (low high : Unfolded) → SideFits (Split f l j low high) → IsNodeOf (node_of (Split f l j low high))
unfolding node_of
part_node f l j low high s =
    let p = s.0 in let i = p.place in (
      record { file = p.least; level = p.some; height = p.height; index = p.place; places = s.2; split = s.1 },
      record { file = p.most; index = small (16 - l) i (omega arith); low = fits_side low s.3; high = fits_side high s.4 },
    ) where
      small : (k : ℕ) → j < 2 ^ k → k ≤ 16 → j < 2 ^ 32
      small k a b = let c : 2 ^ k ≤ 2 ^ 16 = pow_mono b in omega (arith, a, c)

held_side : (u w : Unfolded) (n : Name) (k : Nest) → SideFits u → Holds w n k (nest u) → IsNodeOf (node_of w)
held_side (Even v) w n k s h = absurd h
held_side (Split f l j low high) w n k s h = elim h [
  | inl a ↦ subst (λ z. IsNodeOf (node_of z)) (sym a.0) (part_node f l j low high s)
  | inr a ↦ elim a [ inl b ↦ held_side low w n k s.3 b | inr b ↦ held_side high w n k s.4 b ]
]
held_side u w n k s h = absurd s

-- entries

record IsNamed (id : ℕ) (name : List ℕ) : Type 0 where
  pub least : 2 ≤ id
  pub most : id < 2 ^ 64
  pub called : IsFileName name

abbrev EntryFits : Unfolded → Type 0
EntryFits Absent = Unit {0}
EntryFits (Folder id name less more inside) = IsNamed id name × EntryFits less × EntryFits more × EntryFits inside
EntryFits (Leaf id name less more size counter vs) = IsNamed id name × EntryFits less × EntryFits more × (size ≤ most_length) × (counter < 2 ^ 64) × SideFits vs
EntryFits (Even v) = ⊥
EntryFits (Split f l j low high) = ⊥
EntryFits (Stored v bytes) = ⊥

fits_link : (u : Unfolded) → EntryFits u → blocks u < 2 ^ 64 → IsLinkToNamed (link_to u (node_of u)) × FitsLink (link_to u (node_of u))
unfolding node_of
fits_link Absent e b = (tt, tt)
fits_link (Folder id name less more inside) e b = (e.0.least, (e.0.most, length-sha256 _, b))
fits_link (Leaf id name less more size counter vs) e b = (e.0.least, (e.0.most, length-sha256 _, b))
fits_link u e b = absurd e

folder_node : (id : ℕ) (name : List ℕ) (less more inside : Unfolded) → EntryFits (Folder id name less more inside) → blocks (Folder id name less more inside) < 2 ^ 64 → IsNodeOf (node_of (Folder id name less more inside))
unfolding node_of
folder_node id name less more inside e b =
    let l = fits_link less e.1 (omega (arith, b)) in let m = fits_link more e.2 (omega (arith, b)) in let i = fits_link inside e.3 (omega (arith, b)) in let k = e.0.least in (
      record { root = λ h. absurd (omega (arith, h, k)); name = λ h. e.0.called; left = l.0; right = m.0; body = i.0 },
      record { id = e.0.most; left = l.1; right = m.1; body = i.1 },
    )

leaf_node : (id : ℕ) (name : List ℕ) (less more : Unfolded) (size counter : ℕ) (vs : Unfolded) → EntryFits (Leaf id name less more size counter vs) → blocks (Leaf id name less more size counter vs) < 2 ^ 64
    → IsNodeOf (node_of (Leaf id name less more size counter vs))
unfolding node_of
leaf_node id name less more size counter vs e b =
    let l = fits_link less e.1 (omega (arith, b)) in let m = fits_link more e.2 (omega (arith, b)) in let k = e.0.least in let s = e.3 in (
      record { root = λ h. absurd (omega (arith, h, k)); name = λ h. e.0.called; left = l.0; right = m.0; body = s },
      record { id = e.0.most; left = l.1; right = m.1; body = (omega (arith, s), e.4, fits_side vs e.5) },
    )

root_node : (id : ℕ) (inside : Unfolded) → id < 2 → EntryFits inside → blocks inside < 2 ^ 64 → IsNodeOf (node_of (Folder id [] Absent Absent inside))
unfolding node_of
root_node id inside h e b =
    let i = fits_link inside e b in (
      record { root = λ _. record { name = refl; left = refl; right = refl; body = tt }; name = λ k. absurd (omega (arith, h, k)); left = tt; right = tt; body = i.0 },
      record { id = omega (arith, h); left = tt; right = tt; body = i.1 },
    )

held_node : (u w : Unfolded) (n : Name) (k : Nest) → EntryFits u → blocks u < 2 ^ 64 → Holds w n k (nest u) → IsNodeOf (node_of w)
held_node Absent w n k e b h = absurd h
held_node (Folder id name less more inside) w n k e b h = elim h [
  | inl a ↦ subst (λ z. IsNodeOf (node_of z)) (sym a.0) (folder_node id name less more inside e b)
  | inr a ↦ elim a [
    | inl c ↦ held_node less w n k e.1 (omega (arith, b)) c
    | inr r ↦ elim r [ inl c ↦ held_node more w n k e.2 (omega (arith, b)) c | inr c ↦ held_node inside w n k e.3 (omega (arith, b)) c ]
  ]
]
held_node (Leaf id name less more size counter vs) w n k e b h = elim h [
  | inl a ↦ subst (λ z. IsNodeOf (node_of z)) (sym a.0) (leaf_node id name less more size counter vs e b)
  | inr a ↦ elim a [
    | inl c ↦ held_node less w n k e.1 (omega (arith, b)) c
    | inr r ↦ elim r [ inl c ↦ held_node more w n k e.2 (omega (arith, b)) c | inr c ↦ held_side vs w n k e.5 c ]
  ]
]
held_node u w n k e b h = absurd e

-- rows

abbrev OwnFits : Own → Option File → Type 0
OwnFits own None = IsNamed own.id own.name × EntryFits own.inside
OwnFits own (Some f) = IsNamed own.id own.name × (f.size ≤ most_length) × (f.counter < 2 ^ 64) × ((p : ℕ) → f.version p < 2 ^ 64)

abbrev IsFitting : Own → Type 0
IsFitting own = OwnFits own own.file

versions_fit : (id : ℕ) (f : File) (name : List ℕ) → IsNamed id name → ((p : ℕ) → f.version p < 2 ^ 64) → SideFits (versions id f)
versions_fit id f name a b =
    side_fits id 16 0 (folded f.version 16 0) a.least a.most (omega arith) (omega arith) (folded_halved f.version 16) (small_of f.version 16 0 (folded f.version 16 0) b (one_fold f.version 16 0).0)

entry_fits : (o : Own) (file : Option File) (less more : Unfolded) → OwnFits o file → EntryFits less → EntryFits more → EntryFits (entry_above o file less more)
entry_fits o None less more s a b = (s.0, a, b, s.1)
entry_fits o (Some f) less more s a b = (s.0, a, b, s.1, s.2, versions_fit o.id f o.name s.0 s.3)

entries_fit : (t : Treap Own) → Every IsFitting t → EntryFits (unfolded_entries t)
entries_fit Empty e = tt
entries_fit (Over o l m) e = entry_fits o o.file (unfolded_entries l) (unfolded_entries m) e.0 (entries_fit l e.1) (entries_fit m e.2)

arranged_fits : (order : List ℕ) (os : List Own) → Each IsFitting os → EntryFits (treap_of_entries order os)
arranged_fits order os e = entries_fit (treap (beside (priority order) own_id) os) (every_treap IsFitting (beside (priority order) own_id) os e)

record AreRows (age : ℕ) (rows : Rows) : Type 0 where
  pub given : (i : ℕ) → 1 ≤ times_given i rows → (2 ≤ i) × (i < 2 ^ 64)
  pub ordered : IsOrdered rows
  pub texts : AreTexts rows
  pub short : AllFiles FitsRecord rows
  pub counted : AllFiles (IsCounted age) rows

own_given : (id : ℕ) (name : List ℕ) (file : Option File) (inside next : Rows) → 1 ≤ times_given id (Row id name file inside next)
own_given id name file inside next = grind (arith, nat_tests)

module _ (order : List ℕ) (age : ℕ) (most : age < 2 ^ 64) where
  row_named : (id : ℕ) (name : List ℕ) (file : Option File) (inside next : Rows) → AreRows age (Row id name file inside next) → IsNamed id name
  row_named id name file inside next r =
      let g = r.given id (own_given id name file inside next) in record { least = g.0; most = g.1; called = file_name name r.ordered.0 r.texts.0 }

  rows_inside : (id : ℕ) (name : List ℕ) (file : Option File) (inside next : Rows) → AreRows age (Row id name file inside next) → AreRows age inside
  rows_inside id name file inside next r = record { given = λ i h. r.given i (omega (arith, h)); ordered = r.ordered.2; texts = r.texts.1; short = r.short.1; counted = r.counted.1 }

  rows_next : (id : ℕ) (name : List ℕ) (file : Option File) (inside next : Rows) → AreRows age (Row id name file inside next) → AreRows age next
  rows_next id name file inside next r = record { given = λ i h. r.given i (omega (arith, h)); ordered = r.ordered.3; texts = r.texts.2; short = r.short.2; counted = r.counted.2 }

  owns_fit : (rows : Rows) → AreRows age rows → Each IsFitting (owns order rows)
  owns_fit End r = tt
  owns_fit (Row id name None inside next) r =
      ((row_named id name None inside next r, arranged_fits order (owns order inside) (owns_fit inside (rows_inside id name None inside next r))), owns_fit next (rows_next id name None inside next r))
  owns_fit (Row id name (Some f) inside next) r =
      let c = r.counted.0.counter in
      ((row_named id name (Some f) inside next r, r.short.0, omega (arith, c, most), (λ p. (let v = r.counted.0.version p in omega (arith, c, v, most)))), owns_fit next (rows_next id name (Some f) inside next r))

  directory_fits : (rows : Rows) → AreRows age rows → EntryFits (directory order rows)
  unfolding directory
  directory_fits rows r = arranged_fits order (owns order rows) (owns_fit rows r)

-- how many blocks lie there

abbrev own_blocks : Own → Option File → ℕ
own_blocks own None = blocks own.inside
own_blocks own (Some f) = (f.size + 4095) / 4096

abbrev count_own : Own → ℕ
count_own own = own_blocks own own.file

blocks_entry : (o : Own) (file : Option File) (less more : Unfolded) → blocks (entry_above o file less more) ≡ own_blocks o file + (blocks less + blocks more)
blocks_entry o None less more = omega arith
blocks_entry o (Some f) less more = omega arith

blocks_entries : (t : Treap Own) → blocks (unfolded_entries t) ≡ sum_in count_own t
blocks_entries Empty = refl
blocks_entries (Over o l m) = let e = blocks_entry o o.file (unfolded_entries l) (unfolded_entries m) in let a = blocks_entries l in let b = blocks_entries m in omega (arith, e, a, b)

most_blocks : (size : ℕ) → size ≤ most_length → (size + 4095) / 4096 ≤ 65536
most_blocks size h = omega (arith, h)

blocks_owns : (order : List ℕ) (rows : Rows) → AllFiles FitsRecord rows → sum_row count_own (owns order rows) ≤ 65536 * rows_in rows
blocks_owns order End s = omega arith
blocks_owns order (Row id name None inside next) s =
    let e = blocks_entries (treap (beside (priority order) own_id) (owns order inside)) in
    let t = sum_treap count_own (beside (priority order) own_id) (owns order inside) in
    let a = blocks_owns order inside s.1 in let b = blocks_owns order next s.2 in omega (arith, e, t, a, b)
blocks_owns order (Row id name (Some f) inside next) s = let a = most_blocks f.size s.0 in let b = blocks_owns order next s.2 in omega (arith, a, b)

pub blocks_rows : (order : List ℕ) (rows : Rows) → AllFiles FitsRecord rows → blocks (directory order rows) ≤ 65536 * rows_in rows
unfolding directory
blocks_rows order rows s =
    let e = blocks_entries (treap (beside (priority order) own_id) (owns order rows)) in
    let t = sum_treap count_own (beside (priority order) own_id) (owns order rows) in
    let a = blocks_owns order rows s in omega (arith, e, t, a)

-- both trees of a table

id_given : (i next n m : ℕ) → 1 ≤ n → n ≤ m → m ≤ cond (nat_le 2 i && nat_lt i next) 1 0 → (2 ≤ i) × (i < next)
id_given i next n m l h k = by (nat_le 2 i) refl (nat_lt i next) refl k where
  by : (a : Bool) → nat_le 2 i ≡ a → (b : Bool) → nat_lt i next ≡ b → m ≤ cond (a && b) 1 0 → (2 ≤ i) × (i < next)
  by true e true f k = (grind (arith, nat_tests), grind (arith, nat_tests))
  by true e false f k = absurd (omega (arith, l, h, k))
  by false e b f k = absurd (omega (arith, l, h, k))

held_root : (id : ℕ) (inside w : Unfolded) (n : Name) (k : Nest) → id < 2 → EntryFits inside → blocks inside < 2 ^ 64 → Holds w n k (nest (Folder id [] Absent Absent inside)) → IsNodeOf (node_of w)
held_root id inside w n k l e b h = elim h [
  | inl a ↦ subst (λ z. IsNodeOf (node_of z)) (sym a.0) (root_node id inside l e b)
  | inr a ↦ elim a [ inl c ↦ absurd c | inr r ↦ elim r [ inl c ↦ absurd c | inr c ↦ held_node inside w n k e b c ] ]
]

stored_none : (w : Unfolded) → IsStored w → node_of w ≡ None
unfolding node_of
stored_none (Stored v bytes) s = refl
stored_none Absent s = absurd s
stored_none (Folder id name less more inside) s = absurd s
stored_none (Leaf id name less more size counter vs) s = absurd s
stored_none (Even v) s = absurd s
stored_none (Split f l j low high) s = absurd s

abbrev NamedBy : Unfolded → Option Node → Type 0
NamedBy w None = Unit {0}
NamedBy w (Some node) = node_name w ≡ Some (name_of node)

own_names : (w : Unfolded) → NamedBy w (node_of w)
unfolding node_of
own_names (Folder id name less more inside) = refl
own_names (Leaf id name less more size counter vs) = refl
own_names (Split f l j low high) = refl
own_names Absent = tt
own_names (Even v) = tt
own_names (Stored v bytes) = tt

held_name : (w : Unfolded) (n : Name) (node : Node) → node_name w ≡ Some n → node_of w ≡ Some node → name_of node ≡ n
held_name w n node e f = same (name_of node) (sym (subst (NamedBy w) f (own_names w)) ∙ e) where
  same : (m : Name) → Some m ≡ Some n → m ≡ n
  same m e = cc

pub nodes_fit : NodesFit
nodes_fit order t n u node s x e f = by (seen order t n u s e) where
  age : t.age < 2 ^ 64
  age = let a = s.age in omega (arith, a)

  visible : AreRows t.age t.visible
  visible = record {
    given = λ i h. (let g = id_given i t.next (times_given i t.visible) (times_given i t.visible + times_given i t.trash) h (omega arith) (s.once i) in let a = s.next in let b = s.age in let c = g.1 in (g.0, omega (arith, a, b, c)));
    ordered = s.ordered;
    texts = x.0;
    short = s.short;
    counted = s.counted;
  }

  trash : AreRows t.age t.trash
  trash = record {
    given = λ i h. (let g = id_given i t.next (times_given i t.trash) (times_given i t.visible + times_given i t.trash) h (omega arith) (s.once i) in let a = s.next in let b = s.age in let c = g.1 in (g.0, omega (arith, a, b, c)));
    ordered = trash_ordered t.trash s.trash_ordered;
    texts = x.1;
    short = s.trash_short;
    counted = s.trash_counted;
  }

  visible_blocks : blocks (directory order t.visible) < 2 ^ 64
  visible_blocks = let a = blocks_rows order t.visible s.short in let b = few_rows t s in let c = s.next in let d = s.age in omega (arith, a, b, c, d)

  trash_blocks : blocks (directory order t.trash) < 2 ^ 64
  trash_blocks = let a = blocks_rows order t.trash s.trash_short in let b = few_rows t s in let c = s.next in let d = s.age in omega (arith, a, b, c, d)

  held : Holds u n (inner u) (trees order t) → IsNodeOf (node_of u)
  held h = elim h [
    | inl a ↦ held_root 0 (directory order t.visible) u n (inner u) (omega arith) (directory_fits order t.age age t.visible visible) visible_blocks a
    | inr a ↦ held_root 1 (directory order t.trash) u n (inner u) (omega arith) (directory_fits order t.age age t.trash trash) trash_blocks a
  ]

  by : IsSeen order t n u → IsNode node × (name_of node ≡ n)
  by h = elim h [
    | inl a ↦ (let k : None ≡ Some node = sym (stored_none u a) ∙ f in absurd (cc))
    | inr a ↦ (subst IsNodeOf f (held a), held_name u n node (trees_own order t u n (inner u) a).named f)
  ]
