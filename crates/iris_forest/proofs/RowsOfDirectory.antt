-- The rows of a directory as a table shows them.
use Rattle.std.proofs.Common.{◌≡◌, ◌≢◌, ◌⊎◌, inl, inr, ℕ, ◌+◌, ◌≤◌, List, [], ◌∷◌, map, Bool, true, false, ◌&&◌, cond, Option, Some, None, refl, sym, ◌∙◌, ap, subst, arith}
use Rattle.std.specs.Prelude.{◌==◌, nat_le, nat_lt}
use Rattle.iris_name.specs.Hmac.{priority}
use Rattle.iris_name.specs.declared.name.Name.TheVariants.{Entry}
use Rattle.iris_node.specs.Trees.{node_name}
use Rattle.iris_node.specs.Unfolded.{Unfolded, Folder, id_of}
use Rattle.iris_plain.specs.Routes.{is_name_before}
use Rattle.iris_plain.proofs.PageLaws.{before_trans}
use Rattle.iris_shape.specs.Folds.{Fold, One, Two, folded}
use Rattle.iris_shape.specs.Order.{beside, less_name, Rising, Distinct}
use Rattle.iris_shape.specs.Sides.{unfolded_side}
use Rattle.iris_shape.specs.Treap.{Treap, Empty, Over, with_first, treap, Each}
use Rattle.iris_treepaths.specs.Rows.{row_id, row_name, below_row, entry_of, row_entry, IsFolderOf, HasRows}
use Rattle.iris_treepaths.specs.Rows.{treap_of_rows as tree_arranged}
use Rattle.iris_treepaths.specs.Rows as tree
use Rattle.iris_rows.specs.Rows.{File, Rows, End, Row, Table}
use Rattle.iris_records.specs.Shown.{Own, own_id, entry_above, unfolded_entries, treap_of_entries, owns, directory, shown}
use Rattle.iris_rows.specs.Sound.{IsSound, AllFiles, FitsRecord, times_given, rows_in, PrecedesFirst, IsOrdered, IsTrash}
use Rattle.iris_records.specs.Walks.{IsRising}
use Rattle.iris_records.proofs.TreapOfRows.{less_before}
use Rattle.iris_rows.proofs.RowCount.{few_rows}
use Rattle.iris_table_laws.proofs.NamesByNumber.{many_rows}
use Rattle.iris_forest.specs.Places.{content_by, row_of_own, rows_of, DirectoryIn, IsTableDirectory, DirectoriesHaveRows}
use Rattle.iris_forest.specs.Hands.{IsHeld, HeldRows}
use Rattle.iris_forest.proofs.Ids.{one_of, at_most, given}
use Rattle.iris_forest.proofs.RowsInTable.{folder_own, own_seat}
use Rattle.iris_forest.proofs.RowsInHand.{all_shown}
use Rattle.iris_forest.proofs.NodesAreFormed.{named_counts}

-- ---- the treap of rows

abbrev pub mapped : {A B : Type 0} → (A → B) → Treap A → Treap B
mapped f Empty = Empty
mapped f (Over x l m) = Over (f x) (mapped f l) (mapped f m)

module _ {A B : Type 0} (f : A → B) (to : B → B → Bool) where
  mapped_first : (x : A) (t : Treap A) → mapped f (with_first (λ a b. to (f a) (f b)) x t) ≡ with_first to (f x) (mapped f t)
  mapped_first x Empty = refl
  mapped_first x (Over y l m) = by (to (f x) (f y)) (mapped_first x l) where
    by : (b : Bool) → mapped f (with_first (λ a b. to (f a) (f b)) x l) ≡ with_first to (f x) (mapped f l)
        → mapped f (cond b (Over x Empty (Over y l m)) (Over y (with_first (λ a b. to (f a) (f b)) x l) m))
        ≡ cond b (Over (f x) Empty (Over (f y) (mapped f l) (mapped f m))) (Over (f y) (with_first to (f x) (mapped f l)) (mapped f m))
    by true h = refl
    by false h = ap (λ z. Over (f y) z (mapped f m)) h

  pub mapped_treap : (xs : List A) → mapped f (treap (λ a b. to (f a) (f b)) xs) ≡ treap to (map f xs)
  mapped_treap [] = refl
  mapped_treap (x ∷ xs) = mapped_first x (treap (λ a b. to (f a) (f b)) xs) ∙ ap (with_first to (f x)) (mapped_treap xs)

one_entry : (own : Own) (file : Option File) (a b : Unfolded) → entry_of own.id own.name (content_by own file) a b ≡ entry_above own file a b
one_entry own None a b = refl
one_entry own (Some f) a b = refl

entries_same : (t : Treap Own) → tree.unfolded_rows (mapped row_of_own t) ≡ unfolded_entries t
entries_same Empty = refl
entries_same (Over o l m) =
    one_entry o o.file (tree.unfolded_rows (mapped row_of_own l)) (tree.unfolded_rows (mapped row_of_own m))
    ∙ ap (λ z. entry_above o o.file z (tree.unfolded_rows (mapped row_of_own m))) (entries_same l) ∙ ap (λ z. entry_above o o.file (unfolded_entries l) z) (entries_same m)

pub arranged_same : (order : List ℕ) (rows : Rows) → tree_arranged order (rows_of order rows) ≡ directory order rows
unfolding tree_arranged directory
arranged_same order rows =
    ap tree.unfolded_rows (sym (mapped_treap row_of_own (beside (priority order) row_id) (owns order rows))) ∙ entries_same (treap (beside (priority order) own_id) (owns order rows))

-- ---- names rise

pub above_through : (a name : List ℕ) (rows : Rows) → is_name_before a name ≡ true → PrecedesFirst name rows → PrecedesFirst a rows
above_through a name End h g = tt
above_through a name (Row id n file inside next) h g = before_trans a name n h g

above_each : (order : List ℕ) (a : List ℕ) (rows : Rows) → PrecedesFirst a rows → IsRising rows → Each (λ y. less_name a (row_name y) ≡ true) (rows_of order rows)
above_each order a End h r = tt
above_each order a (Row id name file inside next) h r = (sym (less_before a name) ∙ h, above_each order a next (above_through a name next h r.0) r.1)

rising : (order : List ℕ) (rows : Rows) → IsRising rows → Rising row_name (rows_of order rows)
rising order End r = tt
rising order (Row id name file inside next) r = (above_each order name next r.0 r.1, rising order next r.1)

rising_ordered : (rows : Rows) → IsOrdered rows → IsRising rows
rising_ordered End h = tt
rising_ordered (Row id name file inside next) h = (h.1, rising_ordered next h.3)

rising_trash : (rows : Rows) → IsTrash rows → IsRising rows
rising_trash End h = tt
rising_trash (Row id name file inside next) h = (h.1, rising_trash next h.3)

ordered_inner : (i : ℕ) (inner rows : Rows) → DirectoryIn i inner rows → IsOrdered rows → IsOrdered inner
ordered_inner i inner End h o = absurd h
ordered_inner i inner (Row id name None inside next) h o = elim h [
  | inl a ↦ subst IsOrdered (sym a.1) o.2
  | inr r ↦ elim r [ inl a ↦ ordered_inner i inner inside a o.2 | inr a ↦ ordered_inner i inner next a o.3 ]
]
ordered_inner i inner (Row id name (Some f) inside next) h o = ordered_inner i inner next h o.3

trash_inner : (i : ℕ) (inner rows : Rows) → DirectoryIn i inner rows → IsTrash rows → IsOrdered inner
trash_inner i inner End h o = absurd h
trash_inner i inner (Row id name None inside next) h o = elim h [
  | inl a ↦ subst IsOrdered (sym a.1) o.2
  | inr r ↦ elim r [ inl a ↦ ordered_inner i inner inside a o.2 | inr a ↦ trash_inner i inner next a o.3 ]
]
trash_inner i inner (Row id name (Some f) inside next) h o = trash_inner i inner next h o.3

-- ---- ids stand once

inner_times : (i j : ℕ) (inner rows : Rows) → DirectoryIn i inner rows → times_given j inner ≤ times_given j rows
inner_times i j inner End h = absurd h
inner_times i j inner (Row id name None inside next) h = elim h [
  | inl a ↦ (let e = ap (times_given j) a.1 in omega (arith, e))
  | inr r ↦ elim r [
    | inl a ↦ (let o = inner_times i j inner inside a in omega (arith, o))
    | inr a ↦ (let o = inner_times i j inner next a in omega (arith, o))
  ]
]
inner_times i j inner (Row id name (Some f) inside next) h = let o = inner_times i j inner next h in omega (arith, o)

off_each : (order : List ℕ) (id : ℕ) (rows : Rows) → times_given id rows ≡ 0 → Each (λ y. id ≢ row_id y) (rows_of order rows)
off_each order id End h = tt
off_each order id (Row i name file inside next) h = (λ e. (let o = one_of id i e in omega (arith, o, h)), off_each order id next (omega (arith, h)))

distinct : (order : List ℕ) (rows : Rows) → ((j : ℕ) → times_given j rows ≤ 1) → Distinct row_id (rows_of order rows)
distinct order End o = tt
distinct order (Row id name file inside next) o =
    (off_each order id next (let a = o id in let b = one_of id id refl in omega (arith, a, b)), distinct order next (λ j. (let a = o j in omega (arith, a))))

named : (order : List ℕ) (next : ℕ) (rows : Rows) → ((j : ℕ) → times_given j rows ≤ cond (nat_le 2 j && nat_lt j next) 1 0) → Each (λ r. 2 ≤ row_id r) (rows_of order rows)
named order next End o = tt
named order next (Row id name file inside rest) o =
    (given id next (times_given id (Row id name file inside rest)) (let b = one_of id id refl in omega (arith, b)) (o id), named order next rest (λ j. (let a = o j in omega (arith, a))))

-- ---- what lies directly below a row is no row beside it

abbrev pub tops : ℕ → Rows → ℕ
tops j End = 0
tops j (Row id name file inside next) = cond (j == id) 1 0 + tops j next

abbrev pub insides : ℕ → Rows → ℕ
insides j End = 0
insides j (Row id name file inside next) = times_given j inside + insides j next

pub times_parts : (j : ℕ) (rows : Rows) → times_given j rows ≡ tops j rows + insides j rows
times_parts j End = refl
times_parts j (Row id name file inside next) = let e = times_parts j next in omega (arith, e)

side_entry : (file level index k : ℕ) (f : Fold) → node_name (unfolded_side file level index f) ≡ Some (Entry (id_of k)) → ⊥
side_entry file level index k (One v) e = cc
side_entry file level index k (Two x y) e = cc

inside_named : (order : List ℕ) (k : ℕ) (inside : Rows) → node_name (directory order inside) ≡ Some (Entry (id_of k)) → 1 ≤ times_given k inside
inside_named order k inside e =
    let a = named_counts (directory order inside) (Entry (id_of k)) e in let b = many_rows order (Entry (id_of k)) inside in omega (arith, a, b)

arranged_named : (order : List ℕ) (k : ℕ) (inside : Rows) → node_name (treap_of_entries order (owns order inside)) ≡ Some (Entry (id_of k)) → 1 ≤ times_given k inside
unfolding directory
arranged_named order k inside e = inside_named order k inside e

below_times : (order : List ℕ) (id : ℕ) (name : List ℕ) (file : Option File) (inside : Rows) (k : ℕ)
    → node_name (below_row (content_by (record { id = id; name = name; file = file; inside = treap_of_entries order (owns order inside) }) file)) ≡ Some (Entry (id_of k)) → 1 ≤ times_given k inside
below_times order id name None inside k e = arranged_named order k inside e
below_times order id name (Some f) inside k e = absurd (side_entry id 16 0 k (folded f.version 16 0) e)

-- no row of some is the one below
apart_each : (order : List ℕ) (u : Unfolded) (all rows : Rows) → ((j : ℕ) → node_name u ≡ Some (Entry (id_of j)) → 1 ≤ insides j all) → ((j : ℕ) → tops j rows ≤ tops j all) → ((j : ℕ) → times_given j all ≤ 1)
    → Each (λ y. node_name u ≢ Some (Entry (id_of (row_id y)))) (rows_of order rows)
apart_each order u all End b w o = tt
apart_each order u all (Row id name file inside next) b w o = (
  (λ e. (let p = b id e in let q = one_of id id refl in let r = w id in let s = o id in let t = times_parts id all in omega (arith, p, q, r, s, t))),
  apart_each order u all next b (λ j. (let r = w j in omega (arith, r))) o,
)

apart_all : (order : List ℕ) (all rows : Rows) → ((j : ℕ) → insides j rows ≤ insides j all) → ((j : ℕ) → times_given j all ≤ 1)
    → Each (λ x. Each (λ y. node_name (below_row x.content) ≢ Some (Entry (id_of y.id))) (rows_of order all)) (rows_of order rows)
apart_all order all End w o = tt
apart_all order all (Row id name file inside next) w o = (
  apart_each order (below_row (content_by (record { id = id; name = name; file = file; inside = treap_of_entries order (owns order inside) }) file)) all all
      (λ j e. (let p = below_times order id name file inside j e in let r = w j in omega (arith, p, r))) (λ j. omega arith) o,
  apart_all order all next (λ j. (let r = w j in omega (arith, r))) o,
)

-- ---- a directory of a table

pub record Level (t : Table) (rows : Rows) : Type 0 where
  pub rises : IsRising rows
  pub once : (j : ℕ) → times_given j rows ≤ cond (nat_le 2 j && nat_lt j t.next) 1 0

pub level : (t : Table) (i : ℕ) (rows : Rows) → IsHeld t → IsTableDirectory t i rows → Level t rows
level t i rows s h = elim h [
  | inl a ↦ subst (Level t) (sym a.1) (record { rises = rising_ordered t.visible s.ordered; once = λ j. (let o = s.once j in omega (arith, o)) })
  | inr r ↦ elim r [
    | inl a ↦ subst (Level t) (sym a.1) (record { rises = rising_trash t.trash s.trash_ordered; once = λ j. (let o = s.once j in omega (arith, o)) })
    | inr q ↦ elim q [
      | inl a ↦ record { rises = rising_ordered rows (ordered_inner i rows t.visible a s.ordered); once = λ j. (let o = s.once j in let p = inner_times i j rows t.visible a in omega (arith, o, p)) }
      | inr a ↦ record { rises = rising_ordered rows (trash_inner i rows t.trash a s.trash_ordered); once = λ j. (let o = s.once j in let p = inner_times i j rows t.trash a in omega (arith, o, p)) }
    ]
  ]
]

-- its entry
pub record FolderShown (order : List ℕ) (t : Table) (i : ℕ) (rows : Rows) : Type 0 where
  pub name : List ℕ
  pub less : Unfolded
  pub more : Unfolded
  pub is : shown order t (Entry (id_of i)) ≡ Some (Folder i name less more (directory order rows))

named_folder : (order : List ℕ) (t : Table) (i : ℕ) (rows : Rows) → IsHeld t → DirectoryIn i rows t.visible ⊎ DirectoryIn i rows t.trash → FolderShown order t i rows
unfolding directory
named_folder order t i rows s h = elim h [
  | inl a ↦ (let q = folder_own order i rows t.visible a in let r = own_seat order _ t.visible q.1 in
      record { name = q.0; less = r.less; more = r.more; is = all_shown order t _ (Entry (id_of i)) r.kids s (inl (inl (inr (inr (inr r.held))))) })
  | inr a ↦ (let q = folder_own order i rows t.trash a in let r = own_seat order _ t.trash q.1 in
      record { name = q.0; less = r.less; more = r.more; is = all_shown order t _ (Entry (id_of i)) r.kids s (inl (inr (inr (inr (inr r.held))))) })
]

root_folder : (order : List ℕ) (t : Table) → IsHeld t → FolderShown order t 0 t.visible
root_folder order t s = record { name = []; less = _; more = _; is = all_shown order t _ (Entry (id_of 0)) _ s (inl (inl (inl (refl, refl, refl)))) }

trash_folder : (order : List ℕ) (t : Table) → IsHeld t → FolderShown order t 1 t.trash
trash_folder order t s = record { name = []; less = _; more = _; is = all_shown order t _ (Entry (id_of 1)) _ s (inl (inr (inl (refl, refl, refl)))) }

pub held_folder : (order : List ℕ) (t : Table) (i : ℕ) (rows : Rows) → IsHeld t → IsTableDirectory t i rows → FolderShown order t i rows
held_folder order t i rows s h = elim h [
  | inl a ↦ subst (λ z. FolderShown order t z rows) (sym a.0) (subst (FolderShown order t 0) (sym a.1) (root_folder order t s))
  | inr r ↦ elim r [
    | inl a ↦ subst (λ z. FolderShown order t z rows) (sym a.0) (subst (FolderShown order t 1) (sym a.1) (trash_folder order t s))
    | inr q ↦ named_folder order t i rows s q
  ]
]

pub held_rows : HeldRows
held_rows order t i rows s h =
    let l = level t i rows s h in
    let f = held_folder order t i rows s h in
    let o : (j : ℕ) → times_given j rows ≤ 1 = λ j. at_most (times_given j rows) _ (l.once j) in
    record {
      entry = subst (IsFolderOf i (tree_arranged order (rows_of order rows))) (sym f.is) (refl, sym (arranged_same order rows));
      rising = rising order rows l.rises;
      distinct = distinct order rows o;
      named = named order t.next rows l.once;
      apart = apart_all order rows rows (λ j. omega arith) o;
    }

-- a sound table has nothing in hand
pub held_of : (t : Table) → IsSound t → IsHeld t
held_of t s = record {
  once = λ i. (let o = s.once i in let z : times_given i t.hand ≡ 0 = ap (times_given i) s.hand in omega (arith, o, z));
  ordered = s.ordered;
  trash_ordered = s.trash_ordered;
  short = s.short;
  trash_short = s.trash_short;
  hand_short = subst (AllFiles FitsRecord) (sym s.hand) tt;
  few = let a = few_rows t s in let b = s.next in let c = s.age in let z : rows_in t.hand ≡ 0 = ap rows_in s.hand in omega (arith, a, b, c, z);
}

pub folder_shown : (order : List ℕ) (t : Table) (i : ℕ) (rows : Rows) → IsSound t → IsTableDirectory t i rows → FolderShown order t i rows
folder_shown order t i rows s h = held_folder order t i rows (held_of t s) h

pub have_rows : DirectoriesHaveRows
have_rows order t i rows s h = held_rows order t i rows (held_of t s) h
