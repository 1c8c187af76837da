-- What a sound table shows is told by what its nodes say, each by itself.
use Rattle.std.proofs.Common.{◌≡◌, inl, inr, ℕ, ◌+◌, ◌-◌, ◌*◌, List, Option, Some, None, refl, sym, ◌∙◌, ap, subst}
use Rattle.std.specs.Prelude.{◌↔◌}
use Rattle.iris_name.specs.Hmac.{priority}
use Rattle.iris_name.specs.declared.name.FileId.{FileId}
use Rattle.iris_name.specs.declared.name.Name.{Name}
use Rattle.iris_name.specs.declared.name.Name.TheVariants.{Entry, Part, Block}
use Rattle.iris_node.specs.Local.{Local, even, local}
use Rattle.iris_node.specs.Trees.{Shown, IsNodeName, IsSaidAlike, AllNodes, AllShown, said, node_name}
use Rattle.iris_node.specs.Unfolded.{Unfolded, Absent, Folder, Leaf, Even, Split, Stored, id_of}
use Rattle.iris_shape.specs.Folds.{Fold, One, Two, folded}
use Rattle.iris_shape.specs.Order.{beside}
use Rattle.iris_shape.specs.Treap.{Treap, Empty, Over, Each, Every, treap}
use Rattle.iris_shape.proofs.Treaps.{every_treap}
use Rattle.iris_rows.specs.Rows.{File, Rows, End, Row, Table}
use Rattle.iris_table_laws.specs.Sameness.{SameWhereSaid}
use Rattle.iris_shape.specs.Sides.{unfolded_side}
use Rattle.iris_records.specs.Shown.{Own, own_id, entry_above, unfolded_entries, treap_of_entries, owns, directory, root_entry, trash_entry, shown}
use Rattle.iris_rows.specs.Sound.{IsSound}
use Rattle.iris_table_laws.proofs.TreeOfTable.{trees, trees_own, held_shown, seen_node, shown_stands}
use Rattle.iris_table_laws.proofs.NestedNodes.{Nest, Both, Holds, nest, inner}
use Rattle.iris_table_laws.proofs.NodesInTrees.{Stands}
use Rattle.iris_table_laws.proofs.SameNodes.{SideOf, EntryOf, FitsAt, same_side, same_entry, same_led, side_stays, entry_stays, side_agrees, entry_agrees, held_entry}

-- the shape of entries and sides, whatever the nodes say

abbrev pub IsSide : ℕ → ℕ → ℕ → Unfolded → Type 0
IsSide file level index (Even v) = Unit {0}
IsSide file level index (Split f l j low high) = (f ≡ file) × (l ≡ level) × (j ≡ index) × IsSide file (level - 1) (2 * index) low × IsSide file (level - 1) (2 * index + 1) high
IsSide file level index Absent = ⊥
IsSide file level index (Folder id name less more inside) = ⊥
IsSide file level index (Leaf id name less more size counter versions) = ⊥
IsSide file level index (Stored v bytes) = ⊥

abbrev pub IsEntries : Unfolded → Type 0
IsEntries Absent = Unit {0}
IsEntries (Folder id name less more inside) = IsEntries less × IsEntries more × IsEntries inside
IsEntries (Leaf id name less more size counter versions) = IsEntries less × IsEntries more × IsSide id 16 0 versions
IsEntries (Even v) = ⊥
IsEntries (Split f l j low high) = ⊥
IsEntries (Stored v bytes) = ⊥

pub side_shape : (file level index : ℕ) (x : Fold) → IsSide file level index (unfolded_side file level index x)
side_shape file level index (One v) = tt
side_shape file level index (Two x y) = (refl, refl, refl, side_shape file (level - 1) (2 * index) x, side_shape file (level - 1) (2 * index + 1) y)

abbrev InsideShape : Unfolded → Option File → Type 0
InsideShape inside None = IsEntries inside
InsideShape inside (Some f) = Unit {0}

abbrev IsInside : Own → Type 0
IsInside own = InsideShape own.inside own.file

entry_shape : (o : Own) (file : Option File) (less more : Unfolded) → InsideShape o.inside file → IsEntries less → IsEntries more → IsEntries (entry_above o file less more)
entry_shape o None less more s a b = (a, b, s)
entry_shape o (Some f) less more s a b = (a, b, side_shape o.id 16 0 (folded f.version 16 0))

entries_shape : (t : Treap Own) → Every IsInside t → IsEntries (unfolded_entries t)
entries_shape Empty e = tt
entries_shape (Over o l m) e = entry_shape o o.file (unfolded_entries l) (unfolded_entries m) e.0 (entries_shape l e.1) (entries_shape m e.2)

pub arranged_shape : (order : List ℕ) (os : List Own) → Each IsInside os → IsEntries (treap_of_entries order os)
arranged_shape order os e = entries_shape (treap (beside (priority order) own_id) os) (every_treap IsInside (beside (priority order) own_id) os e)

pub owns_shape : (order : List ℕ) (rows : Rows) → Each IsInside (owns order rows)
owns_shape order End = tt
owns_shape order (Row id name None inside next) = (arranged_shape order (owns order inside) (owns_shape order inside), owns_shape order next)
owns_shape order (Row id name (Some f) inside next) = (tt, owns_shape order next)

pub directory_shape : (order : List ℕ) (rows : Rows) → IsEntries (directory order rows)
unfolding directory
directory_shape order rows = arranged_shape order (owns order rows) (owns_shape order rows)

-- nodes that all stand under their names

abbrev pub AllStand : Shown → Nest → Type 0
AllStand sh x = (w : Unfolded) (n : Name) (k : Nest) → Holds w n k x → sh n ≡ Some w

abbrev says : Shown → Name → Option Local
says sh n = said (sh n)

side_of : (sh : Shown) (file level index : ℕ) (u : Unfolded) → IsSide file level index u → AllStand sh (nest u) → SideOf (says sh) file level index u
side_of sh file level index (Even v) s a = tt
side_of sh file level index (Split f l j low high) s a = (
  s.0,
  s.1,
  s.2,
  ap said (a (Split f l j low high) (Part (id_of f) l j) (Both (nest low) (nest high)) (inl (refl, refl, refl))),
  side_of sh file (level - 1) (2 * index) low s.3 (λ w n k h. a w n k (inr (inl h))),
  side_of sh file (level - 1) (2 * index + 1) high s.4 (λ w n k h. a w n k (inr (inr h))),
)
side_of sh file level index u s a = absurd s

entry_of : (sh : Shown) (u : Unfolded) → IsEntries u → AllStand sh (nest u) → EntryOf (says sh) u
entry_of sh Absent s a = tt
entry_of sh (Folder id name less more inside) s a = (
  ap said (a (Folder id name less more inside) (Entry (id_of id)) (inner (Folder id name less more inside)) (inl (refl, refl, refl))),
  entry_of sh less s.0 (λ w n k h. a w n k (inr (inl h))),
  entry_of sh more s.1 (λ w n k h. a w n k (inr (inr (inl h)))),
  entry_of sh inside s.2 (λ w n k h. a w n k (inr (inr (inr h)))),
)
entry_of sh (Leaf id name less more size counter versions) s a = (
  ap said (a (Leaf id name less more size counter versions) (Entry (id_of id)) (inner (Leaf id name less more size counter versions)) (inl (refl, refl, refl))),
  entry_of sh less s.0 (λ w n k h. a w n k (inr (inl h))),
  entry_of sh more s.1 (λ w n k h. a w n k (inr (inr (inl h)))),
  side_of sh id 16 0 versions s.2 (λ w n k h. a w n k (inr (inr (inr h)))),
)
entry_of sh u s a = absurd s

pub all_stand : (order : List ℕ) (t : Table) → IsSound t → AllStand (shown order t) (trees order t)
all_stand order t s w n k h =
    let o = trees_own order t w n k h in held_shown order t n w s o.named (subst (λ z. Holds w n z (trees order t)) o.kids h)

-- what stands for a node's name in a table
pub fits : (order : List ℕ) (t : Table) (n : Name) (u : Unfolded) → IsSound t → node_name u ≡ Some n → shown order t n ≡ Some u → FitsAt (says (shown order t)) n u
fits order t n u s m e = elim (seen_node order t n u u s m e) [
  | inl h ↦ held_entry (says (shown order t)) (root_entry order t) u n (inner u)
      (entry_of (shown order t) (root_entry order t) (tt, tt, directory_shape order t.visible) (λ w n k q. all_stand order t s w n k (inl q))) h
  | inr h ↦ held_entry (says (shown order t)) (trash_entry order t) u n (inner u)
      (entry_of (shown order t) (trash_entry order t) (tt, tt, directory_shape order t.trash) (λ w n k q. all_stand order t s w n k (inr q))) h
]

pub node_named : (order : List ℕ) (t : Table) (n : Name) (u : Unfolded) → IsSound t → IsNodeName n → shown order t n ≡ Some u → node_name u ≡ Some n
node_named order t n u s m e = by n m (shown_stands order t n u s.hand e) where
  by : (n : Name) → IsNodeName n → Stands n u (trees order t) → node_name u ≡ Some n
  by (Entry i) m h = (trees_own order t u (Entry i) h.0 h.1).named
  by (Part f l i) m h = (trees_own order t u (Part f l i) h.0 h.1).named
  by (Block f p) m h = absurd m

-- two tables

agrees : (at by : Name → Option Local) (n : Name) (u : Unfolded) → FitsAt at n u → FitsAt by n u → AllNodes (λ m. at m ≡ by m) u
agrees at by (Entry i) u a b = entry_agrees at by u a b
agrees at by (Part f l i) u a b = side_agrees at by f.0 l i u a b
agrees at by (Block f p) u a b = absurd a

split_even : (u : Unfolded) (f : FileId) (l i : ℕ) → node_name u ≡ Some (Part f l i) → even u ≡ None
split_even (Split f l i low high) g m j e = refl
split_even (Folder id name less more inside) f l i e = refl
split_even (Leaf id name less more size counter versions) f l i e = refl
split_even Absent f l i e = refl
split_even (Even v) f l i e = absurd (cc)
split_even (Stored v bytes) f l i e = refl

alike : (at by : Name → Option Local) (n : Name) (u v : Unfolded) → FitsAt at n u → FitsAt by n v → node_name u ≡ Some n → node_name v ≡ Some n → local u ≡ local v → AllNodes (λ m. at m ≡ by m) u → u ≡ v
alike at by (Entry i) u v a b k l e h = let c = entry_stays at by u h a in same_entry by u v c b (same_led by u v c b e)
alike at by (Part f l i) u v a b k m e h = same_side by f.0 l i u v (side_stays at by f.0 l i u h a) b (split_even u f l i k ∙ sym (split_even v f l i m))
alike at by (Block f p) u v a b k l e h = absurd a

local_some : (u : Unfolded) (n : Name) → node_name u ≡ Some n → None ≡ local u → ⊥
local_some (Folder id name less more inside) n e f = cc
local_some (Leaf id name less more size counter versions) n e f = cc
local_some (Split g l i low high) n e f = cc
local_some Absent n e f = cc
local_some (Even v) n e f = cc
local_some (Stored v bytes) n e f = cc

pub same_said : SameWhereSaid
same_said order other t s n a b m = by (shown order t n) refl (shown other s n) refl where
  by : (o : Option Unfolded) → shown order t n ≡ o → (p : Option Unfolded) → shown other s n ≡ p → (o ≡ p) ↔ ((said o ≡ said p) × AllShown (IsSaidAlike (shown order t) (shown other s)) o)
  by None e None f = (λ q. (refl, tt), λ q. refl)
  by None e (Some v) f = (λ q. absurd (cc), λ q. absurd (local_some v n (node_named other s n v b m f) q.0))
  by (Some u) e None f = (λ q. absurd (cc), λ q. absurd (local_some u n (node_named order t n u a m e) (sym q.0)))
  by (Some u) e (Some v) f =
      let k = node_named order t n u a m e in let l = node_named other s n v b m f in
      let x = fits order t n u a k e in let y = fits other s n v b l f in (
        λ q. (ap said q, agrees (says (shown order t)) (says (shown other s)) n u x (let z : v ≡ u = cc in subst (FitsAt (says (shown other s)) n) z y)),
        λ q. ap Some (alike (says (shown order t)) (says (shown other s)) n u v x y k l q.0 q.1),
      )
