-- Each entry changed in the same way, and what names stand for then.
use Rattle.std.proofs.Common.{◌≡◌, ℕ, ◌+◌, ◌-◌, ◌*◌, List, map, Bool, true, false, ◌&&◌, cond, Option, Some, None, refl, sym, ◌∙◌, ap}
use Rattle.std.specs.Prelude.{◌==◌}
use Rattle.std.specs.Option.{option_map}
use Rattle.iris_name.specs.Hmac.{priority}
use Rattle.iris_name.specs.declared.name.FileId.{FileId}
use Rattle.iris_name.specs.declared.name.Name.{Name}
use Rattle.iris_name.specs.declared.name.Name.TheVariants.{Entry, Part, Block}
use Rattle.iris_node.specs.Unfolded.{Unfolded, Absent, Folder, Leaf, Even, Split, Stored}
use Rattle.iris_shape.specs.Folds.{Fold, One, Two, folded}
use Rattle.iris_shape.specs.Local.{either}
use Rattle.iris_shape.specs.Order.{beside, beats}
use Rattle.iris_shape.specs.Sides.{unfolded_side}
use Rattle.iris_shape.specs.Treap.{Treap, Empty, Over, treap}
use Rattle.iris_rows.specs.Rows.{File, Table}
use Rattle.iris_records.specs.Shown.{Own, own_id, entry_above, unfolded_entries, treap_of_entries, block_of_place, entry_in, part_in, in_directory, in_file, inside_rows, root_entry, trash_entry, roots, shown, versions}
use Rattle.iris_table_laws.proofs.NodesInTrees.{IsStored}
use Rattle.iris_forest.proofs.RowsInHand.{block_stored}
use Rattle.iris_forest.proofs.RowsOfDirectory.{mapped, mapped_treap}

-- entries keep their ids and names, and have the changed entries beside them; all else stays
pub record KeepsPlaces (alter : Unfolded → Unfolded) : Type 0 where
  pub folder : (id : ℕ) (name : List ℕ) (less more inside : Unfolded) → (x : Unfolded) × (alter (Folder id name less more inside) ≡ Folder id name (alter less) (alter more) x)
  pub leaf : (id : ℕ) (name : List ℕ) (less more : Unfolded) (size counter : ℕ) (kept : Unfolded)
      → (s : ℕ) × (k : ℕ) × (v : Unfolded) × (alter (Leaf id name less more size counter kept) ≡ Leaf id name (alter less) (alter more) s k v)
  pub absent : alter Absent ≡ Absent
  pub even : (v : ℕ) → alter (Even v) ≡ Even v
  pub split : (file level index : ℕ) (low high : Unfolded) → alter (Split file level index low high) ≡ Split file level index low high
  pub stored : (v : ℕ) (bytes : List ℕ) → alter (Stored v bytes) ≡ Stored v bytes

module _ (alter : Unfolded → Unfolded) (keeps : KeepsPlaces alter) where
  map_either : (a b : Option Unfolded) → option_map alter (either a b) ≡ either (option_map alter a) (option_map alter b)
  map_either None b = refl
  map_either (Some x) b = refl

  pub both : (a b x y : Option Unfolded) → x ≡ option_map alter a → y ≡ option_map alter b → either x y ≡ option_map alter (either a b)
  both a b x y e f = ap (λ z. either z y) e ∙ ap (either (option_map alter a)) f ∙ sym (map_either a b)

  choice : (b : Bool) (w x : Unfolded) (y z : Option Unfolded) → w ≡ alter x → z ≡ option_map alter y → cond b (Some w) z ≡ option_map alter (cond b (Some x) y)
  choice true w x y z d e = ap Some d
  choice false w x y z d e = e

  in_entries : (j : ℕ) (u : Unfolded) → entry_in j (alter u) ≡ option_map alter (entry_in j u)
  in_entries j (Folder id name less more inside) =
      let k = keeps.folder id name less more inside in
      ap (entry_in j) k.1
      ∙ choice (j == id) (Folder id name (alter less) (alter more) k.0) (Folder id name less more inside) (either (entry_in j less) (entry_in j more)) (either (entry_in j (alter less)) (entry_in j (alter more))) (sym k.1)
      (both (entry_in j less) (entry_in j more) (entry_in j (alter less)) (entry_in j (alter more)) (in_entries j less) (in_entries j more))
  in_entries j (Leaf id name less more size counter vs) =
      let k = keeps.leaf id name less more size counter vs in
      ap (entry_in j) k.3
      ∙ choice (j == id) (Leaf id name (alter less) (alter more) k.0 k.1 k.2) (Leaf id name less more size counter vs) (either (entry_in j less) (entry_in j more)) (either (entry_in j (alter less)) (entry_in j (alter more))) (sym k.3)
      (both (entry_in j less) (entry_in j more) (entry_in j (alter less)) (entry_in j (alter more)) (in_entries j less) (in_entries j more))
  in_entries j Absent = ap (entry_in j) keeps.absent
  in_entries j (Even v) = ap (entry_in j) (keeps.even v)
  in_entries j (Split file level index low high) = ap (entry_in j) (keeps.split file level index low high)
  in_entries j (Stored v bytes) = ap (entry_in j) (keeps.stored v bytes)

  pub found : (n : Name) (u : Unfolded) → in_directory n (alter u) ≡ option_map alter (in_directory n u)
  found (Entry j) u = in_entries j.0 u
  found (Part f l j) u = refl
  found (Block f p) u = refl

  part_stays : (l j file level index : ℕ) (x : Fold) → part_in l j (unfolded_side file level index x) ≡ option_map alter (part_in l j (unfolded_side file level index x))
  part_stays l j file level index (One v) = refl
  part_stays l j file level index (Two x y) =
      let low = unfolded_side file (level - 1) (2 * index) x in let high = unfolded_side file (level - 1) (2 * index + 1) y in
      choice ((l == level) && (j == index)) (Split file level index low high) (Split file level index low high) (either (part_in l j low) (part_in l j high)) (either (part_in l j low) (part_in l j high)) (sym (keeps.split file level index low high))
      (both (part_in l j low) (part_in l j high) (part_in l j low) (part_in l j high) (part_stays l j file (level - 1) (2 * index) x) (part_stays l j file (level - 1) (2 * index + 1) y))

  parts_stay : (b : Bool) (l j id : ℕ) (f : File) → either (cond b (part_in l j (versions id f)) None) None ≡ option_map alter (either (cond b (part_in l j (versions id f)) None) None)
  parts_stay true l j id f = both (part_in l j (versions id f)) None (part_in l j (versions id f)) None (part_stays l j id 16 0 (folded f.version 16 0)) refl
  parts_stay false l j id f = refl

  block_stays : (b : Bool) (p : ℕ) (f : File) → cond b (block_of_place p f) None ≡ option_map alter (cond b (block_of_place p f) None)
  block_stays false p f = refl
  block_stays true p f = by (f.version p == 0) where
    by : (z : Bool) → cond z None (Some (Stored (f.version p) (f.block p))) ≡ option_map alter (cond z None (Some (Stored (f.version p) (f.block p))))
    by true = refl
    by false = ap Some (sym (keeps.stored (f.version p) (f.block p)))

  -- what stands for the parts and blocks of a file that stays
  pub file_stays : (n : Name) (id : ℕ) (f : File) → in_file n id f ≡ option_map alter (in_file n id f)
  file_stays (Entry j) id f = refl
  file_stays (Part h l j) id f = parts_stay (h.0 == id) l j id f
  file_stays (Block h p) id f = block_stays (h.0 == id) p f

  -- in a table, by the roots and by what is inside the rows
  pub shown_by : (order : List ℕ) (t u : Table) (n : Name) → in_directory n (root_entry order u) ≡ option_map alter (in_directory n (root_entry order t))
      → in_directory n (trash_entry order u) ≡ option_map alter (in_directory n (trash_entry order t)) → inside_rows order n (roots u) ≡ option_map alter (inside_rows order n (roots t))
      → shown order u n ≡ option_map alter (shown order t n)
  unfolding shown
  shown_by order t u n root trash rows =
      both (in_directory n (root_entry order t)) (either (in_directory n (trash_entry order t)) (inside_rows order n (roots t))) (in_directory n (root_entry order u))
      (either (in_directory n (trash_entry order u)) (inside_rows order n (roots u))) root
      (both (in_directory n (trash_entry order t)) (inside_rows order n (roots t)) (in_directory n (trash_entry order u)) (inside_rows order n (roots u)) trash rows)

  stored_stays : (u : Unfolded) → IsStored u → alter u ≡ u
  stored_stays (Stored v bytes) s = keeps.stored v bytes
  stored_stays Absent s = absurd s
  stored_stays (Folder id name less more inside) s = absurd s
  stored_stays (Leaf id name less more size counter vs) s = absurd s
  stored_stays (Even v) s = absurd s
  stored_stays (Split file level index low high) s = absurd s

  -- a block that changes as all does stays
  pub same_block : (order : List ℕ) (t u : Table) (file : FileId) (p : ℕ) → shown order u (Block file p) ≡ option_map alter (shown order t (Block file p)) → shown order u (Block file p) ≡ shown order t (Block file p)
  same_block order t u file p e = e ∙ by (shown order t (Block file p)) refl where
    by : (o : Option Unfolded) → shown order t (Block file p) ≡ o → option_map alter o ≡ o
    by None q = refl
    by (Some w) q = ap Some (stored_stays w (block_stored order t file p w q))

-- the treap of entries, each of which is changed
module _ (order : List ℕ) (alter : Unfolded → Unfolded) (absent : alter Absent ≡ Absent) (new : Own → Own) (ids : (o : Own) → own_id (new o) ≡ own_id o)
    (entry : (o : Own) (a b : Unfolded) → entry_above (new o) (new o).file (alter a) (alter b) ≡ alter (entry_above o o.file a b)) where
  entries : (t : Treap Own) → unfolded_entries (mapped new t) ≡ alter (unfolded_entries t)
  entries Empty = sym absent
  entries (Over o l m) =
      ap (λ z. entry_above (new o) (new o).file z (unfolded_entries (mapped new m))) (entries l) ∙ ap (λ z. entry_above (new o) (new o).file (alter (unfolded_entries l)) z) (entries m) ∙ entry o (unfolded_entries l) (unfolded_entries m)

  ranks : (λ (a b : Own). beside (priority order) own_id (new a) (new b)) ≡ beside (priority order) own_id
  ranks = λ i. λ a b. beats (priority order) (ids a i) (ids b i)

  pub arranged : (os : List Own) → treap_of_entries order (map new os) ≡ alter (treap_of_entries order os)
  arranged os =
      ap unfolded_entries (sym (mapped_treap new (beside (priority order) own_id) os)) ∙ entries (treap (λ a b. beside (priority order) own_id (new a) (new b)) os) ∙ ap (λ up. alter (unfolded_entries (treap up os))) ranks
