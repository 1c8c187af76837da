-- A row taken out at a path, into the trash or to another path.
use Rattle.std.proofs.Common.{◌≡◌, ℕ, zero, suc, ◌+◌, ◌<◌, ◌≤◌, List, [], ◌∷◌, ◌++◌, length, get_or, take, drop, Bool, true, false, ◌&&◌, cond, Option, Some, None, refl, sym, ◌∙◌, ap, subst, arith}
use Rattle.std.proofs.lemmas.List.{drop_more}
use Rattle.std.proofs.lemmas.Bool.Decides.{nat_tests}
use Rattle.std.proofs.Math.ListN.{set}
use Rattle.std.specs.Prelude.{nat_lt, is_some, OnOk, IfOk, Result, Ok, Err}
use Rattle.std.specs.Str.{bytes_eq}
use Rattle.iris_plain.specs.Checks.{is_directory_seen, is_file, is_there}
use Rattle.iris_plain.specs.declared.checks.Seen.{Seen}
use Rattle.iris_plain.specs.declared.checks.Seen.TheVariants.{ADirectory, AFile, Nothing, AFileBefore}
use Rattle.iris_plain.specs.Routes.{parent, last, is_at_or_under, is_front}
use Rattle.iris_plain.specs.declared.files.Kind.{Kind}
use Rattle.iris_plain.specs.declared.files.Kind.TheVariants.{Dir}
use Rattle.iris_rows.specs.declared.item.Item.{Item}
use Rattle.iris_table.specs.declared.rows.Stop.{Stop}
use Rattle.iris_table.specs.declared.rows.Stop.TheVariants.{Standing, Absent, Barred}
use Rattle.iris_rows.specs.Changes.{seen_row, seen_file, gone, thrown, removed, row_moved, emptied, trash_name, reclaimed, retrashed}
use Rattle.iris_rows.specs.FileChanges.{freed}
use Rattle.iris_rows.specs.Places.{StoredPlaces, file_of}
use Rattle.iris_rows.specs.Items.{grown, kept_file, IsForest, IsForestTo, most_depth, table_over}
use Rattle.iris_rows.specs.Rows.{File, Rows, End, Row, Table, Taken, Found, Here, Missing, Through, with_row, without_row, at, file_at, empty_file, on_file}
use Rattle.iris_rows.specs.Sound.{IsDistinct}
use Rattle.iris_rows.specs.View.{kind_below, kind_of}
use Rattle.iris_table.specs.Stops.{stop, file_met, met_in, root_of, run_row, after_run, IsFiled, IsFreed, IsGivenUp, is_given_up, IsRun, first_name, has_child, deeper}
use Rattle.iris_rows.proofs.ViewByPath.{kind_found, look_resolved}
use Rattle.iris_rows.proofs.KindsByPath.{without_at}
use Rattle.iris_rows.proofs.ViewOfEmptied.{parent_dir, not_under_parent}
use Rattle.iris_table.proofs.ForestChange.{IsChange, by_without, by_file_at}
use Rattle.iris_rows.proofs.GrownRows.{row_of, grown_here, grown_deeper, grown_higher}
use Rattle.iris_table.proofs.ChangeAtPath.{is_standing, reaches}
use Rattle.iris_table.proofs.RunsAmongItems.{taken_out, filed, run_skipped}
use Rattle.iris_table.proofs.MetRow.{found, met_stop, row_at, met_standing}

-- where something is there, resolving ends at a row
none_there : (items : List Item) (s : Stop) → ((k : ℕ) → s ≡ Standing k → ⊥) → is_there (seen_row (found items s)) ≡ true → ⊥
none_there items (Standing k) h e = h k refl
none_there items Absent h e = cc
none_there items Barred h e = cc

pub must_stand : (items : List Item) (names : List (List ℕ)) (s : Stop) → 0 < length names → s ≡ stop 0 names items → ((k : ℕ) → s ≡ Standing k → ⊥) → is_there (seen_row (met_in items names)) ≡ true → ⊥
must_stand items names s h e x t = none_there items s x (ap (λ z. is_there (seen_row z)) (sym (met_stop items names h ∙ ap (found items) (sym e))) ∙ t)

pub met_here : (items : List Item) (names : List (List ℕ)) (place : ℕ) → 0 < length names → Standing place ≡ stop 0 names items → met_in items names ≡ Here (run_row (drop place items))
met_here items names place h e = met_stop items names h ∙ ap (found items) (sym e)

-- the rows without that of a path
pub rows_gone : (items : List Item) (names : List (List ℕ)) (place : ℕ) → 0 < length names → Standing place ≡ stop 0 names items
    → grown 0 (take place items ++ after_run (drop place items)) ≡ at (parent names) (without_row (last names)) (grown 0 items)
rows_gone items [] place h e = absurd (omega arith)
rows_gone items (n ∷ ns) place h e =
    let s = is_standing 0 n ns items place (sym e) in
    let P : List Item → Type 0 = λ z. IsChange (0 + length ns) (without_row (last (n ∷ ns))) z (after_run z) in
    let Q : ℕ → Type 0 = λ d. IsChange d (without_row (last (n ∷ ns))) (s.item ∷ s.others) (after_run (s.item ∷ s.others)) in
    let c : IsChange (0 + length ns) (without_row (last (n ∷ ns))) (s.item ∷ s.others) (after_run (s.item ∷ s.others)) = subst Q s.depth (taken_out s.item.depth (last (n ∷ ns)) s.item s.others refl s.name) in
    (reaches without_row by_without 0 n ns items place (sym e) (0 + length ns) (after_run (drop place items)) refl (subst P (sym s.is) c)).rows

-- the rows with the file at a path changed
pub rows_filed : (items : List Item) (names : List (List ℕ)) (place : ℕ) (change : File → File) (i j : Item) → 0 < length names → Standing place ≡ stop 0 names items → i ≡ get_or items place i → IsFiled change i j
    → (new : List Item) → new ≡ take place items ++ (j ∷ drop (place + 1) items) → grown 0 new ≡ at (parent names) (file_at (last names) change) (grown 0 items)
rows_filed items [] place change i j h e g f new x = absurd (omega arith)
rows_filed items (n ∷ ns) place change i j h e g f new x =
    let s = is_standing 0 n ns items place (sym e) in
    let here : drop place items ≡ i ∷ drop (place + 1) items = drop_more items place i s.within ∙ ap (λ z. z ∷ drop (place + 1) items) (sym g) in
    let same : s.item ≡ i = (let y : s.item ∷ s.others ≡ i ∷ drop (place + 1) items = sym s.is ∙ here in cc) in
    let depth : i.depth ≡ 0 + length ns = ap (λ z. z.depth) (sym same) ∙ s.depth in
    let name : bytes_eq (last (n ∷ ns)) i.name ≡ true = ap (λ z. bytes_eq (last (n ∷ ns)) z.name) (sym same) ∙ s.name in
    let P : List Item → Type 0 = λ z. IsChange (0 + length ns) (file_at (last (n ∷ ns)) change) z (j ∷ drop (place + 1) items) in
    ap (grown 0) x ∙ (reaches (λ m. file_at m change) (by_file_at change) 0 n ns items place (sym e) (0 + length ns) (j ∷ drop (place + 1) items) refl
    (subst P (sym here) (filed (0 + length ns) (last (n ∷ ns)) change i j (drop (place + 1) items) depth name f))).rows

-- a directory that is there
dir_kind : (f : Found) → is_directory_seen (seen_row f) ≡ true → kind_found f ≡ Some Dir
dir_kind (Here row) e = by row.file e where
  by : (file : Option File) → is_directory_seen (seen_file file) ≡ true → Some (kind_of file) ≡ Some Dir
  by None e = refl
  by (Some f) e = absurd (cc)
dir_kind Missing e = absurd (cc)
dir_kind Through e = absurd (cc)

kind_dir : (f : Found) → kind_found f ≡ Some Dir → is_directory_seen (seen_row f) ≡ true
kind_dir (Here row) e = by row.file e where
  by : (file : Option File) → Some (kind_of file) ≡ Some Dir → is_directory_seen (seen_file file) ≡ true
  by None e = refl
  by (Some f) e = absurd (cc)
kind_dir Missing e = absurd (cc)
kind_dir Through e = absurd (cc)

-- a directory stays when a row that it doesn't lie below is taken out
pub dir_stays : (items new : List Item) (names q : List (List ℕ)) → 0 < length names → IsDistinct (grown 0 items) → grown 0 new ≡ at (parent names) (without_row (last names)) (grown 0 items)
    → is_at_or_under names q ≡ false → is_directory_seen (seen_row (met_in items q)) ≡ true → is_directory_seen (seen_row (met_in new q)) ≡ true
dir_stays items new [] q h d e u x = absurd (omega arith)
dir_stays items new (n ∷ ns) q h d e u x =
    let before : kind_below q (root_of items) ≡ Some Dir = look_resolved q (root_of items) ∙ dir_kind (met_in items q) x in
    let after : kind_below q (root_of new) ≡ Some Dir = ap (λ rows. kind_below q (record { id = 0; file = None; inside = rows })) e ∙ without_at n ns (root_of items) q d ∙ ap (λ b. cond b None (kind_below q (root_of items))) u ∙ before in
    kind_dir (met_in new q) (sym (look_resolved q (root_of new)) ∙ after)

-- what doesn't lie below a path has a directory that doesn't either
pub front_parent : (p q : List (List ℕ)) → 0 < length q → is_front p q ≡ false → is_at_or_under p (parent q) ≡ false
front_parent p [] h e = absurd (omega arith)
front_parent [] (m ∷ q) h e = absurd (cc)
front_parent (n ∷ p) (m ∷ []) h e = refl
front_parent (n ∷ p) (m ∷ k ∷ q) h e = by (bytes_eq m n) (front_parent p (k ∷ q) (omega arith)) e where
  by : (b : Bool) → (is_front p (k ∷ q) ≡ false → is_at_or_under p (parent (k ∷ q)) ≡ false) → b && is_front p (k ∷ q) ≡ false → b && is_at_or_under p (parent (k ∷ q)) ≡ false
  by true f e = f e
  by false f e = refl

-- what the changes of the table are where a row is met
pub removed_is : (t : Table) (names : List (List ℕ)) (f : Found) (row : Taken) (rows trash : Rows) → f ≡ Here row → rows ≡ gone names t → trash ≡ thrown row t.trash
    → record { visible = rows; trash = trash; hand = t.hand; next = t.next; age = t.age + 1 } ≡ removed names t f
removed_is t names f row rows trash e g h = ap (λ r. record { visible = r; trash = trash; hand = t.hand; next = t.next; age = t.age + 1 }) g
    ∙ ap (λ r. record { visible = gone names t; trash = r; hand = t.hand; next = t.next; age = t.age + 1 }) h ∙ ap (removed names t) (sym e)

pub moved_is : (t : Table) (olds news : List (List ℕ)) (f : Found) (row : Taken) (rows : Rows) → f ≡ Here row → rows ≡ at (parent news) (with_row (last news) row) (gone olds t)
    → record { visible = rows; trash = t.trash; hand = t.hand; next = t.next; age = t.age + 1 } ≡ row_moved olds news t f
moved_is t olds news f row rows e g = ap (λ r. record { visible = r; trash = t.trash; hand = t.hand; next = t.next; age = t.age + 1 }) g ∙ ap (row_moved olds news t) (sym e)

pub emptied_is : (t : Table) (names : List (List ℕ)) (f : Found) (row fresh : Taken) (rows trash : Rows) → f ≡ Here row → fresh ≡ record { id = t.next; file = Some empty_file; inside = End }
    → rows ≡ at (parent names) (with_row (last names) fresh) (gone names t) → trash ≡ thrown row t.trash
    → record { visible = rows; trash = trash; hand = t.hand; next = t.next + 1; age = t.age + 1 } ≡ emptied names t f
emptied_is t names f row fresh rows trash e x g h =
    ap (λ r. record { visible = r; trash = trash; hand = t.hand; next = t.next + 1; age = t.age + 1 }) (g ∙ ap (λ z. at (parent names) (with_row (last names) z) (gone names t)) x)
    ∙ ap (λ r. record { visible = at (parent names) (with_row (last names) (record { id = t.next; file = Some empty_file; inside = End })) (gone names t); trash = r; hand = t.hand; next = t.next + 1; age = t.age + 1 }) h
    ∙ ap (emptied names t) (sym e)

-- what a removal leaves
pub gone_is : (t : Table) (names : List (List ℕ)) (f : Found) (row : Taken) (s : Table) → f ≡ Here row → s ≡ removed names t f → (s.visible ≡ gone names t) × (s.trash ≡ thrown row t.trash)
gone_is t names f row s e h = let x : s ≡ removed names t (Here row) = h ∙ ap (removed names t) e in (ap (λ z. z.visible) x, ap (λ z. z.trash) x)

-- the directory above what is there
there_kind : (f : Found) → is_there (seen_row f) ≡ true → (k : Kind) × (kind_found f ≡ Some k)
there_kind (Here row) e = (kind_of row.file, refl)
there_kind Missing e = absurd (cc)
there_kind Through e = absurd (cc)

pub parent_there : (items : List Item) (names : List (List ℕ)) → 0 < length names → is_there (seen_row (met_in items names)) ≡ true → is_directory_seen (seen_row (met_in items (parent names))) ≡ true
parent_there items [] h e = absurd (omega arith)
parent_there items (n ∷ ns) h e =
    let k = there_kind (met_in items (n ∷ ns)) e in
    let d : kind_below (parent (n ∷ ns)) (root_of items) ≡ Some Dir = parent_dir n ns (root_of items) k.0 (look_resolved (n ∷ ns) (root_of items) ∙ k.1) in
    kind_dir (met_in items (parent (n ∷ ns))) (sym (look_resolved (parent (n ∷ ns)) (root_of items)) ∙ d)

pub not_under : (names : List (List ℕ)) → 0 < length names → is_at_or_under names (parent names) ≡ false
not_under [] h = absurd (omega arith)
not_under (n ∷ ns) h = not_under_parent n ns

-- facts of a call that went well
pub ok_one : {A E : Type 0} {P Q : Type 0} (r : Result A E) → (P → Q) → OnOk r P → OnOk r Q
ok_one (Ok x) f p = f p
ok_one (Err e) f p = tt

pub ok_both : {A E : Type 0} {P Q R : Type 0} (r : Result A E) → (P → Q → R) → OnOk r P → OnOk r Q → OnOk r R
ok_both (Ok x) f p q = f p q
ok_both (Err e) f p q = tt

-- a run in the trash
pub run_name : (d : ℕ) (n : List ℕ) (run : List Item) → IsRun d n run → first_name run ≡ n
run_name d n [] r = absurd r
run_name d n (i ∷ rest) r = r.1

pub thrown_is : (run before trash : List Item) (n : List ℕ) (row : Taken) (rows : Rows) → IsRun 0 n run → run_row run ≡ row → n ≡ trash_name row.id → rows ≡ with_row (first_name run) (run_row run) (grown 0 before) → before ≡ trash
    → rows ≡ thrown row (grown 0 trash)
thrown_is run before trash n row rows r e f g h = g ∙ ap (λ m. with_row m (run_row run) (grown 0 before)) (run_name 0 n run r ∙ f) ∙ ap (λ x. with_row (trash_name row.id) x (grown 0 before)) e ∙ ap (λ x. with_row (trash_name row.id) row (grown 0 x)) h

pub id_at : (items : List Item) (k : ℕ) (i : Item) → i ≡ get_or items k i → k < length items → i.id.0 ≡ (run_row (drop k items)).id
id_at items k i e h = sym (ap (λ r. r.id) (row_at items k i e h))

-- one step of reclaiming
first_here : (i : Item) (xs : List Item) → i.depth ≤ 0 → grown 0 (i ∷ xs) ≡ Row i.id.0 i.name (kept_file i.file) (grown 1 xs) (grown 0 xs)
unfolding row_of
first_here i xs h = grown_here 0 i xs (omega arith)

lt_of : (a b : ℕ) → nat_lt a b ≡ true → a < b
lt_of a b h = grind (arith, nat_tests)

le_of : (a b : ℕ) → nat_lt a b ≡ false → b ≤ a
le_of a b h = grind (arith, nat_tests)

reclaims_row : (t : Table) (id : ℕ) (name : List ℕ) (j : Item) (inside others next : Rows) → retrashed (thrown (record { id = j.id.0; file = kept_file j.file; inside = inside }) (Row id name None others next)) t ≡ reclaimed t (Row id name None (row_of j inside others) next)
unfolding row_of
reclaims_row t id name j inside others next = refl

pub reclaims_child : (visible old new : List Item) (next age : ℕ) → IsForest old → has_child old ≡ true → grown 0 new ≡ thrown (run_row (drop 1 old)) (grown 0 (take 1 old ++ after_run (drop 1 old)))
    → table_over visible new next age ≡ reclaimed (table_over visible old next age) (grown 0 old)
reclaims_child visible [] new next age f h e = absurd (cc)
reclaims_child visible (i ∷ []) new next age f h e = absurd (cc)
reclaims_child visible (i ∷ j ∷ xs) new next age f h e = by i.file refl f.1.0 where
  deep : 0 < j.depth
  deep = lt_of 0 j.depth h

  by : (file : Option StoredPlaces) → i.file ≡ file → j.depth ≤ most_depth i file → table_over visible new next age ≡ reclaimed (table_over visible (i ∷ j ∷ xs) next age) (grown 0 (i ∷ j ∷ xs))
  by (Some f') g l = absurd (omega (arith, f.0, deep))
  by None g l =
      let one : j.depth ≡ 1 = omega (arith, f.0, deep) in
      let inner : grown 1 (j ∷ xs) ≡ row_of j (grown 2 xs) (grown 1 xs) = grown_here 1 j xs one in
      let old : grown 0 (i ∷ j ∷ xs) ≡ Row i.id.0 i.name None (row_of j (grown 2 xs) (grown 1 xs)) (grown 0 xs) =
      first_here i (j ∷ xs) f.0 ∙ ap (λ z. Row i.id.0 i.name (kept_file z) (grown 1 (j ∷ xs)) (grown 0 (j ∷ xs))) g ∙ ap (λ z. Row i.id.0 i.name None z (grown 0 (j ∷ xs))) inner ∙ ap (Row i.id.0 i.name None (row_of j (grown 2 xs) (grown 1 xs))) (grown_deeper 0 j xs deep) in
      let left : grown 0 (i ∷ drop (deeper j.depth xs) xs) ≡ Row i.id.0 i.name None (grown 1 xs) (grown 0 xs) =
      first_here i (drop (deeper j.depth xs) xs) f.0 ∙ ap (λ z. Row i.id.0 i.name (kept_file z) (grown 1 (drop (deeper j.depth xs) xs)) (grown 0 (drop (deeper j.depth xs) xs))) g
      ∙ ap (λ z. Row i.id.0 i.name None z (grown 0 (drop (deeper j.depth xs) xs))) (run_skipped j.depth 1 xs (omega arith)) ∙ ap (Row i.id.0 i.name None (grown 1 xs)) (run_skipped j.depth 0 xs (omega arith)) in
      let row : run_row (j ∷ xs) ≡ record { id = j.id.0; file = kept_file j.file; inside = grown 2 xs } = ap (λ k. record { id = j.id.0; file = kept_file j.file; inside = grown (k + 1) xs }) one in
      let both : grown 0 new ≡ thrown (record { id = j.id.0; file = kept_file j.file; inside = grown 2 xs }) (Row i.id.0 i.name None (grown 1 xs) (grown 0 xs)) = e ∙ ap (λ r. thrown r (grown 0 (i ∷ drop (deeper j.depth xs) xs))) row ∙ ap (thrown (record { id = j.id.0; file = kept_file j.file; inside = grown 2 xs })) left in
      ap (λ z. retrashed z (table_over visible (i ∷ j ∷ xs) next age)) both ∙ reclaims_row (table_over visible (i ∷ j ∷ xs) next age) i.id.0 i.name j (grown 2 xs) (grown 1 xs) (grown 0 xs) ∙ ap (reclaimed (table_over visible (i ∷ j ∷ xs) next age)) (sym old)

pub reclaims_file : (visible old new : List Item) (next age : ℕ) → IsForest old → IsFreed old new → table_over visible new next age ≡ reclaimed (table_over visible old next age) (grown 0 old)
reclaims_file visible [] new next age f h = absurd h
reclaims_file visible (i ∷ xs) [] next age f h = absurd h
reclaims_file visible (i ∷ xs) (j ∷ ys) next age f h = by (kept_file i.file) refl h.2 where
  by : (file : Option File) → kept_file i.file ≡ file → is_given_up file ≡ false → table_over visible (j ∷ ys) next age ≡ reclaimed (table_over visible (i ∷ xs) next age) (grown 0 (i ∷ xs))
  by None g l = absurd (cc)
  by (Some file) g l =
      let old : grown 0 (i ∷ xs) ≡ Row i.id.0 i.name (Some file) (grown 1 xs) (grown 0 xs) = first_here i xs f.0 ∙ ap (λ z. Row i.id.0 i.name z (grown 1 xs) (grown 0 xs)) g in
      let new : grown 0 (j ∷ ys) ≡ Row i.id.0 i.name (Some (freed file)) (grown 1 xs) (grown 0 xs) = first_here j ys (omega (arith, f.0, h.1.depth)) ∙ ap (λ z. Row z.0 j.name (kept_file j.file) (grown 1 ys) (grown 0 ys)) h.1.id
      ∙ ap (λ z. Row i.id.0 z (kept_file j.file) (grown 1 ys) (grown 0 ys)) h.1.name ∙ ap (λ z. Row i.id.0 i.name z (grown 1 ys) (grown 0 ys)) (h.1.file ∙ ap (on_file freed) g) ∙ ap (λ z. Row i.id.0 i.name (Some (freed file)) (grown 1 z) (grown 0 z)) h.0 in
      ap (λ z. retrashed z (table_over visible (i ∷ xs) next age)) new
      ∙ ap (λ b. cond b (retrashed (grown 0 xs) (table_over visible (i ∷ xs) next age)) (retrashed (Row i.id.0 i.name (Some (freed file)) (grown 1 xs) (grown 0 xs)) (table_over visible (i ∷ xs) next age))) (sym l)
      ∙ ap (reclaimed (table_over visible (i ∷ xs) next age)) (sym old)

no_child : (i : Item) (xs : List Item) → has_child (i ∷ xs) ≡ false → grown 1 xs ≡ End
no_child i [] h = refl
no_child i (j ∷ xs) h = grown_higher 1 j xs (let k = le_of 0 j.depth h in omega arith)

pub reclaims_last : (visible old : List Item) (next age : ℕ) → IsForest old → 0 < length old → has_child old ≡ false → IsGivenUp old → table_over visible (drop 1 old) next age ≡ reclaimed (table_over visible old next age) (grown 0 old)
reclaims_last visible [] next age f l h g = absurd (omega arith)
reclaims_last visible (i ∷ xs) next age f l h g = by (kept_file i.file) refl g where
  by : (file : Option File) → kept_file i.file ≡ file → is_given_up file ≡ true → table_over visible xs next age ≡ reclaimed (table_over visible (i ∷ xs) next age) (grown 0 (i ∷ xs))
  by None e l = let old : grown 0 (i ∷ xs) ≡ Row i.id.0 i.name None End (grown 0 xs) = first_here i xs f.0 ∙ ap (λ z. Row i.id.0 i.name z (grown 1 xs) (grown 0 xs)) e ∙ ap (λ z. Row i.id.0 i.name None z (grown 0 xs)) (no_child i xs h) in
      ap (reclaimed (table_over visible (i ∷ xs) next age)) (sym old)
  by (Some file) e l = let old : grown 0 (i ∷ xs) ≡ Row i.id.0 i.name (Some file) (grown 1 xs) (grown 0 xs) = first_here i xs f.0 ∙ ap (λ z. Row i.id.0 i.name z (grown 1 xs) (grown 0 xs)) e in
      ap (λ b. cond b (retrashed (grown 0 xs) (table_over visible (i ∷ xs) next age)) (retrashed (Row i.id.0 i.name (Some (freed file)) (grown 1 xs) (grown 0 xs)) (table_over visible (i ∷ xs) next age))) (sym l)
      ∙ ap (reclaimed (table_over visible (i ∷ xs) next age)) (sym old)

-- a list with an item replaced
pub set_parts : (xs : List Item) (k : ℕ) (v : Item) → k < length xs → set xs k v ≡ take k xs ++ (v ∷ drop (k + 1) xs)
set_parts [] k v h = absurd (omega arith)
set_parts (x ∷ xs) zero v h = refl
set_parts (x ∷ xs) (suc k) v h = let e : suc k + 1 ≡ suc (k + 1) = omega arith in ap (λ z. x ∷ z) (set_parts xs k v (omega arith)) ∙ ap (λ j. x ∷ (take k xs ++ (v ∷ drop j (x ∷ xs)))) (sym e)

most_alike : (i j : Item) (f g : Option StoredPlaces) → j.depth ≡ i.depth → is_some g ≡ is_some f → most_depth j g ≡ most_depth i f
most_alike i j None None d e = ap (λ k. k + 1) d
most_alike i j None (Some g) d e = absurd (cc)
most_alike i j (Some f) None d e = absurd (cc)
most_alike i j (Some f) (Some g) d e = d

pub forest_set : (m k : ℕ) (xs : List Item) (i j : Item) → IsForestTo m xs → i ≡ get_or xs k i → k < length xs → j.depth ≡ i.depth → is_some j.file ≡ is_some i.file → IsForestTo m (set xs k j)
forest_set m k [] i j f e h d s = absurd (omega arith)
forest_set m zero (x ∷ xs) i j f e h d s =
    let Q : ℕ → Type 0 = λ n. IsForestTo n xs in
    let y : most_depth x x.file ≡ most_depth j j.file = ap (λ z. most_depth z z.file) (sym e) ∙ sym (most_alike i j i.file j.file d s) in
    let z : i.depth ≡ x.depth = ap (λ w. w.depth) e in (omega (arith, f.0), subst Q y f.1)
forest_set m (suc k) (x ∷ xs) i j f e h d s = (f.0, forest_set (most_depth x x.file) k xs i j f.1 e (omega arith) d s)

-- a file that is there
pub file_there : (s : Seen) → is_file s ≡ true → is_there s ≡ true
file_there ADirectory e = absurd (cc)
file_there (AFile size) e = refl
file_there Nothing e = absurd (cc)
file_there AFileBefore e = absurd (cc)

-- a removal, a move and an emptying, over items
module _ (old new : List Item) (names : List (List ℕ)) (place : ℕ) (named : 0 < length names) (stands : Standing place ≡ stop 0 names old) (left : new ≡ take place old ++ after_run (drop place old)) where
  pub left_gone : grown 0 new ≡ at (parent names) (without_row (last names)) (grown 0 old)
  left_gone = ap (grown 0) left ∙ rows_gone old names place named stands

  pub removed_ok : (before trash : List Item) → grown 0 trash ≡ thrown (run_row (drop place old)) (grown 0 before) → (next age : ℕ) → table_over new trash next (age + 1) ≡ removed names (table_over old before next age) (met_in old names)
  removed_ok before trash t next age = removed_is (table_over old before next age) names (met_in old names) (run_row (drop place old)) (grown 0 new) (grown 0 trash) (met_here old names place named stands) left_gone t

  pub moved_ok : (news : List (List ℕ)) (moves run : List Item) → run_row run ≡ run_row (drop place old) → grown 0 moves ≡ at (parent news) (with_row (last news) (run_row run)) (grown 0 new) → (trash : List Item) (next age : ℕ)
      → table_over moves trash next (age + 1) ≡ row_moved names news (table_over old trash next age) (met_in old names)
  moved_ok news moves run r g trash next age = moved_is (table_over old trash next age) names news (met_in old names) (run_row (drop place old)) (grown 0 moves) (met_here old names place named stands)
      (g ∙ ap (λ x. at (parent news) (with_row (last news) x) (grown 0 new)) r ∙ ap (at (parent news) (with_row (last news) (run_row (drop place old)))) left_gone)

there_row : (f : Found) → is_there (seen_row f) ≡ true → (row : Taken) × (f ≡ Here row)
there_row (Here row) e = (row, refl)
there_row Missing e = absurd (cc)
there_row Through e = absurd (cc)

module _ (old new before trash : List Item) (names : List (List ℕ)) (there : is_there (seen_row (met_in old names)) ≡ true)
    (removes : (next age : ℕ) → table_over new trash next (age + 1) ≡ removed names (table_over old before next age) (met_in old names)) where
  pub gone_ok : grown 0 new ≡ at (parent names) (without_row (last names)) (grown 0 old)
  gone_ok = let r = there_row (met_in old names) there in (gone_is (table_over old before 0 0) names (met_in old names) r.0 (table_over new trash 0 1) r.1 (removes 0 0)).0

  pub emptied_ok : (id : ℕ) (after run : List Item) (file : StoredPlaces) → run_row run ≡ record { id = id; file = Some (file_of file); inside = End } → file_of file ≡ empty_file → grown 0 after ≡ at (parent names) (with_row (last names) (run_row run)) (grown 0 new) → (age : ℕ)
      → table_over after trash (id + 1) (age + 1) ≡ emptied names (table_over old before id age) (met_in old names)
  emptied_ok id after run file r e g age =
      let x = there_row (met_in old names) there in
      let y = gone_is (table_over old before id age) names (met_in old names) x.0 (table_over new trash id (age + 1)) x.1 (removes id age) in
      emptied_is (table_over old before id age) names (met_in old names) x.0 (run_row run) (grown 0 after) (grown 0 trash) x.1 (r ∙ ap (λ z. record { id = id; file = Some z; inside = End }) e) (g ∙ ap (at (parent names) (with_row (last names) (run_row run))) y.0) y.1

-- a file changed at a path
pub filed_ok : (items : List Item) (names : List (List ℕ)) (place : ℕ) (change : File → File) (i j : Item) → 0 < length names → Standing place ≡ stop 0 names items → place < length items → i ≡ get_or items place i → IsFiled change (get_or items place i) j
    → grown 0 (set items place j) ≡ at (parent names) (file_at (last names) change) (grown 0 items)
filed_ok items names place change i j h s l e f = let Q : Item → Type 0 = λ z. IsFiled change z j in rows_filed items names place change i j h s e (subst Q (sym e) f) (set items place j) (set_parts items place j l)

pub counter_ok : (items : List Item) (names : List (List ℕ)) (place : ℕ) (i : Item) (most : ℕ) → 0 < length names → Standing place ≡ stop 0 names items → place < length items → i ≡ get_or items place i
    → ((file : File) → file_met (met_in items names) ≡ Some file → file.counter < most) → (file : StoredPlaces) → (get_or items place i).file ≡ Some file → file.counter < most
counter_ok items names place i most h s l e f file g = f (file_of file) (ap file_met (met_standing items names place i h s e l) ∙ ap (λ z. kept_file z.file) e ∙ ap kept_file g)

pub forest_filed : (items : List Item) (place : ℕ) (i j : Item) → place < length items → i ≡ get_or items place i → j.depth ≡ (get_or items place i).depth → is_some j.file ≡ is_some (get_or items place i).file → IsForest items → IsForest (set items place j)
forest_filed items place i j l e d k f = forest_set 0 place items i j f e l (d ∙ ap (λ z. z.depth) (sym e)) (k ∙ ap (λ z. is_some z.file) (sym e))

pub child_within : (items : List Item) → has_child items ≡ true → 1 < length items
child_within [] e = absurd (cc)
child_within (i ∷ []) e = absurd (cc)
child_within (i ∷ j ∷ items) e = omega arith

pub if_ok : {A E : Type 0} {P Q : A → Type 0} (r : Result A E) → ((x : A) → P x → Q x) → IfOk r P → IfOk r Q
if_ok (Ok x) f p = f x p
if_ok (Err e) f p = tt
