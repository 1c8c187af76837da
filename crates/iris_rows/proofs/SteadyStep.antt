-- The step keeps what is sound.
use Rattle.std.proofs.Common.{◌≡◌, inl, inr, ℕ, ◌+◌, ◌≤◌, ◌<◌, ◌^◌, List, [], ◌∷◌, length, Bool, true, false, ◌&&◌, cond, Option, Some, None, refl, sym, ◌∙◌, ap, subst, arith}
use Rattle.std.specs.Prelude.{is_none, nat_le, nat_lt, ◌==◌}
use Rattle.std.proofs.lemmas.Bool.Decides.{nat_tests}
use Rattle.iris_name.specs.declared.request.PlainError.{PlainError}
use Rattle.iris_name.specs.declared.request.PlainError.TheVariants.{Exists, IsDir, TooLong, TooMuch, Full}
use Rattle.iris_name.specs.declared.request.Request.{Request}
use Rattle.iris_name.specs.declared.request.Request.TheVariants.{Mkdir, Create, Write, Read, Resize, Stat, List as ListNames, Rename, Remove, Sync, Root, Reclaim, Probe}
use Rattle.iris_name.specs.Paths.{names_of}
use Rattle.iris_plain.specs.Routes.{parent, last, is_top, is_front, is_at_or_under}
use Rattle.iris_plain.specs.Checks.{is_full, on_names, no_place, new_name, write_checks, resize_checks, move_checks, remove_checks, is_there, is_directory_seen, size_of, unresolved, then_error, error_if, blocks_of}
use Rattle.iris_plain.specs.declared.checks.Seen.{Seen}
use Rattle.iris_plain.specs.declared.checks.Seen.TheVariants.{ADirectory, AFile, Nothing, AFileBefore}
use Rattle.iris_plain.specs.declared.files.Kind.TheVariants.{Dir}
use Rattle.iris_rows.specs.Rows.{File, Rows, End, Row, Table, Taken, root_row, find, with_row, without_row, at, file_at, Found, Here, Missing, Through, met, empty_file, empty_table, resolved, followed, entered}
use Rattle.iris_rows.specs.FileChanges.{file_written, cut, freed, count_written}
use Rattle.iris_rows.specs.Changes.{made, filed, gone, thrown, removed, row_moved, emptied, retrashed, reclaimed, seen_in, accepted_change, stepped, table_verdict, trash_name}
use Rattle.iris_plain.specs.Steps.{by_names}
use Rattle.iris_rows.specs.View.{kind_below, kind_of}
use Rattle.iris_rows.specs.Sound.{IsDistinct, IsGood, AreGood, IsCounted, OnFile, AllFiles, times_given}
use Rattle.iris_rows.proofs.Steady.{Steady}
use Rattle.iris_rows.proofs.RowHolding.{holding}
use Rattle.iris_rows.proofs.KindsByPath.{distinct_in}
use Rattle.iris_rows.proofs.ViewOfEmptied.{not_under_parent, under_self, parent_dir}
use Rattle.iris_rows.proofs.WrittenContent.{good-written}
use Rattle.iris_rows.proofs.ResizedContent.{good-cut}
use Rattle.iris_rows.proofs.ViewOfStep.{places, moves, cleared_at, front, not_under, both_none, positive}
use Rattle.iris_rows.proofs.DistinctRows.{distinct_put_at, distinct_at, distinct_without, distinct_file_at, good_put, good_without, good_at_path}
use Rattle.iris_rows.proofs.ViewByPath.{good_at, look_dir, look_none, look_resolved, kind_found}
use Rattle.iris_rows.proofs.FilesAmongRows.{all_filed, good_file_at, all_put, all_without, all_at, all_here, all_map}
use Rattle.iris_rows.proofs.TimesGiven.{times_put, times_at, times_file_at, times_gone}
use Rattle.iris_rows.proofs.CountedFiles.{counted_more, counted_empty, counted_written, counted_cut, counted_freed, good_freed, good_empty}

one_more : (rows : Rows) (age : ℕ) → AllFiles (IsCounted age) rows → AllFiles (IsCounted (age + 1)) rows
one_more rows age = all_map (IsCounted age) (IsCounted (age + 1)) rows (counted_more age)

room : (age : ℕ) → is_full age ≡ false → age + 1 ≤ 2 ^ 40
room age e = let h : age < 2 ^ 40 = grind (arith, nat_tests) in omega arith

-- the ids that were given
abbrev Given : ℕ → ℕ → ℕ
Given i next = cond (nat_le 2 i && nat_lt i next) 1 0

given_next : (i next n : ℕ) → 2 ≤ next → n ≤ Given i next → n + cond (i == next) 1 0 ≤ Given i (next + 1)
given_next i next n h k = grind (arith, nat_tests)

-- a new row under a path, as its checks say
made_sound : (t : Table) (names : List (List ℕ)) (file : Option File) → Steady t → kind_below (parent names) (root_row t) ≡ Some Dir → kind_below names (root_row t) ≡ None → t.age + 1 ≤ 2 ^ 40
    → IsGood file → OnFile (IsCounted (t.age + 1)) file → Steady (made file names t)
made_sound t names file s d n a g c = record {
  distinct = distinct_put_at names (record { id = t.next; file = file; inside = End }) (root_row t) d n tt s.distinct;
  good = good_at_path (parent names) (with_row (last names) _) t.visible (λ inner k. good_put (last names) _ inner g tt k) s.good;
  trash_good = s.trash_good;
  counted = all_at (IsCounted (t.age + 1)) (parent names) (with_row (last names) _) t.visible (λ inner k. all_put (IsCounted (t.age + 1)) (last names) _ inner c tt k) (one_more t.visible t.age s.counted);
  trash_counted = one_more t.trash t.age s.trash_counted;
  once = λ i. (let h = times_at i (cond (i == t.next) 1 0) (parent names) (with_row (last names) (record { id = t.next; file = file; inside = End })) t.visible (λ inner. (let k = times_put i (last names) (record { id = t.next; file = file; inside = End }) inner in omega (arith, k))) in
      let k = s.once i in let g = given_next i t.next (times_given i t.visible + times_given i t.trash) s.first k in omega (arith, h, g));
  hand = s.hand;
  first = (let h = s.first in omega (arith, h));
  next = (let h = s.next in omega (arith, h));
  age = a;
}

-- a file changed
filed_sound : (t : Table) (names : List (List ℕ)) (change : File → File) → Steady t → t.age + 1 ≤ 2 ^ 40
    → ((f : File) → IsGood (Some f) → IsGood (Some (change f))) → ((f : File) → IsCounted t.age f → IsCounted (t.age + 1) (change f)) → Steady (filed change names t)
filed_sound t names change s a g c = record {
  distinct = distinct_at (parent names) (file_at (last names) change) t.visible (λ inner d. distinct_file_at (last names) change inner d) s.distinct;
  good = good_at_path (parent names) (file_at (last names) change) t.visible (λ inner d. good_file_at (last names) change inner g d) s.good;
  trash_good = s.trash_good;
  counted = all_filed (IsCounted t.age) (IsCounted (t.age + 1)) (counted_more t.age) (parent names) (last names) change t.visible c s.counted;
  trash_counted = one_more t.trash t.age s.trash_counted;
  once = λ i. (let h = times_at i 0 (parent names) (file_at (last names) change) t.visible (λ inner. (let k = times_file_at i (last names) change inner in omega (arith, k))) in let k = s.once i in omega (arith, h, k));
  hand = s.hand;
  first = s.first;
  next = (let h = s.next in omega (arith, h));
  age = a;
}

-- what lies under a path goes into the trash
gone_sound : (t : Table) (n : List ℕ) (ns : List (List ℕ)) (row : Taken) → Steady t → met t (n ∷ ns) ≡ Here row → (i : ℕ) → times_given i (gone (n ∷ ns) t) + (cond (i == row.id) 1 0 + times_given i row.inside) ≡ times_given i t.visible
gone_sound t n ns row s e i = times_gone i n ns (root_row t) row e

removed_sound : (t : Table) (n : List ℕ) (ns : List (List ℕ)) (row : Taken) → Steady t → met t (n ∷ ns) ≡ Here row → t.age + 1 ≤ 2 ^ 40 → Steady (removed (n ∷ ns) t (Here row))
removed_sound t n ns row s e a =
    let good = good_at (n ∷ ns) (root_row t) row e tt s.good in
    let counted = all_here (IsCounted (t.age + 1)) (n ∷ ns) (root_row t) row e tt (one_more t.visible t.age s.counted) in
    record {
      distinct = distinct_at (parent (n ∷ ns)) (without_row (last (n ∷ ns))) t.visible (λ inner d. distinct_without (last (n ∷ ns)) inner d) s.distinct;
      good = good_at_path (parent (n ∷ ns)) (without_row (last (n ∷ ns))) t.visible (λ inner d. good_without (last (n ∷ ns)) inner d) s.good;
      trash_good = good_put (trash_name row.id) row t.trash good.0 good.1 s.trash_good;
      counted = all_at (IsCounted (t.age + 1)) (parent (n ∷ ns)) (without_row (last (n ∷ ns))) t.visible (λ inner d. all_without (IsCounted (t.age + 1)) (last (n ∷ ns)) inner d) (one_more t.visible t.age s.counted);
      trash_counted = all_put (IsCounted (t.age + 1)) (trash_name row.id) row t.trash counted.0 counted.1 (one_more t.trash t.age s.trash_counted);
      once = λ i. (let h = times_gone i n ns (root_row t) row e in let g = times_put i (trash_name row.id) row t.trash in let k = s.once i in omega (arith, h, g, k));
      hand = s.hand;
      first = s.first;
      next = (let h = s.next in omega (arith, h));
      age = a;
    }

-- a row moves to another path, whose directory is there and which is free, once it is gone
moved_sound : (t : Table) (n : List ℕ) (ns news : List (List ℕ)) (row : Taken) → Steady t → met t (n ∷ ns) ≡ Here row → t.age + 1 ≤ 2 ^ 40
    → kind_below (parent news) (holding (gone (n ∷ ns) t) (root_row t)) ≡ Some Dir → kind_below news (holding (gone (n ∷ ns) t) (root_row t)) ≡ None → IsDistinct row.inside → Steady (row_moved (n ∷ ns) news t (Here row))
moved_sound t n ns news row s e a d f inner =
    let good = good_at (n ∷ ns) (root_row t) row e tt s.good in
    let counted = all_here (IsCounted (t.age + 1)) (n ∷ ns) (root_row t) row e tt (one_more t.visible t.age s.counted) in
    record {
      distinct = distinct_put_at news row (holding (gone (n ∷ ns) t) (root_row t)) d f inner (distinct_at (parent (n ∷ ns)) (without_row (last (n ∷ ns))) t.visible (λ inner d. distinct_without (last (n ∷ ns)) inner d) s.distinct);
      good = good_at_path (parent news) (with_row (last news) row) (gone (n ∷ ns) t) (λ inner d. good_put (last news) row inner good.0 good.1 d)
          (good_at_path (parent (n ∷ ns)) (without_row (last (n ∷ ns))) t.visible (λ inner d. good_without (last (n ∷ ns)) inner d) s.good);
      trash_good = s.trash_good;
      counted = all_at (IsCounted (t.age + 1)) (parent news) (with_row (last news) row) (gone (n ∷ ns) t) (λ inner d. all_put (IsCounted (t.age + 1)) (last news) row inner counted.0 counted.1 d)
          (all_at (IsCounted (t.age + 1)) (parent (n ∷ ns)) (without_row (last (n ∷ ns))) t.visible (λ inner d. all_without (IsCounted (t.age + 1)) (last (n ∷ ns)) inner d) (one_more t.visible t.age s.counted));
      trash_counted = one_more t.trash t.age s.trash_counted;
      once = λ i. (let h = times_gone i n ns (root_row t) row e in
          let g = times_at i (cond (i == row.id) 1 0 + times_given i row.inside) (parent news) (with_row (last news) row) (gone (n ∷ ns) t) (λ inner. (let k = times_put i (last news) row inner in omega (arith, k))) in
          let k = s.once i in omega (arith, h, g, k));
      hand = s.hand;
      first = s.first;
      next = (let h = s.next in omega (arith, h));
      age = a;
    }

-- a new file stands in place of a row that moves into the trash
emptied_sound : (t : Table) (n : List ℕ) (ns : List (List ℕ)) (row : Taken) → Steady t → met t (n ∷ ns) ≡ Here row → t.age + 1 ≤ 2 ^ 40
    → kind_below (parent (n ∷ ns)) (holding (gone (n ∷ ns) t) (root_row t)) ≡ Some Dir → kind_below (n ∷ ns) (holding (gone (n ∷ ns) t) (root_row t)) ≡ None → Steady (emptied (n ∷ ns) t (Here row))
emptied_sound t n ns row s e a d f =
    let good = good_at (n ∷ ns) (root_row t) row e tt s.good in
    let counted = all_here (IsCounted (t.age + 1)) (n ∷ ns) (root_row t) row e tt (one_more t.visible t.age s.counted) in
    let new : Taken = record { id = t.next; file = Some empty_file; inside = End } in
    record {
      distinct = distinct_put_at (n ∷ ns) new (holding (gone (n ∷ ns) t) (root_row t)) d f tt (distinct_at (parent (n ∷ ns)) (without_row (last (n ∷ ns))) t.visible (λ inner d. distinct_without (last (n ∷ ns)) inner d) s.distinct);
      good = good_at_path (parent (n ∷ ns)) (with_row (last (n ∷ ns)) new) (gone (n ∷ ns) t) (λ inner d. good_put (last (n ∷ ns)) new inner good_empty tt d)
          (good_at_path (parent (n ∷ ns)) (without_row (last (n ∷ ns))) t.visible (λ inner d. good_without (last (n ∷ ns)) inner d) s.good);
      trash_good = good_put (trash_name row.id) row t.trash good.0 good.1 s.trash_good;
      counted = all_at (IsCounted (t.age + 1)) (parent (n ∷ ns)) (with_row (last (n ∷ ns)) new) (gone (n ∷ ns) t) (λ inner d. all_put (IsCounted (t.age + 1)) (last (n ∷ ns)) new inner (counted_empty (t.age + 1)) tt d)
          (all_at (IsCounted (t.age + 1)) (parent (n ∷ ns)) (without_row (last (n ∷ ns))) t.visible (λ inner d. all_without (IsCounted (t.age + 1)) (last (n ∷ ns)) inner d) (one_more t.visible t.age s.counted));
      trash_counted = all_put (IsCounted (t.age + 1)) (trash_name row.id) row t.trash counted.0 counted.1 (one_more t.trash t.age s.trash_counted);
      once = λ i. (let h = times_gone i n ns (root_row t) row e in let p = times_put i (trash_name row.id) row t.trash in
          let g = times_at i (cond (i == t.next) 1 0) (parent (n ∷ ns)) (with_row (last (n ∷ ns)) new) (gone (n ∷ ns) t) (λ inner. (let k = times_put i (last (n ∷ ns)) new inner in omega (arith, k))) in
          let k = s.once i in let v = given_next i t.next (times_given i t.visible + times_given i t.trash) s.first k in omega (arith, h, p, g, v));
      hand = s.hand;
      first = (let h = s.first in omega (arith, h));
      next = (let h = s.next in omega (arith, h));
      age = a;
    }

-- another trash with no more ids
retrashed_sound : (t : Table) (rows : Rows) → Steady t → AreGood rows → AllFiles (IsCounted t.age) rows → ((i : ℕ) → times_given i rows ≤ times_given i t.trash) → Steady (retrashed rows t)
retrashed_sound t rows s g c o = record {
  distinct = s.distinct;
  good = s.good;
  trash_good = g;
  counted = s.counted;
  trash_counted = c;
  once = λ i. (let h = o i in let k = s.once i in omega (arith, h, k));
  hand = s.hand;
  first = s.first;
  next = s.next;
  age = s.age;
}

reclaimed_sound : (t : Table) (rows : Rows) → Steady t → AreGood rows → AllFiles (IsCounted t.age) rows → ((i : ℕ) → times_given i rows ≤ times_given i t.trash) → Steady (reclaimed t rows)
reclaimed_sound t End s g c o = s
reclaimed_sound t (Row id name None End next) s g c o = retrashed_sound t next s g.2 c.2 (λ i. (let h = o i in omega (arith, h)))
reclaimed_sound t (Row id name None (Row i n file inside others) next) s g c o =
    retrashed_sound t (thrown (record { id = i; file = file; inside = inside }) (Row id name None others next)) s
    (good_put (trash_name i) (record { id = i; file = file; inside = inside }) (Row id name None others next) g.1.0 g.1.1 (tt, g.1.2, g.2))
    (all_put (IsCounted t.age) (trash_name i) (record { id = i; file = file; inside = inside }) (Row id name None others next) c.1.0 c.1.1 (tt, c.1.2, c.2))
    (λ j. (let h = o j in let p = times_put j (trash_name i) (record { id = i; file = file; inside = inside }) (Row id name None others next) in omega (arith, h, p)))
reclaimed_sound t (Row id name (Some file) inside next) s g c o = by (count_written file.version (blocks_of file.size) == 0) where
  by : (b : Bool) → Steady (cond b (retrashed next t) (retrashed (Row id name (Some (freed file)) inside next) t))
  by true = retrashed_sound t next s g.2 c.2 (λ i. (let h = o i in omega (arith, h)))
  by false = retrashed_sound t (Row id name (Some (freed file)) inside next) s (good_freed file g.0, g.1, g.2) (counted_freed t.age file c.0, c.1, c.2) o

distinct_here : (ns : List (List ℕ)) (from row : Taken) → resolved ns from ≡ Here row → IsDistinct from.inside → IsDistinct row.inside
distinct_here [] from row e d = let k : from ≡ row = cc in subst (λ r. IsDistinct r.inside) k d
distinct_here (n ∷ ns) from row e d = by from.file (find n from.inside) refl e (distinct_here ns) where
  by : (file : Option File) (o : Option Taken) → find n from.inside ≡ o → entered file (followed o (λ below. resolved ns below)) ≡ Here row
      → ((below row : Taken) → resolved ns below ≡ Here row → IsDistinct below.inside → IsDistinct row.inside) → IsDistinct row.inside
  by None None f e ih = absurd (cc)
  by None (Some below) f e ih = ih below row e (distinct_in n from.inside below f d)
  by (Some file) o f e ih = absurd (cc)

-- an accepted change isn't full
new_full : (top : Bool) (above here : Seen) (full : Bool) → new_name top above here full ≡ None → full ≡ false
new_full top above here false e = refl
new_full true above here true e = absurd (cc)
new_full false ADirectory here true e = by (is_there here) e where
  by : (b : Bool) → then_error (error_if b Exists) (Some Full) ≡ None → true ≡ false
  by true e = absurd (cc)
  by false e = absurd (cc)
new_full false (AFile n) here true e = absurd (cc)
new_full false Nothing here true e = absurd (cc)
new_full false AFileBefore here true e = absurd (cc)

remove_full : (top : Bool) (here : Seen) (full : Bool) → remove_checks top here full ≡ None → full ≡ false
remove_full top here false e = refl
remove_full true here true e = absurd (cc)
remove_full false ADirectory true e = absurd (cc)
remove_full false (AFile n) true e = absurd (cc)
remove_full false Nothing true e = absurd (cc)
remove_full false AFileBefore true e = absurd (cc)

last_full : (long full : Bool) → then_error (error_if long TooLong) (error_if full Full) ≡ None → full ≡ false
last_full long false e = refl
last_full true true e = absurd (cc)
last_full false true e = absurd (cc)

write_full : (here : Seen) (much long full none : Bool) → then_error (error_if much TooMuch) (then_error (unresolved here) (then_error (error_if (is_directory_seen here) IsDir) (cond none None (then_error (error_if long TooLong) (error_if full Full))))) ≡ None
    → none ≡ false → full ≡ false
write_full here true long full none e z = absurd (cc)
write_full ADirectory false long full none e z = absurd (cc)
write_full (AFile n) false long full none e z = last_full long full (rw z at e)
write_full Nothing false long full none e z = absurd (cc)
write_full AFileBefore false long full none e z = absurd (cc)

resize_full : (here : Seen) (long same much full : Bool) → then_error (unresolved here) (then_error (error_if (is_directory_seen here) IsDir) (then_error (error_if long TooLong) (cond same None (then_error (error_if much TooMuch) (error_if full Full))))) ≡ None
    → same ≡ false → full ≡ false
resize_full ADirectory long same much full e z = absurd (cc)
resize_full Nothing long same much full e z = absurd (cc)
resize_full AFileBefore long same much full e z = absurd (cc)
resize_full (AFile n) true same much full e z = absurd (cc)
resize_full (AFile n) false same much full e z = by much full (rw z at e) where
  by : (much full : Bool) → then_error (error_if much TooMuch) (error_if full Full) ≡ None → full ≡ false
  by much false e = refl
  by true true e = absurd (cc)
  by false true e = absurd (cc)

on_made : (t : Table) (o : Option (List (List ℕ))) (file : Option File) → Steady t → IsGood file → OnFile (IsCounted (t.age + 1)) file → on_names o (no_place (seen_in t) (is_full t.age)) ≡ None
    → Steady (by_names t o (λ names. made file names t))
on_made t None file s g c e = s
on_made t (Some names) file s g c e =
    let p = places (seen_in t (parent names)) (seen_in t names) (is_top names) (is_full t.age) e in
    made_sound t names file s (look_dir t (parent names) p.1) (look_none t names p.2) (room t.age (new_full (is_top names) (seen_in t (parent names)) (seen_in t names) (is_full t.age) e)) g c

on_removed : (t : Table) (o : Option (List (List ℕ))) → Steady t → on_names o (λ names. remove_checks (is_top names) (seen_in t names) (is_full t.age)) ≡ None → Steady (by_names t o (λ names. removed names t (met t names)))
on_removed t None s e = s
on_removed t (Some []) s e = absurd (cc)
on_removed t (Some (n ∷ ns)) s e = by (met t (n ∷ ns)) refl where
  by : (f : Found) → met t (n ∷ ns) ≡ f → Steady (removed (n ∷ ns) t f)
  by (Here row) h = removed_sound t n ns row s h (room t.age (remove_full false (seen_in t (n ∷ ns)) (is_full t.age) e))
  by Missing h = s
  by Through h = s

moved_any : (t : Table) (n : List ℕ) (ns news : List (List ℕ)) → Steady t → is_front (n ∷ ns) news ≡ false → no_place (seen_in t) (is_full t.age) news ≡ None → Steady (row_moved (n ∷ ns) news t (met t (n ∷ ns)))
moved_any t n ns news s ahead e = by (met t (n ∷ ns)) refl where
  by : (f : Found) → met t (n ∷ ns) ≡ f → Steady (row_moved (n ∷ ns) news t f)
  by (Here row) h =
      let p = places (seen_in t (parent news)) (seen_in t news) (is_top news) (is_full t.age) e in
      let u : is_at_or_under (n ∷ ns) (parent news) ≡ false = not_under _ (λ x. let y = front (n ∷ ns) news p.0 x in absurd (let z = sym ahead ∙ y in cc)) in
      moved_sound t n ns news row s h (room t.age (new_full (is_top news) (seen_in t (parent news)) (seen_in t news) (is_full t.age) e))
      (cleared_at (n ∷ ns) t (parent news) refl s.distinct ∙ ap (λ b. cond b None (kind_below (parent news) (root_row t))) u ∙ look_dir t (parent news) p.1)
      (cleared_at (n ∷ ns) t news refl s.distinct ∙ both_none _ _ (look_none t news p.2))
      (distinct_here (n ∷ ns) (root_row t) row h s.distinct)
  by Missing h = s
  by Through h = s

on_moved : (t : Table) (o k : Option (List (List ℕ))) → Steady t
    → on_names o (λ olds. on_names k (λ news. move_checks (is_top olds) (seen_in t olds) (is_front olds news) (no_place (seen_in t) (is_full t.age) news))) ≡ None
    → Steady (by_names t o (λ olds. by_names t k (λ news. row_moved olds news t (met t olds))))
on_moved t None k s e = s
on_moved t (Some olds) None s e = s
on_moved t (Some []) (Some news) s e = absurd (cc)
on_moved t (Some (n ∷ ns)) (Some news) s e = let p = moves (seen_in t (n ∷ ns)) false (is_front (n ∷ ns) news) _ e in moved_any t n ns news s p.2 p.3

on_written : (t : Table) (o : Option (List (List ℕ))) (offset : ℕ) (bytes : List ℕ) → Steady t → on_names o (λ names. write_checks (seen_in t names) offset (length bytes) (is_full t.age)) ≡ None
    → Steady (by_names t o (λ names. cond (length bytes == 0) t (filed (file_written offset bytes) names t)))
on_written t None offset bytes s e = s
on_written t (Some names) offset bytes s e = elim (positive (length bytes)) [
  | inl z ↦ rw z s
  | inr z ↦ rw z.0 (filed_sound t names (file_written offset bytes) s (room t.age (write_full (seen_in t names) _ _ (is_full t.age) _ e z.0)) (λ f g. good-written offset bytes f z.1 g) (λ f c. counted_written t.age offset bytes f z.1 c))
]

emptied_any : (t : Table) (n : List ℕ) (ns : List (List ℕ)) → Steady t → t.age + 1 ≤ 2 ^ 40 → Steady (emptied (n ∷ ns) t (met t (n ∷ ns)))
emptied_any t n ns s a = by (met t (n ∷ ns)) refl where
  by : (f : Found) → met t (n ∷ ns) ≡ f → Steady (emptied (n ∷ ns) t f)
  by (Here row) h =
      let there : kind_below (n ∷ ns) (root_row t) ≡ Some (kind_of row.file) = look_resolved (n ∷ ns) (root_row t) ∙ ap kind_found h in
      emptied_sound t n ns row s h a
      (cleared_at (n ∷ ns) t (parent (n ∷ ns)) refl s.distinct ∙ ap (λ b. cond b None (kind_below (parent (n ∷ ns)) (root_row t))) (not_under_parent n ns) ∙ parent_dir n ns (root_row t) (kind_of row.file) there)
      (cleared_at (n ∷ ns) t (n ∷ ns) refl s.distinct ∙ ap (λ b. cond b None (kind_below (n ∷ ns) (root_row t))) (under_self (n ∷ ns)))
  by Missing h = s
  by Through h = s

on_resized : (t : Table) (o : Option (List (List ℕ))) (size : ℕ) → Steady t → on_names o (λ names. resize_checks (seen_in t names) size (is_full t.age)) ≡ None
    → Steady (by_names t o (λ names. cond (size == size_of (seen_in t names)) t (cond (size == 0) (emptied names t (met t names)) (filed (cut size) names t))))
on_resized t None size s e = s
on_resized t (Some []) size s e = absurd (cc)
on_resized t (Some (n ∷ ns)) size s e = by (size == size_of (seen_in t (n ∷ ns))) refl where
  by : (b : Bool) → (size == size_of (seen_in t (n ∷ ns))) ≡ b → Steady (cond b t (cond (size == 0) (emptied (n ∷ ns) t (met t (n ∷ ns))) (filed (cut size) (n ∷ ns) t)))
  by true x = s
  by false x = inner (size == 0) where
    a : t.age + 1 ≤ 2 ^ 40
    a = room t.age (resize_full (seen_in t (n ∷ ns)) _ _ _ (is_full t.age) e x)

    inner : (b : Bool) → Steady (cond b (emptied (n ∷ ns) t (met t (n ∷ ns))) (filed (cut size) (n ∷ ns) t))
    inner true = emptied_any t n ns s a
    inner false = filed_sound t (n ∷ ns) (cut size) s a (λ f g. good-cut size f g) (λ f c. counted_cut t.age size f c)

changed_sound : (t : Table) (r : Request) → Steady t → table_verdict t r ≡ None → Steady (accepted_change t r)
changed_sound t (Mkdir path) s e = on_made t (names_of path) None s tt tt e
changed_sound t (Create path) s e = on_made t (names_of path) (Some empty_file) s good_empty (counted_empty (t.age + 1)) e
changed_sound t (Write path offset bytes) s e = on_written t (names_of path) offset bytes s e
changed_sound t (Read path offset count) s e = s
changed_sound t (Resize path size) s e = on_resized t (names_of path) size s e
changed_sound t (Stat path) s e = s
changed_sound t (ListNames path after) s e = s
changed_sound t (Rename from to) s e = on_moved t (names_of from) (names_of to) s e
changed_sound t (Remove path) s e = on_removed t (names_of path) s e
changed_sound t Sync s e = s
changed_sound t Root s e = s
changed_sound t Reclaim s e = reclaimed_sound t t.trash s s.trash_good s.trash_counted (λ i. (let h : times_given i t.trash ≤ times_given i t.trash = omega arith in h))
changed_sound t (Probe at) s e = s

-- the next table is so
pub steady_kept : (t : Table) (r : Request) → Steady t → Steady (stepped t r)
steady_kept t r s = by (table_verdict t r) refl where
  by : (v : Option PlainError) → table_verdict t r ≡ v → Steady (cond (is_none v) (accepted_change t r) t)
  by None e = changed_sound t r s e
  by (Some x) e = s

-- so is the table of the beginning
pub steady_empty : Steady empty_table
steady_empty = record { distinct = tt; good = tt; trash_good = tt; counted = tt; trash_counted = tt; once = λ i. omega arith; hand = refl; first = omega arith; next = omega arith; age = omega arith }
