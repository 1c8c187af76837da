-- Requests of texts keep the names of a table texts.
use Rattle.std.proofs.Common.{◌≡◌, get_or, ℕ, zero, suc, ◌+◌, ◌/◌, ◌%◌, ◌<◌, List, [], ◌∷◌, ◌++◌, length, take, drop, Bool, true, false, ◌&&◌, cond, Option, Some, None, refl, sym, ◌∙◌, ap, subst, arith, append_assoc, append-nil}
use Rattle.std.specs.Prelude.{◌==◌, nat_lt, is_none, codes}
use Rattle.std.specs.List.{slice_split, onto_first, list_all}
use Rattle.std.specs.Str.{IsUtf8, bytes_eq}
use Rattle.std.proofs.lemmas.Bool.Decides.{nat_tests}
use Rattle.std.proofs.lemmas.Str.{IsUtf8-take, IsUtf8-drop, IsUtf8-nil, IsUtf8-from_ascii, IsCharBoundary-before_ascii, IsCharBoundary-after_ascii}
use Rattle.iris_name.specs.Paths.{names_of, slashed_names, is_name}
use Rattle.iris_name.specs.declared.request.Request.{Request}
use Rattle.iris_name.specs.declared.request.Request.TheVariants.{Mkdir, Create, Write, Read, Resize, Stat, List as ListNames, Rename, Remove, Sync, Root, Reclaim, Probe}
use Rattle.iris_plain.specs.Checks.{blocks_of, size_of}
use Rattle.iris_plain.specs.Routes.{is_name_before, parent, last}
use Rattle.iris_rows.specs.FileChanges.{file_written, cut, freed, count_written}
use Rattle.iris_rows.specs.Changes.{hex_digit, hex_digits, trash_name, gone, made, filed, removed, row_moved, emptied, retrashed, reclaimed, seen_in, accepted_change, table_verdict}
use Rattle.iris_plain.specs.Steps.{by_names}
use Rattle.iris_rows.specs.Rows.{File, Rows, End, Row, Table, Taken, find, with_row, without_row, at, file_at, on_file, Found, Here, Missing, Through, resolved, followed, entered, met, root_row, empty_file}
use Rattle.iris_table_laws.specs.Texts.{AreTexts, HasTexts}
use Rattle.iris_table_laws.specs.TextsStay.{IsOfTexts, TextsBegin, TextsStay}

-- the pieces of a text between slashes are texts

abbrev AllTexts : List (List ℕ) → Type 0
AllTexts [] = Unit {0}
AllTexts (n ∷ ns) = IsUtf8 n × AllTexts ns

abbrev onto : List ℕ → List (List ℕ) → List (List ℕ)
onto xs [] = xs ∷ []
onto xs (part ∷ parts) = (xs ++ part) ∷ parts

take_here : (xs ys : List ℕ) → take (length xs) (xs ++ ys) ≡ xs
take_here [] ys = refl
take_here (x ∷ xs) ys = ap (λ z. x ∷ z) (take_here xs ys)

drop_here : (xs : List ℕ) (y : ℕ) (ys : List ℕ) → drop (suc (length xs)) (xs ++ y ∷ ys) ≡ ys
drop_here [] y ys = refl
drop_here (x ∷ xs) y ys = drop_here xs y ys

get_here : (xs : List ℕ) (y : ℕ) (ys : List ℕ) → get_or (xs ++ y ∷ ys) (length xs) 0 ≡ y
get_here [] y ys = refl
get_here (x ∷ xs) y ys = get_here xs y ys

long_here : (xs : List ℕ) (y : ℕ) (ys : List ℕ) → length xs < length (xs ++ y ∷ ys)
long_here [] y ys = omega arith
long_here (x ∷ xs) y ys = let h = long_here xs y ys in omega (arith, h)

slash_small : (xs : List ℕ) (y : ℕ) (ys : List ℕ) → (y == 47) ≡ true → get_or (xs ++ y ∷ ys) (length xs) 0 < 128
slash_small xs y ys e = let h = get_here xs y ys in let k : y ≡ 47 = grind (arith, nat_tests) in omega (arith, h, k)

front_text : (xs : List ℕ) (y : ℕ) (ys : List ℕ) → (y == 47) ≡ true → IsUtf8 (xs ++ y ∷ ys) → IsUtf8 xs
front_text xs y ys e u =
    subst IsUtf8 (take_here xs (y ∷ ys)) (IsUtf8-take (xs ++ y ∷ ys) (length xs) u (IsCharBoundary-before_ascii (xs ++ y ∷ ys) (length xs) (long_here xs y ys) (slash_small xs y ys e)))

back_text : (xs : List ℕ) (y : ℕ) (ys : List ℕ) → (y == 47) ≡ true → IsUtf8 (xs ++ y ∷ ys) → IsUtf8 ys
back_text xs y ys e u =
    let k : length xs + 1 ≡ suc (length xs) = omega arith in
    subst IsUtf8 (ap (λ z. drop z (xs ++ y ∷ ys)) k ∙ drop_here xs y ys)
    (IsUtf8-drop (xs ++ y ∷ ys) (length xs + 1) u (IsCharBoundary-after_ascii (xs ++ y ∷ ys) (length xs) u (long_here xs y ys) (slash_small xs y ys e)))

onto_none : (ls : List (List ℕ)) → AllTexts (onto [] ls) → AllTexts ls
onto_none [] h = tt
onto_none (p ∷ ps) h = h

onto_more : (xs : List ℕ) (y : ℕ) (ls : List (List ℕ)) → onto (xs ++ y ∷ []) ls ≡ onto xs (onto_first y ls)
onto_more xs y [] = refl
onto_more xs y (p ∷ ps) = ap (λ z. z ∷ ps) (append_assoc xs (y ∷ []) p)

split_texts : (xs ys : List ℕ) → IsUtf8 (xs ++ ys) → AllTexts (onto xs (slice_split (λ b. b == 47) ys))
split_texts xs [] u = (u, tt)
split_texts xs (y ∷ ys) u = by (y == 47) refl (λ v. split_texts [] ys v) (λ v. split_texts (xs ++ y ∷ []) ys v) where
  by : (c : Bool) → (y == 47) ≡ c → (IsUtf8 ys → AllTexts (onto [] (slice_split (λ b. b == 47) ys))) → (IsUtf8 ((xs ++ y ∷ []) ++ ys) → AllTexts (onto (xs ++ y ∷ []) (slice_split (λ b. b == 47) ys)))
      → AllTexts (onto xs (cond c ([] ∷ slice_split (λ b. b == 47) ys) (onto_first y (slice_split (λ b. b == 47) ys))))
  by true e k l = (subst IsUtf8 (sym (append-nil xs)) (front_text xs y ys e u), onto_none (slice_split (λ b. b == 47) ys) (k (back_text xs y ys e u)))
  by false e k l = subst AllTexts (onto_more xs y (slice_split (λ b. b == 47) ys)) (l (subst IsUtf8 (sym (append_assoc xs (y ∷ []) ys)) u))

slashed_texts : (pieces names : List (List ℕ)) → AllTexts pieces → slashed_names pieces ≡ Some names → AllTexts names
slashed_texts [] names h e = absurd (cc)
slashed_texts (front ∷ []) names h e = absurd (cc)
slashed_texts (front ∷ name ∷ more) names h e = by ((length front == 0) && list_all is_name (name ∷ more)) e where
  by : (c : Bool) → cond c (Some (name ∷ more)) None ≡ Some names → AllTexts names
  by true e = let k : name ∷ more ≡ names = cc in subst AllTexts k h.1
  by false e = absurd (cc)

names_texts : (text : List ℕ) (names : List (List ℕ)) → IsUtf8 text → names_of text ≡ Some names → AllTexts names
unfolding names_of
names_texts text names u e = by (nat_lt 4096 (length text)) (bytes_eq text (codes "/")) e where
  by : (a b : Bool) → cond a None (cond b (Some []) (slashed_names (slice_split (λ b. b == 47) text))) ≡ Some names → AllTexts names
  by true b e = absurd (cc)
  by false true e = let k : [] ≡ names = cc in subst AllTexts k tt
  by false false e = slashed_texts (slice_split (λ b. b == 47) text) names (onto_none (slice_split (λ b. b == 47) text) (split_texts [] text u)) e

last_text : (names : List (List ℕ)) → AllTexts names → IsUtf8 (last names)
last_text [] h = IsUtf8-nil
last_text (n ∷ []) h = h.0
last_text (n ∷ m ∷ ns) h = last_text (m ∷ ns) h.1

-- the digits of an id are a text

abbrev AllSmall : List ℕ → Type 0
AllSmall [] = Unit {0}
AllSmall (x ∷ xs) = (x < 128) × AllSmall xs

small_ascii : (xs : List ℕ) → AllSmall xs → (i : ℕ) → get_or xs i 0 < 128
small_ascii [] h i = omega arith
small_ascii (x ∷ xs) h zero = h.0
small_ascii (x ∷ xs) h (suc i) = small_ascii xs h.1 i

small_push : (xs : List ℕ) (x : ℕ) → AllSmall xs → x < 128 → AllSmall (xs ++ x ∷ [])
small_push [] x h k = (k, tt)
small_push (y ∷ ys) x h k = (h.0, small_push ys x h.1 k)

digit_small : (n : ℕ) → hex_digit (n % 16) < 128
digit_small n = by (nat_lt (n % 16) 10) (omega arith) where
  by : (b : Bool) → n % 16 < 16 → cond b (48 + n % 16) (87 + n % 16) < 128
  by true h = omega (arith, h)
  by false h = omega (arith, h)

digits_small : (count n : ℕ) → AllSmall (hex_digits count n)
digits_small zero n = tt
digits_small (suc count) n = small_push (hex_digits count (n / 16)) (hex_digit (n % 16)) (digits_small count (n / 16)) (digit_small n)

trash_text : (id : ℕ) → IsUtf8 (trash_name id)
trash_text id = IsUtf8-from_ascii (trash_name id) (small_ascii (trash_name id) (digits_small 16 id))

-- changes of rows

put_texts : (n : List ℕ) (row : Taken) (rows : Rows) → IsUtf8 n → AreTexts row.inside → AreTexts rows → AreTexts (with_row n row rows)
put_texts n row End u i h = (u, i, tt)
put_texts n row (Row id name file inside next) u i h = by (is_name_before n name) (put_texts n row next u i h.2) where
  by : (b : Bool) → AreTexts (with_row n row next) → AreTexts (cond b (Row row.id n row.file row.inside (Row id name file inside next)) (Row id name file inside (with_row n row next)))
  by true k = (u, i, h)
  by false k = (h.0, h.1, k)

without_texts : (n : List ℕ) (rows : Rows) → AreTexts rows → AreTexts (without_row n rows)
without_texts n End h = tt
without_texts n (Row id name file inside next) h = by (bytes_eq n name) (without_texts n next h.2) where
  by : (b : Bool) → AreTexts (without_row n next) → AreTexts (cond b next (Row id name file inside (without_row n next)))
  by true k = h.2
  by false k = (h.0, h.1, k)

at_texts : (ns : List (List ℕ)) (f : Rows → Rows) (rows : Rows) → ((inner : Rows) → AreTexts inner → AreTexts (f inner)) → AreTexts rows → AreTexts (at ns f rows)
at_texts [] f rows k h = k rows h
at_texts (n ∷ ns) f End k h = tt
at_texts (n ∷ ns) f (Row id name file inside next) k h = by (bytes_eq n name) (at_texts ns f inside k h.1) (at_texts (n ∷ ns) f next k h.2) where
  by : (b : Bool) → AreTexts (at ns f inside) → AreTexts (at (n ∷ ns) f next) → AreTexts (cond b (Row id name file (at ns f inside) next) (Row id name file inside (at (n ∷ ns) f next)))
  by true x y = (h.0, x, h.2)
  by false x y = (h.0, h.1, y)

file_at_texts : (n : List ℕ) (change : File → File) (rows : Rows) → AreTexts rows → AreTexts (file_at n change rows)
file_at_texts n change End h = tt
file_at_texts n change (Row id name file inside next) h = by (bytes_eq n name) (file_at_texts n change next h.2) where
  by : (b : Bool) → AreTexts (file_at n change next) → AreTexts (cond b (Row id name (on_file change file) inside next) (Row id name file inside (file_at n change next)))
  by true k = h
  by false k = (h.0, h.1, k)

found_texts : (n : List ℕ) (rows : Rows) (row : Taken) → AreTexts rows → find n rows ≡ Some row → AreTexts row.inside
found_texts n End row h e = absurd (cc)
found_texts n (Row id name file inside next) row h e = by (bytes_eq n name) e (λ f. found_texts n next row h.2 f) where
  by : (b : Bool) → cond b (Some (record { id = id; file = file; inside = inside })) (find n next) ≡ Some row → (find n next ≡ Some row → AreTexts row.inside) → AreTexts row.inside
  by true e k = let q : inside ≡ row.inside = cc in subst AreTexts q h.1
  by false e k = k e

resolved_texts : (ns : List (List ℕ)) (from row : Taken) → AreTexts from.inside → resolved ns from ≡ Here row → AreTexts row.inside
resolved_texts [] from row h e = let k : from ≡ row = cc in subst (λ z. AreTexts z.inside) k h
resolved_texts (n ∷ ns) from row h e = by from.file (find n from.inside) refl e (λ below k f. resolved_texts ns below row k f) where
  by : (file : Option File) (o : Option Taken) → find n from.inside ≡ o → entered file (followed o (λ below. resolved ns below)) ≡ Here row
      → ((below : Taken) → AreTexts below.inside → resolved ns below ≡ Here row → AreTexts row.inside) → AreTexts row.inside
  by None None f e k = absurd (cc)
  by None (Some below) f e k = k below (found_texts n from.inside below h f) e
  by (Some file) o f e k = absurd (cc)

-- changes of the table

made_texts : (t : Table) (file : Option File) (names : List (List ℕ)) → HasTexts t → AllTexts names → HasTexts (made file names t)
made_texts t file names h a = (
  at_texts (parent names) (with_row (last names) (record { id = t.next; file = file; inside = End })) t.visible
      (λ rows k. put_texts (last names) (record { id = t.next; file = file; inside = End }) rows (last_text names a) tt k) h.0,
  h.1,
)

filed_texts : (t : Table) (change : File → File) (names : List (List ℕ)) → HasTexts t → HasTexts (filed change names t)
filed_texts t change names h = (at_texts (parent names) (file_at (last names) change) t.visible (λ rows k. file_at_texts (last names) change rows k) h.0, h.1)

gone_texts : (t : Table) (names : List (List ℕ)) → HasTexts t → AreTexts (gone names t)
gone_texts t names h = at_texts (parent names) (without_row (last names)) t.visible (λ rows k. without_texts (last names) rows k) h.0

removed_texts : (t : Table) (names : List (List ℕ)) → HasTexts t → (f : Found) → met t names ≡ f → HasTexts (removed names t f)
removed_texts t names h (Here row) e = (gone_texts t names h, put_texts (trash_name row.id) row t.trash (trash_text row.id) (resolved_texts names (root_row t) row h.0 e) h.1)
removed_texts t names h Missing e = h
removed_texts t names h Through e = h

moved_texts : (t : Table) (olds news : List (List ℕ)) → HasTexts t → AllTexts news → (f : Found) → met t olds ≡ f → HasTexts (row_moved olds news t f)
moved_texts t olds news h a (Here row) e =
    (at_texts (parent news) (with_row (last news) row) (gone olds t) (λ rows k. put_texts (last news) row rows (last_text news a) (resolved_texts olds (root_row t) row h.0 e) k) (gone_texts t olds h), h.1)
moved_texts t olds news h a Missing e = h
moved_texts t olds news h a Through e = h

emptied_texts : (t : Table) (names : List (List ℕ)) → HasTexts t → AllTexts names → (f : Found) → met t names ≡ f → HasTexts (emptied names t f)
emptied_texts t names h a (Here row) e = (
  at_texts (parent names) (with_row (last names) (record { id = t.next; file = Some empty_file; inside = End })) (gone names t)
      (λ rows k. put_texts (last names) (record { id = t.next; file = Some empty_file; inside = End }) rows (last_text names a) tt k) (gone_texts t names h),
  put_texts (trash_name row.id) row t.trash (trash_text row.id) (resolved_texts names (root_row t) row h.0 e) h.1,
)
emptied_texts t names h a Missing e = h
emptied_texts t names h a Through e = h

reclaimed_texts : (t : Table) (rows : Rows) → HasTexts t → AreTexts rows → HasTexts (reclaimed t rows)
reclaimed_texts t End h k = h
reclaimed_texts t (Row id name None End next) h k = (h.0, k.2)
reclaimed_texts t (Row id name None (Row i n file inside others) next) h k =
    (h.0, put_texts (trash_name i) (record { id = i; file = file; inside = inside }) (Row id name None others next) (trash_text i) k.1.1 (k.0, k.1.2, k.2))
reclaimed_texts t (Row id name (Some file) inside next) h k = by (count_written file.version (blocks_of file.size) == 0) where
  by : (b : Bool) → HasTexts (cond b (retrashed next t) (retrashed (Row id name (Some (freed file)) inside next) t))
  by true = (h.0, k.2)
  by false = (h.0, k)

by_texts : (t : Table) (text : List ℕ) (change : List (List ℕ) → Table) → HasTexts t → IsUtf8 text → ((names : List (List ℕ)) → AllTexts names → HasTexts (change names)) → HasTexts (by_names t (names_of text) change)
by_texts t text change h u k = by (names_of text) refl where
  by : (o : Option (List (List ℕ))) → names_of text ≡ o → HasTexts (by_names t o change)
  by None e = h
  by (Some names) e = k names (names_texts text names u e)

changed_texts : (t : Table) (r : Request) → HasTexts t → IsOfTexts r → HasTexts (accepted_change t r)
changed_texts t (Mkdir path) h u = by_texts t path (λ names. made None names t) h u (λ names a. made_texts t None names h a)
changed_texts t (Create path) h u = by_texts t path (λ names. made (Some empty_file) names t) h u (λ names a. made_texts t (Some empty_file) names h a)
changed_texts t (Write path offset bytes) h u = by_texts t path (λ names. cond (length bytes == 0) t (filed (file_written offset bytes) names t)) h u (λ names a. by names (length bytes == 0)) where
  by : (names : List (List ℕ)) (b : Bool) → HasTexts (cond b t (filed (file_written offset bytes) names t))
  by names true = h
  by names false = filed_texts t (file_written offset bytes) names h
changed_texts t (Read path offset count) h u = h
changed_texts t (Resize path size) h u =
    by_texts t path (λ names. cond (size == size_of (seen_in t names)) t (cond (size == 0) (emptied names t (met t names)) (filed (cut size) names t))) h u (λ names a. by names a (size == size_of (seen_in t names)) (size == 0)) where
      by : (names : List (List ℕ)) → AllTexts names → (b c : Bool) → HasTexts (cond b t (cond c (emptied names t (met t names)) (filed (cut size) names t)))
      by names a true c = h
      by names a false true = emptied_texts t names h a (met t names) refl
      by names a false false = filed_texts t (cut size) names h
changed_texts t (Stat path) h u = h
changed_texts t (ListNames path after) h u = h
changed_texts t (Rename from to) h u =
    by_texts t from (λ olds. by_names t (names_of to) (λ news. row_moved olds news t (met t olds))) h u.0 (λ olds a. by_texts t to (λ news. row_moved olds news t (met t olds)) h u.1 (λ news b. moved_texts t olds news h b (met t olds) refl))
changed_texts t (Remove path) h u = by_texts t path (λ names. removed names t (met t names)) h u (λ names a. removed_texts t names h (met t names) refl)
changed_texts t Sync h u = h
changed_texts t Root h u = h
changed_texts t Reclaim h u = reclaimed_texts t t.trash h h.1
changed_texts t (Probe at) h u = h

pub texts_begin : TextsBegin
texts_begin = (tt, tt)

pub texts_stay : TextsStay
texts_stay t r h u = by (is_none (table_verdict t r)) where
  by : (b : Bool) → HasTexts (cond b (accepted_change t r) t)
  by true = changed_texts t r h u
  by false = h
