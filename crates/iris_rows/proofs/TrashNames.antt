-- The step keeps the names of the trash rising, each that of its id.
use Rattle.std.proofs.Common.{◌≡◌, inl, inr, ℕ, zero, suc, ◌+◌, ◌*◌, ◌/◌, ◌%◌, ◌≤◌, ◌<◌, ◌^◌, List, [], ◌∷◌, length, Bool, true, false, ◌&&◌, cond, Option, Some, None, refl, ◌∙◌, subst, arith}
use Rattle.std.specs.Prelude.{is_none, nat_le, nat_lt, ◌==◌}
use Rattle.std.specs.Str.{bytes_eq}
use Rattle.std.proofs.Math.Nat.{pow-suc}
use Rattle.std.proofs.lemmas.Bool.Decides.{nat_tests}
use Rattle.std.proofs.lemmas.List.{same_from_push}
use Rattle.iris_name.specs.declared.request.PlainError.{PlainError}
use Rattle.iris_name.specs.declared.request.Request.{Request}
use Rattle.iris_name.specs.declared.request.Request.TheVariants.{Mkdir, Create, Write, Read, Resize, Stat, List as ListNames, Rename, Remove, Sync, Root, Reclaim, Probe}
use Rattle.iris_name.specs.Paths.{names_of}
use Rattle.iris_plain.specs.Routes.{is_name_before}
use Rattle.iris_plain.specs.Checks.{size_of, blocks_of}
use Rattle.iris_rows.specs.Rows.{Rows, End, Row, Table, Taken, root_row, find, with_row, Found, Here, Missing, Through, met}
use Rattle.iris_rows.specs.Changes.{hex_digit, hex_digits, trash_name, thrown, filed, removed, row_moved, emptied, retrashed, reclaimed, seen_in, accepted_change, stepped, table_verdict}
use Rattle.iris_plain.specs.Steps.{by_names}
use Rattle.iris_rows.specs.FileChanges.{file_written, cut, freed, count_written}
use Rattle.iris_rows.specs.Sound.{times_given, IsOrdered, IsTrash}
use Rattle.iris_rows.proofs.RowsByName.{same_tells, past}
use Rattle.iris_rows.proofs.TimesGiven.{times_gone}
use Rattle.iris_rows.proofs.OrderedStep.{ordered_here}
use Rattle.iris_rows.proofs.RisingNames.{above_put, before_other}
use Rattle.iris_rows.proofs.Steady.{Steady}

-- distinct ids have distinct digits

digit_same : (a b : ℕ) → a < 16 → b < 16 → hex_digit a ≡ hex_digit b → a ≡ b
digit_same a b h k e = grind (arith, nat_tests)

less : (c m : ℕ) → m < 16 ^ suc c → m / 16 < 16 ^ c
less c m h = let e : 16 ^ suc c ≡ 16 ^ c * 16 = pow-suc 16 c in omega (arith, h, e)

digits_same : (count m n : ℕ) → m < 16 ^ count → n < 16 ^ count → hex_digits count m ≡ hex_digits count n → m ≡ n
digits_same zero m n h k e = omega arith
digits_same (suc c) m n h k e =
    let s = same_from_push (hex_digits c (m / 16)) (hex_digits c (n / 16)) (hex_digit (m % 16)) (hex_digit (n % 16)) e in
    let p = digits_same c (m / 16) (n / 16) (less c m h) (less c n k) s.0 in
    let d = digit_same (m % 16) (n % 16) (omega arith) (omega arith) s.1 in
    omega (arith, p, d)

trash_same : (i j : ℕ) → i < 2 ^ 64 → j < 2 ^ 64 → trash_name i ≡ trash_name j → i ≡ j
trash_same i j h k e = digits_same 16 i j h k e

-- the name of an id that doesn't stand in the trash is free there
free_in : (i : ℕ) (rows : Rows) → i < 2 ^ 64 → ((j : ℕ) → 1 ≤ times_given j rows → j < 2 ^ 64) → times_given i rows ≡ 0 → IsTrash rows → find (trash_name i) rows ≡ None
free_in i End h k z d = refl
free_in i (Row id name file inside next) h k z d =
    by (bytes_eq (trash_name i) name) refl (free_in i next h (λ j o. k j (omega (arith, o))) (omega (arith, z)) d.3) where
      self : 1 ≤ times_given id (Row id name file inside next)
      self = grind (arith, nat_tests)

      other : trash_name i ≡ name → ⊥
      other e = let s : i ≡ id = trash_same i id h (k id self) (e ∙ d.0) in grind (arith, nat_tests)

      by : (b : Bool) → bytes_eq (trash_name i) name ≡ b → find (trash_name i) next ≡ None → cond b (Some (record { id = id; file = file; inside = inside })) (find (trash_name i) next) ≡ None
      by true e r = elim (same_tells (trash_name i) name) [ inl s ↦ absurd (other s.1) | inr s ↦ absurd (let x = s.0 in cc) ]
      by false e r = r

trash_put : (row : Taken) (rows : Rows) → find (trash_name row.id) rows ≡ None → IsOrdered row.inside → IsTrash rows → IsTrash (with_row (trash_name row.id) row rows)
trash_put row End f h d = (refl, tt, h, tt)
trash_put row (Row id name file inside next) f h d = let p = past (bytes_eq (trash_name row.id) name) _ _ f in by (is_name_before (trash_name row.id) name) refl p.0 (trash_put row next p.1 h d.3) where
  by : (b : Bool) → is_name_before (trash_name row.id) name ≡ b → bytes_eq (trash_name row.id) name ≡ false → IsTrash (with_row (trash_name row.id) row next)
      → IsTrash (cond b (Row row.id (trash_name row.id) row.file row.inside (Row id name file inside next)) (Row id name file inside (with_row (trash_name row.id) row next)))
  by true e x k = (refl, e, h, d)
  by false e x k = (d.0, above_put name (trash_name row.id) row next (before_other (trash_name row.id) name e x) d.1, d.2, k)

given_low : (i next n : ℕ) → 1 ≤ n → n ≤ cond (nat_le 2 i && nat_lt i next) 1 0 → i < next
given_low i next n l h = grind (arith, nat_tests)

given_once : (i next n : ℕ) → n ≤ cond (nat_le 2 i && nat_lt i next) 1 0 → n ≤ 1
given_once i next n h = by (nat_le 2 i && nat_lt i next) h where
  by : (b : Bool) → n ≤ cond b 1 0 → n ≤ 1
  by true h = h
  by false h = omega arith

-- an id that stands has 64 bits
low : (t : Table) (i : ℕ) → Steady t → 1 ≤ times_given i t.visible + times_given i t.trash → i < 2 ^ 64
low t i s h = let k : i < t.next = given_low i t.next _ h (s.once i) in let n = s.next in let a = s.age in omega (arith, k, n, a)

thrown_free : (t : Table) (row : Taken) → Steady t → row.id < 2 ^ 64 → times_given row.id t.trash ≡ 0 → IsOrdered row.inside → IsTrash t.trash → IsTrash (thrown row t.trash)
thrown_free t row s h z o d = trash_put row t.trash (free_in row.id t.trash h (λ j k. low t j s (omega (arith, k))) z d) o d

-- a row that stands at a path goes into the trash
thrown_here : (t : Table) (names : List (List ℕ)) (row : Taken) → met t names ≡ Here row → Steady t → IsOrdered t.visible → IsTrash t.trash → IsTrash (thrown row t.trash)
thrown_here t [] row e s v d =
    let k : root_row t ≡ row = cc in
    let z : times_given 0 t.trash ≡ 0 = (let h = s.once 0 in omega (arith, h)) in
    subst (λ r. IsTrash (thrown r t.trash)) k (thrown_free t (root_row t) s (omega arith) z v d)
thrown_here t (n ∷ ns) row e s v d =
    let g = times_gone row.id n ns (root_row t) row e in
    let once : times_given row.id t.visible + times_given row.id t.trash ≤ 1 = given_once row.id t.next _ (s.once row.id) in
    let self : 1 ≤ cond (row.id == row.id) 1 0 = grind (arith, nat_tests) in
    let there : 1 ≤ times_given row.id t.visible = omega (arith, g, self) in
    let z : times_given row.id t.trash ≡ 0 = omega (arith, there, once) in
    thrown_free t row s (low t row.id s (omega (arith, there))) z (ordered_here (n ∷ ns) (root_row t) row e v) d

-- one step of reclaiming
trash_reclaimed : (t : Table) (rows : Rows) → ((i : ℕ) → times_given i rows ≤ 1) → ((j : ℕ) → 1 ≤ times_given j rows → j < 2 ^ 64) → IsTrash t.trash → IsTrash rows → IsTrash (reclaimed t rows).trash
trash_reclaimed t End o l s d = s
trash_reclaimed t (Row id name None End next) o l s d = d.3
trash_reclaimed t (Row id name None (Row i n file inside others) next) o l s d =
    trash_put (record { id = i; file = file; inside = inside }) (Row id name None others next)
    (free_in i (Row id name None others next) (l i once.0) (λ j k. l j (omega (arith, k))) once.1 (d.0, d.1, d.2.3, d.3)) d.2.2 (d.0, d.1, d.2.3, d.3) where
      once : (1 ≤ times_given i (Row id name None (Row i n file inside others) next)) × (times_given i (Row id name None others next) ≡ 0)
      once = let self : 1 ≤ cond (i == i) 1 0 = grind (arith, nat_tests) in let h = o i in (omega (arith, self), omega (arith, self, h))
trash_reclaimed t (Row id name (Some file) inside next) o l s d = by (count_written file.version (blocks_of file.size) == 0) where
  by : (b : Bool) → IsTrash (cond b (retrashed next t) (retrashed (Row id name (Some (freed file)) inside next) t)).trash
  by true = d.3
  by false = d

-- most changes leave the trash, or put a row that was met into it
on_names_kept : (t : Table) (o : Option (List (List ℕ))) (change : List (List ℕ) → Table) → ((names : List (List ℕ)) → IsTrash (change names).trash) → IsTrash t.trash → IsTrash (by_names t o change).trash
on_names_kept t None change k d = d
on_names_kept t (Some names) change k d = k names

trash_moved : (t : Table) (olds news : List (List ℕ)) (f : Found) → IsTrash t.trash → IsTrash (row_moved olds news t f).trash
trash_moved t olds news (Here row) d = d
trash_moved t olds news Missing d = d
trash_moved t olds news Through d = d

trash_removed : (t : Table) (names : List (List ℕ)) (f : Found) → met t names ≡ f → Steady t → IsOrdered t.visible → IsTrash t.trash → IsTrash (removed names t f).trash
trash_removed t names (Here row) e s v d = thrown_here t names row e s v d
trash_removed t names Missing e s v d = d
trash_removed t names Through e s v d = d

trash_emptied : (t : Table) (names : List (List ℕ)) (f : Found) → met t names ≡ f → Steady t → IsOrdered t.visible → IsTrash t.trash → IsTrash (emptied names t f).trash
trash_emptied t names (Here row) e s v d = thrown_here t names row e s v d
trash_emptied t names Missing e s v d = d
trash_emptied t names Through e s v d = d

trash_if : (b : Bool) (t u : Table) → IsTrash t.trash → IsTrash u.trash → IsTrash (cond b t u).trash
trash_if true t u h k = h
trash_if false t u h k = k

changed_trash : (t : Table) (r : Request) → Steady t → IsOrdered t.visible → IsTrash t.trash → IsTrash (accepted_change t r).trash
changed_trash t (Mkdir path) s v d = on_names_kept t (names_of path) _ (λ names. d) d
changed_trash t (Create path) s v d = on_names_kept t (names_of path) _ (λ names. d) d
changed_trash t (Write path offset bytes) s v d = on_names_kept t (names_of path) _ (λ names. trash_if (length bytes == 0) t (filed (file_written offset bytes) names t) d d) d
changed_trash t (Read path offset count) s v d = d
changed_trash t (Resize path size) s v d = on_names_kept t (names_of path) _ (λ names.
    trash_if (size == size_of (seen_in t names)) t _ d (trash_if (size == 0) (emptied names t (met t names)) (filed (cut size) names t) (trash_emptied t names (met t names) refl s v d) d)) d
changed_trash t (Stat path) s v d = d
changed_trash t (ListNames path after) s v d = d
changed_trash t (Rename from to) s v d = on_names_kept t (names_of from) _ (λ olds. on_names_kept t (names_of to) _ (λ news. trash_moved t olds news (met t olds) d) d) d
changed_trash t (Remove path) s v d = on_names_kept t (names_of path) _ (λ names. trash_removed t names (met t names) refl s v d) d
changed_trash t Sync s v d = d
changed_trash t Root s v d = d
changed_trash t Reclaim s v d = trash_reclaimed t t.trash (λ i. (let h = given_once i t.next _ (s.once i) in omega (arith, h))) (λ j k. low t j s (omega (arith, k))) d d
changed_trash t (Probe at) s v d = d

-- the names of the next trash rise
pub trash_kept : (t : Table) (r : Request) → Steady t → IsOrdered t.visible → IsTrash t.trash → IsTrash (stepped t r).trash
trash_kept t r s v d = by (table_verdict t r) where
  by : (o : Option PlainError) → IsTrash (cond (is_none o) (accepted_change t r) t).trash
  by None = changed_trash t r s v d
  by (Some x) = d
