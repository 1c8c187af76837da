-- What a step does to the files that it leaves.
use Rattle.std.proofs.Common.{◌≡◌, ◌⊎◌, inl, inr, ℕ, ◌+◌, ◌-◌, ◌%◌, ◌≤◌, ◌<◌, List, [], ◌∷◌, ◌++◌, length, take, replicate, Bool, true, false, ◌&&◌, cond, Option, Some, None, refl, sym, ◌∙◌, ap, subst, arith}
use Rattle.std.specs.Prelude.{not, nat_le, nat_lt, ◌==◌}
use Rattle.std.proofs.lemmas.Bool.Decides.{nat_tests}
use Rattle.std.specs.Str.{bytes_eq}
use Rattle.iris_plain.specs.Routes.{is_name_before, parent, last, is_top}
use Rattle.iris_plain.specs.Checks.{blocks_of}
use Rattle.iris_rows.specs.Rows.{File, Rows, End, Row, Table, Taken, root_row, find, with_row, without_row, at, file_at, on_file, Found, Here, Missing, Through, resolved, followed, entered, met, zeros, empty_file}
use Rattle.iris_rows.specs.FileChanges.{merged, is_touched, file_written, is_split, cut, count_written, freed}
use Rattle.iris_rows.specs.Changes.{made, filed, gone, thrown, removed, row_moved, emptied, retrashed, reclaimed, trash_name}
use Rattle.iris_rows.specs.Sound.{times_given}
use Rattle.iris_rows.specs.Standing.{Has, StandsInTable}
use Rattle.iris_table_laws.specs.Ages.{IsLater}

-- a file that stands stands at least once
pub has_times : (i : ℕ) (f : File) (rows : Rows) → Has i f rows → 1 ≤ times_given i rows
has_times i f End h = absurd h
has_times i f (Row id name file inside next) (inl h) = let e : (i == id) ≡ true = (let k = h.0 in grind (arith, nat_tests)) in rw e (omega arith)
has_times i f (Row id name file inside next) (inr (inl h)) = let k = has_times i f inside h in omega (arith, k)
has_times i f (Row id name file inside next) (inr (inr h)) = let k = has_times i f next h in omega (arith, k)

-- where an id stands once at most, so does its file
pub has_one : (i : ℕ) (f g : File) (rows : Rows) → times_given i rows ≤ 1 → Has i f rows → Has i g rows → f ≡ g
has_one i f g End t h k = absurd h
has_one i f g (Row id name file inside next) t (inl h) (inl k) = let e : Some f ≡ Some g = sym h.1 ∙ k.1 in cc
has_one i f g (Row id name file inside next) t (inl h) (inr (inl k)) = absurd (let e : (i == id) ≡ true = (let m = h.0 in grind (arith, nat_tests)) in let u = rw e at t in let v = has_times i g inside k in omega (arith, u, v))
has_one i f g (Row id name file inside next) t (inl h) (inr (inr k)) = absurd (let e : (i == id) ≡ true = (let m = h.0 in grind (arith, nat_tests)) in let u = rw e at t in let v = has_times i g next k in omega (arith, u, v))
has_one i f g (Row id name file inside next) t (inr (inl h)) (inl k) = absurd (let e : (i == id) ≡ true = (let m = k.0 in grind (arith, nat_tests)) in let u = rw e at t in let v = has_times i f inside h in omega (arith, u, v))
has_one i f g (Row id name file inside next) t (inr (inr h)) (inl k) = absurd (let e : (i == id) ≡ true = (let m = k.0 in grind (arith, nat_tests)) in let u = rw e at t in let v = has_times i f next h in omega (arith, u, v))
has_one i f g (Row id name file inside next) t (inr (inl h)) (inr (inl k)) = has_one i f g inside (omega (arith, t)) h k
has_one i f g (Row id name file inside next) t (inr (inr h)) (inr (inr k)) = has_one i f g next (omega (arith, t)) h k
has_one i f g (Row id name file inside next) t (inr (inl h)) (inr (inr k)) = absurd (let u = has_times i f inside h in let v = has_times i g next k in omega (arith, t, u, v))
has_one i f g (Row id name file inside next) t (inr (inr h)) (inr (inl k)) = absurd (let u = has_times i f next h in let v = has_times i g inside k in omega (arith, t, u, v))

-- in a row by itself
abbrev pub InRow : ℕ → File → Taken → Type 0
InRow i f row = ((i ≡ row.id) × (row.file ≡ Some f)) ⊎ Has i f row.inside

pub has_put : (i : ℕ) (g : File) (n : List ℕ) (new : Taken) (rows : Rows) → Has i g (with_row n new rows) → InRow i g new ⊎ Has i g rows
has_put i g n new End (inl h) = inl (inl h)
has_put i g n new End (inr (inl h)) = inl (inr h)
has_put i g n new End (inr (inr h)) = absurd h
has_put i g n new (Row id name file inside next) h = by (is_name_before n name) (has_put i g n new next) h where
  front : Has i g (Row new.id n new.file new.inside (Row id name file inside next)) → InRow i g new ⊎ Has i g (Row id name file inside next)
  front (inl h) = inl (inl h)
  front (inr (inl h)) = inl (inr h)
  front (inr (inr h)) = inr h

  later : InRow i g new ⊎ Has i g next → InRow i g new ⊎ Has i g (Row id name file inside next)
  later (inl h) = inl h
  later (inr h) = inr (inr (inr h))

  back : (Has i g (with_row n new next) → InRow i g new ⊎ Has i g next) → Has i g (Row id name file inside (with_row n new next)) → InRow i g new ⊎ Has i g (Row id name file inside next)
  back ih (inl h) = inr (inl h)
  back ih (inr (inl h)) = inr (inr (inl h))
  back ih (inr (inr h)) = later (ih h)

  by : (b : Bool) → (Has i g (with_row n new next) → InRow i g new ⊎ Has i g next) → Has i g (cond b (Row new.id n new.file new.inside (Row id name file inside next)) (Row id name file inside (with_row n new next))) → InRow i g new ⊎ Has i g (Row id name file inside next)
  by true ih h = front h
  by false ih h = back ih h

pub has_without : (i : ℕ) (g : File) (n : List ℕ) (rows : Rows) → Has i g (without_row n rows) → Has i g rows
has_without i g n End h = h
has_without i g n (Row id name file inside next) h = by (bytes_eq n name) (has_without i g n next) h where
  back : (Has i g (without_row n next) → Has i g next) → Has i g (Row id name file inside (without_row n next)) → Has i g (Row id name file inside next)
  back ih (inl h) = inl h
  back ih (inr (inl h)) = inr (inl h)
  back ih (inr (inr h)) = inr (inr (ih h))

  by : (b : Bool) → (Has i g (without_row n next) → Has i g next) → Has i g (cond b next (Row id name file inside (without_row n next))) → Has i g (Row id name file inside next)
  by true ih h = inr (inr h)
  by false ih h = back ih h

-- a change of the rows of one directory: what it has is old or comes from the change
pub has_at : (i : ℕ) (g : File) (X : Type 0) (ns : List (List ℕ)) (f : Rows → Rows) (rows : Rows) → ((inner : Rows) → ((h : File) → Has i h inner → Has i h rows) → Has i g (f inner) → X ⊎ Has i g inner) → Has i g (at ns f rows) → X ⊎ Has i g rows
has_at i g X [] f rows k h = k rows (λ f h. h) h
has_at i g X (n ∷ ns) f End k h = inr h
has_at i g X (n ∷ ns) f (Row id name file inside next) k h =
    by (bytes_eq n name) (has_at i g X ns f inside (λ inner m. k inner (λ f h. inr (inl (m f h))))) (has_at i g X (n ∷ ns) f next (λ inner m. k inner (λ f h. inr (inr (m f h))))) h where
      inner_old : X ⊎ Has i g inside → X ⊎ Has i g (Row id name file inside next)
      inner_old (inl x) = inl x
      inner_old (inr h) = inr (inr (inl h))

      next_old : X ⊎ Has i g next → X ⊎ Has i g (Row id name file inside next)
      next_old (inl x) = inl x
      next_old (inr h) = inr (inr (inr h))

      here : (Has i g (at ns f inside) → X ⊎ Has i g inside) → Has i g (Row id name file (at ns f inside) next) → X ⊎ Has i g (Row id name file inside next)
      here a (inl h) = inr (inl h)
      here a (inr (inl h)) = inner_old (a h)
      here a (inr (inr h)) = inr (inr (inr h))

      there : (Has i g (at (n ∷ ns) f next) → X ⊎ Has i g next) → Has i g (Row id name file inside (at (n ∷ ns) f next)) → X ⊎ Has i g (Row id name file inside next)
      there b (inl h) = inr (inl h)
      there b (inr (inl h)) = inr (inr (inl h))
      there b (inr (inr h)) = next_old (b h)

      by : (b : Bool) → (Has i g (at ns f inside) → X ⊎ Has i g inside) → (Has i g (at (n ∷ ns) f next) → X ⊎ Has i g next)
          → Has i g (cond b (Row id name file (at ns f inside) next) (Row id name file inside (at (n ∷ ns) f next))) → X ⊎ Has i g (Row id name file inside next)
      by true a b h = here a h
      by false a b h = there b h

-- the file is a changed one
abbrev pub Changed : ℕ → File → (File → File) → Rows → Type 0
Changed i g change rows = (f : File) × (Has i f rows × (g ≡ change f))

pub has_file_at : (i : ℕ) (g : File) (n : List ℕ) (change : File → File) (rows : Rows) → Has i g (file_at n change rows) → Changed i g change rows ⊎ Has i g rows
has_file_at i g n change End h = inr h
has_file_at i g n change (Row id name file inside next) h = by (bytes_eq n name) (has_file_at i g n change next) h where
  one : (file : Option File) → on_file change file ≡ Some g → (f : File) × ((file ≡ Some f) × (g ≡ change f))
  one None e = absurd (cc)
  one (Some f) e = (f, (refl, (let k : change f ≡ g = cc in sym k)))

  here : Has i g (Row id name (on_file change file) inside next) → Changed i g change (Row id name file inside next) ⊎ Has i g (Row id name file inside next)
  here (inl h) = let o = one file h.1 in inl (o.0, (inl (h.0, o.1.0), o.1.1))
  here (inr (inl h)) = inr (inr (inl h))
  here (inr (inr h)) = inr (inr (inr h))

  later : Changed i g change next ⊎ Has i g next → Changed i g change (Row id name file inside next) ⊎ Has i g (Row id name file inside next)
  later (inl c) = inl (c.0, (inr (inr c.1.0), c.1.1))
  later (inr h) = inr (inr (inr h))

  there : (Has i g (file_at n change next) → Changed i g change next ⊎ Has i g next) → Has i g (Row id name file inside (file_at n change next)) → Changed i g change (Row id name file inside next) ⊎ Has i g (Row id name file inside next)
  there ih (inl h) = inr (inl h)
  there ih (inr (inl h)) = inr (inr (inl h))
  there ih (inr (inr h)) = later (ih h)

  by : (b : Bool) → (Has i g (file_at n change next) → Changed i g change next ⊎ Has i g next)
      → Has i g (cond b (Row id name (on_file change file) inside next) (Row id name file inside (file_at n change next))) → Changed i g change (Row id name file inside next) ⊎ Has i g (Row id name file inside next)
  by true ih h = here h
  by false ih h = there ih h

-- what a found row has
pub has_found : (i : ℕ) (g : File) (n : List ℕ) (rows : Rows) (row : Taken) → find n rows ≡ Some row → InRow i g row → Has i g rows
has_found i g n End row e h = absurd (cc)
has_found i g n (Row id name file inside next) row e h = by (bytes_eq n name) e (λ e. inr (inr (has_found i g n next row e h))) where
  one : InRow i g (record { id = id; file = file; inside = inside }) → Has i g (Row id name file inside next)
  one (inl h) = inl h
  one (inr h) = inr (inl h)

  by : (b : Bool) → cond b (Some (record { id = id; file = file; inside = inside })) (find n next) ≡ Some row → (find n next ≡ Some row → Has i g (Row id name file inside next)) → Has i g (Row id name file inside next)
  by true e f = let k : record { id = id; file = file; inside = inside } ≡ row = cc in one (subst (InRow i g) (sym k) h)
  by false e f = f e

pub has_here : (i : ℕ) (g : File) (n : List ℕ) (ns : List (List ℕ)) (from row : Taken) → resolved (n ∷ ns) from ≡ Here row → InRow i g row → Has i g from.inside
has_here i g n [] from row e h = by from.file (find n from.inside) refl e where
  by : (file : Option File) (o : Option Taken) → find n from.inside ≡ o → entered file (followed o (λ below. Here below)) ≡ Here row → Has i g from.inside
  by None None f e = absurd (cc)
  by None (Some below) f e = let k : below ≡ row = cc in has_found i g n from.inside row (f ∙ ap Some k) h
  by (Some file) o f e = absurd (cc)
has_here i g n (m ∷ ns) from row e h = by from.file (find n from.inside) refl e (has_here i g m ns) where
  by : (file : Option File) (o : Option Taken) → find n from.inside ≡ o → entered file (followed o (λ below. resolved (m ∷ ns) below)) ≡ Here row
      → ((below row : Taken) → resolved (m ∷ ns) below ≡ Here row → InRow i g row → Has i g below.inside) → Has i g from.inside
  by None None f e ih = absurd (cc)
  by None (Some below) f e ih = has_found i g n from.inside below f (inr (ih below row e h))
  by (Some file) o f e ih = absurd (cc)

pub later_same : (f : File) → IsLater f f
later_same f = record { counter = omega arith; places = λ p. inl (refl, refl) }

pub later_written : (offset : ℕ) (bytes : List ℕ) (f : File) → IsLater f (file_written offset bytes f)
later_written offset bytes f = record { counter = omega arith; places = λ p. by p (is_touched offset (length bytes) p) } where
  by : (p : ℕ) (b : Bool) → ((cond b (f.counter + 1) (f.version p) ≡ f.version p) × (cond b (merged offset bytes p (f.block p)) (f.block p) ≡ f.block p))
      ⊎ ((cond b (f.counter + 1) (f.version p) ≡ 0) ⊎ (f.counter < cond b (f.counter + 1) (f.version p)))
  by p true = inr (inr (omega arith))
  by p false = inl (refl, refl)

pub later_cut : (size : ℕ) (f : File) → IsLater f (cut size f)
later_cut size f = record { counter = omega arith; places = λ p. by p (nat_le (blocks_of size) p) (is_split size f.size p) (f.version p == 0) refl } where
  by : (p : ℕ) (a b z : Bool) → (f.version p == 0) ≡ z
      → ((cond a 0 (cond (b && not z) (f.counter + 1) (f.version p)) ≡ f.version p) × (cond a zeros (cond b (take (size % 4096) (f.block p) ++ replicate (4096 - size % 4096) 0) (f.block p)) ≡ f.block p))
      ⊎ ((cond a 0 (cond (b && not z) (f.counter + 1) (f.version p)) ≡ 0) ⊎ (f.counter < cond a 0 (cond (b && not z) (f.counter + 1) (f.version p))))
  by p true b z e = inr (inl refl)
  by p false true true e = inr (inl (let h : f.version p ≡ 0 = grind (arith, nat_tests) in h))
  by p false true false e = inr (inr (omega arith))
  by p false false z e = inl (refl, refl)

pub later_freed : (f : File) → IsLater f (freed f)
later_freed f = record { counter = omega arith; places = λ p. by p (nat_lt (count_written f.version p) 16) } where
  by : (p : ℕ) (b : Bool) → ((cond b 0 (f.version p) ≡ f.version p) × (cond b zeros (f.block p) ≡ f.block p)) ⊎ ((cond b 0 (f.version p) ≡ 0) ⊎ (f.counter < cond b 0 (f.version p)))
  by p true = inr (inl refl)
  by p false = inl (refl, refl)

-- where a file of the next table comes from: its id is new, or it is an older file that stood
abbrev pub Origin : Table → ℕ → File → Type 0
Origin t i g = (t.next ≤ i) ⊎ ((f : File) × (StandsInTable i f t × IsLater f g))

pub stood : (t : Table) (i : ℕ) (g : File) → StandsInTable i g t → Origin t i g
stood t i g h = inr (g, (h, later_same g))

seen_before : (t : Table) (i : ℕ) (g : File) → Has i g t.visible → Origin t i g
seen_before t i g h = stood t i g (inl h)

no_more : {A : Type 0} → ⊥ ⊎ A → A
no_more (inl x) = absurd x
no_more (inr a) = a

from_gone : (t : Table) (names : List (List ℕ)) (i : ℕ) (g : File) → Has i g (gone names t) → Has i g t.visible
from_gone t names i g h = no_more (has_at i g ⊥ (parent names) (without_row (last names)) t.visible (λ inner m k. inr (has_without i g (last names) inner k)) h)

new_row : (t : Table) (i : ℕ) (g : File) (file : Option File) → InRow i g (record { id = t.next; file = file; inside = End }) → Origin t i g
new_row t i g file (inl h) = inl (let e = h.0 in omega (arith, e))
new_row t i g file (inr h) = absurd h

pub origin_made : (t : Table) (names : List (List ℕ)) (file : Option File) (i : ℕ) (g : File) → StandsInTable i g (made file names t) → Origin t i g
origin_made t names file i g (inr h) = stood t i g (inr h)
origin_made t names file i g (inl h) = by (has_at i g (InRow i g (record { id = t.next; file = file; inside = End })) (parent names) (with_row (last names) (record { id = t.next; file = file; inside = End })) t.visible (λ inner m k. has_put i g (last names) _ inner k) h) where
  by : InRow i g (record { id = t.next; file = file; inside = End }) ⊎ Has i g t.visible → Origin t i g
  by (inl x) = new_row t i g file x
  by (inr x) = seen_before t i g x

pub origin_filed : (t : Table) (names : List (List ℕ)) (change : File → File) → ((f : File) → IsLater f (change f)) → (i : ℕ) (g : File) → StandsInTable i g (filed change names t) → Origin t i g
origin_filed t names change l i g (inr h) = stood t i g (inr h)
origin_filed t names change l i g (inl h) = by (has_at i g (Changed i g change t.visible) (parent names) (file_at (last names) change) t.visible (λ inner m k. lifted inner m (has_file_at i g (last names) change inner k)) h) where
  lifted : (inner : Rows) → ((f : File) → Has i f inner → Has i f t.visible) → Changed i g change inner ⊎ Has i g inner → Changed i g change t.visible ⊎ Has i g inner
  lifted inner m (inl c) = inl (c.0, (m c.0 c.1.0, c.1.1))
  lifted inner m (inr k) = inr k

  by : Changed i g change t.visible ⊎ Has i g t.visible → Origin t i g
  by (inl c) = inr (c.0, (inl c.1.0, subst (IsLater c.0) (sym c.1.1) (l c.0)))
  by (inr k) = seen_before t i g k

-- the trash with a row from the visible rows
origin_thrown : (t : Table) (n : List ℕ) (ns : List (List ℕ)) (row : Taken) → met t (n ∷ ns) ≡ Here row → (i : ℕ) (g : File) → Has i g (thrown row t.trash) → Origin t i g
origin_thrown t n ns row e i g h = by (has_put i g (trash_name row.id) row t.trash h) where
  by : InRow i g row ⊎ Has i g t.trash → Origin t i g
  by (inl x) = seen_before t i g (has_here i g n ns (root_row t) row e x)
  by (inr x) = stood t i g (inr x)

origin_removed : (t : Table) (n : List ℕ) (ns : List (List ℕ)) (row : Taken) → met t (n ∷ ns) ≡ Here row → (i : ℕ) (g : File) → StandsInTable i g (removed (n ∷ ns) t (Here row)) → Origin t i g
origin_removed t n ns row e i g (inl h) = seen_before t i g (from_gone t (n ∷ ns) i g h)
origin_removed t n ns row e i g (inr h) = origin_thrown t n ns row e i g h

origin_moved : (t : Table) (n : List ℕ) (ns news : List (List ℕ)) (row : Taken) → met t (n ∷ ns) ≡ Here row → (i : ℕ) (g : File) → StandsInTable i g (row_moved (n ∷ ns) news t (Here row)) → Origin t i g
origin_moved t n ns news row e i g (inr h) = stood t i g (inr h)
origin_moved t n ns news row e i g (inl h) = by (has_at i g (InRow i g row) (parent news) (with_row (last news) row) (gone (n ∷ ns) t) (λ inner m k. has_put i g (last news) row inner k) h) where
  by : InRow i g row ⊎ Has i g (gone (n ∷ ns) t) → Origin t i g
  by (inl x) = seen_before t i g (has_here i g n ns (root_row t) row e x)
  by (inr x) = seen_before t i g (from_gone t (n ∷ ns) i g x)

origin_emptied : (t : Table) (n : List ℕ) (ns : List (List ℕ)) (row : Taken) → met t (n ∷ ns) ≡ Here row → (i : ℕ) (g : File) → StandsInTable i g (emptied (n ∷ ns) t (Here row)) → Origin t i g
origin_emptied t n ns row e i g (inr h) = origin_thrown t n ns row e i g h
origin_emptied t n ns row e i g (inl h) = by (has_at i g (InRow i g (record { id = t.next; file = Some empty_file; inside = End })) (parent (n ∷ ns)) (with_row (last (n ∷ ns)) (record { id = t.next; file = Some empty_file; inside = End })) (gone (n ∷ ns) t)
    (λ inner m k. has_put i g (last (n ∷ ns)) _ inner k) h) where
      by : InRow i g (record { id = t.next; file = Some empty_file; inside = End }) ⊎ Has i g (gone (n ∷ ns) t) → Origin t i g
      by (inl x) = new_row t i g (Some empty_file) x
      by (inr x) = seen_before t i g (from_gone t (n ∷ ns) i g x)

pub origin_reclaimed : (t : Table) (rows : Rows) → ((i : ℕ) (g : File) → Has i g rows → Has i g t.trash) → (i : ℕ) (g : File) → StandsInTable i g (reclaimed t rows) → Origin t i g
origin_reclaimed t End m i g h = stood t i g h
origin_reclaimed t (Row id name None End next) m i g (inl h) = seen_before t i g h
origin_reclaimed t (Row id name None End next) m i g (inr h) = stood t i g (inr (m i g (inr (inr h))))
origin_reclaimed t (Row id name None (Row j n file inside others) next) m i g (inl h) = seen_before t i g h
origin_reclaimed t (Row id name None (Row j n file inside others) next) m i g (inr h) =
    by (has_put i g (trash_name j) (record { id = j; file = file; inside = inside }) (Row id name None others next) h) where
      child : InRow i g (record { id = j; file = file; inside = inside }) → Has i g (Row id name None (Row j n file inside others) next)
      child (inl x) = inr (inl (inl x))
      child (inr x) = inr (inl (inr (inl x)))

      kept : Has i g (Row id name None others next) → Has i g (Row id name None (Row j n file inside others) next)
      kept (inl x) = inl x
      kept (inr (inl x)) = inr (inl (inr (inr x)))
      kept (inr (inr x)) = inr (inr x)

      by : InRow i g (record { id = j; file = file; inside = inside }) ⊎ Has i g (Row id name None others next) → Origin t i g
      by (inl x) = stood t i g (inr (m i g (child x)))
      by (inr x) = stood t i g (inr (m i g (kept x)))
origin_reclaimed t (Row id name (Some file) inside next) m i g h = by (count_written file.version (blocks_of file.size) == 0) h where
  fresh : Has i g (Row id name (Some (freed file)) inside next) → Origin t i g
  fresh (inl x) = let e : freed file ≡ g = (let k = x.1 in cc) in inr (file, (inr (m i file (inl (x.0, refl))), subst (IsLater file) e (later_freed file)))
  fresh (inr (inl x)) = stood t i g (inr (m i g (inr (inl x))))
  fresh (inr (inr x)) = stood t i g (inr (m i g (inr (inr x))))

  gone_now : StandsInTable i g (retrashed next t) → Origin t i g
  gone_now (inl x) = seen_before t i g x
  gone_now (inr x) = stood t i g (inr (m i g (inr (inr x))))

  less_now : StandsInTable i g (retrashed (Row id name (Some (freed file)) inside next) t) → Origin t i g
  less_now (inl x) = seen_before t i g x
  less_now (inr x) = fresh x

  by : (b : Bool) → StandsInTable i g (cond b (retrashed next t) (retrashed (Row id name (Some (freed file)) inside next) t)) → Origin t i g
  by true x = gone_now x
  by false x = less_now x

-- each change, by the names of a path
abbrev pub AllOrigins : Table → Table → Type 0
AllOrigins t u = (i : ℕ) (g : File) → StandsInTable i g u → Origin t i g

pub any_removed : (t : Table) (names : List (List ℕ)) → is_top names ≡ false → AllOrigins t (removed names t (met t names))
any_removed t [] e = absurd (cc)
any_removed t (n ∷ ns) e = by (met t (n ∷ ns)) refl where
  by : (f : Found) → met t (n ∷ ns) ≡ f → AllOrigins t (removed (n ∷ ns) t f)
  by (Here row) h = origin_removed t n ns row h
  by Missing h = stood t
  by Through h = stood t

pub any_moved : (t : Table) (olds news : List (List ℕ)) → is_top olds ≡ false → AllOrigins t (row_moved olds news t (met t olds))
any_moved t [] news e = absurd (cc)
any_moved t (n ∷ ns) news e = by (met t (n ∷ ns)) refl where
  by : (f : Found) → met t (n ∷ ns) ≡ f → AllOrigins t (row_moved (n ∷ ns) news t f)
  by (Here row) h = origin_moved t n ns news row h
  by Missing h = stood t
  by Through h = stood t

pub any_emptied : (t : Table) (names : List (List ℕ)) → is_top names ≡ false → AllOrigins t (emptied names t (met t names))
any_emptied t [] e = absurd (cc)
any_emptied t (n ∷ ns) e = by (met t (n ∷ ns)) refl where
  by : (f : Found) → met t (n ∷ ns) ≡ f → AllOrigins t (emptied (n ∷ ns) t f)
  by (Here row) h = origin_emptied t n ns row h
  by Missing h = stood t
  by Through h = stood t
