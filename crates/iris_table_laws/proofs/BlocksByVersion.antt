-- A file, a place and a version above 0 stand for one block for ever.
use Rattle.std.proofs.Common.{◌≡◌, ◌⊎◌, inl, inr, ℕ, ◌+◌, ◌≤◌, ◌<◌, List, [], ◌∷◌, length, Bool, true, false, ◌&&◌, cond, Option, Some, None, refl, sym, ◌∙◌, subst, arith}
use Rattle.std.specs.Prelude.{is_none, nat_le, nat_lt, ◌==◌}
use Rattle.std.proofs.lemmas.Bool.Decides.{nat_tests}
use Rattle.iris_name.specs.declared.request.PlainError.{PlainError}
use Rattle.iris_name.specs.declared.request.Request.{Request}
use Rattle.iris_name.specs.declared.request.Request.TheVariants.{Mkdir, Create, Write, Read, Resize, Stat, List as ListNames, Rename, Remove, Sync, Root, Reclaim, Probe}
use Rattle.iris_name.specs.Paths.{names_of}
use Rattle.iris_plain.specs.Routes.{is_top, is_front}
use Rattle.iris_plain.specs.Checks.{is_full, on_names, no_place, resize_checks, move_checks, remove_checks, size_of, blocks_of}
use Rattle.iris_rows.specs.Rows.{File, Rows, End, Row, Table, Found, Here, Missing, Through, met, empty_file}
use Rattle.iris_rows.specs.FileChanges.{file_written, cut, freed, count_written}
use Rattle.iris_rows.specs.Changes.{made, filed, removed, row_moved, emptied, retrashed, reclaimed, seen_in, accepted_change, stepped, table_verdict, after_requests}
use Rattle.iris_plain.specs.Steps.{by_names}
use Rattle.iris_rows.specs.Sound.{times_given, IsSound, IsCounted, AllFiles, OnFile}
use Rattle.iris_rows.specs.Standing.{Has, StandsInTable}
use Rattle.iris_table_laws.specs.Ages.{IsLater, IsLaterPlace, Ages}
use Rattle.iris_table_laws.proofs.LaterFiles.{has_times, has_one, Origin, AllOrigins, stood, origin_made, origin_filed, origin_reclaimed, any_removed, any_moved, any_emptied, later_written, later_cut}
use Rattle.iris_rows.proofs.SoundStep.{sound_kept}

stands_times : (t : Table) (i : ℕ) (f : File) → StandsInTable i f t → 1 ≤ times_given i t.visible + times_given i t.trash
stands_times t i f (inl h) = let k = has_times i f t.visible h in omega (arith, k)
stands_times t i f (inr h) = let k = has_times i f t.trash h in omega (arith, k)

given_once : (i next n : ℕ) → n ≤ cond (nat_le 2 i && nat_lt i next) 1 0 → n ≤ 1
given_once i next n h = by (nat_le 2 i && nat_lt i next) h where
  by : (b : Bool) → n ≤ cond b 1 0 → n ≤ 1
  by true h = h
  by false h = omega arith

given_low : (i next n : ℕ) → 1 ≤ n → n ≤ cond (nat_le 2 i && nat_lt i next) 1 0 → i < next
given_low i next n l h = grind (arith, nat_tests)

-- an id that stands was given
pub stands_low : (t : Table) (i : ℕ) (f : File) → IsSound t → StandsInTable i f t → i < t.next
stands_low t i f s h = given_low i t.next (times_given i t.visible + times_given i t.trash) (stands_times t i f h) (s.once i)

-- an id has one file
pub stands_one : (t : Table) (i : ℕ) (f g : File) → IsSound t → StandsInTable i f t → StandsInTable i g t → f ≡ g
stands_one t i f g s (inl h) (inl k) = has_one i f g t.visible (let o = given_once i t.next (times_given i t.visible + times_given i t.trash) (s.once i) in omega (arith, o)) h k
stands_one t i f g s (inr h) (inr k) = has_one i f g t.trash (let o = given_once i t.next (times_given i t.visible + times_given i t.trash) (s.once i) in omega (arith, o)) h k
stands_one t i f g s (inl h) (inr k) = absurd (let o = given_once i t.next (times_given i t.visible + times_given i t.trash) (s.once i) in let a = has_times i f t.visible h in let b = has_times i g t.trash k in omega (arith, o, a, b))
stands_one t i f g s (inr h) (inl k) = absurd (let o = given_once i t.next (times_given i t.visible + times_given i t.trash) (s.once i) in let a = has_times i f t.trash h in let b = has_times i g t.visible k in omega (arith, o, a, b))

-- a table ages where its files come from the one before
ages : (t u : Table) → IsSound t → t.next ≤ u.next → AllOrigins t u → Ages t u
ages t u s n o = record {
  next = n;
  files = λ i f g h k. by i f g h (o i g k);
  fresh = λ i g k. new i g (o i g k);
} where
  by : (i : ℕ) (f g : File) → StandsInTable i f t → Origin t i g → IsLater f g
  by i f g h (inl le) = absurd (let l = stands_low t i f s h in omega (arith, le, l))
  by i f g h (inr x) = let e : x.0 ≡ f = stands_one t i x.0 f s x.1.0 h in subst (λ z. IsLater z g) e x.1.1

  new : (i : ℕ) (g : File) → Origin t i g → (t.next ≤ i) ⊎ ((f : File) × StandsInTable i f t)
  new i g (inl le) = inl le
  new i g (inr x) = inr (x.0, x.1.0)

same_table : (t : Table) → (t.next ≤ t.next) × AllOrigins t t
same_table t = (omega arith, stood t)

grows_made : (t : Table) (o : Option (List (List ℕ))) (file : Option File) → let u = by_names t o (λ names. made file names t) in (t.next ≤ u.next) × AllOrigins t u
grows_made t None file = same_table t
grows_made t (Some names) file = (omega arith, origin_made t names file)

next_removed : (t : Table) (names : List (List ℕ)) (f : Found) → t.next ≤ (removed names t f).next
next_removed t names (Here row) = omega arith
next_removed t names Missing = omega arith
next_removed t names Through = omega arith

next_moved : (t : Table) (olds news : List (List ℕ)) (f : Found) → t.next ≤ (row_moved olds news t f).next
next_moved t olds news (Here row) = omega arith
next_moved t olds news Missing = omega arith
next_moved t olds news Through = omega arith

next_emptied : (t : Table) (names : List (List ℕ)) (f : Found) → t.next ≤ (emptied names t f).next
next_emptied t names (Here row) = omega arith
next_emptied t names Missing = omega arith
next_emptied t names Through = omega arith

next_reclaimed : (t : Table) (rows : Rows) → t.next ≤ (reclaimed t rows).next
next_reclaimed t End = omega arith
next_reclaimed t (Row id name None End next) = omega arith
next_reclaimed t (Row id name None (Row j n file inside others) next) = omega arith
next_reclaimed t (Row id name (Some file) inside next) = by (count_written file.version (blocks_of file.size) == 0) where
  by : (b : Bool) → t.next ≤ (cond b (retrashed next t) (retrashed (Row id name (Some (freed file)) inside next) t)).next
  by true = omega arith
  by false = omega arith

grows_removed : (t : Table) (o : Option (List (List ℕ))) → on_names o (λ names. remove_checks (is_top names) (seen_in t names) (is_full t.age)) ≡ None
    → let u = by_names t o (λ names. removed names t (met t names)) in (t.next ≤ u.next) × AllOrigins t u
grows_removed t None e = same_table t
grows_removed t (Some []) e = absurd (cc)
grows_removed t (Some (n ∷ ns)) e = (next_removed t (n ∷ ns) (met t (n ∷ ns)), any_removed t (n ∷ ns) refl)

grows_moved : (t : Table) (o k : Option (List (List ℕ)))
    → on_names o (λ olds. on_names k (λ news. move_checks (is_top olds) (seen_in t olds) (is_front olds news) (no_place (seen_in t) (is_full t.age) news))) ≡ None
    → let u = by_names t o (λ olds. by_names t k (λ news. row_moved olds news t (met t olds))) in (t.next ≤ u.next) × AllOrigins t u
grows_moved t None k e = same_table t
grows_moved t (Some olds) None e = same_table t
grows_moved t (Some []) (Some news) e = absurd (cc)
grows_moved t (Some (n ∷ ns)) (Some news) e = (next_moved t (n ∷ ns) news (met t (n ∷ ns)), any_moved t (n ∷ ns) news refl)

grows_written : (t : Table) (o : Option (List (List ℕ))) (offset : ℕ) (bytes : List ℕ) → let u = by_names t o (λ names. cond (length bytes == 0) t (filed (file_written offset bytes) names t)) in (t.next ≤ u.next) × AllOrigins t u
grows_written t None offset bytes = same_table t
grows_written t (Some names) offset bytes = by (length bytes == 0) where
  by : (b : Bool) → (t.next ≤ (cond b t (filed (file_written offset bytes) names t)).next) × AllOrigins t (cond b t (filed (file_written offset bytes) names t))
  by true = same_table t
  by false = (omega arith, origin_filed t names (file_written offset bytes) (later_written offset bytes))

grows_resized : (t : Table) (o : Option (List (List ℕ))) (size : ℕ) → on_names o (λ names. resize_checks (seen_in t names) size (is_full t.age)) ≡ None
    → let u = by_names t o (λ names. cond (size == size_of (seen_in t names)) t (cond (size == 0) (emptied names t (met t names)) (filed (cut size) names t))) in (t.next ≤ u.next) × AllOrigins t u
grows_resized t None size e = same_table t
grows_resized t (Some []) size e = absurd (cc)
grows_resized t (Some (n ∷ ns)) size e = by (size == size_of (seen_in t (n ∷ ns))) (size == 0) where
  by : (a b : Bool) → (t.next ≤ (cond a t (cond b (emptied (n ∷ ns) t (met t (n ∷ ns))) (filed (cut size) (n ∷ ns) t))).next) × AllOrigins t (cond a t (cond b (emptied (n ∷ ns) t (met t (n ∷ ns))) (filed (cut size) (n ∷ ns) t)))
  by true b = same_table t
  by false true = (next_emptied t (n ∷ ns) (met t (n ∷ ns)), any_emptied t (n ∷ ns) refl)
  by false false = (omega arith, origin_filed t (n ∷ ns) (cut size) (later_cut size))

grows : (t : Table) (r : Request) → table_verdict t r ≡ None → (t.next ≤ (accepted_change t r).next) × AllOrigins t (accepted_change t r)
grows t (Mkdir path) e = grows_made t (names_of path) None
grows t (Create path) e = grows_made t (names_of path) (Some empty_file)
grows t (Write path offset bytes) e = grows_written t (names_of path) offset bytes
grows t (Read path offset count) e = same_table t
grows t (Resize path size) e = grows_resized t (names_of path) size e
grows t (Stat path) e = same_table t
grows t (ListNames path after_requests) e = same_table t
grows t (Rename from to) e = grows_moved t (names_of from) (names_of to) e
grows t (Remove path) e = grows_removed t (names_of path) e
grows t Sync e = same_table t
grows t Root e = same_table t
grows t Reclaim e = (next_reclaimed t t.trash, origin_reclaimed t t.trash (λ i g h. h))
grows t (Probe at) e = same_table t

step_ages : (t : Table) (r : Request) → IsSound t → Ages t (stepped t r)
step_ages t r s = by (table_verdict t r) refl where
  by : (v : Option PlainError) → table_verdict t r ≡ v → Ages t (cond (is_none v) (accepted_change t r) t)
  by None e = let g = grows t r e in ages t (accepted_change t r) s g.0 g.1
  by (Some x) e = ages t t s (omega arith) (stood t)

later_trans : (f g h : File) → IsLater f g → IsLater g h → IsLater f h
later_trans f g h a b = record {
  counter = (let x = a.counter in let y = b.counter in omega (arith, x, y));
  places = λ p. by p (a.places p) (b.places p);
} where
  by : (p : ℕ) → IsLaterPlace f g p → IsLaterPlace g h p → IsLaterPlace f h p
  by p x (inr (inl z)) = inr (inl z)
  by p x (inr (inr z)) = inr (inr (let y = a.counter in omega (arith, y, z)))
  by p (inl x) (inl z) = inl (z.0 ∙ x.0, z.1 ∙ x.1)
  by p (inr (inl x)) (inl z) = inr (inl (z.0 ∙ x))
  by p (inr (inr x)) (inl z) = inr (inr (let y = z.0 in omega (arith, x, y)))

ages_trans : (t u v : Table) → IsSound t → Ages t u → Ages u v → Ages t v
ages_trans t u v s a b = record {
  next = (let x = a.next in let y = b.next in omega (arith, x, y));
  files = λ i f h j k. by i f h j k (b.fresh i h k);
  fresh = λ i h k. new i (b.fresh i h k);
} where
  by : (i : ℕ) (f h : File) → StandsInTable i f t → StandsInTable i h v → (u.next ≤ i) ⊎ ((g : File) × StandsInTable i g u) → IsLater f h
  by i f h j k (inl le) = absurd (let l = stands_low t i f s j in let n = a.next in omega (arith, le, l, n))
  by i f h j k (inr x) = later_trans f x.0 h (a.files i f x.0 j x.1) (b.files i x.0 h x.1 k)

  new : (i : ℕ) → (u.next ≤ i) ⊎ ((g : File) × StandsInTable i g u) → (t.next ≤ i) ⊎ ((f : File) × StandsInTable i f t)
  new i (inl le) = inl (let n = a.next in omega (arith, le, n))
  new i (inr x) = a.fresh i x.0 x.1

pub requests_age : (t : Table) (requests : List Request) → IsSound t → Ages t (after_requests t requests)
requests_age t [] s = ages t t s (omega arith) (stood t)
requests_age t (r ∷ rs) s = ages_trans t (stepped t r) (after_requests (stepped t r) rs) s (step_ages t r s) (requests_age (stepped t r) rs (sound_kept t r s))

-- a file that stands is counted
counted_one : (age i : ℕ) (f : File) (rows : Rows) → AllFiles (IsCounted age) rows → Has i f rows → IsCounted age f
counted_one age i f End c h = absurd h
counted_one age i f (Row id name file inside next) c (inl h) = let P : Option File → Type 0 = OnFile (IsCounted age) in subst P h.1 c.0
counted_one age i f (Row id name file inside next) c (inr (inl h)) = counted_one age i f inside c.1 h
counted_one age i f (Row id name file inside next) c (inr (inr h)) = counted_one age i f next c.2 h

counted_stands : (t : Table) (i : ℕ) (f : File) → IsSound t → StandsInTable i f t → IsCounted t.age f
counted_stands t i f s (inl h) = counted_one t.age i f t.visible s.counted h
counted_stands t i f s (inr h) = counted_one t.age i f t.trash s.trash_counted h

pub one_block : (t : Table) (requests : List Request) (i : ℕ) (f g : File) (p : ℕ) → IsSound t → StandsInTable i f t → StandsInTable i g (after_requests t requests)
    → f.version p ≡ g.version p → 0 < g.version p → f.block p ≡ g.block p
one_block t requests i f g p s h k e l = by ((requests_age t requests s).files i f g h k).places where
  by : ((p : ℕ) → IsLaterPlace f g p) → f.block p ≡ g.block p
  by places = elim (places p) [
    | inl x ↦ sym x.1
    | inr (inl z) ↦ absurd (omega (arith, z, l))
    | inr (inr z) ↦ absurd (let c = (counted_stands t i f s h).version p in omega (arith, z, c, e))
  ]
