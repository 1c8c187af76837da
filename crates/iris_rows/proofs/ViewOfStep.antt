-- The view of the table's step is the plain step of its view.
use Rattle.std.proofs.Common.{◌≡◌, ◌⊎◌, inl, inr, ℕ, ◌+◌, List, [], ◌∷◌, ◌++◌, Bool, true, false, ◌&&◌, cond, Option, Some, None, refl, sym, ◌∙◌, ap, subst, arith}
use Rattle.std.proofs.lemmas.Bool.Decides.{nat_tests}
use Rattle.iris_plain.specs.Checks.{blocks_of, on_names, then_error, error_if, is_there, is_file, is_directory_seen, size_of, unresolved, no_place, verdict, is_full}
use Rattle.iris_rows.specs.FileChanges.{file_written, cut, freed, count_written}
use Rattle.iris_rows.specs.Changes.{made, filed, emptied, removed, row_moved, accepted_change, seen_file, seen_row, seen_in, retrashed, reclaimed, stepped}
use Rattle.iris_plain.specs.Steps.{aged, by_names, plain_change, plain_step}
use Rattle.iris_rows.specs.Rows.{File, Rows, End, Row, Table, Taken, with_row, without_row, at, Found, Here, Missing, Through, empty_file, root_row, met}
use Rattle.std.specs.Str.{bytes_eq as same}
use Rattle.iris_plain.specs.Routes.{parent, last, is_front, is_at_or_under, rest, is_path, is_top}
use Rattle.iris_name.specs.Paths.{names_of}
use Rattle.iris_plain.specs.declared.files.Kind.TheVariants.{Dir, Bytes}
use Rattle.iris_plain.specs.Files.{set, cleared, shifted, bytes_changed, wrote, resized_bytes, on_kind, PlainState as Plain, seen_at}
use Rattle.iris_rows.specs.View.{kind_below, kind_of, content, view}
use Rattle.iris_rows.specs.Sound.{IsDistinct, AreGood}
use Rattle.iris_rows.proofs.RowHolding.{holding}
use Rattle.iris_plain.specs.declared.checks.Seen.{Seen}
use Rattle.iris_plain.specs.declared.checks.Seen.TheVariants.{ADirectory as ADir, AFile, Nothing, AFileBefore}
use Rattle.iris_rows.proofs.ViewOfEmptied.{emptied_at}
use Rattle.iris_rows.proofs.ResizedContent.{content-cut}
use Rattle.iris_rows.proofs.ViewOfFiled.{filed_at}
use Rattle.iris_rows.proofs.WrittenContent.{content-written}
use Rattle.std.specs.Prelude.{is_none, nat_lt, length, ◌==◌, ◌<◌}
use Rattle.iris_name.specs.declared.request.PlainError.{PlainError}
use Rattle.iris_name.specs.declared.request.PlainError.TheVariants.{Exists, NotDir, IsDir, BadPath, TooLong, TooMuch, IntoSelf, Full}
use Rattle.iris_name.specs.declared.request.Request.{Request}
use Rattle.iris_name.specs.declared.request.Request.TheVariants.{Mkdir, Create, Write, Read, Resize, Stat, List as ListNames, Rename, Remove, Sync, Root, Reclaim, Probe}
use Rattle.iris_rows.proofs.KindsByPath.{put_at, without_at, look_below}
use Rattle.iris_rows.proofs.ViewByPath.{met_same, look_dir, look_none, nothing_below, makes, look_resolved, kind_found}

choose : (o : Option PlainError) (a t : Table) (p : Plain) → (o ≡ None → view a ≡ p) → view (cond (is_none o) a t) ≡ cond (is_none o) p (view t)
choose None a t p h = h refl
choose (Some e) a t p h = refl

-- what a new name's checks leave
pub places : (s m : Seen) (top full : Bool)
    → then_error (error_if top Exists) (then_error (unresolved s) (then_error (error_if (is_file s) NotDir) (then_error (error_if (is_there m) Exists) (error_if full Full)))) ≡ None
    → (top ≡ false) × (s ≡ ADir) × (is_there m ≡ false)
places s m true full e = absurd (cc)
places ADir m false full e = by (is_there m) e where
  by : (b : Bool) → then_error (error_if b Exists) (error_if full Full) ≡ None → (false ≡ false) × (ADir ≡ ADir) × (b ≡ false)
  by true e = absurd (cc)
  by false e = (refl, refl, refl)
places (AFile n) m false full e = absurd (cc)
places Nothing m false full e = absurd (cc)
places AFileBefore m false full e = absurd (cc)

-- a new file or directory
made_same : (t : Table) (names : List (List ℕ)) (file : Option File) → no_place (seen_in t) (is_full t.age) names ≡ None
    → view (made file names t) ≡ aged (set names (kind_of file)) (view t)
made_same t names file e =
    let p = places (seen_in t (parent names)) (seen_in t names) (is_top names) (is_full t.age) e in
    let d = look_dir t (parent names) p.1 in let n = look_none t names p.2 in
    let same_at : (q : List (List ℕ)) → kind_below q (root_row (made file names t)) ≡ cond (is_path names q) (Some (kind_of file)) (kind_below q (root_row t)) =
    λ q. put_at names (record { id = t.next; file = file; inside = End }) (root_row t) q d n ∙ makes names q t.next file (kind_below q (root_row t)) (nothing_below names q (root_row t) n) in
    λ i. record { files = λ q. same_at q i; age = t.age + 1 }

-- a removal
pub removes : (s : Seen) (top full : Bool) → then_error (error_if top BadPath) (then_error (unresolved s) (error_if full Full)) ≡ None → (top ≡ false) × (is_there s ≡ true)
removes s true full e = absurd (cc)
removes ADir false full e = (refl, refl)
removes (AFile n) false full e = (refl, refl)
removes Nothing false full e = absurd (cc)
removes AFileBefore false full e = absurd (cc)

pub cleared_at : (names : List (List ℕ)) (t : Table) (q : List (List ℕ)) → is_top names ≡ false → IsDistinct t.visible
    → kind_below q (holding (at (parent names) (without_row (last names)) t.visible) (root_row t)) ≡ cond (is_at_or_under names q) None (kind_below q (root_row t))
cleared_at [] t q e d = absurd (cc)
cleared_at (n ∷ ns) t q e d = without_at n ns (root_row t) q d

there : (found : Found) → is_there (seen_row found) ≡ true → (row : Taken) × (found ≡ Here row)
there (Here row) e = (row, refl)
there Missing e = absurd (cc)
there Through e = absurd (cc)

removed_same : (t : Table) (names : List (List ℕ)) → IsDistinct t.visible → then_error (error_if (is_top names) BadPath) (then_error (unresolved (seen_in t names)) (error_if (is_full t.age) Full)) ≡ None
    → view (removed names t (met t names)) ≡ aged (cleared names) (view t)
removed_same t names d e =
    let p = removes (seen_in t names) (is_top names) (is_full t.age) e in
    let h = there (met t names) p.1 in
    subst (λ f. view (removed names t f) ≡ aged (cleared names) (view t)) (sym h.1) (λ i. record { files = λ q. cleared_at names t q p.0 d i; age = t.age + 1 })

-- a move
pub front : (olds news : List (List ℕ)) → is_top news ≡ false → is_at_or_under olds (parent news) ≡ true → is_front olds news ≡ true
front [] [] t u = absurd (cc)
front [] (m ∷ ms) t u = refl
front (n ∷ ns) [] t u = absurd (cc)
front (n ∷ ns) (m ∷ []) t u = absurd (cc)
front (n ∷ ns) (m ∷ k ∷ ms) t u = by (same m n) u (front ns (k ∷ ms) refl) where
  by : (b : Bool) → b && is_at_or_under ns (parent (k ∷ ms)) ≡ true → (is_at_or_under ns (parent (k ∷ ms)) ≡ true → is_front ns (k ∷ ms) ≡ true) → b && is_front ns (k ∷ ms) ≡ true
  by true u f = f u
  by false u f = u

pub moves : (s : Seen) (top ahead : Bool) (o : Option PlainError) → then_error (error_if top BadPath) (then_error (unresolved s) (then_error (error_if ahead IntoSelf) o)) ≡ None
    → (top ≡ false) × (is_there s ≡ true) × (ahead ≡ false) × (o ≡ None)
moves s true ahead o e = absurd (cc)
moves Nothing false ahead o e = absurd (cc)
moves AFileBefore false ahead o e = absurd (cc)
moves ADir false true o e = absurd (cc)
moves ADir false false o e = (refl, refl, refl, e)
moves (AFile n) false true o e = absurd (cc)
moves (AFile n) false false o e = (refl, refl, refl, e)

pub not_under : (b : Bool) → (b ≡ true → ⊥) → b ≡ false
not_under true f = absurd (f refl)
not_under false f = refl

pub both_none : {A : Type 0} (b : Bool) (x : Option A) → x ≡ None → cond b None x ≡ None
both_none true x e = refl
both_none false x e = e

moved_row : (t : Table) (olds news : List (List ℕ)) (row : Taken) → IsDistinct t.visible → met t olds ≡ Here row → is_top olds ≡ false → is_top news ≡ false → is_front olds news ≡ false
    → kind_below (parent news) (root_row t) ≡ Some Dir → kind_below news (root_row t) ≡ None
    → view (row_moved olds news t (Here row)) ≡ aged (shifted olds news) (view t)
moved_row t olds news row dis h to tn fr d n =
    let gone : (q : List (List ℕ)) → kind_below q (holding (at (parent olds) (without_row (last olds)) t.visible) (root_row t)) ≡ cond (is_at_or_under olds q) None (kind_below q (root_row t)) = λ q. cleared_at olds t q to dis in
    let u : is_at_or_under olds (parent news) ≡ false = not_under _ (λ x. let y = front olds news tn x in absurd (cc)) in
    let d1 : kind_below (parent news) (holding (at (parent olds) (without_row (last olds)) t.visible) (root_row t)) ≡ Some Dir = gone (parent news) ∙ ap (λ b. cond b None (kind_below (parent news) (root_row t))) u ∙ d in
    let n1 : kind_below news (holding (at (parent olds) (without_row (last olds)) t.visible) (root_row t)) ≡ None = gone news ∙ both_none _ _ n in
    let all : (q : List (List ℕ)) → kind_below q (holding (at (parent news) (with_row (last news) row) (at (parent olds) (without_row (last olds)) t.visible)) (root_row t))
    ≡ cond (is_at_or_under news q) (kind_below (olds ++ rest news q) (root_row t)) (cond (is_at_or_under olds q) None (kind_below q (root_row t))) =
    λ q. put_at news row (holding (at (parent olds) (without_row (last olds)) t.visible) (root_row t)) q d1 n1
    ∙ ap (λ x. cond (is_at_or_under news q) (kind_below (rest news q) row) x) (gone q)
    ∙ ap (λ x. cond (is_at_or_under news q) x (cond (is_at_or_under olds q) None (kind_below q (root_row t)))) (sym (look_below olds (rest news q) (root_row t) row h)) in
    λ i. record { files = λ q. all q i; age = t.age + 1 }

moved_same : (t : Table) (olds news : List (List ℕ)) → IsDistinct t.visible
    → then_error (error_if (is_top olds) BadPath) (then_error (unresolved (seen_in t olds)) (then_error (error_if (is_front olds news) IntoSelf) (no_place (seen_in t) (is_full t.age) news))) ≡ None
    → view (row_moved olds news t (met t olds)) ≡ aged (shifted olds news) (view t)
moved_same t olds news dis e =
    let p = moves (seen_in t olds) (is_top olds) (is_front olds news) _ e in
    let r = places (seen_in t (parent news)) (seen_in t news) (is_top news) (is_full t.age) p.3 in
    let h = there (met t olds) p.1 in
    subst (λ f. view (row_moved olds news t f) ≡ aged (shifted olds news) (view t)) (sym h.1)
    (moved_row t olds news h.0 dis h.1 p.0 r.0 p.2 (look_dir t (parent news) r.1) (look_none t news r.2))

-- a write
pub writes : (s : Seen) (much long full : Bool) (n : ℕ) → then_error (error_if much TooMuch) (then_error (unresolved s) (then_error (error_if (is_directory_seen s) IsDir) (cond (n == 0) None (then_error (error_if long TooLong) (error_if full Full))))) ≡ None
    → is_file s ≡ true
writes s true long full n e = absurd (cc)
writes ADir false long full n e = absurd (cc)
writes (AFile k) false long full n e = refl
writes Nothing false long full n e = absurd (cc)
writes AFileBefore false long full n e = absurd (cc)

pub positive : (n : ℕ) → ((n == 0) ≡ true) ⊎ (((n == 0) ≡ false) × (0 < n))
positive n = grind (arith, nat_tests)

filed_same : (t : Table) (names : List (List ℕ)) (offset : ℕ) (bytes : List ℕ) → AreGood t.visible → is_file (seen_in t names) ≡ true
    → view (cond (length bytes == 0) t (filed (file_written offset bytes) names t)) ≡ cond (length bytes == 0) (view t) (aged (bytes_changed names (wrote offset bytes)) (view t))
filed_same t [] offset bytes g e = absurd (cc)
filed_same t (n ∷ ns) offset bytes g e = elim (positive (length bytes)) [
  | inl z ↦ rw z refl
  | inr z ↦ rw z.0 (λ i. record { files = λ q. filed_at (file_written offset bytes) (wrote offset bytes) (λ f h. content-written offset bytes f z.1 h) n ns (root_row t) q g i; age = t.age + 1 })
]

on_filed : (t : Table) (o : Option (List (List ℕ))) (offset : ℕ) (bytes : List ℕ) → AreGood t.visible
    → on_names o (λ names. then_error (error_if (nat_lt 262144 (length bytes)) TooMuch) (then_error (unresolved (seen_in t names)) (then_error (error_if (is_directory_seen (seen_in t names)) IsDir)
    (cond (length bytes == 0) None (then_error (error_if (nat_lt 268435456 (offset + length bytes)) TooLong) (error_if (is_full t.age) Full)))))) ≡ None
    → view (by_names t o (λ names. cond (length bytes == 0) t (filed (file_written offset bytes) names t)))
    ≡ by_names (view t) o (λ names. cond (length bytes == 0) (view t) (aged (bytes_changed names (wrote offset bytes)) (view t)))
on_filed t None offset bytes g e = refl
on_filed t (Some names) offset bytes g e = filed_same t names offset bytes g (writes (seen_in t names) _ _ _ (length bytes) e)

-- a resize
pub resizes : (s : Seen) (long same much full : Bool) → then_error (unresolved s) (then_error (error_if (is_directory_seen s) IsDir) (then_error (error_if long TooLong)
    (cond same None (then_error (error_if much TooMuch) (error_if full Full))))) ≡ None → is_file s ≡ true
resizes ADir long same much full e = absurd (cc)
resizes (AFile k) long same much full e = refl
resizes Nothing long same much full e = absurd (cc)
resizes AFileBefore long same much full e = absurd (cc)

bytes_there : (found : Found) → is_file (seen_row found) ≡ true → (row : Taken) × (b : List ℕ) × (found ≡ Here row) × (kind_found found ≡ Some (Bytes b))
bytes_there (Here row) e = by row.file e where
  by : (file : Option File) → is_file (seen_file file) ≡ true → (r : Taken) × (b : List ℕ) × (Here row ≡ Here r) × (Some (kind_of file) ≡ Some (Bytes b))
  by None e = absurd (cc)
  by (Some f) e = (row, content f, refl, refl)
bytes_there Missing e = absurd (cc)
bytes_there Through e = absurd (cc)

cut_same : (t : Table) (names : List (List ℕ)) (len : ℕ) → IsDistinct t.visible → AreGood t.visible → is_file (seen_in t names) ≡ true
    → view (cond (len == 0) (emptied names t (met t names)) (filed (cut len) names t)) ≡ aged (bytes_changed names (resized_bytes len)) (view t)
cut_same t [] len d g e = absurd (cc)
cut_same t (n ∷ ns) len d g e = elim (positive len) [
  | inl z ↦ (let k : len ≡ 0 = grind (arith, nat_tests) in
      let h = bytes_there (met t (n ∷ ns)) e in
      let f : (q : List (List ℕ)) → kind_below q (root_row (emptied (n ∷ ns) t (Here h.0))) ≡ cond (is_path (n ∷ ns) q) (on_kind (resized_bytes 0) (kind_below q (root_row t))) (kind_below q (root_row t)) =
      λ q. emptied_at n ns t t.next h.1 q d (look_resolved (n ∷ ns) (root_row t) ∙ h.3) in
      rw (z, h.2, k) (λ i. record { files = λ q. f q i; age = t.age + 1 }))
  | inr z ↦ rw z.0 (λ i. record { files = λ q. filed_at (cut len) (resized_bytes len) (λ f h. content-cut len f h) n ns (root_row t) q g i; age = t.age + 1 })
]

resized_same : (t : Table) (names : List (List ℕ)) (len : ℕ) → IsDistinct t.visible → AreGood t.visible → is_file (seen_in t names) ≡ true
    → view (cond (len == size_of (seen_in t names)) t (cond (len == 0) (emptied names t (met t names)) (filed (cut len) names t)))
    ≡ cond (len == size_of (seen_at (view t).files names)) (view t) (aged (bytes_changed names (resized_bytes len)) (view t))
resized_same t names len d g e =
    by (len == size_of (seen_in t names))
    ∙ ap (λ f. cond (len == size_of (f names)) (view t) (aged (bytes_changed names (resized_bytes len)) (view t))) (sym (met_same t g)) where
      by : (b : Bool) → view (cond b t (cond (len == 0) (emptied names t (met t names)) (filed (cut len) names t))) ≡ cond b (view t) (aged (bytes_changed names (resized_bytes len)) (view t))
      by true = refl
      by false = cut_same t names len d g e

on_resized : (t : Table) (o : Option (List (List ℕ))) (len : ℕ) → IsDistinct t.visible → AreGood t.visible
    → on_names o (λ names. then_error (unresolved (seen_in t names)) (then_error (error_if (is_directory_seen (seen_in t names)) IsDir) (then_error (error_if (nat_lt 268435456 len) TooLong)
    (cond (len == size_of (seen_in t names)) None (then_error (error_if (nat_lt 0 len && nat_lt (blocks_of len + 64) (blocks_of (size_of (seen_in t names)))) TooMuch) (error_if (is_full t.age) Full)))))) ≡ None
    → view (by_names t o (λ names. cond (len == size_of (seen_in t names)) t (cond (len == 0) (emptied names t (met t names)) (filed (cut len) names t))))
    ≡ by_names (view t) o (λ names. cond (len == size_of (seen_at (view t).files names)) (view t) (aged (bytes_changed names (resized_bytes len)) (view t)))
on_resized t None len d g e = refl
on_resized t (Some names) len d g e = resized_same t names len d g (resizes (seen_in t names) _ _ _ _ e)

reclaimed_same : (t : Table) (rows : Rows) → view (reclaimed t rows) ≡ view t
reclaimed_same t End = refl
reclaimed_same t (Row id name None End next) = refl
reclaimed_same t (Row id name None (Row i n f below rest) next) = refl
reclaimed_same t (Row id name (Some file) inside next) = by (count_written file.version (blocks_of file.size) == 0) where
  by : (b : Bool) → view (cond b (retrashed next t) (retrashed (Row id name (Some (freed file)) inside next) t)) ≡ view t
  by true = refl
  by false = refl

on_made : (t : Table) (o : Option (List (List ℕ))) (file : Option File) → on_names o (no_place (seen_in t) (is_full t.age)) ≡ None
    → view (by_names t o (λ names. made file names t)) ≡ by_names (view t) o (λ names. aged (set names (kind_of file)) (view t))
on_made t None file e = refl
on_made t (Some names) file e = made_same t names file e

on_removed : (t : Table) (o : Option (List (List ℕ))) → IsDistinct t.visible → on_names o (λ names. then_error (error_if (is_top names) BadPath) (then_error (unresolved (seen_in t names)) (error_if (is_full t.age) Full))) ≡ None
    → view (by_names t o (λ names. removed names t (met t names))) ≡ by_names (view t) o (λ names. aged (cleared names) (view t))
on_removed t None d e = refl
on_removed t (Some names) d e = removed_same t names d e

on_moved : (t : Table) (o k : Option (List (List ℕ))) → IsDistinct t.visible
    → on_names o (λ olds. on_names k (λ news. then_error (error_if (is_top olds) BadPath) (then_error (unresolved (seen_in t olds)) (then_error (error_if (is_front olds news) IntoSelf) (no_place (seen_in t) (is_full t.age) news))))) ≡ None
    → view (by_names t o (λ olds. by_names t k (λ news. row_moved olds news t (met t olds)))) ≡ by_names (view t) o (λ olds. by_names (view t) k (λ news. aged (shifted olds news) (view t)))
on_moved t None k d e = refl
on_moved t (Some olds) None d e = refl
on_moved t (Some olds) (Some news) d e = moved_same t olds news d e

changes : (t : Table) (r : Request) → IsDistinct t.visible → AreGood t.visible → verdict (seen_in t) (is_full t.age) r ≡ None → view (accepted_change t r) ≡ plain_change (view t) r
changes t (Mkdir path) d g e = on_made t (names_of path) None e
changes t (Create path) d g e = on_made t (names_of path) (Some empty_file) e
changes t (Remove path) d g e = on_removed t (names_of path) d e
changes t (Rename from to) d g e = on_moved t (names_of from) (names_of to) d e
changes t (Read path offset len) d g e = refl
changes t (Stat path) d g e = refl
changes t (ListNames path after) d g e = refl
changes t Sync d g e = refl
changes t Root d g e = refl
changes t (Probe n) d g e = refl
changes t (Write path offset bytes) d g e = on_filed t (names_of path) offset bytes g e
changes t (Resize path len) d g e = on_resized t (names_of path) len d g e
changes t Reclaim d g e = reclaimed_same t t.trash

pub verdict_same : (t : Table) (r : Request) → AreGood t.visible → verdict (seen_in t) (is_full t.age) r ≡ verdict (seen_at (view t).files) (is_full t.age) r
verdict_same t r g = ap (λ f. verdict f (is_full t.age) r) (sym (met_same t g))

pub step_same : (t : Table) (r : Request) → IsDistinct t.visible → AreGood t.visible → view (stepped t r) ≡ plain_step (view t) r
step_same t r d g = choose (verdict (seen_in t) (is_full t.age) r) (accepted_change t r) t (plain_change (view t) r) (changes t r d g)
    ∙ ap (λ f. cond (is_none (verdict f (is_full t.age) r)) (plain_change (view t) r) (view t)) (sym (met_same t g))
