-- The step keeps the names of each directory rising and in the grammar.
use Rattle.std.proofs.Common.{◌≡◌, ℕ, List, [], ◌∷◌, length, Bool, true, false, cond, Option, Some, None, refl, sym, ◌∙◌, ap, subst}
use Rattle.std.specs.Prelude.{is_none, ◌==◌}
use Rattle.std.specs.List.{list_all}
use Rattle.iris_name.specs.declared.request.PlainError.{PlainError}
use Rattle.iris_name.specs.declared.request.Request.{Request}
use Rattle.iris_name.specs.declared.request.Request.TheVariants.{Mkdir, Create, Write, Read, Resize, Stat, List as ListNames, Rename, Remove, Sync, Root, Reclaim, Probe}
use Rattle.iris_name.specs.Paths.{names_of}
use Rattle.iris_plain.specs.Routes.{parent, last, is_top, is_front, is_at_or_under}
use Rattle.iris_plain.specs.Checks.{is_full, on_names, no_place, resize_checks, move_checks, size_of, blocks_of}
use Rattle.iris_rows.specs.Rows.{File, Rows, End, Row, Table, Taken, root_row, find, without_row, at, file_at, Found, Here, Missing, Through, met, empty_file, resolved, followed, entered}
use Rattle.iris_rows.specs.FileChanges.{file_written, cut, freed, count_written}
use Rattle.iris_rows.specs.Changes.{made, filed, gone, removed, row_moved, emptied, retrashed, reclaimed, seen_in, accepted_change, stepped, table_verdict}
use Rattle.iris_plain.specs.Steps.{by_names}
use Rattle.iris_rows.specs.View.{kind_below, kind_of}
use Rattle.iris_rows.specs.Sound.{is_step, IsOrdered}
use Rattle.iris_rows.proofs.Steady.{Steady}
use Rattle.iris_rows.proofs.RowHolding.{holding}
use Rattle.iris_rows.proofs.ViewOfEmptied.{not_under_parent, under_self, parent_dir}
use Rattle.iris_rows.proofs.ViewOfStep.{places, moves, cleared_at, front, not_under, both_none}
use Rattle.iris_rows.proofs.ViewByPath.{look_dir, look_none, look_resolved, kind_found}
use Rattle.iris_rows.proofs.RisingNames.{ordered_at, ordered_without, ordered_file_at, ordered_in, ordered_put_at, names_are}

-- the names of an optional path keep the grammar
abbrev pub AreNames : Option (List (List ℕ)) → Type 0
AreNames o = (names : List (List ℕ)) → o ≡ Some names → list_all is_step names ≡ true

pub ordered_here : (ns : List (List ℕ)) (from row : Taken) → resolved ns from ≡ Here row → IsOrdered from.inside → IsOrdered row.inside
ordered_here [] from row e d = let k : from ≡ row = cc in subst (λ r. IsOrdered r.inside) k d
ordered_here (n ∷ ns) from row e d = by from.file (find n from.inside) refl e (ordered_here ns) where
  by : (file : Option File) (o : Option Taken) → find n from.inside ≡ o → entered file (followed o (λ below. resolved ns below)) ≡ Here row
      → ((below row : Taken) → resolved ns below ≡ Here row → IsOrdered below.inside → IsOrdered row.inside) → IsOrdered row.inside
  by None None f e ih = absurd (cc)
  by None (Some below) f e ih = ih below row e (ordered_in n from.inside below f d)
  by (Some file) o f e ih = absurd (cc)

ordered_gone : (t : Table) (names : List (List ℕ)) → IsOrdered t.visible → IsOrdered (gone names t)
ordered_gone t names d = ordered_at (parent names) (without_row (last names)) t.visible (λ inner d. ordered_without (last names) inner d) d

ordered_filed : (t : Table) (names : List (List ℕ)) (change : File → File) → IsOrdered t.visible → IsOrdered (filed change names t).visible
ordered_filed t names change d = ordered_at (parent names) (file_at (last names) change) t.visible (λ inner d. ordered_file_at (last names) change inner d) d

on_made : (t : Table) (o : Option (List (List ℕ))) (file : Option File) → AreNames o → IsOrdered t.visible → on_names o (no_place (seen_in t) (is_full t.age)) ≡ None
    → IsOrdered (by_names t o (λ names. made file names t)).visible
on_made t None file n d e = d
on_made t (Some names) file n d e =
    let p = places (seen_in t (parent names)) (seen_in t names) (is_top names) (is_full t.age) e in
    ordered_put_at names (record { id = t.next; file = file; inside = End }) (root_row t) (look_dir t (parent names) p.1) (look_none t names p.2) (n names refl) tt d

on_removed : (t : Table) (o : Option (List (List ℕ))) → IsOrdered t.visible → IsOrdered (by_names t o (λ names. removed names t (met t names))).visible
on_removed t None d = d
on_removed t (Some names) d = by (met t names) where
  by : (f : Found) → IsOrdered (removed names t f).visible
  by (Here row) = ordered_gone t names d
  by Missing = d
  by Through = d

moved_any : (t : Table) (n : List ℕ) (ns news : List (List ℕ)) → Steady t → list_all is_step news ≡ true → IsOrdered t.visible → is_front (n ∷ ns) news ≡ false → no_place (seen_in t) (is_full t.age) news ≡ None
    → IsOrdered (row_moved (n ∷ ns) news t (met t (n ∷ ns))).visible
moved_any t n ns news s k d ahead e = by (met t (n ∷ ns)) refl where
  by : (f : Found) → met t (n ∷ ns) ≡ f → IsOrdered (row_moved (n ∷ ns) news t f).visible
  by (Here row) h =
      let p = places (seen_in t (parent news)) (seen_in t news) (is_top news) (is_full t.age) e in
      let u : is_at_or_under (n ∷ ns) (parent news) ≡ false = not_under _ (λ x. let y = front (n ∷ ns) news p.0 x in absurd (let z = sym ahead ∙ y in cc)) in
      ordered_put_at news row (holding (gone (n ∷ ns) t) (root_row t))
      (cleared_at (n ∷ ns) t (parent news) refl s.distinct ∙ ap (λ b. cond b None (kind_below (parent news) (root_row t))) u ∙ look_dir t (parent news) p.1)
      (cleared_at (n ∷ ns) t news refl s.distinct ∙ both_none _ _ (look_none t news p.2))
      k (ordered_here (n ∷ ns) (root_row t) row h d) (ordered_gone t (n ∷ ns) d)
  by Missing h = d
  by Through h = d

on_moved : (t : Table) (o k : Option (List (List ℕ))) → AreNames k → Steady t → IsOrdered t.visible
    → on_names o (λ olds. on_names k (λ news. move_checks (is_top olds) (seen_in t olds) (is_front olds news) (no_place (seen_in t) (is_full t.age) news))) ≡ None
    → IsOrdered (by_names t o (λ olds. by_names t k (λ news. row_moved olds news t (met t olds)))).visible
on_moved t None k m s d e = d
on_moved t (Some olds) None m s d e = d
on_moved t (Some []) (Some news) m s d e = absurd (cc)
on_moved t (Some (n ∷ ns)) (Some news) m s d e = let p = moves (seen_in t (n ∷ ns)) false (is_front (n ∷ ns) news) _ e in moved_any t n ns news s (m news refl) d p.2 p.3

on_written : (t : Table) (o : Option (List (List ℕ))) (offset : ℕ) (bytes : List ℕ) → IsOrdered t.visible → IsOrdered (by_names t o (λ names. cond (length bytes == 0) t (filed (file_written offset bytes) names t))).visible
on_written t None offset bytes d = d
on_written t (Some names) offset bytes d = by (length bytes == 0) where
  by : (b : Bool) → IsOrdered (cond b t (filed (file_written offset bytes) names t)).visible
  by true = d
  by false = ordered_filed t names (file_written offset bytes) d

emptied_any : (t : Table) (n : List ℕ) (ns : List (List ℕ)) → Steady t → list_all is_step (n ∷ ns) ≡ true → IsOrdered t.visible → IsOrdered (emptied (n ∷ ns) t (met t (n ∷ ns))).visible
emptied_any t n ns s k d = by (met t (n ∷ ns)) refl where
  by : (f : Found) → met t (n ∷ ns) ≡ f → IsOrdered (emptied (n ∷ ns) t f).visible
  by (Here row) h =
      let there : kind_below (n ∷ ns) (root_row t) ≡ Some (kind_of row.file) = look_resolved (n ∷ ns) (root_row t) ∙ ap kind_found h in
      ordered_put_at (n ∷ ns) (record { id = t.next; file = Some empty_file; inside = End }) (holding (gone (n ∷ ns) t) (root_row t))
      (cleared_at (n ∷ ns) t (parent (n ∷ ns)) refl s.distinct ∙ ap (λ b. cond b None (kind_below (parent (n ∷ ns)) (root_row t))) (not_under_parent n ns) ∙ parent_dir n ns (root_row t) (kind_of row.file) there)
      (cleared_at (n ∷ ns) t (n ∷ ns) refl s.distinct ∙ ap (λ b. cond b None (kind_below (n ∷ ns) (root_row t))) (under_self (n ∷ ns)))
      k tt (ordered_gone t (n ∷ ns) d)
  by Missing h = d
  by Through h = d

on_resized : (t : Table) (o : Option (List (List ℕ))) (size : ℕ) → AreNames o → Steady t → IsOrdered t.visible → on_names o (λ names. resize_checks (seen_in t names) size (is_full t.age)) ≡ None
    → IsOrdered (by_names t o (λ names. cond (size == size_of (seen_in t names)) t (cond (size == 0) (emptied names t (met t names)) (filed (cut size) names t)))).visible
on_resized t None size k s d e = d
on_resized t (Some []) size k s d e = absurd (cc)
on_resized t (Some (n ∷ ns)) size k s d e = by (size == size_of (seen_in t (n ∷ ns))) (size == 0) where
  by : (a b : Bool) → IsOrdered (cond a t (cond b (emptied (n ∷ ns) t (met t (n ∷ ns))) (filed (cut size) (n ∷ ns) t))).visible
  by true b = d
  by false true = emptied_any t n ns s (k (n ∷ ns) refl) d
  by false false = ordered_filed t (n ∷ ns) (cut size) d

on_reclaimed : (t : Table) (rows : Rows) → IsOrdered t.visible → IsOrdered (reclaimed t rows).visible
on_reclaimed t End d = d
on_reclaimed t (Row id name None End next) d = d
on_reclaimed t (Row id name None (Row i n file inside others) next) d = d
on_reclaimed t (Row id name (Some file) inside next) d = by (count_written file.version (blocks_of file.size) == 0) where
  by : (b : Bool) → IsOrdered (cond b (retrashed next t) (retrashed (Row id name (Some (freed file)) inside next) t)).visible
  by true = d
  by false = d

changed_ordered : (t : Table) (r : Request) → Steady t → IsOrdered t.visible → table_verdict t r ≡ None → IsOrdered (accepted_change t r).visible
changed_ordered t (Mkdir path) s d e = on_made t (names_of path) None (names_are path) d e
changed_ordered t (Create path) s d e = on_made t (names_of path) (Some empty_file) (names_are path) d e
changed_ordered t (Write path offset bytes) s d e = on_written t (names_of path) offset bytes d
changed_ordered t (Read path offset count) s d e = d
changed_ordered t (Resize path size) s d e = on_resized t (names_of path) size (names_are path) s d e
changed_ordered t (Stat path) s d e = d
changed_ordered t (ListNames path after) s d e = d
changed_ordered t (Rename from to) s d e = on_moved t (names_of from) (names_of to) (names_are to) s d e
changed_ordered t (Remove path) s d e = on_removed t (names_of path) d
changed_ordered t Sync s d e = d
changed_ordered t Root s d e = d
changed_ordered t Reclaim s d e = on_reclaimed t t.trash d
changed_ordered t (Probe at) s d e = d

-- the names of the next table rise
pub ordered_kept : (t : Table) (r : Request) → Steady t → IsOrdered t.visible → IsOrdered (stepped t r).visible
ordered_kept t r s d = by (table_verdict t r) refl where
  by : (v : Option PlainError) → table_verdict t r ≡ v → IsOrdered (cond (is_none v) (accepted_change t r) t).visible
  by None e = changed_ordered t r s d e
  by (Some x) e = d
