-- A resize to nothing puts a new empty file at the path.
use Rattle.std.proofs.Common.{◌≡◌, ◌≢◌, ◌⊎◌, inl, inr, ℕ, List, [], ◌∷◌, Bool, true, false, ◌&&◌, cond, Option, Some, None, refl, sym, ◌∙◌, ap}
use Rattle.iris_rows.specs.Rows.{File, End, Table, Taken, find, with_row, without_row, at, empty_file, root_row}
use Rattle.std.specs.Str.{bytes_eq as same}
use Rattle.iris_plain.specs.Routes.{parent, last, is_at_or_under, rest, is_path}
use Rattle.iris_plain.specs.declared.files.Kind.{Kind}
use Rattle.iris_plain.specs.declared.files.Kind.TheVariants.{Dir, Bytes}
use Rattle.iris_plain.specs.Files.{on_kind, resized_bytes}
use Rattle.iris_rows.specs.View.{kind_below, into, bound, kind_of}
use Rattle.iris_rows.specs.Sound.{IsDistinct}
use Rattle.iris_rows.proofs.RowHolding.{holding}
use Rattle.iris_rows.proofs.RowsByName.{same_tells}
use Rattle.iris_rows.proofs.KindsByPath.{put_at, without_at}
use Rattle.iris_rows.proofs.ViewByPath.{makes}

-- what stands at a path stands in a directory
pub parent_dir : (n : List ℕ) (ns : List (List ℕ)) (row : Taken) (k : Kind) → kind_below (n ∷ ns) row ≡ Some k → kind_below (parent (n ∷ ns)) row ≡ Some Dir
parent_dir n [] row k e = by row.file e where
  by : (file : Option File) → into file (bound (find n row.inside) (λ below. Some (kind_of below.file))) ≡ Some k → Some (kind_of file) ≡ Some Dir
  by None e = refl
  by (Some f) e = absurd (cc)
parent_dir n (m ∷ ns) row k e = by row.file (find n row.inside) e (λ below. parent_dir m ns below k) where
  by : (file : Option File) (o : Option Taken) → into file (bound o (λ below. kind_below (m ∷ ns) below)) ≡ Some k
      → ((below : Taken) → kind_below (m ∷ ns) below ≡ Some k → kind_below (parent (m ∷ ns)) below ≡ Some Dir) → into file (bound o (λ below. kind_below (parent (m ∷ ns)) below)) ≡ Some Dir
  by (Some f) o e ih = absurd (cc)
  by None None e ih = absurd (cc)
  by None (Some below) e ih = ih below e

-- nothing stands below a file
pub file_end : (names q : List (List ℕ)) (row : Taken) (b : List ℕ) → kind_below names row ≡ Some (Bytes b) → is_at_or_under names q ≡ true → is_path names q ≡ false → kind_below q row ≡ None
file_end [] [] row b e u p = absurd (cc)
file_end [] (m ∷ q) row b e u p = by row.file e where
  by : (file : Option File) → Some (kind_of file) ≡ Some (Bytes b) → into file (bound (find m row.inside) (λ below. kind_below q below)) ≡ None
  by None e = absurd (cc)
  by (Some f) e = refl
file_end (n ∷ ns) [] row b e u p = absurd (cc)
file_end (n ∷ ns) (m ∷ q) row b e u p = by (same_tells m n) row.file e u p (λ below. file_end ns q below b) where
  deep : (o : Option Taken) → bound o (λ below. kind_below ns below) ≡ Some (Bytes b) → is_at_or_under ns q ≡ true → is_path ns q ≡ false
      → ((below : Taken) → kind_below ns below ≡ Some (Bytes b) → is_at_or_under ns q ≡ true → is_path ns q ≡ false → kind_below q below ≡ None) → bound o (λ below. kind_below q below) ≡ None
  deep None e u p ih = refl
  deep (Some below) e u p ih = ih below e u p

  by : ((same m n ≡ true) × (m ≡ n)) ⊎ ((same m n ≡ false) × (m ≢ n)) → (file : Option File) → into file (bound (find n row.inside) (λ below. kind_below ns below)) ≡ Some (Bytes b)
      → same m n && is_at_or_under ns q ≡ true → same m n && is_path ns q ≡ false
      → ((below : Taken) → kind_below ns below ≡ Some (Bytes b) → is_at_or_under ns q ≡ true → is_path ns q ≡ false → kind_below q below ≡ None) → into file (bound (find m row.inside) (λ below. kind_below q below)) ≡ None
  by t (Some f) e u p ih = refl
  by (inr t) None e u p ih = let x = rw t.0 at u in absurd (cc)
  by (inl t) None e u p ih = let x = rw t.0 at u in let y = rw t.0 at p in rw t.1 (deep (find n row.inside) e x y ih)

pub path_tells : (names q : List (List ℕ)) → is_path names q ≡ true → (q ≡ names) × (is_at_or_under names q ≡ true)
path_tells [] [] e = (refl, refl)
path_tells [] (m ∷ q) e = absurd (cc)
path_tells (n ∷ ns) [] e = absurd (cc)
path_tells (n ∷ ns) (m ∷ q) e = by (same_tells m n) e (path_tells ns q) where
  by : ((same m n ≡ true) × (m ≡ n)) ⊎ ((same m n ≡ false) × (m ≢ n)) → same m n && is_path ns q ≡ true → (is_path ns q ≡ true → (q ≡ ns) × (is_at_or_under ns q ≡ true)) → (m ∷ q ≡ n ∷ ns) × (same m n && is_at_or_under ns q ≡ true)
  by (inr t) e f = let x = rw t.0 at e in absurd (cc)
  by (inl t) e f = let x = rw t.0 at e in let y = f x in let a = t.1 in let b = y.0 in ((λ i. a i ∷ b i), rw t.0 y.1)

own : (n : List ℕ) → same n n ≡ true
own n = elim (same_tells n n) [ inl t ↦ t.0 | inr t ↦ absurd (t.1 refl) ]

pub under_self : (ns : List (List ℕ)) → is_at_or_under ns ns ≡ true
under_self [] = refl
under_self (n ∷ ns) = rw (own n) (under_self ns)

pub not_under_parent : (n : List ℕ) (ns : List (List ℕ)) → is_at_or_under (n ∷ ns) (parent (n ∷ ns)) ≡ false
not_under_parent n [] = refl
not_under_parent n (m ∷ ns) = rw (own n) (not_under_parent m ns)

pub emptied_at : (n : List ℕ) (ns : List (List ℕ)) (t : Table) (id : ℕ) (b : List ℕ) (q : List (List ℕ)) → IsDistinct t.visible → kind_below (n ∷ ns) (root_row t) ≡ Some (Bytes b)
    → kind_below q (holding (at (parent (n ∷ ns)) (with_row (last (n ∷ ns)) (record { id = id; file = Some empty_file; inside = End })) (at (parent (n ∷ ns)) (without_row (last (n ∷ ns))) t.visible)) (root_row t))
    ≡ cond (is_path (n ∷ ns) q) (on_kind (resized_bytes 0) (kind_below q (root_row t))) (kind_below q (root_row t))
emptied_at n ns t id b q dis e =
    let gone : (q : List (List ℕ)) → kind_below q (holding (at (parent (n ∷ ns)) (without_row (last (n ∷ ns))) t.visible) (root_row t)) ≡ cond (is_at_or_under (n ∷ ns) q) None (kind_below q (root_row t)) = λ q. without_at n ns (root_row t) q dis in
    let d : kind_below (parent (n ∷ ns)) (holding (at (parent (n ∷ ns)) (without_row (last (n ∷ ns))) t.visible) (root_row t)) ≡ Some Dir = gone (parent (n ∷ ns)) ∙ ap (λ b. cond b None (kind_below (parent (n ∷ ns)) (root_row t))) (not_under_parent n ns) ∙ parent_dir n ns (root_row t) (Bytes b) e in
    let m : kind_below (n ∷ ns) (holding (at (parent (n ∷ ns)) (without_row (last (n ∷ ns))) t.visible) (root_row t)) ≡ None = gone (n ∷ ns) ∙ ap (λ b. cond b None (kind_below (n ∷ ns) (root_row t))) (under_self (n ∷ ns)) in
    put_at (n ∷ ns) (record { id = id; file = Some empty_file; inside = End }) (holding (at (parent (n ∷ ns)) (without_row (last (n ∷ ns))) t.visible) (root_row t)) q d m
    ∙ ap (λ x. cond (is_at_or_under (n ∷ ns) q) (kind_below (rest (n ∷ ns) q) (record { id = id; file = Some empty_file; inside = End })) x) (gone q)
    ∙ makes (n ∷ ns) q id (Some empty_file) (cond (is_at_or_under (n ∷ ns) q) None (kind_below q (root_row t))) (λ u. ap (λ b. cond b None (kind_below q (root_row t))) u)
    ∙ by (is_path (n ∷ ns) q) (is_at_or_under (n ∷ ns) q) refl refl where
      by : (p u : Bool) → is_path (n ∷ ns) q ≡ p → is_at_or_under (n ∷ ns) q ≡ u → cond p (Some (Bytes [])) (cond u None (kind_below q (root_row t))) ≡ cond p (on_kind (resized_bytes 0) (kind_below q (root_row t))) (kind_below q (root_row t))
      by true u x y = let k = path_tells (n ∷ ns) q x in let h : kind_below q (root_row t) ≡ Some (Bytes b) = ap (λ z. kind_below z (root_row t)) k.0 ∙ e in rw h refl
      by false true x y = sym (file_end (n ∷ ns) q (root_row t) b e y x)
      by false false x y = refl
