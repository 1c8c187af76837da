-- A file's bytes changed, in the forest and in its view.
use Rattle.std.proofs.Common.{◌≡◌, ◌≢◌, ◌⊎◌, inl, inr, ℕ, List, [], ◌∷◌, Bool, true, false, ◌&&◌, cond, Option, Some, None, refl, sym, ap, subst}
use Rattle.iris_rows.specs.Rows.{File, Rows, End, Row, Taken, find, at, file_at, on_file}
use Rattle.std.specs.Str.{bytes_eq as same}
use Rattle.iris_plain.specs.Routes.{parent, last, is_path}
use Rattle.iris_plain.specs.declared.files.Kind.{Kind}
use Rattle.iris_plain.specs.declared.files.Kind.TheVariants.{Bytes}
use Rattle.iris_plain.specs.Files.{on_bytes, on_kind}
use Rattle.iris_rows.specs.View.{kind_below, into, bound, kind_of, content}
use Rattle.iris_rows.proofs.RowHolding.{holding, mapped}
use Rattle.iris_rows.specs.Sound.{IsGood, AreGood}
use Rattle.iris_rows.proofs.RowsByName.{same_tells, either, apart, find_at}
use Rattle.iris_rows.proofs.ViewByPath.{good_found}

abbrev pub refiled : (File → File) → Taken → Taken
refiled f row = record { id = row.id; file = on_file f row.file; inside = row.inside }

pub find_file_at : (m n : List ℕ) (f : File → File) (rows : Rows) → find m (file_at n f rows) ≡ cond (same m n) (mapped (refiled f) (find m rows)) (find m rows)
find_file_at m n f End = either (same m n) None
find_file_at m n f (Row id name file inside next) = elim (same_tells n name) [
  | inl e ↦ subst (λ b. find m (cond b (Row id name (on_file f file) inside next) (Row id name file inside (file_at n f next))) ≡ cond (same m n) (mapped (refiled f) (cond (same m name) (Some x) (find m next))) (cond (same m name) (Some x) (find m next))) (sym e.0)
      (subst (λ k. cond (same m name) (Some (refiled f x)) (find m next) ≡ cond (same m k) (mapped (refiled f) (cond (same m name) (Some x) (find m next))) (cond (same m name) (Some x) (find m next))) (sym e.1) (here (same m name)))
  | inr e ↦ subst (λ b. find m (cond b (Row id name (on_file f file) inside next) (Row id name file inside (file_at n f next))) ≡ cond (same m n) (mapped (refiled f) (cond (same m name) (Some x) (find m next))) (cond (same m name) (Some x) (find m next))) (sym e.0)
      (later (same m name) (same m n) (apart m n name e.0) (find_file_at m n f next))
] where
  x : Taken
  x = record { id = id; file = file; inside = inside }

  here : (b : Bool) → cond b (Some (refiled f x)) (find m next) ≡ cond b (mapped (refiled f) (cond b (Some x) (find m next))) (cond b (Some x) (find m next))
  here true = refl
  here false = refl

  later : (a b : Bool) → (a ≡ true → b ≡ true → ⊥) → find m (file_at n f next) ≡ cond b (mapped (refiled f) (find m next)) (find m next)
      → cond a (Some x) (find m (file_at n f next)) ≡ cond b (mapped (refiled f) (cond a (Some x) (find m next))) (cond a (Some x) (find m next))
  later true true h e = absurd (h refl refl)
  later true false h e = refl
  later false b h e = e

still : (b : Bool) (o : Option Kind) (g : List ℕ → List ℕ) → o ≡ None → o ≡ cond b (on_kind g o) o
still b None g e = by b where
  by : (b : Bool) → None ≡ cond b (on_kind g None) None
  by true = refl
  by false = refl
still b (Some k) g e = absurd (cc)

module _ (f : File → File) (g : List ℕ → List ℕ) (law : (file : File) → IsGood (Some file) → content (f file) ≡ g (content file)) where
  itself : (file : Option File) → IsGood file → kind_of (on_file f file) ≡ on_bytes g (kind_of file)
  itself None h = refl
  itself (Some file) h = ap Bytes (law file h)

  into_same : (file : Option File) (o : Option Kind) → into (on_file f file) o ≡ into file o
  into_same None o = refl
  into_same (Some file) o = refl

  one : (below : Taken) (q : List (List ℕ)) → IsGood below.file → kind_below q (refiled f below) ≡ cond (is_path [] q) (on_kind g (kind_below q below)) (kind_below q below)
  one below [] h = ap Some (itself below.file h)
  one below (k ∷ q) h = into_same below.file _

  pub filed_at : (n : List ℕ) (ns : List (List ℕ)) (row : Taken) (q : List (List ℕ)) → AreGood row.inside
      → kind_below q (holding (at (parent (n ∷ ns)) (file_at (last (n ∷ ns)) f) row.inside) row) ≡ cond (is_path (n ∷ ns) q) (on_kind g (kind_below q row)) (kind_below q row)
  filed_at n [] row [] h = refl
  filed_at n [] row (m ∷ q) h = by row.file (same_tells m n) where
    deep : (o : Option Taken) → find n row.inside ≡ o → bound (mapped (refiled f) o) (λ below. kind_below q below) ≡ cond (is_path [] q) (on_kind g (bound o (λ below. kind_below q below))) (bound o (λ below. kind_below q below))
    deep None e = still (is_path [] q) None g refl
    deep (Some below) e = one below q (good_found n row.inside below e h).0

    by : (file : Option File) → ((same m n ≡ true) × (m ≡ n)) ⊎ ((same m n ≡ false) × (m ≢ n))
        → into file (bound (find m (file_at n f row.inside)) (λ below. kind_below q below)) ≡ cond (same m n && is_path [] q) (on_kind g (into file (bound (find m row.inside) (λ below. kind_below q below)))) (into file (bound (find m row.inside) (λ below. kind_below q below)))
    by (Some file) t = still (same m n && is_path [] q) None g refl
    by None (inr t) = rw (find_file_at m n f row.inside, t.0) refl
    by None (inl t) = rw (find_file_at m n f row.inside, t.0, t.1) (deep (find n row.inside) refl)
  filed_at n (k ∷ ns) row [] h = refl
  filed_at n (k ∷ ns) row (m ∷ q) h = by row.file (same_tells m n) (deep (find n row.inside) refl (filed_at k ns)) where
    P : Option Taken → Type 0
    P o = Unit {0}

    deep : (o : Option Taken) → find n row.inside ≡ o
        → ((below : Taken) (q : List (List ℕ)) → AreGood below.inside → kind_below q (holding (at (parent (k ∷ ns)) (file_at (last (k ∷ ns)) f) below.inside) below) ≡ cond (is_path (k ∷ ns) q) (on_kind g (kind_below q below)) (kind_below q below))
        → bound (mapped (λ below. holding (at (parent (k ∷ ns)) (file_at (last (k ∷ ns)) f) below.inside) below) o) (λ below. kind_below q below) ≡ cond (is_path (k ∷ ns) q) (on_kind g (bound o (λ below. kind_below q below))) (bound o (λ below. kind_below q below))
    deep None e ih = still (is_path (k ∷ ns) q) None g refl
    deep (Some below) e ih = ih below q (good_found n row.inside below e h).1

    by : (file : Option File) → ((same m n ≡ true) × (m ≡ n)) ⊎ ((same m n ≡ false) × (m ≢ n))
        → bound (mapped (λ below. holding (at (parent (k ∷ ns)) (file_at (last (k ∷ ns)) f) below.inside) below) (find n row.inside)) (λ below. kind_below q below) ≡ cond (is_path (k ∷ ns) q) (on_kind g (bound (find n row.inside) (λ below. kind_below q below))) (bound (find n row.inside) (λ below. kind_below q below))
        → into file (bound (find m (at (n ∷ parent (k ∷ ns)) (file_at (last (k ∷ ns)) f) row.inside)) (λ below. kind_below q below)) ≡ cond (same m n && is_path (k ∷ ns) q) (on_kind g (into file (bound (find m row.inside) (λ below. kind_below q below)))) (into file (bound (find m row.inside) (λ below. kind_below q below)))
    by (Some file) t p = still (same m n && is_path (k ∷ ns) q) None g refl
    by None (inr t) p = rw (find_at m n (parent (k ∷ ns)) (file_at (last (k ∷ ns)) f) row.inside, t.0) refl
    by None (inl t) p = rw (find_at m n (parent (k ∷ ns)) (file_at (last (k ∷ ns)) f) row.inside, t.0, t.1) p
