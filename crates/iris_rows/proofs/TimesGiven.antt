-- How often an id stands, after each change of rows.
use Rattle.std.proofs.Common.{◌≡◌, ℕ, ◌+◌, ◌≤◌, List, [], ◌∷◌, Bool, true, false, cond, Option, Some, None, refl, sym, ◌∙◌, ap, subst, arith}
use Rattle.std.specs.Prelude.{◌==◌}
use Rattle.std.specs.Str.{bytes_eq}
use Rattle.iris_plain.specs.Routes.{is_name_before, parent, last}
use Rattle.iris_rows.specs.Rows.{File, Rows, End, Row, Taken, find, with_row, without_row, at, file_at, on_file, Here, resolved, followed, entered}
use Rattle.iris_rows.specs.Sound.{times_given}

-- how often an id stands in a row and inside it
abbrev pub in_row : ℕ → Taken → ℕ
in_row i row = cond (i == row.id) 1 0 + times_given i row.inside

pub times_put : (i : ℕ) (n : List ℕ) (row : Taken) (rows : Rows) → times_given i (with_row n row rows) ≡ times_given i rows + (cond (i == row.id) 1 0 + times_given i row.inside)
times_put i n row End = omega arith
times_put i n row (Row id name file inside next) = by (is_name_before n name) (times_put i n row next) where
  by : (b : Bool) → times_given i (with_row n row next) ≡ times_given i next + (cond (i == row.id) 1 0 + times_given i row.inside)
      → times_given i (cond b (Row row.id n row.file row.inside (Row id name file inside next)) (Row id name file inside (with_row n row next))) ≡ times_given i (Row id name file inside next) + (cond (i == row.id) 1 0 + times_given i row.inside)
  by true h = omega arith
  by false h = omega (arith, h)

pub times_without : (i : ℕ) (n : List ℕ) (row : Taken) (rows : Rows) → find n rows ≡ Some row → times_given i (without_row n rows) + (cond (i == row.id) 1 0 + times_given i row.inside) ≡ times_given i rows
times_without i n row End = λ e. absurd (cc)
times_without i n row (Row id name file inside next) = by (bytes_eq n name) (times_without i n row next) where
  by : (b : Bool) → (find n next ≡ Some row → times_given i (without_row n next) + (cond (i == row.id) 1 0 + times_given i row.inside) ≡ times_given i next) → cond b (Some (record { id = id; file = file; inside = inside })) (find n next) ≡ Some row
      → times_given i (cond b next (Row id name file inside (without_row n next))) + (cond (i == row.id) 1 0 + times_given i row.inside) ≡ times_given i (Row id name file inside next)
  by true f e = let a : id ≡ row.id = cc in let c : inside ≡ row.inside = cc in rw (sym a, sym c) (omega arith)
  by false f e = let h = f e in omega (arith, h)

-- a change that adds at most so many adds at most so many anywhere
pub times_at : (i c : ℕ) (ns : List (List ℕ)) (f : Rows → Rows) (rows : Rows) → ((inner : Rows) → times_given i (f inner) ≤ times_given i inner + c) → times_given i (at ns f rows) ≤ times_given i rows + c
times_at i c [] f rows k = k rows
times_at i c (n ∷ ns) f End k = omega arith
times_at i c (n ∷ ns) f (Row id name file inside next) k = by (bytes_eq n name) (times_at i c ns f inside k) (times_at i c (n ∷ ns) f next k) where
  by : (b : Bool) → times_given i (at ns f inside) ≤ times_given i inside + c → times_given i (at (n ∷ ns) f next) ≤ times_given i next + c
      → times_given i (cond b (Row id name file (at ns f inside) next) (Row id name file inside (at (n ∷ ns) f next))) ≤ times_given i (Row id name file inside next) + c
  by true h g = omega (arith, h)
  by false h g = omega (arith, g)

pub times_file_at : (i : ℕ) (n : List ℕ) (change : File → File) (rows : Rows) → times_given i (file_at n change rows) ≡ times_given i rows
times_file_at i n change End = refl
times_file_at i n change (Row id name file inside next) = by (bytes_eq n name) (times_file_at i n change next) where
  by : (b : Bool) → times_given i (file_at n change next) ≡ times_given i next → times_given i (cond b (Row id name (on_file change file) inside next) (Row id name file inside (file_at n change next))) ≡ times_given i (Row id name file inside next)
  by true h = refl
  by false h = omega (arith, h)

-- the row of a path, taken out
pub times_gone : (i : ℕ) (n : List ℕ) (ns : List (List ℕ)) (from row : Taken) → resolved (n ∷ ns) from ≡ Here row
    → times_given i (at (parent (n ∷ ns)) (without_row (last (n ∷ ns))) from.inside) + (cond (i == row.id) 1 0 + times_given i row.inside) ≡ times_given i from.inside
times_gone i n [] from row e = by from.file (find n from.inside) refl e where
  by : (file : Option File) (o : Option Taken) → find n from.inside ≡ o → entered file (followed o (λ below. Here below)) ≡ Here row
      → times_given i (without_row n from.inside) + (cond (i == row.id) 1 0 + times_given i row.inside) ≡ times_given i from.inside
  by None None f e = absurd (cc)
  by None (Some below) f e = let h : find n from.inside ≡ Some row = f ∙ (let k : below ≡ row = cc in ap Some k) in times_without i n row from.inside h
  by (Some file) o f e = absurd (cc)
times_gone i n (m ∷ ns) from row e = by from.file (find n from.inside) refl e (times_gone i m ns) where
  deep : (rows : Rows) (below : Taken) → find n rows ≡ Some below
      → times_given i (at (parent (m ∷ ns)) (without_row (last (m ∷ ns))) below.inside) + (cond (i == row.id) 1 0 + times_given i row.inside) ≡ times_given i below.inside
      → times_given i (at (n ∷ parent (m ∷ ns)) (without_row (last (m ∷ ns))) rows) + (cond (i == row.id) 1 0 + times_given i row.inside) ≡ times_given i rows
  deep End below f h = absurd (cc)
  deep (Row id name file inside next) below f h = go (bytes_eq n name) f (λ f. deep next below f h) where
    go : (b : Bool) → cond b (Some (record { id = id; file = file; inside = inside })) (find n next) ≡ Some below
        → (find n next ≡ Some below → times_given i (at (n ∷ parent (m ∷ ns)) (without_row (last (m ∷ ns))) next) + (cond (i == row.id) 1 0 + times_given i row.inside) ≡ times_given i next)
        → times_given i (cond b (Row id name file (at (parent (m ∷ ns)) (without_row (last (m ∷ ns))) inside) next) (Row id name file inside (at (n ∷ parent (m ∷ ns)) (without_row (last (m ∷ ns))) next))) + (cond (i == row.id) 1 0 + times_given i row.inside)
        ≡ times_given i (Row id name file inside next)
    go true e k = let c : below.inside ≡ inside = cc in let g : times_given i (at (parent (m ∷ ns)) (without_row (last (m ∷ ns))) inside) + (cond (i == row.id) 1 0 + times_given i row.inside) ≡ times_given i inside
        = subst (λ x. times_given i (at (parent (m ∷ ns)) (without_row (last (m ∷ ns))) x) + (cond (i == row.id) 1 0 + times_given i row.inside) ≡ times_given i x) c h in omega (arith, g)
    go false e k = let g = k e in omega (arith, g)

  by : (file : Option File) (o : Option Taken) → find n from.inside ≡ o → entered file (followed o (λ below. resolved (m ∷ ns) below)) ≡ Here row
      → ((below row : Taken) → resolved (m ∷ ns) below ≡ Here row → times_given i (at (parent (m ∷ ns)) (without_row (last (m ∷ ns))) below.inside) + (cond (i == row.id) 1 0 + times_given i row.inside) ≡ times_given i below.inside)
      → times_given i (at (n ∷ parent (m ∷ ns)) (without_row (last (m ∷ ns))) from.inside) + (cond (i == row.id) 1 0 + times_given i row.inside) ≡ times_given i from.inside
  by None None f e ih = absurd (cc)
  by None (Some below) f e ih = deep from.inside below f (ih below row e)
  by (Some file) o f e ih = absurd (cc)
