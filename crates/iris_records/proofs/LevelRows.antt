-- The rows at one depth among items.
use Rattle.std.proofs.Common.{◌≡◌, get_or, ℕ, zero, suc, ◌+◌, ◌≤◌, ◌<◌, List, [], ◌∷◌, ◌++◌, map, length, drop, Bool, true, false, cond, refl, sym, ◌∙◌, ap, subst, arith}
use Rattle.std.specs.Prelude.{nat_lt}
use Rattle.std.proofs.lemmas.Bool.Decides.{nat_tests}
use Rattle.std.proofs.lemmas.List.{append-nil}
use Rattle.iris_shape.specs.declared.rows.Row.{Row as LevelRow}
use Rattle.iris_rows.specs.declared.item.Item.{Item}
use Rattle.iris_records.specs.declared.entries.Told.{Told}
use Rattle.iris_rows.proofs.GrownRows.{row_of as grown_row, grown_higher, grown_deeper, grown_here}
use Rattle.iris_rows.specs.Items.{grown, kept_file}
use Rattle.iris_rows.specs.Rows.{End, Row}
use Rattle.iris_records.specs.Shown.{treap_of_entries, owns, directory}
use Rattle.iris_records.specs.Walks.{row_of, told, own_of, all_owns}

-- the item of a row at its depth, written out
pub row_here : (d : ℕ) (item : Item) (rest : List Item) → item.depth ≡ d → grown d (item ∷ rest) ≡ Row item.id.0 item.name (kept_file item.file) (grown (d + 1) rest) (grown d rest)
unfolding grown_row
row_here d item rest h = grown_here d item rest h

owns_row : (order : List ℕ) (d : ℕ) (item : Item) (rest : List Item) → item.depth ≡ d
    → owns order (Row item.id.0 item.name (kept_file item.file) (grown (d + 1) rest) (grown d rest)) ≡ own_of order item rest ∷ owns order (grown d rest)
unfolding directory
owns_row order d item rest h =
    ap (λ z. record { id = item.id.0; name = item.name; file = kept_file item.file; inside = treap_of_entries order (owns order (grown (z + 1) rest)) } ∷ owns order (grown d rest)) (sym h)

pub owns_here : (order : List ℕ) (d : ℕ) (item : Item) (rest : List Item) → item.depth ≡ d → owns order (grown d (item ∷ rest)) ≡ own_of order item rest ∷ owns order (grown d rest)
owns_here order d item rest h = ap (owns order) (row_here d item rest h) ∙ owns_row order d item rest h

-- rows found so far, and those that are to come
pub record SoFar (order : List ℕ) (d : ℕ) (items : List Item) (rows : List LevelRow) (tolds : List Told) (rest : List Item) : Type 0 where
  pub on_rows : map row_of (owns order (grown d items)) ≡ rows ++ map row_of (owns order (grown d rest))
  pub on_told : map told (owns order (grown d items)) ≡ tolds ++ map told (owns order (grown d rest))

pub so_far_begin : (order : List ℕ) (d : ℕ) (items : List Item) → SoFar order d items [] [] items
so_far_begin order d items = record { on_rows = refl; on_told = refl }

pub so_far_deeper : (order : List ℕ) (d : ℕ) (items : List Item) (rows : List LevelRow) (tolds : List Told) (item : Item) (rest : List Item) → d < item.depth
    → SoFar order d items rows tolds (item ∷ rest) → SoFar order d items rows tolds rest
so_far_deeper order d items rows tolds item rest h s = record {
  on_rows = s.on_rows ∙ ap (λ z. rows ++ map row_of (owns order z)) (grown_deeper d item rest h);
  on_told = s.on_told ∙ ap (λ z. tolds ++ map told (owns order z)) (grown_deeper d item rest h);
}

moved_row : {B : Type 0} → (xs ys : List B) (x : B) → xs ++ x ∷ ys ≡ (xs ++ x ∷ []) ++ ys
moved_row [] ys x = refl
moved_row (z ∷ xs) ys x = ap (λ w. z ∷ w) (moved_row xs ys x)

pub so_far_here : (order : List ℕ) (d : ℕ) (items : List Item) (rows : List LevelRow) (tolds : List Told) (item : Item) (rest : List Item) (row : LevelRow) (t : Told) → item.depth ≡ d
    → row ≡ row_of (own_of order item rest) → t ≡ told (own_of order item rest) → SoFar order d items rows tolds (item ∷ rest) → SoFar order d items (rows ++ row ∷ []) (tolds ++ t ∷ []) rest
so_far_here order d items rows tolds item rest row t h e f s = record {
  on_rows = s.on_rows ∙ ap (λ z. rows ++ map row_of z) (owns_here order d item rest h) ∙ ap (λ z. rows ++ z ∷ map row_of (owns order (grown d rest))) (sym e) ∙ moved_row rows (map row_of (owns order (grown d rest))) row;
  on_told = s.on_told ∙ ap (λ z. tolds ++ map told z) (owns_here order d item rest h) ∙ ap (λ z. tolds ++ z ∷ map told (owns order (grown d rest))) (sym f) ∙ moved_row tolds (map told (owns order (grown d rest))) t;
}

pub so_far_above : (order : List ℕ) (d : ℕ) (items : List Item) (rows : List LevelRow) (tolds : List Told) (rest : List Item) → grown d rest ≡ End → SoFar order d items rows tolds rest
    → (rows ≡ map row_of (owns order (grown d items))) × (tolds ≡ map told (owns order (grown d items)))
so_far_above order d items rows tolds rest h s =
    (sym (s.on_rows ∙ ap (λ z. rows ++ map row_of (owns order z)) h ∙ append-nil rows), sym (s.on_told ∙ ap (λ z. tolds ++ map told (owns order z)) h ∙ append-nil tolds))

pub told_at : (order : List ℕ) (items : List Item) (i : ℕ) (item : Item) (rest : List Item) (d : Told) → drop i items ≡ item ∷ rest → get_or (map told (all_owns order items)) i d ≡ told (own_of order item rest)
told_at order [] zero item rest d e = absurd (cc)
told_at order [] (suc i) item rest d e = absurd (cc)
told_at order (x ∷ xs) zero item rest d e = let h : x ≡ item = cc in let k : xs ≡ rest = cc in ap (λ z. told (own_of order z xs)) h ∙ ap (λ z. told (own_of order item z)) k
told_at order (x ∷ xs) (suc i) item rest d e = told_at order xs i item rest d e

pub dropped : (items : List Item) (i : ℕ) (item : Item) → i < length items → item ≡ get_or items i item → drop i items ≡ item ∷ drop (i + 1) items
dropped [] i item h e = absurd (omega arith)
dropped (x ∷ xs) zero item h e = ap (λ z. z ∷ xs) (sym e)
dropped (x ∷ xs) (suc i) item h e = let k : suc i + 1 ≡ suc (i + 1) = omega arith in dropped xs i item (omega arith) e ∙ ap (λ z. item ∷ drop z (x ∷ xs)) (sym k)

pub length_owns : (order : List ℕ) (items : List Item) → length (map told (all_owns order items)) ≡ length items
length_owns order [] = refl
length_owns order (x ∷ xs) = ap suc (length_owns order xs)

pub so_far_same : (order : List ℕ) (d : ℕ) (items : List Item) (rows more : List LevelRow) (tolds others : List Told) (rest : List Item) → more ≡ rows → others ≡ tolds
    → SoFar order d items rows tolds rest → SoFar order d items more others rest
so_far_same order d items rows more tolds others rest e f s = subst (λ z. SoFar order d items z others rest) (sym e) (subst (λ z. SoFar order d items rows z rest) (sym f) s)

pub told_here : (order : List ℕ) (items : List Item) (i : ℕ) (item : Item) (rest : List Item) (ts : List Told) (d : Told) → ts ≡ map told (all_owns order items) → drop i items ≡ item ∷ rest → get_or ts i d ≡ told (own_of order item rest)
told_here order items i item rest ts d e f = ap (λ z. get_or z i d) e ∙ told_at order items i item rest d f
