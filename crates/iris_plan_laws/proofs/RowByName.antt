-- A row by its name: where it stands, and the rows without it, in both words.
use Rattle.std.proofs.Common.{◌≡◌, ◌≢◌, ◌⊎◌, inl, inr, ℕ, ◌≤◌, List, [], ◌∷◌, Bool, true, false, not, ◌&&◌, ◌||◌, cond, Option, Some, None, refl, sym, ◌∙◌, ap, subst, arith}
use Rattle.std.specs.Prelude.{◌==◌}
use Rattle.std.specs.Str.{bytes_eq}
use Rattle.std.proofs.lemmas.Bool.{eqb-true, eq-eqb, or_left, or_right, or_from, or_parts, or_cases}
use Rattle.iris_plain.specs.Routes.{is_name_before as name_before}
use Rattle.iris_shape.specs.Order.{less_name}
use Rattle.iris_shape.specs.Treap.{rows_without as tree_without}
use Rattle.iris_shape.proofs.Orders.{less_not, less_total}
use Rattle.iris_treepaths.specs.Rows.{has_id}
use Rattle.iris_treepaths.specs.Ways.{Any, has_name}
use Rattle.iris_rows.specs.Rows.{File, Rows, End, Row, Taken, find, with_row, without_row}
use Rattle.iris_rows.specs.Sound.{times_given, PrecedesFirst}
use Rattle.iris_records.specs.Walks.{IsRising}
use Rattle.iris_records.proofs.TreapOfRows.{less_before}
use Rattle.iris_rows.proofs.RowsByName.{same_tells}
use Rattle.iris_forest.specs.Places.{rows_of, DirectoryIn}
use Rattle.iris_forest.proofs.Ids.{other_id, turned}
use Rattle.iris_forest.proofs.RowsOfDirectory.{tops, insides, times_parts, above_through}
use Rattle.iris_plan_laws.specs.Takes.{tree_row}

-- ---- where a row stands

abbrev pub RowAt : ℕ → Option File → Rows → Rows → Type 0
RowAt k kind ins End = ⊥
RowAt k kind ins (Row id name file inside next) = ((k ≡ id) × (kind ≡ file) × (ins ≡ inside)) ⊎ (((file ≡ None) × RowAt k kind ins inside) ⊎ RowAt k kind ins next)

abbrev pub alone : ℕ → Option File → Rows → Rows
alone k kind ins = Row k [] kind ins End

pub row_times : (j k : ℕ) (kind : Option File) (ins rows : Rows) → RowAt k kind ins rows → times_given j (alone k kind ins) ≤ times_given j rows
row_times j k kind ins End h = absurd h
row_times j k kind ins (Row id name file inside next) h = elim h [
  | inl a ↦ (let x : cond (j == k) 1 0 ≡ cond (j == id) 1 0 = ap (λ (z : ℕ). let q : ℕ = cond (j == z) 1 0 in q) a.0 in let y = ap (times_given j) a.2 in omega (arith, x, y))
  | inr r ↦ elim r [
    | inl a ↦ (let o = row_times j k kind ins inside a.1 in omega (arith, o))
    | inr a ↦ (let o = row_times j k kind ins next a in omega (arith, o))
  ]
]

pub row_insides : (j k : ℕ) (kind : Option File) (ins rows : Rows) → RowAt k kind ins rows → times_given j ins ≤ insides j rows
row_insides j k kind ins End h = absurd h
row_insides j k kind ins (Row id name file inside next) h = elim h [
  | inl a ↦ (let y = ap (times_given j) a.2 in omega (arith, y))
  | inr r ↦ elim r [
    | inl a ↦ (let o = row_insides j k kind ins inside a.1 in let p = times_parts j inside in omega (arith, o, p))
    | inr a ↦ (let o = row_insides j k kind ins next a in omega (arith, o))
  ]
]

pub find_row : (n : List ℕ) (rows : Rows) (x : Taken) → find n rows ≡ Some x → RowAt x.id x.file x.inside rows
find_row n End x e = absurd (cc)
find_row n (Row id name file inside next) x e = by (bytes_eq n name) e (λ h. find_row n next x h) where
  by : (b : Bool) → cond b (Some (record { id = id; file = file; inside = inside })) (find n next) ≡ Some x → (find n next ≡ Some x → RowAt x.id x.file x.inside next) → RowAt x.id x.file x.inside (Row id name file inside next)
  by true e ih = let q : x ≡ record { id = id; file = file; inside = inside } = sym (let h : record { id = id; file = file; inside = inside } ≡ x = cc in h) in inl (ap (λ (z : Taken). z.id) q, ap (λ (z : Taken). z.file) q, ap (λ (z : Taken). z.inside) q)
  by false e ih = inr (inr (ih e))

pub row_through : (i : ℕ) (inner rows : Rows) (k : ℕ) (kind : Option File) (ins : Rows) → DirectoryIn i inner rows → RowAt k kind ins inner → RowAt k kind ins rows
row_through i inner End k kind ins h g = absurd h
row_through i inner (Row id name None inside next) k kind ins h g = elim h [
  | inl a ↦ inr (inl (refl, subst (RowAt k kind ins) a.1 g))
  | inr r ↦ elim r [ inl a ↦ inr (inl (refl, row_through i inner inside k kind ins a g)) | inr a ↦ inr (inr (row_through i inner next k kind ins a g)) ]
]
row_through i inner (Row id name (Some f) inside next) k kind ins h g = inr (inr (row_through i inner next k kind ins h g))

pub put_row : (n : List ℕ) (x : Taken) (rows : Rows) → RowAt x.id x.file x.inside (with_row n x rows)
put_row n x End = inl (refl, refl, refl)
put_row n x (Row id name file inside next) = by (name_before n name) (put_row n x next) where
  by : (b : Bool) → RowAt x.id x.file x.inside (with_row n x next) → RowAt x.id x.file x.inside (cond b (Row x.id n x.file x.inside (Row id name file inside next)) (Row id name file inside (with_row n x next)))
  by true ih = inl (refl, refl, refl)
  by false ih = inr (inr ih)

pub tops_has : (order : List ℕ) (j : ℕ) (rows : Rows) → tops j rows ≤ 0 → has_id j (rows_of order rows) ≡ false
tops_has order j End z = refl
tops_has order j (Row id name file inside next) z = or_from (id == j) (has_id j (rows_of order next)) (turned j id (other_id j id (omega (arith, z)))) (tops_has order j next (omega (arith, z)))

-- ---- the rows without one, in both words

and_false : (x : Bool) → (x && false) ≡ false
and_false true = refl
and_false false = refl

named_same : (n name : List ℕ) → (not (less_name name n) && not (less_name n name)) ≡ bytes_eq n name
named_same n name = elim (same_tells n name) [
  | inl a ↦ subst (λ z. (not (less_name z n) && not (less_name n z)) ≡ bytes_eq n name) a.1 (ap (λ b. not b && not b) (less_not n) ∙ sym a.0)
  | inr a ↦ by (less_name n name) refl a
] where
  by : (b : Bool) → less_name n name ≡ b → (bytes_eq n name ≡ false) × (n ≢ name) → (not (less_name name n) && not b) ≡ bytes_eq n name
  by true e a = and_false (not (less_name name n)) ∙ sym a.0
  by false e a = ap (λ b. not b && true) (less_total n name a.1 e) ∙ sym a.0

off_named : (order n : List ℕ) (rows : Rows) → find n rows ≡ None → tree_without (has_name n) (rows_of order rows) ≡ rows_of order rows
off_named order n End e = refl
off_named order n (Row id name file inside next) e = by (bytes_eq n name) refl e (λ h. off_named order n next h) where
  by : (b : Bool) → bytes_eq n name ≡ b → cond b (Some (record { id = id; file = file; inside = inside })) (find n next) ≡ None → (find n next ≡ None → tree_without (has_name n) (rows_of order next) ≡ rows_of order next)
      → tree_without (has_name n) (rows_of order (Row id name file inside next)) ≡ rows_of order (Row id name file inside next)
  by true f e ih = absurd (cc)
  by false f e ih =
      ap (λ b. cond b (tree_without (has_name n) (rows_of order next)) (tree_row order name (record { id = id; file = file; inside = inside }) ∷ tree_without (has_name n) (rows_of order next))) (named_same n name ∙ f) ∙ ap (λ z. tree_row order name (record { id = id; file = file; inside = inside }) ∷ z) (ih e)

above_none : (n : List ℕ) (rows : Rows) → PrecedesFirst n rows → IsRising rows → find n rows ≡ None
above_none n End h r = refl
above_none n (Row id name file inside next) h r = by (bytes_eq n name) (same_tells n name) (above_none n next (above_through n name next h r.0) r.1) where
  by : (b : Bool) → ((b ≡ true) × (n ≡ name)) ⊎ ((b ≡ false) × (n ≢ name)) → find n next ≡ None → cond b (Some (record { id = id; file = file; inside = inside })) (find n next) ≡ None
  by true s rest = elim s [ inl a ↦ absurd (let x : less_name n n ≡ true = ap (less_name n) a.1 ∙ sym (less_before n name) ∙ h in let y = less_not n in cc) | inr a ↦ absurd (let z = a.0 in cc) ]
  by false s rest = rest

pub rows_of_without : (order n : List ℕ) (rows : Rows) → IsRising rows → rows_of order (without_row n rows) ≡ tree_without (has_name n) (rows_of order rows)
rows_of_without order n End r = refl
rows_of_without order n (Row id name file inside next) r = by (bytes_eq n name) refl (same_tells n name) (rows_of_without order n next r.1) where
  back : (b : Bool) → bytes_eq n name ≡ b → cond b (tree_without (has_name n) (rows_of order next)) (tree_row order name (record { id = id; file = file; inside = inside }) ∷ tree_without (has_name n) (rows_of order next)) ≡ tree_without (has_name n) (rows_of order (Row id name file inside next))
  back b e = ap (λ b. cond b (tree_without (has_name n) (rows_of order next)) (tree_row order name (record { id = id; file = file; inside = inside }) ∷ tree_without (has_name n) (rows_of order next))) (sym (named_same n name ∙ e))

  by : (b : Bool) → bytes_eq n name ≡ b → ((b ≡ true) × (n ≡ name)) ⊎ ((b ≡ false) × (n ≢ name)) → rows_of order (without_row n next) ≡ tree_without (has_name n) (rows_of order next)
      → rows_of order (cond b next (Row id name file inside (without_row n next))) ≡ tree_without (has_name n) (rows_of order (Row id name file inside next))
  by true e s ih = elim s [
    | inl a ↦ sym (off_named order n next (subst (λ z. find z next ≡ None) (sym a.1) (above_none name next r.0 r.1))) ∙ back true e
    | inr a ↦ absurd (let z = a.0 in cc)
  ]
  by false e s ih = ap (λ z. tree_row order name (record { id = id; file = file; inside = inside }) ∷ z) ih ∙ back false e

-- the row that went is the one of the name
pub went : (order : List ℕ) (n : List ℕ) (j : ℕ) (rows : Rows) (x : Taken) → find n rows ≡ Some x → has_id j (rows_of order rows) ≡ true → has_id j (rows_of order (without_row n rows)) ≡ false → j ≡ x.id
went order n j End x e a b = absurd (cc)
went order n j (Row id name file inside next) x e a b = by (bytes_eq n name) e b (λ h g. went order n j next x h g) (or_cases (id == j) (has_id j (rows_of order next)) a) where
  by : (c : Bool) → cond c (Some (record { id = id; file = file; inside = inside })) (find n next) ≡ Some x → has_id j (rows_of order (cond c next (Row id name file inside (without_row n next)))) ≡ false
      → (find n next ≡ Some x → has_id j (rows_of order next) ≡ true → has_id j (rows_of order (without_row n next)) ≡ false → j ≡ x.id) → (((id == j) ≡ true) ⊎ (has_id j (rows_of order next) ≡ true)) → j ≡ x.id
  by true e b ih h = elim h [
    | inl g ↦ (let q : id ≡ x.id = (let w : record { id = id; file = file; inside = inside } ≡ x = cc in ap (λ (z : Taken). z.id) w) in sym (eqb-true id j g) ∙ q)
    | inr g ↦ absurd (cc)
  ]
  by false e b ih h = let p = or_parts (id == j) (has_id j (rows_of order (without_row n next))) b in elim h [ inl g ↦ absurd (let y = p.0 in cc) | inr g ↦ ih e g p.1 ]

pub any_found : (order n : List ℕ) (rows : Rows) (x : Taken) → find n rows ≡ Some x → Any (λ r. r ≡ tree_row order n x) (rows_of order rows)
any_found order n End x e = absurd (cc)
any_found order n (Row id name file inside next) x e = by (bytes_eq n name) e (same_tells n name) (λ h. any_found order n next x h) where
  by : (b : Bool) → cond b (Some (record { id = id; file = file; inside = inside })) (find n next) ≡ Some x → ((b ≡ true) × (n ≡ name)) ⊎ ((b ≡ false) × (n ≢ name))
      → (find n next ≡ Some x → Any (λ r. r ≡ tree_row order n x) (rows_of order next)) → Any (λ r. r ≡ tree_row order n x) (rows_of order (Row id name file inside next))
  by true e s ih = elim s [
    | inl a ↦ (let q : record { id = id; file = file; inside = inside } ≡ x = cc in
        inl (ap (λ (z : Taken). tree_row order name z) q ∙ ap (λ z. tree_row order z x) (sym a.1)))
    | inr a ↦ absurd (let z = a.0 in cc)
  ]
  by false e s ih = inr (ih e)

-- the row that is found, or put in, is one of the rows
pub found_has : (order n : List ℕ) (rows : Rows) (x : Taken) → find n rows ≡ Some x → has_id x.id (rows_of order rows) ≡ true
found_has order n End x e = absurd (cc)
found_has order n (Row id name file inside next) x e = by (bytes_eq n name) e (λ h. found_has order n next x h) where
  by : (b : Bool) → cond b (Some (record { id = id; file = file; inside = inside })) (find n next) ≡ Some x → (find n next ≡ Some x → has_id x.id (rows_of order next) ≡ true) → ((id == x.id) || has_id x.id (rows_of order next)) ≡ true
  by true e ih = let q : record { id = id; file = file; inside = inside } ≡ x = cc in or_left (id == x.id) (has_id x.id (rows_of order next)) (eq-eqb id x.id (ap (λ (z : Taken). z.id) q))
  by false e ih = or_right (id == x.id) (has_id x.id (rows_of order next)) (ih e)

pub put_has : (order n : List ℕ) (x : Taken) (rows : Rows) → has_id x.id (rows_of order (with_row n x rows)) ≡ true
put_has order n x End = or_left (x.id == x.id) false (eq-eqb x.id x.id refl)
put_has order n x (Row id name file inside next) = by (name_before n name) (put_has order n x next) where
  by : (b : Bool) → has_id x.id (rows_of order (with_row n x next)) ≡ true → has_id x.id (rows_of order (cond b (Row x.id n x.file x.inside (Row id name file inside next)) (Row id name file inside (with_row n x next)))) ≡ true
  by true ih = or_left (x.id == x.id) _ (eq-eqb x.id x.id refl)
  by false ih = or_right (id == x.id) (has_id x.id (rows_of order (with_row n x next))) ih
