-- No name stands twice in a directory whose ids stand once: names by their numbers.
use Rattle.std.proofs.Common.{◌≡◌, ◌⊎◌, inl, inr, ℕ, zero, suc, ◌+◌, ◌-◌, ◌*◌, ◌^◌, ◌≤◌, List, Bool, true, false, ◌&&◌, cond, Option, Some, None, refl, subst, arith}
use Rattle.std.specs.Prelude.{◌==◌}
use Rattle.std.proofs.lemmas.Bool.{and_parts}
use Rattle.std.proofs.lemmas.Bool.Decides.{nat_tests}
use Rattle.std.proofs.lemmas.Nat.{pow_pos}
use Rattle.iris_name.specs.Hmac.{priority}
use Rattle.iris_name.specs.Names.{same_name}
use Rattle.iris_name.specs.declared.name.FileId.{FileId}
use Rattle.iris_name.specs.declared.name.Name.{Name}
use Rattle.iris_name.specs.declared.name.Name.TheVariants.{Entry, Part, Block}
use Rattle.iris_node.specs.Unfolded.{Unfolded, id_of}
use Rattle.iris_shape.specs.FoldLaws.{IsUnder}
use Rattle.iris_shape.specs.Folds.{Fold, One, Two, folded}
use Rattle.iris_shape.specs.Order.{beside}
use Rattle.iris_shape.specs.Treap.{Treap, Empty, Over, treap}
use Rattle.iris_shape.proofs.FoldProofs.{of_low, of_high}
use Rattle.iris_records.specs.Pieces.{IsHalved}
use Rattle.iris_rows.specs.Rows.{File, Rows, End, Row}
use Rattle.iris_shape.specs.Sides.{unfolded_side}
use Rattle.iris_records.specs.Shown.{Own, own_id, versions, entry_above, unfolded_entries, owns, directory}
use Rattle.iris_rows.specs.Sound.{times_given}
use Rattle.iris_records.proofs.BlockRecords.{folded_halved}
use Rattle.iris_table_laws.proofs.NestedNodes.{Nest, many, nest}
use Rattle.iris_table_laws.proofs.TreapRows.{sum_in, sum_row, sum_treap}

-- the number of the entry, or of the file, that a name speaks of
abbrev pub number : Name → ℕ
number (Entry i) = i.0
number (Part f l i) = f.0
number (Block f p) = f.0

-- parts of one fold

abbrev IsWithin : FileId → ℕ → ℕ → ℕ → ℕ → ℕ → Type 0
IsWithin f l i file level index = (f.0 ≡ file) × (l ≤ level) × IsUnder level index (i * 2 ^ l)

pub at_own : (l i : ℕ) → IsUnder l i (i * 2 ^ l)
at_own l i = record { from = omega arith; to = (let h = pow_pos l in omega (arith, h)) }

none_or : (m : ℕ) → (m ≡ 0) ⊎ (1 ≤ m)
none_or zero = inl refl
none_or (suc m) = inr (omega arith)

low_within : (f : FileId) (l i file level index : ℕ) → 1 ≤ level → IsWithin f l i file (level - 1) (2 * index) → IsWithin f l i file level index
low_within f l i file level index h w =
    let e : suc (level - 1) ≡ level = omega (arith, h) in let k = w.1 in (w.0, omega (arith, k), subst (λ z. IsUnder z index (i * 2 ^ l)) e (of_low (level - 1) index (i * 2 ^ l) w.2))

high_within : (f : FileId) (l i file level index : ℕ) → 1 ≤ level → IsWithin f l i file (level - 1) (2 * index + 1) → IsWithin f l i file level index
high_within f l i file level index h w =
    let e : suc (level - 1) ≡ level = omega (arith, h) in let k = w.1 in (w.0, omega (arith, k), subst (λ z. IsUnder z index (i * 2 ^ l)) e (of_high (level - 1) index (i * 2 ^ l) w.2))

apart : (level index p : ℕ) → IsUnder level (2 * index) p → IsUnder level (2 * index + 1) p → ⊥
apart level index p a b = let x = a.to in let y = b.from in omega (arith, x, y)

abbrev parts : FileId → ℕ → ℕ → ℕ → ℕ → ℕ → Fold → ℕ
parts f l i file level index x = many (Part f l i) (nest (unfolded_side file level index x))

once_by : (f : FileId) (l i file level index a b : ℕ) → 1 ≤ level → (a ≤ 1) × (1 ≤ a → IsWithin f l i file (level - 1) (2 * index)) → (b ≤ 1) × (1 ≤ b → IsWithin f l i file (level - 1) (2 * index + 1))
    → (c : Bool) → ((f.0 == file) && ((l == level) && (i == index))) ≡ c → (cond c 1 0 + (a + b) ≤ 1) × (1 ≤ cond c 1 0 + (a + b) → IsWithin f l i file level index)
once_by f l i file level index a b h x y true e =
    let p = and_parts (f.0 == file) ((l == level) && (i == index)) e in let q = and_parts (l == level) (i == index) p.1 in
    let s = p.0 in let t = q.0 in let u = q.1 in
    let ll : l ≡ level = grind (arith, nat_tests) in let ii : i ≡ index = grind (arith, nat_tests) in let ff : f.0 ≡ file = grind (arith, nat_tests) in
    let no : (m : ℕ) → (1 ≤ m → l ≤ level - 1) → m ≡ 0 = λ m g. elim (none_or m) [ inl z ↦ z | inr z ↦ (let k = g z in absurd (omega (arith, k, ll, h))) ] in
    let aa = no a (λ z. (x.1 z).1) in let bb = no b (λ z. (y.1 z).1) in
    (omega (arith, aa, bb), λ _. (ff, omega (arith, ll), subst (λ z. IsUnder z index (i * 2 ^ l)) ll (subst (λ z. IsUnder l z (i * 2 ^ l)) ii (at_own l i))))
once_by f l i file level index a b h x y false e = elim (none_or a) [
  | inl z ↦ (let k = y.0 in omega (arith, k, z), λ o. high_within f l i file level index h (y.1 (omega (arith, o, z))))
  | inr z ↦ elim (none_or b) [
    | inl w ↦ (let k = x.0 in omega (arith, k, w), λ o. low_within f l i file level index h (x.1 z))
    | inr w ↦ absurd (apart (level - 1) index (i * 2 ^ l) (x.1 z).2 (y.1 w).2)
  ]
]

parts_once : (f : FileId) (l i file level index : ℕ) (x : Fold) → IsHalved level x → (parts f l i file level index x ≤ 1) × (1 ≤ parts f l i file level index x → IsWithin f l i file level index)
parts_once f l i file level index (One v) h = (omega arith, λ o. absurd (omega (arith, o)))
parts_once f l i file level index (Two x y) h =
    once_by f l i file level index (parts f l i file (level - 1) (2 * index) x) (parts f l i file (level - 1) (2 * index + 1) y) h.0
    (parts_once f l i file (level - 1) (2 * index) x h.2) (parts_once f l i file (level - 1) (2 * index + 1) y h.3) (same_name (Part f l i) (Part (id_of file) level index)) refl

no_entry : (j : FileId) (file level index : ℕ) (x : Fold) → many (Entry j) (nest (unfolded_side file level index x)) ≡ 0
no_entry j file level index (One v) = refl
no_entry j file level index (Two x y) = let a = no_entry j file (level - 1) (2 * index) x in let b = no_entry j file (level - 1) (2 * index + 1) y in omega (arith, a, b)

no_block : (g : FileId) (p file level index : ℕ) (x : Fold) → many (Block g p) (nest (unfolded_side file level index x)) ≡ 0
no_block g p file level index (One v) = refl
no_block g p file level index (Two x y) = let a = no_block g p file (level - 1) (2 * index) x in let b = no_block g p file (level - 1) (2 * index + 1) y in omega (arith, a, b)

-- rows of a directory

abbrev pub inside_by : ℕ → Unfolded → Option File → Nest
inside_by id inside None = nest inside
inside_by id inside (Some f) = nest (versions id f)

-- what lies inside an entry
abbrev pub inside_own : Own → Nest
inside_own own = inside_by own.id own.inside own.file

abbrev weight : Name → Own → ℕ
weight n own = cond (same_name n (Entry (id_of own.id))) 1 0 + many n (inside_own own)

many_entry : (n : Name) (own : Own) (file : Option File) (less more : Unfolded)
    → many n (nest (entry_above own file less more)) ≡ cond (same_name n (Entry (id_of own.id))) 1 0 + (many n (nest less) + (many n (nest more) + many n (inside_by own.id own.inside file)))
many_entry n own None less more = refl
many_entry n own (Some f) less more = refl

many_treap : (n : Name) (t : Treap Own) → many n (nest (unfolded_entries t)) ≡ sum_in (weight n) t
many_treap n Empty = refl
many_treap n (Over o l m) =
    let e = many_entry n o o.file (unfolded_entries l) (unfolded_entries m) in let a = many_treap n l in let b = many_treap n m in omega (arith, e, a, b)

equal_one : (a b : ℕ) → a ≡ b → 1 ≤ cond (a == b) 1 0
equal_one a b e = by (a == b) refl where
  by : (c : Bool) → (a == b) ≡ c → 1 ≤ cond c 1 0
  by true g = omega arith
  by false g = absurd (grind (arith, nat_tests))

pub file_weight : (n : Name) (id : ℕ) (f : File) → cond (same_name n (Entry (id_of id))) 1 0 + many n (nest (versions id f)) ≤ cond (number n == id) 1 0
file_weight (Entry j) id f = let e = no_entry j id 16 0 (folded f.version 16 0) in omega (arith, e)
file_weight (Block g p) id f = let e = no_block g p id 16 0 (folded f.version 16 0) in omega (arith, e)
file_weight (Part g l i) id f = by (parts_once g l i id 16 0 (folded f.version 16 0) (folded_halved f.version 16)) where
  by : (parts g l i id 16 0 (folded f.version 16 0) ≤ 1) × (1 ≤ parts g l i id 16 0 (folded f.version 16 0) → IsWithin g l i id 16 0) → 0 + parts g l i id 16 0 (folded f.version 16 0) ≤ cond (g.0 == id) 1 0
  by h = elim (none_or (parts g l i id 16 0 (folded f.version 16 0))) [
    | inl z ↦ omega (arith, z)
    | inr z ↦ (let e : g.0 ≡ id = (h.1 z).0 in let k = h.0 in let o = equal_one g.0 id e in omega (arith, k, o))
  ]

dir_weight : (n : Name) (id : ℕ) → cond (same_name n (Entry (id_of id))) 1 0 ≤ cond (number n == id) 1 0
dir_weight (Entry j) id = omega arith
dir_weight (Part g l i) id = omega arith
dir_weight (Block g p) id = omega arith

many_owns : (order : List ℕ) (n : Name) (rows : Rows) → sum_row (weight n) (owns order rows) ≤ times_given (number n) rows
many_owns order n End = omega arith
many_owns order n (Row id name None inside next) =
    let e = many_treap n (treap (beside (priority order) own_id) (owns order inside)) in
    let s = sum_treap (weight n) (beside (priority order) own_id) (owns order inside) in
    let a = many_owns order n inside in let b = many_owns order n next in let c = dir_weight n id in omega (arith, e, s, a, b, c)
many_owns order n (Row id name (Some f) inside next) = let b = many_owns order n next in let c = file_weight n id f in omega (arith, b, c)

-- a name stands in a directory no more often than its number does among the rows
pub many_rows : (order : List ℕ) (n : Name) (rows : Rows) → many n (nest (directory order rows)) ≤ times_given (number n) rows
unfolding directory
many_rows order n rows =
    let e = many_treap n (treap (beside (priority order) own_id) (owns order rows)) in
    let s = sum_treap (weight n) (beside (priority order) own_id) (owns order rows) in
    let a = many_owns order n rows in omega (arith, e, s, a)
