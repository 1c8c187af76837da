-- The treap of a level's rows is that of the directory's entries.
use Rattle.std.proofs.Common.{◌≡◌, ℕ, zero, suc, ◌+◌, ◌≤◌, ◌<◌, List, [], ◌∷◌, ◌++◌, map, length, Bool, true, false, cond, refl, sym, ◌∙◌, ap, subst, arith}
use Rattle.std.specs.Prelude.{◌==◌}
use Rattle.std.specs.Ordering.{nat_cmp, is_lt}
use Rattle.std.proofs.lemmas.Cmp.{same_from_slice_cmp}
use Rattle.std.specs.Cmp.Lexicographic.{slice_cmp}
use Rattle.std.proofs.lemmas.Bool.Decides.{nat_tests}
use Rattle.iris_name.specs.Hmac.{priority}
use Rattle.iris_plain.specs.Routes.{is_name_before}
use Rattle.iris_plain.proofs.PageLaws.{before_trans}
use Rattle.iris_shape.specs.Order.{beside, beats, less_name}
use Rattle.iris_shape.specs.Rows.{DistinctIds, id_at, name_at, in_order, has_priority_over, treap_of}
use Rattle.iris_shape.specs.Shaped.{made_treap}
use Rattle.iris_shape.specs.Treap.{Treap, Empty, Over, with_first, treap, rows_with, keep, skip}
use Rattle.iris_shape.specs.declared.heaping.Shape.{Shape}
use Rattle.iris_shape.specs.declared.rows.Row.{Row as LevelRow}
use Rattle.iris_shape.proofs.Orderly.{in_order-none}
use Rattle.iris_rows.specs.Rows.{Rows, End, Row}
use Rattle.iris_records.specs.Shown.{Own, own_id, entry_above, unfolded_entries, owns, directory}
use Rattle.iris_rows.specs.Sound.{times_given, PrecedesFirst}
use Rattle.iris_records.specs.Unmade.{unmade_treap}
use Rattle.iris_records.specs.Walks.{row_of, own_at, placed, ArePlacesOf, IsRising}
use Rattle.iris_records.proofs.FoldsAndShapes.{unmade_made_treap}

-- the rows of a directory on their own
abbrev pub own_rows : List ℕ → Rows → List LevelRow
own_rows order rows = map row_of (owns order rows)

-- ids stand once

standing : (order : List ℕ) (rows : Rows) (j : ℕ) → j < length (own_rows order rows) → 1 ≤ times_given (id_at (own_rows order rows) j) rows
standing order End j h = absurd (omega arith)
standing order (Row id name file inside next) zero h = grind (arith, nat_tests)
standing order (Row id name file inside next) (suc j) h = let k = standing order next j (omega arith) in omega (arith, k)

pub distinct_rows : (order : List ℕ) (rows : Rows) → ((i : ℕ) → times_given i rows ≤ 1) → DistinctIds (own_rows order rows)
distinct_rows order End o i j h k = absurd (omega arith)
distinct_rows order (Row id name file inside next) o i zero h k = absurd (omega arith)
distinct_rows order (Row id name file inside next) o zero (suc j) h k =
    let s = standing order next j (omega arith) in let t = o id in
    λ e. twice s t e where
      twice : 1 ≤ times_given (id_at (own_rows order next) j) next → cond (id == id) 1 0 + (times_given id inside + times_given id next) ≤ 1 → id ≡ id_at (own_rows order next) j → ⊥
      twice s t e = let u : 1 ≤ times_given id next = subst (λ z. 1 ≤ times_given z next) (sym e) s in let v : 1 ≤ cond (id == id) 1 0 = grind (arith, nat_tests) in omega (arith, t, u, v)
distinct_rows order (Row id name file inside next) o (suc i) (suc j) h k = distinct_rows order next (λ m. (let t = o m in omega (arith, t))) i j (omega arith) (omega arith)

-- names rise

pub less_before : (a b : List ℕ) → is_name_before a b ≡ less_name a b
less_before a b = same_from_slice_cmp nat_cmp is_lt less_name refl (λ _ _. refl) (λ _ _. refl) (λ x y xs ys o h. grind (arith, nat_tests)) a b (slice_cmp nat_cmp a b) refl

above_all : (order : List ℕ) (a : List ℕ) (rows : Rows) (j : ℕ) → PrecedesFirst a rows → IsRising rows → j < length (own_rows order rows) → is_name_before a (name_at (own_rows order rows) j) ≡ true
above_all order a End j h r l = absurd (omega arith)
above_all order a (Row id name file inside next) zero h r l = h
above_all order a (Row id name file inside next) (suc j) h r l = before_trans a name (name_at (own_rows order next) j) h (above_all order name next j r.0 r.1 (omega arith))

rising_names : (order : List ℕ) (rows : Rows) (i j : ℕ) → IsRising rows → i < j → j < length (own_rows order rows) → less_name (name_at (own_rows order rows) i) (name_at (own_rows order rows) j) ≡ true
rising_names order End i j r h l = absurd (omega arith)
rising_names order (Row id name file inside next) i zero r h l = absurd (omega arith)
rising_names order (Row id name file inside next) zero (suc j) r h l = sym (less_before name (name_at (own_rows order next) j)) ∙ above_all order name next j r.0 r.1 (omega arith)
rising_names order (Row id name file inside next) (suc i) (suc j) r h l = rising_names order next i j r.1 (omega arith) (omega arith)

-- the numbers below one
abbrev upto : ℕ → List ℕ
upto zero = []
upto (suc n) = upto n ++ n ∷ []

abbrev AllBelow : ℕ → List ℕ → Type 0
AllBelow n [] = Unit {0}
AllBelow n (k ∷ ks) = (k < n) × AllBelow n ks

below_more : (n m : ℕ) (ks : List ℕ) → n ≤ m → AllBelow n ks → AllBelow m ks
below_more n m [] h b = tt
below_more n m (k ∷ ks) h b = let l = b.0 in (omega (arith, l), below_more n m ks h b.1)

below_append : (n : ℕ) (ks ms : List ℕ) → AllBelow n ks → AllBelow n ms → AllBelow n (ks ++ ms)
below_append n [] ms b d = d
below_append n (k ∷ ks) ms b d = (b.0, below_append n ks ms b.1 d)

upto_below : (n : ℕ) → AllBelow n (upto n)
upto_below zero = tt
upto_below (suc n) = below_append (suc n) (upto n) (n ∷ []) (below_more n (suc n) (upto n) (omega arith) (upto_below n)) (omega arith, tt)

keep_all : (p : ℕ → Bool) (n : ℕ) (ks : List ℕ) → ((j : ℕ) → j < n → p j ≡ true) → AllBelow n ks → rows_with p n ks ≡ ks ++ n ∷ []
keep_all p n [] h b = refl
keep_all p n (k ∷ ks) h b = by (p k) (h k b.0) (keep_all p n ks h b.1) where
  by : (c : Bool) → c ≡ true → rows_with p n ks ≡ ks ++ n ∷ [] → cond c (k ∷ keep p ks) [] ++ n ∷ cond c (skip p ks) (k ∷ ks) ≡ k ∷ (ks ++ n ∷ [])
  by true e f = ap (λ z. k ∷ z) f
  by false e f = absurd (cc)

in_order_suc : (rows : List LevelRow) (n : ℕ) → in_order rows (suc n) ≡ rows_with (λ j. less_name (name_at rows j) (name_at rows n)) n (in_order rows n)
unfolding in_order
in_order_suc rows n = refl

in_order_upto : (rows : List LevelRow) (n : ℕ) → ((i j : ℕ) → i < j → j < n → less_name (name_at rows i) (name_at rows j) ≡ true) → in_order rows n ≡ upto n
in_order_upto rows zero h = in_order-none rows
in_order_upto rows (suc n) h =
    in_order_suc rows n ∙ ap (rows_with (λ j. less_name (name_at rows j) (name_at rows n)) n) (in_order_upto rows n (λ i j k l. h i j k (omega arith)))
    ∙ keep_all (λ j. less_name (name_at rows j) (name_at rows n)) n (upto n) (λ j k. h j n k (omega arith)) (upto_below n)

-- a treap of places as one of what stands at them

abbrev mapped : (ℕ → Own) → Treap ℕ → Treap Own
mapped f Empty = Empty
mapped f (Over x l m) = Over (f x) (mapped f l) (mapped f m)

placed_entries : (os : List Own) (t : Treap ℕ) → placed os t ≡ unfolded_entries (mapped (own_at os) t)
placed_entries os Empty = refl
placed_entries os (Over x l m) =
    ap (λ z. entry_above (own_at os x) (own_at os x).file z (placed os m)) (placed_entries os l) ∙ ap (λ z. entry_above (own_at os x) (own_at os x).file (unfolded_entries (mapped (own_at os) l)) z) (placed_entries os m)

mapped_first : (up : ℕ → ℕ → Bool) (to : Own → Own → Bool) (f : ℕ → Own) → ((x y : ℕ) → up x y ≡ to (f x) (f y)) → (x : ℕ) (t : Treap ℕ) → mapped f (with_first up x t) ≡ with_first to (f x) (mapped f t)
mapped_first up to f h x Empty = refl
mapped_first up to f h x (Over y l m) = by (up x y) (to (f x) (f y)) (h x y) (mapped_first up to f h x l) where
  by : (a b : Bool) → a ≡ b → mapped f (with_first up x l) ≡ with_first to (f x) (mapped f l)
      → mapped f (cond a (Over x Empty (Over y l m)) (Over y (with_first up x l) m)) ≡ cond b (Over (f x) Empty (Over (f y) (mapped f l) (mapped f m))) (Over (f y) (with_first to (f x) (mapped f l)) (mapped f m))
  by true true e k = refl
  by true false e k = absurd (cc)
  by false true e k = absurd (cc)
  by false false e k = ap (λ z. Over (f y) z (mapped f m)) k

mapped_treap : (up : ℕ → ℕ → Bool) (to : Own → Own → Bool) (f : ℕ → Own) → ((x y : ℕ) → up x y ≡ to (f x) (f y)) → (xs : List ℕ) → mapped f (treap up xs) ≡ treap to (map f xs)
mapped_treap up to f h [] = refl
mapped_treap up to f h (x ∷ xs) = mapped_first up to f h x (treap up xs) ∙ ap (with_first to (f x)) (mapped_treap up to f h xs)

id_same : (os : List Own) (k : ℕ) → id_at (map row_of os) k ≡ own_id (own_at os k)
id_same [] k = refl
id_same (o ∷ os) zero = refl
id_same (o ∷ os) (suc k) = id_same os k

-- the front of a list, place by place
abbrev front : ℕ → List Own → List Own
front n [] = []
front zero (o ∷ os) = []
front (suc n) (o ∷ os) = o ∷ front n os

front_next : (n : ℕ) (os : List Own) → n < length os → front n os ++ own_at os n ∷ [] ≡ front (suc n) os
front_next n [] h = absurd (omega arith)
front_next zero (o ∷ []) h = refl
front_next zero (o ∷ p ∷ os) h = refl
front_next (suc n) (o ∷ os) h = ap (λ z. o ∷ z) (front_next n os (omega arith))

front_all : (os : List Own) → front (length os) os ≡ os
front_all [] = refl
front_all (o ∷ os) = ap (λ z. o ∷ z) (front_all os)

front_none : (os : List Own) → front 0 os ≡ []
front_none [] = refl
front_none (o ∷ os) = refl

map_push : (f : ℕ → Own) (ks : List ℕ) (k : ℕ) → map f (ks ++ k ∷ []) ≡ map f ks ++ f k ∷ []
map_push f [] k = refl
map_push f (j ∷ ks) k = ap (λ z. f j ∷ z) (map_push f ks k)

map_upto : (os : List Own) (n : ℕ) → n ≤ length os → map (own_at os) (upto n) ≡ front n os
map_upto os zero h = sym (front_none os)
map_upto os (suc n) h = map_push (own_at os) (upto n) n ∙ ap (λ z. z ++ own_at os n ∷ []) (map_upto os n (omega arith)) ∙ front_next n os (omega arith)

length_same : (os : List Own) → length (map row_of os) ≡ length os
length_same [] = refl
length_same (o ∷ os) = ap suc (length_same os)

places_first : (up : ℕ → ℕ → Bool) (n x : ℕ) (t : Treap ℕ) → x < n → ArePlacesOf n t → ArePlacesOf n (with_first up x t)
places_first up n x Empty h p = (h, tt, tt)
places_first up n x (Over y l m) h p = by (up x y) (places_first up n x l h p.1) where
  by : (c : Bool) → ArePlacesOf n (with_first up x l) → ArePlacesOf n (cond c (Over x Empty (Over y l m)) (Over y (with_first up x l) m))
  by true k = (h, tt, p)
  by false k = (p.0, k, p.2)

places_treap : (up : ℕ → ℕ → Bool) (n : ℕ) (ks : List ℕ) → AllBelow n ks → ArePlacesOf n (treap up ks)
places_treap up n [] b = tt
places_treap up n (k ∷ ks) b = places_first up n k (treap up ks) b.0 (places_treap up n ks b.1)

treap_is : (order : List ℕ) (rows : Rows) → IsRising rows → treap_of order (own_rows order rows) ≡ treap (has_priority_over order (own_rows order rows)) (upto (length (own_rows order rows)))
treap_is order rows r = ap (treap (has_priority_over order (own_rows order rows))) (in_order_upto (own_rows order rows) (length (own_rows order rows)) (λ i j h l. rising_names order rows i j r h l))

pub places_are : (order : List ℕ) (rows : Rows) (x : Shape) (n : ℕ) → IsRising rows → n ≡ length (own_rows order rows) → x ≡ made_treap (treap_of order (own_rows order rows)) → ArePlacesOf n (unmade_treap x)
places_are order rows x n r l e =
    subst (ArePlacesOf n) (sym (ap unmade_treap e ∙ unmade_made_treap (treap_of order (own_rows order rows)) ∙ treap_is order rows r))
    (subst (λ z. ArePlacesOf z (treap (has_priority_over order (own_rows order rows)) (upto (length (own_rows order rows))))) (sym l) (places_treap (has_priority_over order (own_rows order rows)) (length (own_rows order rows)) (upto (length (own_rows order rows))) (upto_below (length (own_rows order rows)))))

pub directory_is : (order : List ℕ) (rows : Rows) (x : Shape) → IsRising rows → x ≡ made_treap (treap_of order (own_rows order rows)) → placed (owns order rows) (unmade_treap x) ≡ directory order rows
unfolding directory
directory_is order rows x r e =
    ap (placed (owns order rows)) (ap unmade_treap e ∙ unmade_made_treap (treap_of order (own_rows order rows)) ∙ treap_is order rows r)
    ∙ placed_entries (owns order rows) (treap (has_priority_over order (own_rows order rows)) (upto (length (own_rows order rows))))
    ∙ ap unfolded_entries (mapped_treap (has_priority_over order (own_rows order rows)) (beside (priority order) own_id) (own_at (owns order rows)) same (upto (length (own_rows order rows))))
    ∙ ap (λ z. unfolded_entries (treap (beside (priority order) own_id) z)) listed where
      same : (x y : ℕ) → has_priority_over order (own_rows order rows) x y ≡ beside (priority order) own_id (own_at (owns order rows) x) (own_at (owns order rows) y)
      same x y = ap (λ z. beats (priority order) z (id_at (own_rows order rows) y)) (id_same (owns order rows) x) ∙ ap (beats (priority order) (own_id (own_at (owns order rows) x))) (id_same (owns order rows) y)

      listed : map (own_at (owns order rows)) (upto (length (own_rows order rows))) ≡ owns order rows
      listed = ap (λ n. map (own_at (owns order rows)) (upto n)) (length_same (owns order rows)) ∙ map_upto (owns order rows) (length (owns order rows)) (omega arith) ∙ front_all (owns order rows)
