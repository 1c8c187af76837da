-- The places of a file, one change after another.
use Rattle.std.proofs.Common.{◌≡◌, ◌≢◌, ◌⊎◌, inl, inr, ℕ, zero, suc, ◌+◌, ◌-◌, ◌<◌, ◌≤◌, ◌==◌, ◌&&◌, List, [], ◌∷◌, ◌++◌, length, get_or, set, take, drop, Bool, true, false, cond, Option, Some, None, refl, sym, ◌∙◌, ap, subst, arith, length-append, length-set, append_assoc, append-nil}
use Rattle.std.proofs.Math.Seq.{take-append_seam}
use Rattle.std.specs.List.{list_all}
use Rattle.std.proofs.lemmas.Option.{slice_get_past, slice_get-get_or}
use Rattle.std.proofs.lemmas.Bool.Decides.{nat_tests}
use Rattle.std.specs.Prelude.{nat_lt, nat_le, min, replicate, slice_get}
use Rattle.iris_rows.specs.declared.places.Place.{Place}
use Rattle.iris_rows.specs.Rows.{zeros}
use Rattle.iris_rows.specs.Sound.{ArePages}
use Rattle.iris_rows.specs.View.{joined}
use Rattle.iris_rows.specs.FileChanges.{count_written}
use Rattle.iris_rows.specs.Places.{IsPaged, IsPlace, ArePlaces, place_version, page_block, block_of, version_at, block_at, hole, paged, put_pages}
use Rattle.iris_rows.proofs.ResizedContent.{length-zeros}
use Rattle.iris_rows.proofs.WrittenContent.{less_or}

pub slice_get-set_same : (xs : List Place) (i : ℕ) (y : Place) → i < length xs → slice_get (set xs i y) i ≡ Some y
slice_get-set_same [] i y h = absurd (omega arith)
slice_get-set_same (x ∷ xs) zero y h = refl
slice_get-set_same (x ∷ xs) (suc i) y h = slice_get-set_same xs i y (omega arith)

pub slice_get-set_other : (xs : List Place) (i j : ℕ) (y : Place) → j ≢ i → slice_get (set xs i y) j ≡ slice_get xs j
slice_get-set_other [] i j y h = refl
slice_get-set_other (x ∷ xs) zero zero y h = absurd (h refl)
slice_get-set_other (x ∷ xs) zero (suc j) y h = refl
slice_get-set_other (x ∷ xs) (suc i) zero y h = refl
slice_get-set_other (x ∷ xs) (suc i) (suc j) y h = slice_get-set_other xs i j y (λ e. h (ap suc e))

pub slice_get-take : {X : Type 0} (n : ℕ) (xs : List X) (p : ℕ) → p < n → slice_get (take n xs) p ≡ slice_get xs p
slice_get-take zero xs p h = absurd (omega arith)
slice_get-take (suc n) [] p h = refl
slice_get-take (suc n) (x ∷ xs) zero h = refl
slice_get-take (suc n) (x ∷ xs) (suc p) h = slice_get-take n xs p (omega arith)

pub slice_get-last : {X : Type 0} (xs : List X) (y : X) → slice_get (xs ++ y ∷ []) (length xs) ≡ Some y
slice_get-last [] y = refl
slice_get-last (x ∷ xs) y = slice_get-last xs y

-- holes at the end change nothing that a file shows
pub get-holes : (n p : ℕ) → (slice_get (replicate n hole) p ≡ Some hole) ⊎ (slice_get (replicate n hole) p ≡ None)
get-holes zero p = inr refl
get-holes (suc n) zero = inl refl
get-holes (suc n) (suc p) = get-holes n p

pub version-holes : (xs : List Place) (n p : ℕ) → version_at (xs ++ replicate n hole) p ≡ version_at xs p
version-holes [] n p = elim (get-holes n p) [ inl e ↦ ap place_version e | inr e ↦ ap place_version e ]
version-holes (x ∷ xs) n zero = refl
version-holes (x ∷ xs) n (suc p) = version-holes xs n p

pub block-holes : (xs : List Place) (n p : ℕ) → block_at (xs ++ replicate n hole) p ≡ block_at xs p
block-holes [] n p = elim (get-holes n p) [ inl e ↦ ap block_of e | inr e ↦ ap block_of e ]
block-holes (x ∷ xs) n zero = refl
block-holes (x ∷ xs) n (suc p) = block-holes xs n p

pub places-holes : (xs : List Place) (n : ℕ) → ArePlaces xs → ArePlaces (xs ++ replicate n hole)
places-holes [] n h p = elim (get-holes n p) [ inl e ↦ subst IsPlace (sym e) refl | inr e ↦ subst IsPlace (sym e) tt ]
places-holes (x ∷ xs) n h zero = h 0
places-holes (x ∷ xs) n h (suc p) = places-holes xs n (λ q. h (suc q)) p

pub version_past : (xs : List Place) (p : ℕ) → length xs ≤ p → version_at xs p ≡ 0
version_past xs p h = ap place_version (slice_get_past xs p h)

pub block_past : (xs : List Place) (p : ℕ) → length xs ≤ p → block_at xs p ≡ zeros
block_past xs p h = ap block_of (slice_get_past xs p h)

-- the block of a place has 4,096 bytes
pub pages_of : (xs : List Place) → ArePlaces xs → ArePages (block_at xs)
pages_of xs h p = by (slice_get xs p) (h p) where
  one : (v : ℕ) (page : Option (List ℕ)) → IsPaged v page → length (page_block page) ≡ 4096
  one v None h = length-zeros
  one v (Some page) h = h.1

  by : (o : Option Place) → IsPlace o → length (block_of o) ≡ 4096
  by None h = length-zeros
  by (Some place) h = one place.version place.page h

-- a hole reads as zeros
pub hole_block : (xs : List Place) (p : ℕ) → ArePlaces xs → version_at xs p ≡ 0 → block_at xs p ≡ zeros
hole_block xs p h e = by (slice_get xs p) (h p) e where
  one : (v : ℕ) (page : Option (List ℕ)) → IsPaged v page → v ≡ 0 → page_block page ≡ zeros
  one v None h e = refl
  one v (Some page) h e = absurd (omega (arith, h.0, e))

  by : (o : Option Place) → IsPlace o → place_version o ≡ 0 → block_of o ≡ zeros
  by None h e = refl
  by (Some place) h e = one place.version place.page h e

pub joined_more : (block : ℕ → List ℕ) (from n : ℕ) → joined block from (n + 1) ≡ joined block from n ++ block (from + n)
joined_more block from n = ap (joined block from) (one n) ∙ suc_more block from n where
  one : (n : ℕ) → n + 1 ≡ suc n
  one n = omega arith

  shift : (from n : ℕ) → from + 1 + n ≡ from + suc n
  shift from n = omega arith

  start : (from : ℕ) → from ≡ from + 0
  start from = omega arith

  suc_more : (block : ℕ → List ℕ) (from n : ℕ) → joined block from (suc n) ≡ joined block from n ++ block (from + n)
  suc_more block from zero = append-nil (block from) ∙ ap block (start from)
  suc_more block from (suc n) = ap (λ r. block from ++ r) (suc_more block (from + 1) n) ∙ sym (append_assoc (block from) (joined block (from + 1) n) (block (from + 1 + n)))
      ∙ ap (λ q. block from ++ joined block (from + 1) n ++ block q) (shift from n)

pub sliced : (n : ℕ) (xs ys : List Place) → length xs ≡ n → take n (xs ++ drop (length xs) ys) ≡ xs
sliced n xs ys e = ap (λ m. take m (xs ++ drop (length xs) ys)) (sym e) ∙ take-append_seam xs (drop (length xs) ys)

-- pages put from the last on
pub record IsPut (first version : ℕ) (all : List (List ℕ)) (old : List Place) (left : List (List ℕ)) (now : List Place) : Type 0 where
  pub long : length left ≤ length all
  pub left_is : left ≡ take (length left) all
  pub room : first + length all ≤ length now
  pub places : (p : ℕ) → slice_get now p ≡ cond (nat_le (first + length left) p && nat_lt p (first + length all)) (paged version (slice_get all (p - first))) (slice_get old p)

last_page : (left : List (List ℕ)) (page : List ℕ) (all : List (List ℕ)) → left ++ page ∷ [] ≡ take (length (left ++ page ∷ [])) all → slice_get all (length left) ≡ Some page
last_page left page all e = let n : length left < length (left ++ page ∷ []) = omega (arith, length-append left (page ∷ [])) in
    sym (slice_get-take (length (left ++ page ∷ [])) all (length left) n) ∙ ap (λ l. slice_get l (length left)) (sym e) ∙ slice_get-last left page

pub put_step : (first version : ℕ) (all : List (List ℕ)) (old : List Place) (left : List (List ℕ)) (page : List ℕ) (now : List Place)
    → IsPut first version all old (left ++ page ∷ []) now → IsPut first version all old left (set now (first + length left) (record { version = version; page = Some page }))
put_step first version all old left page now h = record {
  long = omega (arith, longer, h.long);
  left_is = sym (take_front left (page ∷ [])) ∙ ap (take (length left)) h.left_is ∙ take_twice;
  room = omega (arith, h.room, length-set now (first + length left) (record { version = version; page = Some page }));
  places = λ p. by p (p == first + length left) refl;
} where
  longer : length (left ++ page ∷ []) ≡ length left + 1
  longer = length-append left (page ∷ [])

  take_front : (xs ys : List (List ℕ)) → take (length xs) (xs ++ ys) ≡ xs
  take_front [] ys = refl
  take_front (x ∷ xs) ys = ap (λ l. x ∷ l) (take_front xs ys)

  take_less : (m n : ℕ) (xs : List (List ℕ)) → m ≤ n → take m (take n xs) ≡ take m xs
  take_less zero n xs h = refl
  take_less (suc m) zero xs h = absurd (omega arith)
  take_less (suc m) (suc n) [] h = refl
  take_less (suc m) (suc n) (x ∷ xs) h = ap (λ l. x ∷ l) (take_less m n xs (omega arith))

  take_twice : take (length left) (take (length (left ++ page ∷ [])) all) ≡ take (length left) all
  take_twice = take_less (length left) (length (left ++ page ∷ [])) all (omega (arith, longer))

  new : Place
  new = record { version = version; page = Some page }

  by : (p : ℕ) (b : Bool) → (p == first + length left) ≡ b
      → slice_get (set now (first + length left) (record { version = version; page = Some page })) p ≡ cond (nat_le (first + length left) p && nat_lt p (first + length all)) (paged version (slice_get all (p - first))) (slice_get old p)
  by p true e = let k : p ≡ first + length left = grind (arith, nat_tests) in
      let t : nat_le (first + length left) p && nat_lt p (first + length all) ≡ true = (let a = h.long in let b : nat_le (first + length left) p ≡ true = grind (arith, nat_tests) in let d : nat_lt p (first + length all) ≡ true = grind (arith, nat_tests, longer) in rw (b, d) refl) in
      let m : p - first ≡ length left = omega arith in
      ap (slice_get (set now (first + length left) (record { version = version; page = Some page }))) k
      ∙ slice_get-set_same now (first + length left) (record { version = version; page = Some page }) (omega (arith, h.room, h.long, longer))
      ∙ sym (ap (λ b. cond b (paged version (slice_get all (p - first))) (slice_get old p)) t ∙ ap (λ q. paged version (slice_get all q)) m ∙ ap (paged version) (last_page left page all h.left_is))
  by p false e = let k : p ≢ first + length left = grind (arith, nat_tests) in
      let t : nat_le (first + length (left ++ page ∷ [])) p ≡ nat_le (first + length left) p = ap (λ n. nat_le (first + n) p) longer ∙ next (first + length left) (first + (length left + 1)) p (omega arith) k in
      slice_get-set_other now (first + length left) p (record { version = version; page = Some page }) k ∙ h.places p
      ∙ ap (λ b. cond (b && nat_lt p (first + length all)) (paged version (slice_get all (p - first))) (slice_get old p)) t
    where
      next : (a b p : ℕ) → b ≡ a + 1 → p ≢ a → nat_le b p ≡ nat_le a p
      next a b p e h = grind (arith, nat_tests)

pub put_end : (first version : ℕ) (all : List (List ℕ)) (old : List Place) (left : List (List ℕ)) (now : List Place) → IsPut first version all old left now → length left ≡ 0
    → (p : ℕ) → slice_get now p ≡ put_pages first version all old p
put_end first version all old left now h e p = let k : first + length left ≡ first = omega arith in
    h.places p ∙ ap (λ n. cond (nat_le n p && nat_lt p (first + length all)) (paged version (slice_get all (p - first))) (slice_get old p)) k

-- a version and a block of a place after freeing
pub record IsFreedAt (old now : List Place) (p : ℕ) : Type 0 where
  pub version : version_at now p ≡ cond (nat_lt (count_written (version_at old) p) 16) 0 (version_at old p)
  pub block : block_at now p ≡ cond (nat_lt (count_written (version_at old) p) 16) zeros (block_at old p)

-- places freed up to a position
pub record IsFreed (old : List Place) (freed_so_far k : ℕ) (now : List Place) : Type 0 where
  pub count : freed_so_far ≡ min 16 (count_written (version_at old) k)
  pub done : (p : ℕ) → p < k → IsFreedAt old now p
  pub ahead : (p : ℕ) → k ≤ p → slice_get now p ≡ slice_get old p
  pub places : ArePlaces now

filled_more : (v : ℕ → ℕ) (k : ℕ) → count_written v (k + 1) ≡ cond (v k == 0) (count_written v k) (count_written v k + 1)
filled_more v k = ap (count_written v) (one k) where
  one : (k : ℕ) → k + 1 ≡ suc k
  one k = omega arith

pub freed_start : (xs : List Place) → ArePlaces xs → IsFreed xs 0 0 xs
freed_start xs h = record { count = refl; done = λ p l. absurd (omega arith); ahead = λ p l. refl; places = h }

-- a place that is a hole, or comes after 16 others that are none, stays
pub freed_stays : (old : List Place) (count k : ℕ) (now : List Place) → IsFreed old count k now → (16 ≤ count) ⊎ (version_at now k ≡ 0) → IsFreed old count (k + 1) now
freed_stays old count k now h s = record {
  count = counted s;
  done = λ p l. elim (less_or p k) [ inl a ↦ h.done p a | inr b ↦ at p (omega arith) s ];
  ahead = λ p l. h.ahead p (omega arith);
  places = h.places;
} where
  same : version_at now k ≡ version_at old k
  same = ap place_version (h.ahead k (omega arith))

  counted : (16 ≤ count) ⊎ (version_at now k ≡ 0) → count ≡ min 16 (count_written (version_at old) (k + 1))
  counted (inl a) = by (version_at old k == 0) (filled_more (version_at old) k) where
    by : (b : Bool) → count_written (version_at old) (k + 1) ≡ cond b (count_written (version_at old) k) (count_written (version_at old) k + 1) → count ≡ min 16 (count_written (version_at old) (k + 1))
    by true e = omega (arith, h.count, e, a)
    by false e = omega (arith, h.count, e, a)
  counted (inr z) = let e : (version_at old k == 0) ≡ true = (let m = same in grind (arith, nat_tests)) in
      let f : count_written (version_at old) (k + 1) ≡ count_written (version_at old) k = filled_more (version_at old) k ∙ ap (λ b. cond b (count_written (version_at old) k) (count_written (version_at old) k + 1)) e in
      omega (arith, h.count, f)

  at : (p : ℕ) → p ≡ k → (16 ≤ count) ⊎ (version_at now k ≡ 0) → IsFreedAt old now p
  at p e (inl a) = let t : nat_lt (count_written (version_at old) p) 16 ≡ false = (let m : 16 ≤ count_written (version_at old) p = (let n = ap (count_written (version_at old)) e in omega (arith, h.count, a, n)) in grind (arith, nat_tests)) in record {
    version = ap place_version (h.ahead p (omega arith)) ∙ sym (ap (λ b. cond b 0 (version_at old p)) t);
    block = ap block_of (h.ahead p (omega arith)) ∙ sym (ap (λ b. cond b zeros (block_at old p)) t);
  }
  at p e (inr z) = let zero_now : version_at now p ≡ 0 = ap (version_at now) e ∙ z in let hollow : block_at now p ≡ zeros = hole_block now p h.places zero_now in record {
    version = by (nat_lt (count_written (version_at old) p) 16) zero_now;
    block = also (nat_lt (count_written (version_at old) p) 16) hollow;
  } where
    by : (b : Bool) → version_at now p ≡ 0 → version_at now p ≡ cond b 0 (version_at old p)
    by true z = z
    by false z = ap place_version (h.ahead p (omega arith))

    also : (b : Bool) → block_at now p ≡ zeros → block_at now p ≡ cond b zeros (block_at old p)
    also true z = z
    also false z = ap block_of (h.ahead p (omega arith))

-- one of the first 16 that are no holes becomes a hole
pub freed_goes : (old : List Place) (count k : ℕ) (now : List Place) → IsFreed old count k now → count < 16 → 0 < version_at now k → k < length now → IsFreed old (count + 1) (k + 1) (set now k hole)
freed_goes old count k now h c v l = record {
  count = let e : (version_at old k == 0) ≡ false = (let m = same in grind (arith, nat_tests)) in
      let f : count_written (version_at old) (k + 1) ≡ count_written (version_at old) k + 1 = filled_more (version_at old) k ∙ ap (λ b. cond b (count_written (version_at old) k) (count_written (version_at old) k + 1)) e in
      omega (arith, h.count, f);
  done = λ p m. elim (less_or p k) [ inl a ↦ before p a | inr b ↦ at p (omega arith) ];
  ahead = λ p m. slice_get-set_other now k p hole (omega arith) ∙ h.ahead p (omega arith);
  places = λ p. placed p (p == k) refl;
} where
  same : version_at now k ≡ version_at old k
  same = ap place_version (h.ahead k (omega arith))

  before : (p : ℕ) → p < k → IsFreedAt old (set now k hole) p
  before p a = let e = slice_get-set_other now k p hole (omega arith) in let f = h.done p a in record { version = ap place_version e ∙ f.version; block = ap block_of e ∙ f.block }

  at : (p : ℕ) → p ≡ k → IsFreedAt old (set now k hole) p
  at p e = let g : slice_get (set now k hole) p ≡ Some hole = ap (slice_get (set now k hole)) e ∙ slice_get-set_same now k hole l in
      let t : nat_lt (count_written (version_at old) p) 16 ≡ true = (let n = ap (count_written (version_at old)) e in let m : count_written (version_at old) p < 16 = omega (arith, h.count, c, n) in grind (arith, nat_tests)) in record {
        version = ap place_version g ∙ sym (ap (λ b. cond b 0 (version_at old p)) t);
        block = ap block_of g ∙ sym (ap (λ b. cond b zeros (block_at old p)) t);
      }

  placed : (p : ℕ) (b : Bool) → (p == k) ≡ b → IsPlace (slice_get (set now k hole) p)
  placed p true e = let g : p ≡ k = grind (arith, nat_tests) in subst IsPlace (sym (ap (slice_get (set now k hole)) g ∙ slice_get-set_same now k hole l)) refl
  placed p false e = let g : p ≢ k = grind (arith, nat_tests) in subst IsPlace (sym (slice_get-set_other now k p hole g)) (h.places p)

-- at the end every place is freed
pub freed_end : (old : List Place) (count k : ℕ) (now : List Place) → IsFreed old count k now → length old ≤ k → (p : ℕ) → IsFreedAt old now p
freed_end old count k now h l p = elim (less_or p k) [ inl a ↦ h.done p a | inr b ↦ past (omega arith) (h.ahead p b) ] where
  past : length old ≤ p → slice_get now p ≡ slice_get old p → IsFreedAt old now p
  past m e = record { version = by (nat_lt (count_written (version_at old) p) 16); block = also (nat_lt (count_written (version_at old) p) 16) } where
    by : (b : Bool) → version_at now p ≡ cond b 0 (version_at old p)
    by true = ap place_version e ∙ version_past old p m
    by false = ap place_version e

    also : (b : Bool) → block_at now p ≡ cond b zeros (block_at old p)
    also true = ap block_of e ∙ block_past old p m
    also false = ap block_of e

pub version_read : (now : List Place) (k : ℕ) (x : Place) → k < length now → version_at now k ≡ (get_or now k x).version
version_read now k x l = ap place_version (slice_get-get_or now k x l)

-- the same by what a step of the loop says
pub goes : (old : List Place) (count k : ℕ) (now : List Place) (x : Place) (after : List Place) (count' : ℕ) (h : Place) → IsFreed old count k now → count < 16 → 0 < (get_or now k x).version → k < length now
    → h ≡ hole → after ≡ set now k h → count' ≡ count + 1 → IsFreed old count' (k + 1) after
goes old count k now x after count' h f c v l a b d =
    let z : version_at now k ≡ (get_or now k x).version = version_read now k x l in
    let P : List Place → Type 0 = λ ps. IsFreed old count' (k + 1) ps in let Q : ℕ → Type 0 = λ n. IsFreed old n (k + 1) (set now k hole) in
    subst P (sym (b ∙ ap (set now k) a)) (subst Q (sym d) (freed_goes old count k now f c (omega (arith, z, v)) l))

pub stays : (old : List Place) (count k : ℕ) (now : List Place) (after : List Place) (count' : ℕ) → IsFreed old count k now → (16 ≤ count) ⊎ (version_at now k ≡ 0) → after ≡ now → count' ≡ count → IsFreed old count' (k + 1) after
stays old count k now after count' f s a d = let P : List Place → Type 0 = λ ps. IsFreed old count' (k + 1) ps in let Q : ℕ → Type 0 = λ n. IsFreed old n (k + 1) now in
    subst P (sym a) (subst Q (sym d) (freed_stays old count k now f s))

-- a file has no place but holes where each place is one
filled_front : (v : ℕ → ℕ) (n : ℕ) → count_written v (suc n) ≡ cond (v 0 == 0) 0 1 + count_written (λ p. v (suc p)) n
filled_front v zero = by (v 0 == 0) where
  by : (b : Bool) → cond b 0 1 ≡ cond b 0 1 + 0
  by true = refl
  by false = refl
filled_front v (suc n) = by (v (suc n) == 0) (filled_front v n) where
  by : (b : Bool) → count_written v (suc n) ≡ cond (v 0 == 0) 0 1 + count_written (λ p. v (suc p)) n
      → cond b (count_written v (suc n)) (count_written v (suc n) + 1) ≡ cond (v 0 == 0) 0 1 + cond b (count_written (λ p. v (suc p)) n) (count_written (λ p. v (suc p)) n + 1)
  by true e = e
  by false e = omega (arith, e)

pub are_holes : (xs : List Place) → list_all (λ (place : Place). place.version == 0) xs ≡ (count_written (version_at xs) (length xs) == 0)
are_holes [] = refl
are_holes (x ∷ xs) = by (x.version == 0) (are_holes xs) (filled_front (version_at (x ∷ xs)) (length xs)) where
  by : (b : Bool) → list_all (λ (place : Place). place.version == 0) xs ≡ (count_written (version_at xs) (length xs) == 0)
      → count_written (version_at (x ∷ xs)) (suc (length xs)) ≡ cond b 0 1 + count_written (version_at xs) (length xs)
      → b && list_all (λ (place : Place). place.version == 0) xs ≡ (count_written (version_at (x ∷ xs)) (suc (length xs)) == 0)
  by true ih e = ih ∙ ap (λ n. n == 0) (zero_add (count_written (version_at xs) (length xs))) ∙ ap (λ n. n == 0) (sym e) where
    zero_add : (n : ℕ) → n ≡ 0 + n
    zero_add n = omega arith
  by false ih e = let k : count_written (version_at (x ∷ xs)) (suc (length xs)) ≢ 0 = omega (arith, e) in grind (arith, nat_tests)
