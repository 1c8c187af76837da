-- Putting a record in under its name.
use Rattle.std.proofs.Common.{◌≡◌, ℕ, suc, ◌≤◌, List, [], ◌∷◌, length, Bool, true, false, cond, Option, Some, slice_set, refl, sym, ◌∙◌, ap, subst, arith}
use Rattle.std.specs.Prelude.{insert}
use Rattle.std.proofs.lemmas.Bool.Decides.{nat_tests}
use Rattle.iris_name.specs.Names.{same_name}
use Rattle.iris_name.specs.NameLaws.{same_name-true}
use Rattle.iris_name.specs.declared.name.Name.{Name}
use Rattle.iris_name.specs.declared.name.Name.TheVariants.{Entry, Part, Block}
use Rattle.iris_records.specs.Records.{Records, looked, comes_before, IsBeforeFirst, AreInOrder}
use Rattle.iris_records.specs.Pieces.{lesser, is_next}

irreflexive : (a : Name) → comes_before a a ≡ false
irreflexive (Entry a) = grind (arith, nat_tests)
irreflexive (Part f l i) = grind (arith, nat_tests)
irreflexive (Block f p) = grind (arith, nat_tests)

total : (a b : Name) → comes_before a b ≡ false → same_name a b ≡ false → comes_before b a ≡ true
total (Entry a) (Entry b) h k = grind (arith, nat_tests)
total (Entry a) (Part g m j) h k = cc
total (Entry a) (Block g q) h k = cc
total (Part f l i) (Entry b) h k = refl
total (Part f l i) (Part g m j) h k = grind (arith, nat_tests)
total (Part f l i) (Block g q) h k = cc
total (Block f p) (Entry b) h k = refl
total (Block f p) (Part g m j) h k = refl
total (Block f p) (Block g q) h k = grind (arith, nat_tests)

-- a name can't be one of two that differ
apart : (q a n : Name) → comes_before a n ≡ true → same_name q a ≡ true → same_name q n ≡ true → ⊥
apart q a n c e d =
    let x = same_name-true q a e in let y = same_name-true q n d in let z : a ≡ n = sym x ∙ y in
    let w = irreflexive n in let v = subst (λ m. comes_before m n ≡ true) z c in absurd (let u = sym v ∙ w in cc)

swapped : (a b : Bool) (x y z : Option (List ℕ)) → (a ≡ true → b ≡ true → ⊥) → cond a x (cond b y z) ≡ cond b y (cond a x z)
swapped true true x y z h = absurd (h refl refl)
swapped true false x y z h = refl
swapped false true x y z h = refl
swapped false false x y z h = refl

twice : (a b : Bool) (x y z : Option (List ℕ)) → (b ≡ true → a ≡ true) → cond a x z ≡ cond a x (cond b y z)
twice true b x y z h = refl
twice false true x y z h = absurd (let k = h refl in cc)
twice false false x y z h = refl

pub lesser_within : (n : Name) (xs : Records) → lesser n xs ≤ length xs
lesser_within n [] = omega arith
lesser_within n (r ∷ xs) = by (comes_before r.0 n) (lesser_within n xs) where
  by : (c : Bool) → lesser n xs ≤ length xs → cond c (suc (lesser n xs)) 0 ≤ suc (length xs)
  by true h = omega (arith, h)
  by false h = omega arith

pub looked_set : (q n : Name) (b : List ℕ) (xs : Records) → is_next (lesser n xs) n xs ≡ true → looked q (slice_set xs (lesser n xs) (n, b)) ≡ cond (same_name q n) (Some b) (looked q xs)
looked_set q n b [] h = absurd (cc)
looked_set q n b (r ∷ xs) h = by (comes_before r.0 n) refl h (looked_set q n b xs) where
  by : (c : Bool) → comes_before r.0 n ≡ c → is_next (cond c (suc (lesser n xs)) 0) n (r ∷ xs) ≡ true → (is_next (lesser n xs) n xs ≡ true → looked q (slice_set xs (lesser n xs) (n, b)) ≡ cond (same_name q n) (Some b) (looked q xs))
      → looked q (slice_set (r ∷ xs) (cond c (suc (lesser n xs)) 0) (n, b)) ≡ cond (same_name q n) (Some b) (cond (same_name q r.0) (Some r.1) (looked q xs))
  by true c h f = ap (λ z. cond (same_name q r.0) (Some r.1) z) (f h) ∙ swapped (same_name q r.0) (same_name q n) (Some r.1) (Some b) (looked q xs) (apart q r.0 n c)
  by false c h f = twice (same_name q n) (same_name q r.0) (Some b) (Some r.1) (looked q xs) (λ e. subst (λ m. same_name q m ≡ true) (same_name-true r.0 n h) e)

pub looked_insert : (q n : Name) (b : List ℕ) (xs : Records) → looked q (insert xs (lesser n xs) (n, b)) ≡ cond (same_name q n) (Some b) (looked q xs)
looked_insert q n b [] = refl
looked_insert q n b (r ∷ xs) = by (comes_before r.0 n) refl (looked_insert q n b xs) where
  by : (c : Bool) → comes_before r.0 n ≡ c → looked q (insert xs (lesser n xs) (n, b)) ≡ cond (same_name q n) (Some b) (looked q xs)
      → looked q (insert (r ∷ xs) (cond c (suc (lesser n xs)) 0) (n, b)) ≡ cond (same_name q n) (Some b) (cond (same_name q r.0) (Some r.1) (looked q xs))
  by true c f = ap (λ z. cond (same_name q r.0) (Some r.1) z) f ∙ swapped (same_name q r.0) (same_name q n) (Some r.1) (Some b) (looked q xs) (apart q r.0 n c)
  by false c f = refl

first_set : (a n : Name) (b : List ℕ) (xs : Records) → is_next (lesser n xs) n xs ≡ true → IsBeforeFirst a xs → IsBeforeFirst a (slice_set xs (lesser n xs) (n, b))
first_set a n b [] h f = tt
first_set a n b (r ∷ xs) h f = by (comes_before r.0 n) h where
  by : (c : Bool) → is_next (cond c (suc (lesser n xs)) 0) n (r ∷ xs) ≡ true → IsBeforeFirst a (slice_set (r ∷ xs) (cond c (suc (lesser n xs)) 0) (n, b))
  by true h = f
  by false h = subst (λ m. comes_before a m ≡ true) (same_name-true r.0 n h) f

pub order_set : (n : Name) (b : List ℕ) (xs : Records) → is_next (lesser n xs) n xs ≡ true → AreInOrder xs → AreInOrder (slice_set xs (lesser n xs) (n, b))
order_set n b [] h o = tt
order_set n b (r ∷ xs) h o = by (comes_before r.0 n) h (λ k. order_set n b xs k o.1) where
  by : (c : Bool) → is_next (cond c (suc (lesser n xs)) 0) n (r ∷ xs) ≡ true → (is_next (lesser n xs) n xs ≡ true → AreInOrder (slice_set xs (lesser n xs) (n, b))) → AreInOrder (slice_set (r ∷ xs) (cond c (suc (lesser n xs)) 0) (n, b))
  by true h f = (first_set r.0 n b xs h o.0, f h)
  by false h f = (subst (λ m. IsBeforeFirst m xs) (same_name-true r.0 n h) o.0, o.1)

first_insert : (a n : Name) (b : List ℕ) (xs : Records) → comes_before a n ≡ true → IsBeforeFirst a xs → IsBeforeFirst a (insert xs (lesser n xs) (n, b))
first_insert a n b [] h f = h
first_insert a n b (r ∷ xs) h f = by (comes_before r.0 n) where
  by : (c : Bool) → IsBeforeFirst a (insert (r ∷ xs) (cond c (suc (lesser n xs)) 0) (n, b))
  by true = f
  by false = h

pub order_insert : (n : Name) (b : List ℕ) (xs : Records) → is_next (lesser n xs) n xs ≡ false → AreInOrder xs → AreInOrder (insert xs (lesser n xs) (n, b))
order_insert n b [] h o = (tt, tt)
order_insert n b (r ∷ xs) h o = by (comes_before r.0 n) refl h (λ k. order_insert n b xs k o.1) where
  by : (c : Bool) → comes_before r.0 n ≡ c → is_next (cond c (suc (lesser n xs)) 0) n (r ∷ xs) ≡ false → (is_next (lesser n xs) n xs ≡ false → AreInOrder (insert xs (lesser n xs) (n, b))) → AreInOrder (insert (r ∷ xs) (cond c (suc (lesser n xs)) 0) (n, b))
  by true c h f = (first_insert r.0 n b xs c o.0, f h)
  by false c h f = (total r.0 n c h, (o.0, o.1))

-- the two ways of putting, as the program holds them
pub record Put (q : Records) (xs : Records) (n : Name) (b : List ℕ) : Type 0 where
  pub order : AreInOrder q
  pub each : (m : Name) → looked m q ≡ cond (same_name m n) (Some b) (looked m xs)

pub put_set : (xs ys zs : Records) (n : Name) (b : List ℕ) (k : ℕ) → k ≡ lesser n ys → ys ≡ xs → true ≡ is_next k n zs → zs ≡ xs → AreInOrder xs → Put (slice_set xs k (n, b)) xs n b
put_set xs ys zs n b k e f h g o =
    let p : k ≡ lesser n xs = e ∙ ap (lesser n) f in
    let t : is_next (lesser n xs) n xs ≡ true = sym (h ∙ ap (is_next k n) g ∙ ap (λ j. is_next j n xs) p) in
    subst (λ j. Put (slice_set xs j (n, b)) xs n b) (sym p) (record { order = order_set n b xs t o; each = λ m. looked_set m n b xs t })

pub put_insert : (us xs ys zs : Records) (n : Name) (b : List ℕ) (k : ℕ) → k ≡ lesser n ys → ys ≡ xs → false ≡ is_next k n zs → zs ≡ xs → us ≡ insert xs k (n, b) → AreInOrder xs → Put us xs n b
put_insert us xs ys zs n b k e f h g u o =
    let p : k ≡ lesser n xs = e ∙ ap (lesser n) f in
    let t : is_next (lesser n xs) n xs ≡ false = sym (h ∙ ap (is_next k n) g ∙ ap (λ j. is_next j n xs) p) in
    let v : us ≡ insert xs (lesser n xs) (n, b) = u ∙ ap (λ j. insert xs j (n, b)) p in
    subst (λ q. Put q xs n b) (sym v) (record { order = order_insert n b xs t o; each = λ m. looked_insert m n b xs })
