-- The digits of an id, from the last to the first.
use Rattle.std.proofs.Common.{inl, inr, ◌≡◌, ◌≢◌, ℕ, zero, suc, ◌+◌, ◌-◌, ◌/◌, ◌%◌, ◌<◌, ◌≤◌, List, [], ◌∷◌, ◌++◌, length, get_or, drop, refl, sym, ◌∙◌, ap, subst, arith, append_assoc, get_or-set_other, get_or-set_same}
use Rattle.std.proofs.Math.ListN.{set}
use Rattle.iris_rows.proofs.GrownRows.{compared}
use Rattle.iris_rows.specs.Changes.{hex_digit, hex_digits}

pub drop_set : {A : Type 0} (m : ℕ) (xs : List A) (v : A) → m < length xs → drop m (set xs m v) ≡ v ∷ drop (suc m) xs
drop_set zero [] v h = absurd (omega arith)
drop_set zero (x ∷ xs) v h = refl
drop_set (suc m) [] v h = absurd (omega arith)
drop_set (suc m) (x ∷ xs) v h = drop_set m xs v (omega arith)

digits_more : (c n : ℕ) (xs ys : List ℕ) → ys ≡ hex_digit (n % 16) ∷ xs → hex_digits (suc c) n ++ xs ≡ hex_digits c (n / 16) ++ ys
digits_more c n xs ys e = append_assoc (hex_digits c (n / 16)) (hex_digit (n % 16) ∷ []) xs ∙ ap (λ z. hex_digits c (n / 16) ++ z) (sym e)

pub digits_step : (k n : ℕ) (xs : List ℕ) (v : ℕ) → k < 16 → length xs ≡ 16 → v ≡ hex_digit (n % 16) → hex_digits (16 - k) n ++ drop (16 - k) xs ≡ hex_digits (16 - (k + 1)) (n / 16) ++ drop (16 - (k + 1)) (set xs (15 - k) v)
digits_step k n xs v h l e =
    let a : 16 - k ≡ suc (15 - k) = omega arith in
    let b : 16 - (k + 1) ≡ 15 - k = omega arith in
    ap (λ j. hex_digits j n ++ drop j xs) a
    ∙ digits_more (15 - k) n (drop (suc (15 - k)) xs) (drop (15 - k) (set xs (15 - k) v)) (drop_set (15 - k) xs v (omega arith) ∙ ap (λ w. w ∷ drop (suc (15 - k)) xs) e)
    ∙ ap (λ j. hex_digits j (n / 16) ++ drop j (set xs (15 - k) v)) (sym b)

pub small_step : (k : ℕ) (xs : List ℕ) (v : ℕ) → k < 16 → length xs ≡ 16 → v < 128 → ((j : ℕ) → 16 - k ≤ j → j < 16 → get_or xs j 0 < 128) → (j : ℕ) → 16 - (k + 1) ≤ j → j < 16 → get_or (set xs (15 - k) v) j 0 < 128
small_step k xs v h l s f j p q = elim (compared j (15 - k)) [
  | inl l' ↦ absurd (omega arith)
  | inr r ↦ elim r [
    | inl l' ↦ let ne : j ≢ 15 - k = omega arith in rw get_or-set_other (f j (omega arith) q)
    | inr e ↦ let lt : 15 - k < length xs = omega arith in let P : ℕ → Type 0 = λ i. get_or (set xs (15 - k) v) i 0 < 128 in subst P (sym e) (rw get_or-set_same s)
  ]
]
