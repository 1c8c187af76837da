-- Bytes written over others.
use Rattle.std.proofs.Common.{◌≡◌, ℕ, zero, suc, ◌+◌, ◌-◌, ◌<◌, ◌≤◌, List, [], ◌∷◌, ◌++◌, length, take, drop, replicate, refl, sym, ◌∙◌, ap, arith, length-append}
use Rattle.std.proofs.lemmas.List.{drop_all, take_all, append-nil}
use Rattle.iris_plain.specs.Files.{wrote}

none_left : (n : ℕ) (old : List ℕ) → n ≡ 0 → old ++ replicate n 0 ≡ old
none_left n old h = ap (λ k. old ++ replicate k 0) h ∙ append-nil old

-- enough bytes stand there
pub wrote_inside : (at : ℕ) (piece old : List ℕ) → at + length piece ≤ length old → take at old ++ (piece ++ drop (at + length piece) old) ≡ wrote at piece old
wrote_inside at piece old h = ap (λ z. take at z ++ (piece ++ drop (at + length piece) old)) (sym (none_left (at - length old) old (omega arith)))

take_zeros : (at n m : ℕ) → at ≤ n → at ≤ m → take {A = ℕ} at (replicate n 0) ≡ take at (replicate m 0)
take_zeros zero n m h k = refl
take_zeros (suc at) zero m h k = absurd (omega arith)
take_zeros (suc at) (suc n) zero h k = absurd (omega arith)
take_zeros (suc at) (suc n) (suc m) h k = ap (λ z. 0 ∷ z) (take_zeros at n m (omega arith) (omega arith))

take_filled : (at n m : ℕ) (old : List ℕ) → at ≤ length old + n → at ≤ length old + m → take at (old ++ replicate n 0) ≡ take at (old ++ replicate m 0)
take_filled at n m [] h k = take_zeros at n m (omega arith) (omega arith)
take_filled zero n m (x ∷ old) h k = refl
take_filled (suc at) n m (x ∷ old) h k = ap (λ z. x ∷ z) (take_filled at n m old (omega arith) (omega arith))

length-zeros : (n : ℕ) → length {A = ℕ} (replicate n 0) ≡ n
length-zeros zero = refl
length-zeros (suc n) = let h = length-zeros n in omega arith

-- the bytes are filled with zeros first
pub wrote_past : (at : ℕ) (piece old grown : List ℕ) → length old < at + length piece → grown ≡ take (at + length piece) old ++ replicate (at + length piece - length old) 0
    → take at grown ++ (piece ++ drop (at + length piece) grown) ≡ wrote at piece old
wrote_past at piece old grown h e =
    let all : grown ≡ old ++ replicate (at + length piece - length old) 0 = e ∙ ap (λ z. z ++ replicate (at + length piece - length old) 0) (take_all (at + length piece) old (omega arith)) in
    let size : length grown ≤ at + length piece = omega (arith, ap length all, length-append old (replicate (at + length piece - length old) 0), length-zeros (at + length piece - length old)) in
    ap (λ z. take at z ++ (piece ++ drop (at + length piece) grown)) all
    ∙ ap (λ z. take at (old ++ replicate (at + length piece - length old) 0) ++ (piece ++ z)) (drop_all (at + length piece) grown size ∙ sym (drop_all (at + length piece) old (omega arith)))
    ∙ ap (λ z. z ++ (piece ++ drop (at + length piece) old)) (take_filled at (at + length piece - length old) (at - length old) old (omega arith) (omega arith))

-- a list written back whole
pub whole : (n : ℕ) (new items : List ℕ) → length new ≡ n → length items ≡ n → take n (new ++ drop (length new) items) ≡ new
whole n new items h k = ap (λ z. take n (new ++ z)) (drop_all (length new) items (omega arith)) ∙ ap (take n) (append-nil new) ∙ take_all n new (omega arith)
