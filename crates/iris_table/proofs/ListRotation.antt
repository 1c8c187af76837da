-- A list turned, cut and turned back.
use Rattle.std.proofs.Common.{◌≡◌, ℕ, ◌+◌, ◌≤◌, List, ◌++◌, length, take, drop, sym, ◌∙◌, ap, subst, arith, append_assoc, length-append, length-take, length-drop}
use Rattle.std.proofs.lemmas.List.{take_at, drop_at, take-append-drop, drop-drop}

pub cut_drop : {A : Type 0} (n : ℕ) (xs ys : List A) → n ≡ length xs → drop n (xs ++ ys) ≡ ys
cut_drop n xs ys e = drop_at xs ys n (sym e)

pub cut_take : {A : Type 0} (n : ℕ) (xs ys : List A) → n ≡ length xs → take n (xs ++ ys) ≡ xs
cut_take n xs ys e = take_at xs ys n (sym e)

module _ {A : Type 0} (a c : ℕ) (front run back : List A) (is_front : a ≡ length front) (is_run : c ≡ length run) where
  abbrev turned : List A
  turned = drop (a + c) (front ++ (run ++ back)) ++ take (a + c) (front ++ (run ++ back))

  turned_is : turned ≡ (back ++ front) ++ run
  turned_is =
      let both : front ++ (run ++ back) ≡ (front ++ run) ++ back = sym (append_assoc front run back) in
      let n : a + c ≡ length (front ++ run) = omega (arith, length-append front run) in
      ap (λ z. drop (a + c) z ++ take (a + c) z) both ∙ ap (λ z. z ++ take (a + c) ((front ++ run) ++ back)) (cut_drop (a + c) (front ++ run) back n)
      ∙ ap (λ z. back ++ z) (cut_take (a + c) (front ++ run) back n) ∙ sym (append_assoc back front run)

  pub run_cut : (n : ℕ) → n ≡ length back + a → drop n turned ≡ run
  run_cut n e = ap (drop n) turned_is ∙ cut_drop n (back ++ front) run (omega (arith, length-append back front))

  pub rest_cut : (n m : ℕ) → n ≡ length back + a → m ≡ length back → drop m (take n turned) ++ take m (take n turned) ≡ front ++ back
  rest_cut n m e f =
      let z : take n turned ≡ back ++ front = ap (take n) turned_is ∙ cut_take n (back ++ front) run (omega (arith, length-append back front)) in
      ap (λ w. drop m w ++ take m w) z ∙ ap (λ w. w ++ take m (back ++ front)) (cut_drop m back front f) ∙ ap (λ w. front ++ w) (cut_take m back front f)

-- a list in three parts
parts : {A : Type 0} (a c : ℕ) (xs : List A) → xs ≡ take a xs ++ (take c (drop a xs) ++ drop (a + c) xs)
parts a c xs = sym (take-append-drop a xs) ∙ ap (λ z. take a xs ++ z) (sym (take-append-drop c (drop a xs)) ∙ ap (λ z. take c (drop a xs) ++ z) (drop-drop c a xs ∙ ap (λ k. drop k xs) (omega arith)))

module _ {A : Type 0} (a c : ℕ) (xs : List A) (fits : a + c ≤ length xs) where
  front_length : a ≡ length (take a xs)
  front_length = omega (arith, length-take a xs)

  run_length : c ≡ length (take c (drop a xs))
  run_length = omega (arith, length-take c (drop a xs), length-drop a xs)

  pub run_is : (n : ℕ) → n + c ≡ length xs → drop n (drop (a + c) xs ++ take (a + c) xs) ≡ take c (drop a xs)
  run_is n e = let Q : List A → Type 0 = λ z. drop n (drop (a + c) z ++ take (a + c) z) ≡ take c (drop a xs) in
      subst Q (sym (parts a c xs)) (run_cut a c (take a xs) (take c (drop a xs)) (drop (a + c) xs) front_length run_length n (omega (arith, length-drop (a + c) xs)))

  pub rest_is : (n m : ℕ) → n + c ≡ length xs → m + a ≡ n → drop m (take n (drop (a + c) xs ++ take (a + c) xs)) ++ take m (take n (drop (a + c) xs ++ take (a + c) xs)) ≡ take a xs ++ drop (a + c) xs
  rest_is n m e f = let Q : List A → Type 0 = λ z. drop m (take n (drop (a + c) z ++ take (a + c) z)) ++ take m (take n (drop (a + c) z ++ take (a + c) z)) ≡ take a xs ++ drop (a + c) xs in
      subst Q (sym (parts a c xs)) (rest_cut a c (take a xs) (take c (drop a xs)) (drop (a + c) xs) front_length run_length n m (omega (arith, length-drop (a + c) xs)) (omega (arith, length-drop (a + c) xs)))
