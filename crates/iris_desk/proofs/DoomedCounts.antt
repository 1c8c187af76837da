-- How many of the doomed names are of some kind, once one more is doomed or one is no longer.
use Rattle.std.proofs.Common.{◌≡◌, inl, inr, ◌<◌, ◌+◌, ◌||◌, ◌&&◌, ℕ, suc, Bool, true, false, cond, not, List, [], ◌∷◌, ◌++◌, Some, None, refl, sym, ap, ◌∙◌, arith, length, get_or}
use Rattle.std.specs.Prelude.{nat_lt}
use Rattle.std.specs.List.{count_by, list_any, position_or_len, swap_remove}
use Rattle.std.specs.Option.{option_map_or}
use Rattle.std.proofs.lemmas.Bool.{cases_lt, le-ltb, lt-ltb, ltb-true}
use Rattle.std.proofs.lemmas.List.Sums.{passes_at_first, sum_by_push, sum_by-swap_remove}
use Rattle.indexmap.specs.IndexMap.{swap_remove_by}
use Rattle.indexmap.specs.IndexSet.{insert_key}
use Rattle.iris_history.specs.Kept.{is_block}
use Rattle.iris_name.specs.Names.{same_name}
use Rattle.iris_name.specs.NameLaws.{same_name-true}
use Rattle.iris_name.specs.declared.name.Name.{Name}

next_lt : (a b : ℕ) → nat_lt (1 + a) (suc b) ≡ nat_lt a b
next_lt a b = elim (cases_lt a b) [
  | inl lt ↦ lt-ltb (1 + a) (suc b) (omega (arith, lt)) ∙ sym (lt-ltb a b lt)
  | inr ge ↦ le-ltb (1 + a) (suc b) (omega (arith, ge)) ∙ sym (le-ltb a b ge)
]

-- whether a list has one that passes, by where the first would stand
any_within : {X : Type 0} (p : X → Bool) (xs : List X) → list_any p xs ≡ nat_lt (position_or_len p xs) (length xs)
any_within p [] = refl
any_within p (x ∷ xs) = by (p x) (any_within p xs) where
  by : (b : Bool) → list_any p xs ≡ nat_lt (position_or_len p xs) (length xs)
      → (b || list_any p xs) ≡ nat_lt (cond (not b) (1 + position_or_len p xs) 0) (suc (length xs))
  by true rest = sym (lt-ltb 0 (suc (length xs)) (omega arith))
  by false rest = rest ∙ sym (next_lt (position_or_len p xs) (length xs))

module _ (kind : Name → Bool) (n : Name) where
  abbrev one : ℕ
  one = cond (kind n) 1 0

  -- where the name stands in a list
  abbrev place : List Name → ℕ
  place ks = position_or_len (same_name n) ks

  pub count_doomed : (ks : List Name) → count_by kind (insert_key same_name ks n) ≡ count_by kind ks + cond (list_any (same_name n) ks) 0 one
  count_doomed ks = by (list_any (same_name n) ks) where
    by : (b : Bool) → count_by kind (cond b ks (ks ++ n ∷ [])) ≡ count_by kind ks + cond b 0 one
    by true = omega arith
    by false = sum_by_push (λ x. cond (kind x) 1 0) ks n

  pub count_undoomed : (ks : List Name) → count_by kind (swap_remove_by (same_name n) ks) + cond (list_any (same_name n) ks) one 0 ≡ count_by kind ks
  count_undoomed [] = refl
  count_undoomed (k ∷ ks) = ap (λ b. count_by kind (swap_remove_by (same_name n) (k ∷ ks)) + cond b one 0) (any_within (same_name n) (k ∷ ks)) ∙ by (nat_lt (place (k ∷ ks)) (length (k ∷ ks))) refl where
    by : (b : Bool) → nat_lt (place (k ∷ ks)) (length (k ∷ ks)) ≡ b
        → count_by kind (option_map_or (λ i. swap_remove (k ∷ ks) i k) (cond b (Some (place (k ∷ ks))) None) (k ∷ ks)) + cond b one 0 ≡ count_by kind (k ∷ ks)
    by true e =
        let i = place (k ∷ ks) in
        let lt : i < length (k ∷ ks) = ltb-true i (length (k ∷ ks)) e in
        let is : n ≡ get_or (k ∷ ks) i k = same_name-true n (get_or (k ∷ ks) i k) (passes_at_first (same_name n) (k ∷ ks) k lt) in
        ap (λ m. count_by kind (swap_remove (k ∷ ks) i k) + cond (kind m) 1 0) is ∙ sum_by-swap_remove (λ x. cond (kind x) 1 0) (k ∷ ks) i k lt
    by false e = omega arith

abbrev one_if : Bool → ℕ
one_if b = cond b 1 0

both_cond : (a b : Bool) → one_if (a && b) ≡ cond a (one_if b) 0
both_cond true b = refl
both_cond false b = refl

-- how many of the doomed names are blocks, where a name is no longer that may have been one of them
module _ (n : Name) (ks : List Name) (blocks : ℕ) (gone : Bool) (is : count_by is_block ks ≡ blocks) (found : gone ≡ list_any (same_name n) ks) where
  counted : count_by is_block (swap_remove_by (same_name n) ks) + cond (gone && is_block n) 1 0 ≡ blocks
  counted = ap (λ k. count_by is_block (swap_remove_by (same_name n) ks) + k) (both_cond gone (is_block n) ∙ ap (λ b. cond b (cond (is_block n) 1 0) 0) found)
      ∙ (count_undoomed is_block n ks ∙ is)

  pub undoomed_there : (gone && is_block n) ≡ true → 0 < blocks
  undoomed_there e = let k = counted in let o = ap one_if e in omega (arith, k, o)

  pub undoomed_left : (left : ℕ) → left + cond (gone && is_block n) 1 0 ≡ blocks → count_by is_block (swap_remove_by (same_name n) ks) ≡ left
  undoomed_left left e = let k = counted in omega (arith, k, e)
