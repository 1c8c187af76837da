-- Counts over the resident nodes, by what is held of each name.
use Rattle.std.proofs.Common.{◌≡◌, ◌+◌, ℕ, Bool, true, false, cond, List, [], ◌∷◌, map, Option, None, refl, ap, sym, ◌∙◌, arith}
use Rattle.std.specs.Prelude.{unwrap_or}
use Rattle.std.specs.Option.{option_map}
use Rattle.std.specs.Map.{lookup, keys_of, values_of, remove_entry}
use Rattle.std.specs.List.{sum_by, IsDistinct}
use Rattle.indexmap.specs.Layout.{hash_map}
use Rattle.std.proofs.lemmas.List.Sums.{sum_by-cons}
use Rattle.std.proofs.lemmas.Map.{lookup-remove_entry}
use Rattle.std.proofs.lemmas.Map.Keys.{IsDistinct-head, IsDistinct-tail, IsDistinct-cons}
use Rattle.std.specs.List.{AllByRecursion}
use Rattle.std.proofs.lemmas.Map.Lookups.{map_keys, hash_map_IsPermutation_from_get}
use Rattle.std.proofs.lemmas.Map.Entries.{sum_by_values_permutation, sum_by-remove_entry}
use Rattle.iris_name.specs.Names.{same_name}
use Rattle.iris_name.specs.NameLaws.{same_name_equiv, same_name-true}
use Rattle.iris_name.specs.declared.name.Name.{Name}

-- a name, as a test, passes what equals it
one-name : (n x y : Name) → same_name n x ≡ true → same_name n y ≡ same_name x y
one-name n x y h = same_name_equiv.congr n x y h

module _ {X : Type 0} where
  values-map_keys : (es : List (Name × X)) → values_of (map_keys (λ (n : Name). n) es) ≡ values_of es
  values-map_keys [] = refl
  values-map_keys (e ∷ es) = ap (λ l. e.1 ∷ l) (values-map_keys es)

  -- two lists that hold the same of each name have the same sum
  pub sum-same : (w : X → ℕ) (es fs : List (Name × X)) → IsDistinct same_name (keys_of es) → IsDistinct same_name (keys_of fs)
      → ((q : Name) → lookup (same_name q) es ≡ lookup (same_name q) fs) → sum_by w (values_of fs) ≡ sum_by w (values_of es)
  sum-same w es fs de df same =
      ap (sum_by w) (sym (values-map_keys fs))
      ∙ sum_by_values_permutation w (map_keys (λ (n : Name). n) es) (map_keys (λ (n : Name). n) fs)
      (hash_map_IsPermutation_from_get same_name_equiv (hash_map {S = ℕ} es 0 0) (hash_map {S = ℕ} fs 0 0) de df same (λ (n : Name). n) same_name-true)
      ∙ ap (sum_by w) (values-map_keys es)

  abbrev Apart : Name → List (Name × X) → Type 0
  Apart n es = AllByRecursion (λ y. same_name n y ≡ false) (keys_of es)

  apart-cond : (b : Bool) (n : Name) (e : Name × X) (es fs : List (Name × X)) → Apart n (e ∷ es) → Apart n fs → Apart n (cond b es (e ∷ fs))
  apart-cond true n e es fs h g = h.1
  apart-cond false n e es fs h g = (h.0, g)

  apart-remove_entry : (test : Name → Bool) (n : Name) (es : List (Name × X)) → Apart n es → Apart n (remove_entry test es)
  apart-remove_entry test n [] h = h
  apart-remove_entry test n (e ∷ es) h = apart-cond (test e.0) n e es (remove_entry test es) h (apart-remove_entry test n es h.1)

  abbrev Once : List (Name × X) → Type 0
  Once es = IsDistinct same_name (keys_of es)

  once-cond : (b : Bool) (e : Name × X) (es fs : List (Name × X)) → Once (e ∷ es) → Apart e.0 fs → Once fs → Once (cond b es (e ∷ fs))
  once-cond true e es fs d a f = IsDistinct-tail same_name e.0 (keys_of es) d
  once-cond false e es fs d a f = IsDistinct-cons same_name e.0 (keys_of fs) a f

  distinct-remove_entry : (test : Name → Bool) (es : List (Name × X)) → Once es → Once (remove_entry test es)
  distinct-remove_entry test [] d = d
  distinct-remove_entry test (e ∷ es) d =
      once-cond (test e.0) e es (remove_entry test es) d
      (apart-remove_entry test e.0 es (IsDistinct-head same_name e.0 (keys_of es) d))
      (distinct-remove_entry test es (IsDistinct-tail same_name e.0 (keys_of es) d))

  -- what is weighed of one that may be there
  abbrev pub weight : (X → ℕ) → Option X → ℕ
  weight w o = unwrap_or (option_map w o) 0

  choose : (b : Bool) (v : Option X) (x y : Option X) → x ≡ cond b v y → cond b None x ≡ cond b None y
  choose true v x y h = refl
  choose false v x y h = h

  -- a list that holds v of one name, and of each other name what another list holds, has its sum but for that name
  pub sum-updated : (w : X → ℕ) (es fs : List (Name × X)) (n : Name) (v : Option X) → IsDistinct same_name (keys_of es) → IsDistinct same_name (keys_of fs)
      → ((q : Name) → lookup (same_name q) fs ≡ cond (same_name n q) v (lookup (same_name q) es))
      → sum_by w (values_of fs) + weight w (lookup (same_name n) es) ≡ sum_by w (values_of es) + weight w v
  sum-updated w es fs n v de df is =
      let rest = sum-same w (remove_entry (same_name n) es) (remove_entry (same_name n) fs) (distinct-remove_entry (same_name n) es de) (distinct-remove_entry (same_name n) fs df)
      (λ q. lookup-remove_entry same_name_equiv (same_name n) (one-name n) q es de ∙ sym (choose (same_name n q) v _ _ (is q)) ∙ sym (lookup-remove_entry same_name_equiv (same_name n) (one-name n) q fs df)) in
      let e = sum_by-remove_entry w (same_name n) es in
      let f = sum_by-remove_entry w (same_name n) fs in
      let at : weight w (lookup (same_name n) fs) ≡ weight w v = ap (weight w) (is n ∙ ap (λ b. cond b v (lookup (same_name n) es)) (same_name_equiv.refl n)) in
      omega (arith, rest, e, f, at)

  -- a change of all that keeps what each weighs keeps the sum
  pub sum-all : (w : X → ℕ) (f : X → X) → ((x : X) → w (f x) ≡ w x) → (es : List (Name × X)) → sum_by w (values_of (map (λ e. (e.0, f e.1)) es)) ≡ sum_by w (values_of es)
  sum-all w f keep [] = refl
  sum-all w f keep (e ∷ es) =
      sum_by-cons w (f e.1) (values_of (map (λ e. (e.0, f e.1)) es))
      ∙ ap (λ k. k + sum_by w (values_of (map (λ e. (e.0, f e.1)) es))) (keep e.1)
      ∙ ap (λ k. w e.1 + k) (sum-all w f keep es)
      ∙ sym (sum_by-cons w e.1 (values_of es))
