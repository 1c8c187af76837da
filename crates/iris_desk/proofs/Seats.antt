-- A list of desks of which one changes.
use Rattle.std.proofs.Common.{◌≡◌, ℕ, zero, suc, ◌<◌, ◌==◌, List, [], ◌∷◌, length, set, Bool, true, false, cond, Some, refl, sym, ◌∙◌, ap, arith, eq-eqb, true≢false}
use Rattle.std.specs.Prelude.{slice_get}
use Rattle.std.specs.Option.{option_map}
use Rattle.std.proofs.lemmas.Bool.{eqb-true}

module _ {X : Type 0} where
  pub set_here : (xs : List X) (i : ℕ) (y : X) → i < length xs → slice_get (set xs i y) i ≡ Some y
  set_here [] i y lt = absurd (omega (arith, lt))
  set_here (x ∷ xs) zero y lt = refl
  set_here (x ∷ xs) (suc i) y lt = set_here xs i y (omega (arith, lt))

  pub set_there : (xs : List X) (i k : ℕ) (y : X) → (k ≡ i → ⊥) → slice_get (set xs i y) k ≡ slice_get xs k
  set_there [] i k y ne = refl
  set_there (x ∷ xs) zero zero y ne = absurd (ne refl)
  set_there (x ∷ xs) zero (suc k) y ne = refl
  set_there (x ∷ xs) (suc i) zero y ne = refl
  set_there (x ∷ xs) (suc i) (suc k) y ne = set_there xs i k y (λ e. ne (ap suc e))

  -- an element is written anew by f
  pub set_changes : (xs : List X) (i : ℕ) (x y : X) (f : X → X) → i < length xs → slice_get xs i ≡ Some x → y ≡ f x → (k : ℕ) → slice_get (set xs i y) k ≡ cond (k == i) (option_map f (slice_get xs k)) (slice_get xs k)
  set_changes xs i x y f lt at is k = by (k == i) refl where
    by : (b : Bool) → (k == i) ≡ b → slice_get (set xs i y) k ≡ cond b (option_map f (slice_get xs k)) (slice_get xs k)
    by true e =
        let z : k ≡ i = eqb-true k i e in
        ap (slice_get (set xs i y)) z ∙ (set_here xs i y lt ∙ (ap Some is ∙ sym (ap (λ m. option_map f (slice_get xs m)) z ∙ ap (option_map f) at)))
    by false e = set_there xs i k y (λ z. true≢false (sym (eq-eqb k i z) ∙ e))
