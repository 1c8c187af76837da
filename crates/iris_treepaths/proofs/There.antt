-- What is there.
use Rattle.std.proofs.Common.{◌≡◌, Option, Some, None, is_some, refl, ap, sym, ◌∙◌, true≢false}
use Rattle.std.specs.Prelude.{IsSome, unwrap_or as option_unwrap_or}

pub got : {A : Type 0} → (o : Option A) → IsSome o → (x : A) × (o ≡ Some x)
got None h = absurd (true≢false (sym h))
got (Some x) h = (x, refl)

pub is_there : {A : Type 0} → (o : Option A) → (x : A) → o ≡ Some x → IsSome o
is_there o x e = ap is_some e

pub never_none : {A : Type 0} → (o : Option A) → IsSome o → o ≡ None → ⊥
never_none o s e = true≢false (sym s ∙ ap is_some e)

pub not_both : {A : Type 0} → (o : Option A) → (x : A) → o ≡ Some x → o ≡ None → ⊥
not_both o x e = never_none o (is_there o x e)

pub one_of : {A : Type 0} → (a b : A) → Some a ≡ Some b → a ≡ b
one_of a b e = ap (λ (o : Option _). option_unwrap_or o a) e
