-- Lists of one thing.
use Rattle.std.proofs.Common.{◌≡◌, ℕ, zero, suc, List, [], ◌∷◌, ◌++◌, get_or, refl}

-- one more of the same
pub same_more : {X : Type 0} (xs : List X) (d : X) → ((p : ℕ) → get_or xs p d ≡ d) → (p : ℕ) → get_or (xs ++ d ∷ []) p d ≡ d
same_more [] d h zero = refl
same_more [] d h (suc p) = refl
same_more (x ∷ xs) d h zero = h 0
same_more (x ∷ xs) d h (suc p) = same_more xs d (λ q. h (suc q)) p
