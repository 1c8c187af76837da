-- A page of names: each is the least that is greater than the one before it.
use Rattle.std.specs.Prelude.{◌≡◌, ℕ, zero, suc, List, [], ◌∷◌, Bool, true, false}
use Rattle.iris_plain.specs.Routes.{is_name_before}

-- none of the names that are there is greater than this one
abbrev pub NoneLater : (List ℕ → Bool) → List ℕ → Type 0
NoneLater there after = (m : List ℕ) → there m ≡ true → is_name_before after m ≡ true → ⊥

-- the name is there, greater than the other, and the least of these
pub record IsNext (there : List ℕ → Bool) (after n : List ℕ) : Type 0 where
  pub here : there n ≡ true
  pub later : is_name_before after n ≡ true
  pub least : (m : List ℕ) → there m ≡ true → is_name_before after m ≡ true → is_name_before m n ≡ false

-- a page of at most so many of the names that are there and greater than this one
abbrev pub IsPage : (List ℕ → Bool) → ℕ → List ℕ → List (List ℕ) → Type 0
IsPage there zero after page = page ≡ []
IsPage there (suc room) after [] = NoneLater there after
IsPage there (suc room) after (n ∷ page) = IsNext there after n × IsPage there room n page
