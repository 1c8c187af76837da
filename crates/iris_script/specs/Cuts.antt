-- How a text is cut into its lines, and a line at its blanks.
use Rattle.std.specs.Prelude.{◌≡◌, ◌≢◌, ◌==◌, ℕ, List, [], ◌∷◌, ◌++◌}
use Rattle.std.specs.List.{All, slice_split}

-- the byte stands nowhere in the text
abbrev pub IsByteFree : List ℕ → ℕ → Type 0
IsByteFree text byte = All (λ b. b ≢ byte) text

-- the text is the front, the byte, and the rest, and the byte doesn't stand in the front
pub record IsCut (text : List ℕ) (byte : ℕ) (front rest : List ℕ) : Type 0 where
  pub lacks : IsByteFree front byte
  pub whole : text ≡ front ++ byte ∷ rest

-- the parts of a text, but for a last one without bytes
abbrev pub without_empty_last : List (List ℕ) → List (List ℕ)
without_empty_last [] = []
without_empty_last ([] ∷ []) = []
without_empty_last ((b ∷ line) ∷ []) = (b ∷ line) ∷ []
without_empty_last (line ∷ next ∷ lines) = line ∷ without_empty_last (next ∷ lines)

-- the lines of a text: each ends by a line feed, which the last may lack
abbrev pub lines_of : List ℕ → List (List ℕ)
lines_of text = without_empty_last (slice_split (λ b. b == 10) text)
