-- Paths as words of a line, in which some bytes are escaped.
use Rattle.std.specs.Prelude.{◌≡◌, ◌≢◌, ℕ, ◌<◌, ◌≤◌, List, [], ◌∷◌, ◌++◌, length, codes}
use Rattle.std.specs.Str.{IsUtf8}
use Rattle.iris_script.specs.Words.{IsHexOf}

-- the byte stands for itself: it is no control, no blank, not 0x7f and not `%`
abbrev pub IsUnescaped : ℕ → Type 0
IsUnescaped b = (0x21 ≤ b) × (b ≢ 0x25) × (b ≢ 0x7f)

-- the word begins with this byte, plain or as `%` and two hexadecimal digits, and the rest follows
pub data Begins (word : List ℕ) (b : ℕ) (rest : List ℕ) : Type 0 where
  Plain : IsUnescaped b → word ≡ b ∷ rest → Begins word b rest
  Escaped : (high low : ℕ) → IsHexOf (high ∷ low ∷ []) (b ∷ []) → word ≡ codes "%" ++ (high ∷ low ∷ rest) → Begins word b rest

-- the word spells these bytes
abbrev pub Unescapes : List ℕ → List ℕ → Type 0
Unescapes word [] = word ≡ []
Unescapes word (b ∷ bytes) = (rest : List ℕ) × Begins word b rest × Unescapes rest bytes

-- the word spells this text of at least one byte
pub record IsPathWord (word path : List ℕ) : Type 0 where
  pub some : 0 < length path
  pub spells : Unescapes word path
  pub utf8 : IsUtf8 path
