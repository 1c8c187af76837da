-- The words of a command line.
use Rattle.std.specs.Prelude.{◌≡◌, ℕ, List, [], ◌∷◌, length, Ok, codes}
use Rattle.hex.specs.Hex.{decode_of}

-- these are the 64 hexadecimal digits, of either case, of that master key
abbrev pub IsKey : List ℕ → List ℕ → Type 0
IsKey digits master = (decode_of digits ≡ Ok master) × (length master ≡ 32)

-- the words are a command's and the digits of that master key
abbrev pub IsCommand : List ℕ → List (List ℕ) → List ℕ → Type 0
IsCommand command words master = (digits : List ℕ) × (words ≡ command ∷ digits ∷ []) × IsKey digits master

-- the words are `registers` and the digits of that master key
abbrev pub AreWords : List (List ℕ) → List ℕ → Type 0
AreWords words master = IsCommand (codes "registers") words master
