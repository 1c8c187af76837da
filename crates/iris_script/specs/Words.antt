-- The words of a line that stand for numbers and for bytes.
use Rattle.std.specs.Prelude.{◌≡◌, ◌==◌, ◌⊎◌, ℕ, ◌<◌, ◌^◌, List, [], length, codes, decimal, Ok}
use Rattle.std.specs.List.{slice_split}
use Rattle.hex.specs.Hex.{decode_of}

-- the word is `0`, or this number in decimal digits without a leading zero, and the number fits 64 bits
abbrev pub IsNumber : List ℕ → ℕ → Type 0
IsNumber word n = (n < 2 ^ 64) × (word ≡ decimal n)

-- the word is these bytes, at least one, two hexadecimal digits of either case for each
abbrev pub IsHexOf : List ℕ → List ℕ → Type 0
IsHexOf word bytes = (0 < length bytes) × (decode_of word ≡ Ok bytes)

-- the word is `-` for no bytes, or these bytes in hexadecimal digits
abbrev pub IsBytesWord : List ℕ → List ℕ → Type 0
IsBytesWord word bytes = ((word ≡ codes "-") × (bytes ≡ [])) ⊎ IsHexOf word bytes

-- the words of a line: the parts between blanks, so that two blanks have an empty word between them
abbrev pub words_of : List ℕ → List (List ℕ)
words_of line = slice_split (λ b. b == 32) line
