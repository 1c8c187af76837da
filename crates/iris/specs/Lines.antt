-- The script of block registers: which request a line spells, and which line is the first that spells none.
use Rattle.std.specs.Prelude.{◌≡◌, ℕ, ◌+◌, ◌-◌, ◌*◌, ◌<◌, ◌≤◌, List, [], ◌∷◌, ◌++◌, length, replicate, codes}
use Rattle.std.specs.List.{All}
use Rattle.iris_name.specs.declared.request.Request.{Request}
use Rattle.iris_name.specs.declared.request.Request.TheVariants.{Write, Read}
use Rattle.iris_script.specs.Words.{IsNumber, IsHexOf}
use Rattle.iris.specs.declared.line.Line.{Line}
use Rattle.iris.specs.declared.line.Line.TheVariants as line
use Rattle.iris.specs.declared.line.LineError.{LineError}
use Rattle.iris.specs.declared.line.LineError.TheVariants.{NotRequest, NoMemory}

-- the word is the number of a register
abbrev pub IsRegisterNumber : List ℕ → ℕ → Type 0
IsRegisterNumber word place = IsNumber word place × (place < 65536)

-- the bytes, filled up with zeros to a block
abbrev pub filled_block : List ℕ → List ℕ
filled_block bytes = bytes ++ replicate (4096 - length bytes) 0

-- the request that writes these bytes, filled up, to a register of the one file
abbrev pub write_of : ℕ → List ℕ → Request
write_of place bytes = Write (codes "/f") (place * 4096) (filled_block bytes)

-- the request that reads a register whole
abbrev pub read_of : ℕ → Request
read_of place = Read (codes "/f") (place * 4096) 4096

-- a line `write PLACE HEX` of 1 to 4,096 bytes
pub record IsWriteLine (line : List ℕ) (place : ℕ) (bytes : List ℕ) : Type 0 where
  pub word : List ℕ
  pub digits : List ℕ
  pub text : line ≡ codes "write " ++ (word ++ (codes " " ++ digits))
  pub is_place : IsRegisterNumber word place
  pub is_hex : IsHexOf digits bytes
  pub fits : length bytes ≤ 4096

-- a line `read PLACE`
pub record IsReadLine (line : List ℕ) (place : ℕ) : Type 0 where
  pub word : List ℕ
  pub text : line ≡ codes "read " ++ word
  pub is_place : IsRegisterNumber word place

-- the line spells the request
pub data SpellsLine (line : List ℕ) : Request → Type 0 where
  Writes : (place : ℕ) (bytes : List ℕ) → IsWriteLine line place bytes → SpellsLine line (write_of place bytes)
  Reads : (place : ℕ) → IsReadLine line place → SpellsLine line (read_of place)

-- the lines spell the requests, one for one
abbrev pub AllSpell : List (List ℕ) → List Request → Type 0
AllSpell [] [] = Unit {0}
AllSpell (line ∷ lines) (request ∷ requests) = SpellsLine line request × AllSpell lines requests
AllSpell [] (request ∷ requests) = ⊥
AllSpell (line ∷ lines) [] = ⊥

-- the line spells no request
abbrev pub SpellsNone : List ℕ → Type 0
SpellsNone line = (request : Request) → SpellsLine line request → ⊥

-- the n-th line, counted from 1, spells no request, and each before it spells one
pub record IsFirstBad (lines : List (List ℕ)) (n : ℕ) : Type 0 where
  pub before : List (List ℕ)
  pub line : List ℕ
  pub after : List (List ℕ)
  pub requests : List Request
  pub whole : lines ≡ before ++ line ∷ after
  pub place : n ≡ length before + 1
  pub spelled : AllSpell before requests
  pub none : SpellsNone line

-- the request that a line that was read stands for
abbrev pub request_of : Line → Request
request_of (line.Write place bytes) = write_of place bytes
request_of (line.Read place) = read_of place

-- a line that was read names one of 65,536 registers, and writes 1 to 4,096 bytes
abbrev pub IsInRange : Line → Type 0
IsInRange (line.Write place bytes) = (place < 65536) × (1 ≤ length bytes) × (length bytes ≤ 4096) × All (λ b. b < 256) bytes
IsInRange (line.Read place) = place < 65536

-- why lines aren't all read: the first that spells no request, or want of memory
abbrev pub IsLineFault : List (List ℕ) → LineError → Type 0
IsLineFault lines (NotRequest n) = IsFirstBad lines n
IsLineFault lines NoMemory = Unit {0}
