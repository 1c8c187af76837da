-- What a write, another length and a step of reclaiming make of a file.
use Rattle.std.specs.Prelude.{ℕ, zero, suc, ◌+◌, ◌-◌, ◌*◌, ◌/◌, ◌%◌, ◌==◌, ◌&&◌, not, List, ◌++◌, length, take, drop, replicate, Bool, if◌then◌else◌, nat_lt, nat_le}
use Rattle.iris_plain.specs.Checks.{blocks_of}
use Rattle.iris_rows.specs.Rows.{File, at, zeros}

-- the block of a place with bytes over it that begin at an offset of the file
abbrev pub merged : ℕ → List ℕ → ℕ → List ℕ → List ℕ
merged offset bytes p old =
    take (offset - p * 4096) old ++ (take (4096 - (offset - p * 4096)) (drop (p * 4096 - offset) bytes) ++ drop (offset + length bytes - p * 4096) old)

-- bytes at this offset and so many touch the place
abbrev pub is_touched : ℕ → ℕ → ℕ → Bool
is_touched offset count p = nat_le (offset / 4096) p && nat_le p ((offset + count - 1) / 4096)

-- a file after a write: every place that it touches gets the new number
abbrev pub file_written : ℕ → List ℕ → File → File
file_written offset bytes file = record {
  size = if nat_lt file.size (offset + length bytes) then offset + length bytes else file.size;
  counter = file.counter + 1;
  version = λ p. if is_touched offset (length bytes) p then file.counter + 1 else file.version p;
  block = λ p. if is_touched offset (length bytes) p then merged offset bytes p (file.block p) else file.block p;
}

-- a lesser length ends at or inside this place
abbrev pub is_split : ℕ → ℕ → ℕ → Bool
is_split size old p = nat_lt size old && (p == size / 4096)

-- a file at a new length: places past it become holes, and the place that it splits gets the new number where it is no hole
abbrev pub cut : ℕ → File → File
cut size file = record {
  size = size;
  counter = file.counter + 1;
  version = λ p. if nat_le (blocks_of size) p then 0 else if is_split size file.size p && not (file.version p == 0) then file.counter + 1 else file.version p;
  block = λ p. if nat_le (blocks_of size) p then zeros else if is_split size file.size p then take (size % 4096) (file.block p) ++ replicate (4096 - size % 4096) 0 else file.block p;
}

-- how many places before this one are no holes
abbrev pub count_written : (ℕ → ℕ) → ℕ → ℕ
count_written version zero = 0
count_written version (suc p) = if version p == 0 then count_written version p else count_written version p + 1

-- a file whose first 16 places that are no holes become holes
abbrev pub freed : File → File
freed file = record {
  size = file.size;
  counter = file.counter;
  version = λ p. if nat_lt (count_written file.version p) 16 then 0 else file.version p;
  block = λ p. if nat_lt (count_written file.version p) 16 then zeros else file.block p;
}
