-- Blocks filled up with zeros.
use Rattle.std.proofs.Common.{◌≡◌, ℕ, ◌-◌, ◌≤◌, List, [], ◌∷◌, ◌++◌, refl, length, take, replicate, ◌<◌, get_or, codes, subst, sym, ◌∙◌, ap, arith}
use Rattle.std.proofs.lemmas.List.{take_all}
use Rattle.std.proofs.lemmas.Grind.{get_or_default_zero}
use Rattle.std.proofs.lemmas.List.Elements.{All-append, All-replicate}
use Rattle.std.specs.Str.{IsUtf8}
use lib.Utf8.{encode}
use Rattle.iris_history.specs.Values.{AreBytes}
use Rattle.iris.specs.Lines.{filled_block}
use Rattle.iris_rows.specs.Rows.{zeros}

pub filled_from : (bytes old made : List ℕ) (n : ℕ) → made ≡ take 4096 old ++ replicate (4096 - n) 0 → n ≡ length old → old ≡ bytes → length bytes ≤ 4096 → made ≡ filled_block bytes
filled_from bytes old made n e len same le = e ∙ rw (len, same) (ap (λ z. z ++ replicate (4096 - length bytes) 0) (take_all 4096 bytes le))

-- so many zeros are bytes
bytes_replicate : (n : ℕ) → AreBytes (replicate n 0)
bytes_replicate n = All-replicate (λ b. b < 256) n 0 (omega arith)

-- what is below 256 at each index is bytes
pub bytes_by_index : (xs : List ℕ) → ((k : ℕ) → get_or xs k 0 < 256) → AreBytes xs
bytes_by_index xs h k d lt = subst (λ z. z < 256) (sym (get_or_default_zero xs k d lt)) (h k)

-- a block of zeros is bytes
pub bytes_zeros : AreBytes zeros
unfolding zeros
bytes_zeros = bytes_replicate 4096

-- bytes that are filled up stay bytes
pub bytes_filled : (bytes : List ℕ) → AreBytes bytes → AreBytes (filled_block bytes)
bytes_filled bytes h = All-append (λ b. b < 256) bytes (replicate (4096 - length bytes) 0) h (bytes_replicate (4096 - length bytes))

-- the path of the one file is a text
pub path_is_text : IsUtf8 (codes "/f")
unfolding encode
path_is_text = (47 ∷ 102 ∷ [], (refl, refl))
