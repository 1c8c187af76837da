-- The front of a record is its block.
use Rattle.std.proofs.Common.{◌≡◌, ℕ, List, [], ◌++◌, ◌≤◌, length, take, subst, sym, ap, ◌∙◌, arith}
use Rattle.std.proofs.lemmas.List.{length-take-le}
use Rattle.std.proofs.Math.Seq.{take-append_seam}
use Rattle.iris_name.specs.Hmac.{record_of, tag}

pub front_of : (xs ys : List ℕ) → length xs ≡ 4096 → take 4096 (xs ++ ys) ≡ xs
front_of xs ys e = subst (λ n. take n (xs ++ ys) ≡ xs) e (take-append_seam xs ys)

pub front_of_record : (key : List ℕ) (file place version : ℕ) (block : List ℕ) → length block ≡ 4096 → take 4096 (record_of key file place version block) ≡ block
front_of_record key file place version block e = front_of block (tag key file place version block) e

-- a list that begins empty, and gets a block and then more
pub front_of_grown : (none some all block more page : List ℕ) → none ≡ [] → some ≡ none ++ block → all ≡ some ++ more → block ≡ page → length block ≡ 4096 → take 4096 all ≡ page
front_of_grown none some all block more page a b c d e = let f : some ≡ block = b ∙ ap (λ xs. xs ++ block) a in ap (take 4096) (c ∙ ap (λ xs. xs ++ more) f) ∙ (front_of block more e ∙ d)

pub front_length : (bytes : List ℕ) → length bytes ≡ 4128 → length (take 4096 bytes) ≡ 4096
front_length bytes e = length-take-le 4096 bytes (let f : length bytes ≡ 4128 = e in omega arith)
