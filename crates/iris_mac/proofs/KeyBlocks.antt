-- The key's block of a short key.
use Rattle.std.proofs.Common.{◌≡◌, ℕ, ◌≤◌, List, ◌++◌, length, drop, replicate, true, nat_le, arith, ap}
use Rattle.std.proofs.lemmas.List.{drop-replicate}
use Rattle.std.proofs.lemmas.Bool.Decides.{nat_tests}
use Rattle.iris_name.specs.Hmac.{key_block}

pub padded : (key : List ℕ) → length key ≤ 64 → key ++ drop (length key) (replicate 64 0) ≡ key_block key
unfolding key_block
padded key h =
    let e : nat_le (length key) 64 ≡ true = grind (arith, nat_tests) in
    rw e (ap (λ z. key ++ z) (drop-replicate (length key) 64 0))
