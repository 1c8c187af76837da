-- How many doomed names are no blocks, by how many are.
use Rattle.std.proofs.Common.{◌≡◌, ◌+◌, ◌-◌, ℕ, List, [], ◌∷◌, length, Bool, true, false, cond, not, refl, arith}
use Rattle.std.proofs.lemmas.List.Sums.{sum_by-cons}
use Rattle.std.specs.List.{count_by}
use Rattle.iris_cache.specs.Dirty.{dirty_nodes}
use Rattle.iris_history.specs.Kept.{is_block}
use Rattle.iris_pool.specs.Counts.{marked_nodes}
use Rattle.iris_pool.specs.Pool.{PoolState}

abbrev one_of : Bool → ℕ
one_of b = cond b 1 0

-- what passes a test and what doesn't are all
pub counted_either : {X : Type 0} (p : X → Bool) (xs : List X) → count_by p xs + count_by (λ x. not (p x)) xs ≡ length xs
counted_either p [] = refl
counted_either p (x ∷ xs) =
    let a = sum_by-cons (λ y. cond (p y) 1 0) x xs in
    let b = sum_by-cons (λ y. cond (not (p y)) 1 0) x xs in
    let rest = counted_either p xs in
    let one = by (p x) in
    omega (arith, a, b, rest, one) where
      by : (b : Bool) → one_of b + one_of (not b) ≡ 1
      by true = refl
      by false = refl

-- the doomed names that are no blocks are those that are left without the blocks
pub nodes_summed : (p : PoolState) (dirty doomed blocks : ℕ) → dirty ≡ dirty_nodes p.nodes → doomed ≡ length p.desks.doomed → blocks ≡ count_by is_block p.desks.doomed → dirty + (doomed - blocks) ≡ marked_nodes p
nodes_summed p dirty doomed blocks a b c =
    let e : count_by is_block p.desks.doomed + count_by (λ n. not (is_block n)) p.desks.doomed ≡ length p.desks.doomed = counted_either is_block p.desks.doomed in
    omega (arith, a, b, c, e)
