-- From how many dirty and unsure names on a history is crowded.
use Rattle.std.proofs.Common.{◌≡◌, ◌<◌, ◌≤◌, ◌==◌, ◌&&◌, nat_lt, ◌⊎◌, inl, inr, ℕ, zero, suc, ◌-◌, [], ◌∷◌, Bool, true, false, Option, Some, None, IsSome, if◌then◌else◌, refl, ◌∙◌, ap, subst, arith}
use Rattle.std.proofs.lemmas.Bool.{and_parts, eqb-true, ltb-true, lt-ltb}
use Rattle.std.proofs.lemmas.Grind.{common_steps}
use Rattle.iris_name.specs.declared.name.Name.{Name}
use Rattle.iris_name.specs.declared.name.Name.TheVariants.{Entry, Part, Block}
use Rattle.iris_name.specs.declared.note.Answer.TheVariants.{Failed}
use Rattle.iris_name.specs.History.{Past, OnceWas}
use Rattle.iris_name.specs.Names.{same_name}
use Rattle.iris_history.specs.Answers.{Nothing, Stored}
use Rattle.iris_history.specs.Crowding.{IsCrowded}
use Rattle.iris_history.specs.Kept.{Kept, is_block}
use Rattle.iris_history.specs.Status.{IsStored, IsClean, IsDirty, IsUnsure}
use Rattle.iris_history.proofs.Counts.{few, many}
use Rattle.iris_history.proofs.ExampleTable.{n, block, entry, put, got, past_in, differ, differ'}

-- The first blocks of file 2 and the first entries are live, so many of each, and no call changes them.
abbrev five_if : Bool → Option ℕ
five_if b = if b then Some 5 else None

abbrev lives : ℕ → ℕ → Name → Option ℕ
lives blocks entries (Entry i) = five_if (nat_lt i.0 entries)
lives blocks entries (Part f l i) = None
lives blocks entries (Block f p) = five_if ((f.0 == 2) && nat_lt p blocks)

abbrev pub crowd : ℕ → ℕ → Kept
crowd blocks entries =
    record { Table = ℕ; Unfolded = ℕ; start = 0; step = λ t r. t; shown = λ t n. lives blocks entries n; spelled = λ n u. u ∷ []; version = λ u. u; key = [] }

shown_when : (b : Bool) → b ≡ true → IsSome (five_if b)
shown_when true e = refl
shown_when false e = absurd (differ' e)

when_shown : (b : Bool) → IsSome (five_if b) → b ≡ true
when_shown true e = refl
when_shown false e = absurd (differ' e)

block_lives : (blocks entries p : ℕ) → p < blocks → IsSome (lives blocks entries (block p))
block_lives blocks entries p lt = shown_when _ (lt-ltb p blocks lt)

entry_lives : (blocks entries i : ℕ) → i < entries → IsSome (lives blocks entries (entry i))
entry_lives blocks entries i lt = shown_when _ (lt-ltb i entries lt)

block_apart : (p q : ℕ) → q < p → same_name (block p) (block q) ≡ false
block_apart p q lt = grind (arith, common_steps)

entry_apart : (p q : ℕ) → q < p → same_name (entry p) (entry q) ≡ false
entry_apart p q lt = grind (arith, common_steps)

place : Name → ℕ
place (Entry i) = i.0
place (Part f l i) = 0
place (Block f p) = p

live_block : (blocks entries : ℕ) (n : Name) → is_block n ≡ true → IsSome (lives blocks entries n) → (n ≡ block (place n)) × (place n < blocks)
unfolding place
live_block blocks entries (Entry i) is live = absurd (differ' is)
live_block blocks entries (Part f l i) is live = absurd (differ' is)
live_block blocks entries (Block f p) is live = let b = and_parts _ _ (when_shown _ live) in let two : f.0 ≡ 2 = eqb-true f.0 2 b.0 in
    (ap (λ i. Block (record { 0 = i }) p) two, ltb-true p blocks b.1)

live_node : (blocks entries : ℕ) (n : Name) → is_block n ≡ false → IsSome (lives blocks entries n) → (n ≡ entry (place n)) × (place n < entries)
unfolding place
live_node blocks entries (Entry i) is live = (refl, ltb-true i.0 entries (when_shown _ live))
live_node blocks entries (Part f l i) is live = absurd (differ' live)
live_node blocks entries (Block f p) is live = absurd (differ is)

-- what is dirty or unsure here is live
once_live : (blocks entries : ℕ) (n : Name) (past : Past) → OnceWas (λ p. IsSome (lives blocks entries n)) past → IsSome (lives blocks entries n)
once_live blocks entries n [] h = h
once_live blocks entries n (x ∷ past) (inl h) = h
once_live blocks entries n (x ∷ past) (inr h) = once_live blocks entries n past h

dirty_live : (blocks entries : ℕ) (n : Name) (past : Past) → IsDirty (crowd blocks entries) n past → IsSome (lives blocks entries n)
dirty_live blocks entries n past (inl h) = h.0
dirty_live blocks entries n past (inr doomed) = once_live blocks entries n past doomed.once

either_live : (blocks entries : ℕ) (n : Name) (past : Past) → IsDirty (crowd blocks entries) n past ⊎ IsUnsure (crowd blocks entries) n past → IsSome (lives blocks entries n)
either_live blocks entries n past (inl dirty) = dirty_live blocks entries n past dirty
either_live blocks entries n past (inr unsure) = unsure.live

-- 448 blocks that were never put make it crowded, or 2,048 nodes
pub crowded_by_blocks : (blocks entries : ℕ) → 448 ≤ blocks → IsCrowded (crowd blocks entries) []
crowded_by_blocks blocks entries le = inl (many block block_apart _ 448 blocks le (λ q lt. (refl, inl (inl (block_lives blocks entries q lt, λ c. c.stored)))))

crowded_by_nodes : (blocks entries : ℕ) → 2048 ≤ entries → IsCrowded (crowd blocks entries) []
crowded_by_nodes blocks entries le = inr (many entry entry_apart _ 2048 entries le (λ q lt. (refl, inl (entry_lives blocks entries q lt, λ c. c.stored))))

-- 447 and 2,047 live names don't, after any notes: each counts once
pub not_crowded : (past : Past) → IsCrowded (crowd 447 2047) past → ⊥
not_crowded past (inl h) = few _ block place 447 (λ n p. live_block 447 2047 n p.0 (either_live 447 2047 n past p.1)) 448 (omega arith) h
not_crowded past (inr h) = few _ entry place 2047 (λ n p. live_node 447 2047 n p.0 (dirty_live 447 2047 n past p.1)) 2048 (omega arith) h

-- 448 blocks of which one is clean don't
abbrev one_put : Past
one_put = past_in (put 0 5 true ∷ [])

abbrev one_doubtful : Past
one_doubtful = past_in (put 0 5 true ∷ got 1 Failed ∷ [])

one_clean : IsClean (crowd 448 0) n one_put
one_clean = record { live = refl; stored = (refl, (refl, λ l. refl)) }

not_first : (q : ℕ) → IsDirty (crowd 448 0) (block q) one_put ⊎ IsUnsure (crowd 448 0) (block q) one_put → 0 < q
not_first zero (inl (inl h)) = absurd (h.1 one_clean)
not_first zero (inl (inr doomed)) = absurd (differ doomed.gone)
not_first zero (inr unsure) = absurd unsure.doubtful
not_first (suc q) h = omega arith

other_blocks : (m : Name) → (is_block m ≡ true) × (IsDirty (crowd 448 0) m one_put ⊎ IsUnsure (crowd 448 0) m one_put)
    → (m ≡ block (suc (place m - 1))) × (place m - 1 < 447)
other_blocks m p =
    let at = live_block 448 0 m p.0 (either_live 448 0 m one_put p.1) in
    let first = not_first (place m) (subst (λ x. IsDirty (crowd 448 0) x one_put ⊎ IsUnsure (crowd 448 0) x one_put) at.0 p.1) in
    let e : place m ≡ suc (place m - 1) = omega (arith, first) in
    (at.0 ∙ ap block e, omega (arith, first, at.1))

not_crowded_by_a_clean_one : IsCrowded (crowd 448 0) one_put → ⊥
not_crowded_by_a_clean_one (inl h) = few _ (λ p. block (suc p)) (λ m. place m - 1) 447 other_blocks 448 (omega arith) h
not_crowded_by_a_clean_one (inr h) = few _ entry place 0 (λ m p. live_node 448 0 m p.0 (dirty_live 448 0 m one_put p.1)) 2048 (omega arith) h

-- and do once a get of that one failed
crowded_by_an_unsure_one : IsCrowded (crowd 448 0) one_doubtful
crowded_by_an_unsure_one = inl (many block block_apart _ 448 448 (omega arith) by) where
  by : (q : ℕ) → q < 448 → (is_block (block q) ≡ true) × (IsDirty (crowd 448 0) (block q) one_doubtful ⊎ IsUnsure (crowd 448 0) (block q) one_doubtful)
  by zero lt = (refl, inr (record { block = refl; live = refl; doubtful = inl tt }))
  by (suc q) lt = (refl, inl (inl (block_lives 448 0 (suc q) lt, λ c. subst (λ b. IsStored (crowd 448 0) (block (suc q)) one_doubtful (if b then Stored 0 (5 ∷ []) true else Nothing)) (block_apart (suc q) 0 (omega arith)) c.stored)))
