-- What saves a history of the counter and what doesn't; what evidence is; and what passes a check.
use Rattle.std.proofs.Common.{◌≡◌, inl, inr, ℕ, List, [], ◌∷◌, Bool, true, false, Some, refl, sym, arith}
use Rattle.iris_name.specs.declared.name.Hash32.{Hash32}
use Rattle.iris_name.specs.declared.name.Name.{Name}
use Rattle.iris_name.specs.declared.name.Name.TheVariants.{Entry, Block}
use Rattle.iris_name.specs.declared.note.Answer.TheVariants.{Absent, Given}
use Rattle.iris_name.specs.declared.note.Expect.TheVariants.{Hash, Version}
use Rattle.iris_name.specs.declared.request.Reply.TheVariants.{Done}
use Rattle.iris_name.specs.History.{Past}
use Rattle.iris_history.specs.StatusLaws.{called, got}
use Rattle.sha2.specs.Sha256.{sha256}
use Rattle.iris_invariant.specs.Agrees.{IsTrueOf}
use Rattle.iris_invariant.specs.Evidence.{WasGot}
use Rattle.iris_invariant.specs.Readings.{PassesCheck}
use Rattle.iris_invariant.specs.Saves as s
use Rattle.iris_invariant.specs.Saves.{Saved}
use Rattle.iris_invariant.proofs.ExampleCounter.{block, counter, differ}
use Rattle.iris_invariant.proofs.ExamplesOfEvents.{past1, past2, read, stored}
use Rattle.iris_invariant.proofs.Begins.{unmarked_clean}

-- a written block is held where no put was made, and where its put was answered ok it isn't
held_unput : Saved counter block past1 true false
held_unput = s.Dirty refl refl refl (λ c. c.stored)

not_held_unput : Saved counter block past1 false false → ⊥
not_held_unput (s.Dirty h d live un) = differ (sym h)
not_held_unput (s.Unsure h d u) = differ (sym h)
not_held_unput (s.Clean h d c) = c.stored
not_held_unput (s.Doomed h d dd) = differ (sym d)
not_held_unput (s.Gone h d g nd) = differ g

not_held_put : Saved counter block past2 false false
not_held_put = s.Clean refl refl (unmarked_clean counter block past2 _ _ (stored.marks block) refl refl)

-- and it is doomed in neither
not_doomed : (held : Bool) → Saved counter block past1 held true → ⊥
not_doomed held (s.Dirty h d live un) = differ d
not_doomed held (s.Unsure h d u) = differ d
not_doomed held (s.Clean h d c) = differ d
not_doomed held (s.Doomed h d dd) = differ dd.gone
not_doomed held (s.Gone h d g nd) = differ d

-- a get that gave the record is evidence for its caller, and no longer after the caller's next call; other bytes, another
-- caller's get, and another name's are none
abbrev fetched : ℕ → Name → List ℕ → Past
fetched who n bytes = got 0 who 2 n (Given bytes) ∷ past2

was_got : WasGot counter 1 block (fetched 1 block (1 ∷ []))
was_got = inl (refl, refl, record { u = 1; live = refl; is = refl })

called_since : WasGot counter 1 block (called 0 1 read Done ∷ fetched 1 block (1 ∷ [])) → ⊥
called_since h = h.0 refl

called_by_another : WasGot counter 1 block (called 0 2 read Done ∷ fetched 1 block (1 ∷ []))
called_by_another = (λ e. absurd (let n : 2 ≡ 1 = e in omega (arith, n)), was_got)

-- nothing else was got in the run
nothing_got : (n : Name) → WasGot counter 1 n past2 → ⊥
nothing_got n h = h.0 refl

got_by_another : WasGot counter 1 block (fetched 2 block (1 ∷ [])) → ⊥
got_by_another (inl h) = let n : 2 ≡ 1 = h.0 in absurd (omega (arith, n))
got_by_another (inr h) = nothing_got block h

got_of_another : WasGot counter 1 block (fetched 1 (Block (record { 0 = 2 }) 1) (1 ∷ [])) → ⊥
got_of_another (inl h) = differ (sym h.1)
got_of_another (inr h) = nothing_got block h

got_absent : WasGot counter 1 block (got 0 1 2 block Absent ∷ past2) → ⊥
got_absent (inl h) = let e = h.2.is in absurd (cc)
got_absent (inr h) = nothing_got block h

-- a node's expectation is a hash and a block's a version; bytes of another hash, or that spell no node of the name, fail
abbrev node : Name
node = Entry (record { 0 = 2 })

abbrev hash_of_bytes : List ℕ → Hash32
hash_of_bytes bytes = record { 0 = sha256 bytes }

passes : (bytes : List ℕ) → PassesCheck counter (λ n b. Unit {0}) node (Hash (hash_of_bytes bytes)) bytes
passes bytes = (refl, tt)

unfit : (bytes : List ℕ) → PassesCheck counter (λ n b. ⊥) node (Hash (hash_of_bytes bytes)) bytes → ⊥
unfit bytes h = h.1

no_version_of_node : (bytes : List ℕ) → PassesCheck counter (λ n b. Unit {0}) node (Version 1) bytes → ⊥
no_version_of_node bytes h = h

true_version : IsTrueOf counter block (Version 1) (Some 1)
true_version = (refl, refl)

another_version : IsTrueOf counter block (Version 2) (Some 1) → ⊥
another_version h = let n : 2 ≡ 1 = h.1 in absurd (omega (arith, n))

no_hash_of_block : (h : Hash32) → IsTrueOf counter block (Hash h) (Some 1) → ⊥
no_hash_of_block h t = differ t.0
