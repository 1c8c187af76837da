-- What is a forgery or a collision, for any bytes that pass or have the same hash; and which of them make a history bad.
use Rattle.std.proofs.Common.{◌≡◌, ◌≢◌, inl, inr, ℕ, List, [], ◌∷◌, true, take, refl, arith}
use Rattle.sha2.specs.Sha256.{sha256}
use Rattle.iris_name.specs.declared.note.Answer.TheVariants.{Absent, Given, Failed}
use Rattle.iris_name.specs.declared.note.Note.{Note}
use Rattle.iris_name.specs.declared.note.Note.TheVariants.{Got, Put, Dropped}
use Rattle.iris_name.specs.History.{begun}
use Rattle.iris_name.specs.Hmac.{Passes}
use Rattle.iris_history.specs.Breaks.{Breaks}
use Rattle.iris_history.proofs.ExampleTable.{toy, n, block, entry, bytes, call, put, got, past_in, differ, differ'}

-- the note breaks after these, in one session
abbrev Broken : List Note → Note → Type 0
Broken notes note = let past = past_in notes in Breaks toy past (begun past (record { note = note; opened = 0 })) note

-- the bytes pass for block 0 with this version
abbrev Fits : ℕ → List ℕ → Type 0
Fits version given = Passes [] 2 0 version given

-- bytes that pass for the version of when the get began, and were never put, are a forgery
never_put : (given : List ℕ) → Fits 5 given → Broken (call 5 ∷ call 6 ∷ []) (got 1 (Given given))
never_put given fits = inl (fits, λ was. elim was [ inl w ↦ w | inr w ↦ elim w [ inl v ↦ v | inr v ↦ v ] ])

-- what passes for another version alone is none
other_version : (given : List ℕ) → (Fits 5 given → ⊥) → Broken (call 5 ∷ call 6 ∷ []) (got 1 (Given given)) → ⊥
other_version given none (inl f) = none f.0
other_version given none (inr c) = differ c.0

-- what isn't live has version 0
version_when_gone : (given : List ℕ) → Fits 0 given → Broken (call 5 ∷ call 0 ∷ []) (got 2 (Given given))
version_when_gone given fits = inl (fits, λ was. elim was [ inl w ↦ w | inr w ↦ elim w [ inl v ↦ v | inr v ↦ v ] ])

-- a put that carried the block with this version makes it none, whatever its tag was, also one noted after the get began
abbrev put_of : ℕ → List ℕ → Note
put_of since carried = Put 1 since n carried true

was_put : (given carried : List ℕ) → take 4096 carried ≡ take 4096 given → Broken (call 5 ∷ put_of 1 carried ∷ []) (got 2 (Given given)) → ⊥
was_put given carried same (inl f) = f.1 (inl (refl, refl, same))
was_put given carried same (inr c) = differ c.0

was_put_meanwhile : (given : List ℕ) → Broken (call 5 ∷ put_of 1 given ∷ call 5 ∷ []) (got 1 (Given given)) → ⊥
was_put_meanwhile given (inl f) = f.1 (inr (inl (refl, refl, refl)))
was_put_meanwhile given (inr c) = differ c.0

-- the version of a put is that of when it began
was_put_before_a_change : (given : List ℕ) → Broken (call 5 ∷ call 6 ∷ put_of 1 given ∷ call 5 ∷ []) (got 4 (Given given)) → ⊥
was_put_before_a_change given (inl f) = f.1 (inr (inl (refl, refl, refl)))
was_put_before_a_change given (inr c) = differ c.0

-- a put with another version or of another name doesn't
put_with_another_version : (given : List ℕ) → Fits 5 given → Broken (call 6 ∷ put_of 1 given ∷ call 5 ∷ []) (got 3 (Given given))
put_with_another_version given fits = inl (
  fits,
  λ was. elim was [
    | inl w ↦ w
    | inr w ↦ elim w [ inl v ↦ (let e : 6 ≡ 5 = v.1 in absurd (omega (arith, e))) | inr v ↦ elim v [ inl u ↦ u | inr u ↦ u ] ]
  ],
)

put_of_another_name : (given : List ℕ) → Fits 5 given → Broken (call 5 ∷ Put 1 1 (block 1) given true ∷ []) (got 2 (Given given))
put_of_another_name given fits = inl (
  fits,
  λ was. elim was [
    | inl w ↦ differ' w.0
    | inr w ↦ elim w [ inl v ↦ v | inr v ↦ v ]
  ],
)

put_of_another_block : (given carried : List ℕ) → take 4096 carried ≢ take 4096 given → Fits 5 given → Broken (call 5 ∷ put_of 1 carried ∷ []) (got 2 (Given given))
put_of_another_block given carried other fits = inl (
  fits,
  λ was. elim was [
    | inl w ↦ other w.2
    | inr w ↦ elim w [ inl v ↦ v | inr v ↦ v ]
  ],
)

-- neither a get, nor a discard, nor a call is such a put
no_put : (given : List ℕ) → Fits 5 given → Broken (call 5 ∷ got 1 (Given given) ∷ Dropped 1 1 n true ∷ []) (got 3 (Given given))
no_put given fits = inl (
  fits,
  λ was. elim was [
    | inl w ↦ w
    | inr w ↦ elim w [ inl v ↦ v | inr v ↦ elim v [ inl u ↦ u | inr u ↦ u ] ]
  ],
)

-- other bytes with the hash of a live node's record, as it was when the get began, are a collision
abbrev got_entry : ℕ → List ℕ → Note
got_entry since given = Got 1 since (entry 0) (Given given)

same_hash : (given : List ℕ) → given ≢ bytes 5 → sha256 given ≡ sha256 (bytes 5) → Broken (call 5 ∷ call 6 ∷ []) (got_entry 1 given)
same_hash given other hash = inr (refl, (other, hash))

-- equal bytes, and bytes with another hash, never are
equal_bytes : Broken (call 5 ∷ call 6 ∷ []) (got_entry 1 (bytes 5)) → ⊥
equal_bytes (inl f) = f
equal_bytes (inr c) = c.1.0 refl

other_hash : (given : List ℕ) → sha256 given ≢ sha256 (bytes 5) → Broken (call 5 ∷ call 6 ∷ []) (got_entry 1 given) → ⊥
other_hash given other (inl f) = f
other_hash given other (inr c) = other c.1.1

-- nor are any bytes of what isn't live, nor is a block's collision or a node's forgery any
not_live : (given : List ℕ) → Broken (call 0 ∷ call 5 ∷ []) (got_entry 1 given) → ⊥
not_live given (inl f) = f
not_live given (inr c) = c.1

of_a_block : (given : List ℕ) → given ≢ bytes 5 → sha256 given ≡ sha256 (bytes 5) → (Fits 5 given → ⊥) → Broken (call 5 ∷ []) (got 1 (Given given)) → ⊥
of_a_block given other hash none (inl f) = none f.0
of_a_block given other hash none (inr c) = differ c.0

-- nothing else breaks
nothing_else : (Broken (call 5 ∷ []) (got 1 Absent) → ⊥) × (Broken (call 5 ∷ []) (got 1 Failed) → ⊥) × (Broken (call 5 ∷ []) (call 6) → ⊥)
    × (Broken (call 5 ∷ []) (put 1 6 true) → ⊥) × (Broken (call 5 ∷ []) (Dropped 1 1 n true) → ⊥)
nothing_else = (λ h. h, λ h. h, λ h. h, λ h. h, λ h. h)
