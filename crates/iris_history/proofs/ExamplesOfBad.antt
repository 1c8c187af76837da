-- Which histories a forgery or a collision makes bad: one that stands on lawful notes and is itself lawful.
use Rattle.std.proofs.Common.{◌≡◌, ◌≢◌, inl, inr, ℕ, List, [], ◌∷◌, true, refl, arith}
use Rattle.sha2.specs.Sha256.{sha256}
use Rattle.iris_name.specs.declared.note.Answer.TheVariants.{Given}
use Rattle.iris_name.specs.declared.note.Note.{Note}
use Rattle.iris_name.specs.declared.note.Note.TheVariants.{Got, Put}
use Rattle.iris_history.specs.Legal.{IsLegal, IsBad}
use Rattle.iris_history.proofs.ExampleTable.{toy, rules, n, entry, bytes, call, got, past_in, differ', other_bytes}

-- bytes that collide with the record of entry 0 where that stands for 5
record Colliding (given : List ℕ) : Type 0 where
  other : given ≢ bytes 5
  hash : sha256 given ≡ sha256 (bytes 5)

abbrev put_entry : ℕ → Note
put_entry v = Put 1 1 (entry 0) (bytes v) true

abbrev got_entry : ℕ → List ℕ → Note
got_entry since given = Got 1 since (entry 0) (Given given)

stored : IsLegal toy rules (past_in (call 5 ∷ put_entry 5 ∷ []))
stored = ((refl, inl (inl (refl, λ c. c.stored)), (omega arith, ((λ e. absurd (differ' e)), tt))), ((inl refl, tt, tt), tt))

-- a lawful get that collides, on a legal history, makes it bad, and bad it stays
collided : (given : List ℕ) → Colliding given → IsBad toy rules (past_in (call 5 ∷ put_entry 5 ∷ got_entry 2 given ∷ []))
collided given c = inl (
  inr (refl, (c.other, c.hash)),
  (
    (record { live = refl; stored = (refl, (refl, λ l. (refl, λ l2. absurd (omega (arith, l2))))) }, (omega arith, ((λ e. omega arith), ((λ e. absurd (differ' e)), tt)))),
    stored,
  ),
)

stays_bad : (given : List ℕ) → Colliding given → IsBad toy rules (past_in (call 5 ∷ put_entry 5 ∷ got_entry 2 given ∷ call 6 ∷ []))
stays_bad given c = inr (collided given c)

-- a get that may not be made never makes it bad: of a name that was never put, or out of turn
never_put : (given : List ℕ) → IsBad toy rules (past_in (call 5 ∷ got_entry 1 given ∷ [])) → ⊥
never_put given (inl h) = h.1.0.0.stored
never_put given (inr (inl h)) = h.0
never_put given (inr (inr h)) = h

begun_before_the_put : (given : List ℕ) → IsBad toy rules (past_in (call 5 ∷ put_entry 5 ∷ got_entry 1 given ∷ [])) → ⊥
begun_before_the_put given (inl h) = h.1.0.0.stored
begun_before_the_put given (inr (inl h)) = h.0
begun_before_the_put given (inr (inr (inl h))) = h.0
begun_before_the_put given (inr (inr (inr h))) = h

-- nor does a lawful one after an unlawful note, here a put that carries something else
after_a_wrong_put : (given : List ℕ) → IsBad toy rules (past_in (call 5 ∷ put_entry 6 ∷ got_entry 2 given ∷ [])) → ⊥
after_a_wrong_put given (inl h) = other_bytes h.1.1.0.0
after_a_wrong_put given (inr (inl h)) = h.0
after_a_wrong_put given (inr (inr (inl h))) = h.0
after_a_wrong_put given (inr (inr (inr h))) = h

-- so no one makes a forgery of his own record that he put for another version: that put is unlawful
own_record : (given : List ℕ) → given ≢ bytes 5 → IsBad toy rules (past_in (call 5 ∷ Put 1 1 n given true ∷ got 2 (Given given) ∷ [])) → ⊥
own_record given other (inl h) = other h.1.1.0.0
own_record given other (inr (inl h)) = h.0
own_record given other (inr (inr (inl h))) = h.0
own_record given other (inr (inr (inr h))) = h

-- what is stored as it was put makes nothing bad
right_answer : IsBad toy rules (past_in (call 5 ∷ put_entry 5 ∷ got_entry 2 (bytes 5) ∷ [])) → ⊥
right_answer (inl h) = elim h.0 [ inl f ↦ f | inr c ↦ c.1.0 refl ]
right_answer (inr (inl h)) = h.0
right_answer (inr (inr (inl h))) = h.0
right_answer (inr (inr (inr h))) = h
