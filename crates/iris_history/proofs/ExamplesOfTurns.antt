-- Which transfers begin in their turn, and where notes of several sessions stand.
use Rattle.std.proofs.Common.{◌≡◌, ◌≤◌, ℕ, [], ◌∷◌, true, false, refl, arith}
use Rattle.iris_name.specs.declared.note.Answer.TheVariants.{Absent}
use Rattle.iris_name.specs.declared.note.Note.{Note}
use Rattle.iris_name.specs.declared.note.Note.TheVariants.{Put}
use Rattle.iris_name.specs.History.{Past, Stamped, began, begun, past_of}
use Rattle.iris_history.specs.Legal.{BeginsInTurn}
use Rattle.iris_history.proofs.ExampleTable.{n, block, bytes, call, put, drop_it, got, past_in, differ'}

abbrev stamped : ℕ → Note → Stamped
stamped opened note = record { note = note; opened = opened }

-- a session opens with as many notes as stand before its first, also where sessions without any came between
opens : past_of ((call 5 ∷ call 6 ∷ []) ∷ [] ∷ (call 7 ∷ call 8 ∷ []) ∷ (call 9 ∷ []) ∷ [])
    ≡ stamped 4 (call 9) ∷ stamped 2 (call 8) ∷ stamped 2 (call 7) ∷ stamped 0 (call 6) ∷ stamped 0 (call 5) ∷ []
opens = refl

-- `since` counts from there, and no further than the note stands; a call begins where it stands
abbrev three : Past
three = past_of ((call 5 ∷ call 6 ∷ []) ∷ (call 7 ∷ []) ∷ [])

begins : (began three (stamped 2 (got 0 Absent)) ≡ 2) × (began three (stamped 2 (got 1 Absent)) ≡ 3) × (began three (stamped 2 (got 9 Absent)) ≡ 3)
    × (began three (stamped 0 (got 0 Absent)) ≡ 0) × (began three (stamped 2 (put 0 5 true)) ≡ 2) × (began three (stamped 2 (drop_it 0 true)) ≡ 2)
    × (began three (stamped 2 (call 5)) ≡ 3)
begins = (refl, refl, refl, refl, refl, refl, refl)

begins_on : begun three (stamped 2 (got 0 Absent)) ≡ stamped 0 (call 6) ∷ stamped 0 (call 5) ∷ []
begins_on = refl

-- it begins where it stands at the latest, and not one note later
where_it_stands : BeginsInTurn 2 n 1 three
where_it_stands = (omega arith, ((λ e. absurd (differ' e)), ((λ e. absurd (differ' e)), ((λ e. absurd (differ' e)), tt))))

one_later : BeginsInTurn 2 n 2 three → ⊥
one_later h = let e : 4 ≤ 3 = h.0 in absurd (omega (arith, e))

-- an earlier transfer of the name was noted before: a put, a get and a discard alike
abbrev earlier : Note → Past
earlier note = past_in (call 5 ∷ note ∷ call 6 ∷ [])

after_a_put : BeginsInTurn 0 n 2 (earlier (put 1 5 false))
after_a_put = (omega arith, ((λ e. absurd (differ' e)), ((λ e. omega arith), ((λ e. absurd (differ' e)), tt))))

before_a_put : BeginsInTurn 0 n 1 (earlier (put 1 5 false)) → ⊥
before_a_put h = let e : 2 ≤ 1 = h.1.1.0 refl in absurd (omega (arith, e))

before_a_get : BeginsInTurn 0 n 1 (earlier (got 1 Absent)) → ⊥
before_a_get h = let e : 2 ≤ 1 = h.1.1.0 refl in absurd (omega (arith, e))

before_a_discard : BeginsInTurn 0 n 1 (earlier (drop_it 1 true)) → ⊥
before_a_discard h = let e : 2 ≤ 1 = h.1.1.0 refl in absurd (omega (arith, e))

-- a transfer of another name may still be out
beside_another_name : BeginsInTurn 0 (block 1) 1 (earlier (put 1 5 false))
beside_another_name = (omega arith, ((λ e. absurd (differ' e)), ((λ e. absurd (differ' e)), ((λ e. absurd (differ' e)), tt))))

-- the last transfer alone isn't enough: the one before it counts too
before_the_first : BeginsInTurn 0 n 1 (past_in (call 5 ∷ put 1 5 false ∷ Put 1 1 (block 1) (bytes 5) true ∷ [])) → ⊥
before_the_first h = let e : 2 ≤ 1 = h.1.1.0 refl in absurd (omega (arith, e))

-- in a later session `since` 0 comes after each transfer of the earlier ones
in_a_later_session : BeginsInTurn 2 n 0 (past_of ((call 5 ∷ put 1 5 false ∷ []) ∷ (call 6 ∷ []) ∷ []))
in_a_later_session = (omega arith, ((λ e. absurd (differ' e)), ((λ e. omega arith), ((λ e. absurd (differ' e)), tt))))
