-- Which note licenses a refusal: the caller's own transfer directly before it, of a name that the request reaches.
use Rattle.std.proofs.Common.{◌≡◌, ℕ, List, [], ◌∷◌, ◌++◌, true, false, refl, arith}
use Rattle.iris_name.specs.declared.note.Answer.TheVariants.{Absent, Given, Failed}
use Rattle.iris_name.specs.declared.note.Note.{Note}
use Rattle.iris_name.specs.declared.note.Note.TheVariants.{Got}
use Rattle.iris_name.specs.declared.request.Cause.{Cause}
use Rattle.iris_name.specs.declared.request.Cause.TheVariants.{StoreFailed, BadAnswer}
use Rattle.iris_name.specs.declared.request.PlainError.{PlainError}
use Rattle.iris_name.specs.declared.request.Reply.TheVariants.{Done, Synced, Plain, Refused}
use Rattle.iris_name.specs.declared.request.Request.TheVariants.{Sync}
use Rattle.iris_name.specs.History.{Past, past_of}
use Rattle.iris_history.specs.Legal.{IsLicensed}
use Rattle.iris_history.proofs.ExampleTable.{rules, n, block, bytes, call, put, drop_it, got, past_in, differ, differ', apart, other_bytes}

-- in the session that opened with so many notes, caller 1's refusal with this cause is licensed
abbrev Licensed : ℕ → Cause → Past → Type 0
Licensed opened cause past = IsLicensed rules opened 1 Sync (Refused cause) past

-- block 0 stands for 5, and its put was answered ok
abbrev stored : List Note
stored = call 5 ∷ put 1 5 true ∷ []

abbrev after_stored : Note → Past
after_stored note = past_in (stored ++ note ∷ [])

-- a get that failed licenses `StoreFailed`, and one that gave something other `BadAnswer`
failed_get : Licensed 0 (StoreFailed n) (after_stored (got 2 Failed))
failed_get = (refl, (refl, refl, tt, refl))

other_get : Licensed 0 (BadAnswer n) (after_stored (got 2 (Given (bytes 6))))
other_get = (refl, (refl, refl, other_bytes, refl))

absent_get : Licensed 0 (BadAnswer n) (after_stored (got 2 Absent))
absent_get = (refl, (refl, refl, tt, refl))

-- and neither the other cause, nor what was stored any
failed_is_no_bad_answer : Licensed 0 (BadAnswer n) (after_stored (got 2 Failed)) → ⊥
failed_is_no_bad_answer h = h.1.2

other_is_no_failure : Licensed 0 (StoreFailed n) (after_stored (got 2 (Given (bytes 6)))) → ⊥
other_is_no_failure h = h.1.2

absent_is_no_failure : Licensed 0 (StoreFailed n) (after_stored (got 2 Absent)) → ⊥
absent_is_no_failure h = h.1.2

right_answer : Licensed 0 (BadAnswer n) (after_stored (got 2 (Given (bytes 5)))) → ⊥
right_answer h = h.1.2 refl

-- what was stored last counts where the get is noted, though the get began before that put was
right_where_noted : Licensed 0 (BadAnswer n) (after_stored (got 1 (Given (bytes 5)))) → ⊥
right_where_noted h = h.1.2 refl

-- a note of an earlier session licenses nothing, also directly before
of_another_session : Licensed 3 (StoreFailed n) (past_of ((stored ++ got 2 Failed ∷ []) ∷ [] ∷ [])) → ⊥
of_another_session h = let e : 0 ≡ 3 = h.0 in absurd (omega (arith, e))

in_a_later_session : Licensed 2 (StoreFailed n) (past_of (stored ∷ (got 0 Failed ∷ []) ∷ []))
in_a_later_session = (refl, (refl, refl, tt, refl))

-- another caller's note licenses nothing
of_another_caller : IsLicensed rules 0 2 Sync (Refused (StoreFailed n)) (after_stored (got 2 Failed)) → ⊥
of_another_caller h = let e : 2 ≡ 1 = h.1.0 in absurd (omega (arith, e))

other_answer_to_another_caller : IsLicensed rules 0 2 Sync (Refused (BadAnswer n)) (after_stored (got 2 Absent)) → ⊥
other_answer_to_another_caller h = let e : 2 ≡ 1 = h.1.0 in absurd (omega (arith, e))

failed_put_of_another_caller : IsLicensed rules 0 2 Sync (Refused (StoreFailed n)) (after_stored (put 2 5 false)) → ⊥
failed_put_of_another_caller h = let e : 2 ≡ 1 = h.1.0 in absurd (omega (arith, e))

failed_discard_of_another_caller : IsLicensed rules 0 2 Sync (Refused (StoreFailed n)) (after_stored (drop_it 2 false)) → ⊥
failed_discard_of_another_caller h = let e : 2 ≡ 1 = h.1.0 in absurd (omega (arith, e))

-- a note that isn't directly before licenses nothing: a call, or a transfer of another name, came in between
call_between : Licensed 0 (StoreFailed n) (past_in (stored ++ got 2 Failed ∷ call 5 ∷ [])) → ⊥
call_between h = h.1

transfer_between : Licensed 0 (StoreFailed n) (past_in (stored ++ got 2 Failed ∷ Got 1 3 (block 1) Failed ∷ [])) → ⊥
transfer_between h = differ' h.1.1

nothing_before : Licensed 0 (StoreFailed n) [] → ⊥
nothing_before h = h

-- the cause's name is that of the transfer
other_name_failed : Licensed 0 (StoreFailed (block 1)) (after_stored (got 2 Failed)) → ⊥
other_name_failed h = differ' h.1.1

other_name_bad : Licensed 0 (BadAnswer (block 1)) (after_stored (got 2 Absent)) → ⊥
other_name_bad h = differ' h.1.1

other_name_put : Licensed 0 (StoreFailed (block 1)) (after_stored (put 2 5 false)) → ⊥
other_name_put h = differ' h.1.1

other_name_gone : Licensed 0 (StoreFailed (block 1)) (after_stored (drop_it 2 false)) → ⊥
other_name_gone h = differ' h.1.1

-- a name that isn't reached licenses nothing, and reached it is where the get began, not where it is noted
abbrev six : List Note
six = call 6 ∷ put 1 6 true ∷ []

not_reached : Licensed 0 (StoreFailed n) (past_in (six ++ got 2 Failed ∷ [])) → ⊥
not_reached h = apart 6 5 refl refl h.1.3

bad_not_reached : Licensed 0 (BadAnswer n) (past_in (six ++ got 2 Absent ∷ [])) → ⊥
bad_not_reached h = apart 6 5 refl refl h.1.3

reached_too_late : Licensed 0 (StoreFailed n) (past_in (six ++ call 5 ∷ got 2 Failed ∷ [])) → ⊥
reached_too_late h = apart 6 5 refl refl h.1.3

bad_reached_too_late : Licensed 0 (BadAnswer n) (past_in (six ++ call 5 ∷ got 2 Absent ∷ [])) → ⊥
bad_reached_too_late h = apart 6 5 refl refl h.1.3

reached_then : Licensed 0 (StoreFailed n) (past_in (stored ++ call 6 ∷ got 2 Failed ∷ []))
reached_then = (refl, (refl, refl, tt, refl))

-- a put or a discard that failed licenses `StoreFailed` where the request may wait; one answered ok doesn't
failed_put : Licensed 0 (StoreFailed n) (after_stored (put 2 5 false))
failed_put = (refl, (refl, refl, refl, refl))

failed_discard : Licensed 0 (StoreFailed n) (after_stored (drop_it 2 false))
failed_discard = (refl, (refl, refl, refl, refl))

put_answered_ok : Licensed 0 (StoreFailed n) (after_stored (put 2 5 true)) → ⊥
put_answered_ok h = differ h.1.2

discard_answered_ok : Licensed 0 (StoreFailed n) (after_stored (drop_it 2 true)) → ⊥
discard_answered_ok h = differ h.1.2

put_without_wait : Licensed 0 (StoreFailed n) (past_in (six ++ call 5 ∷ put 2 5 false ∷ [])) → ⊥
put_without_wait h = apart 6 5 refl refl h.1.3

discard_without_wait : Licensed 0 (StoreFailed n) (past_in (six ++ call 5 ∷ drop_it 2 false ∷ [])) → ⊥
discard_without_wait h = apart 6 5 refl refl h.1.3

-- neither is a bad answer, nor is a call any cause
failed_put_is_no_bad_answer : Licensed 0 (BadAnswer n) (after_stored (put 2 5 false)) → ⊥
failed_put_is_no_bad_answer h = h.1

failed_discard_is_no_bad_answer : Licensed 0 (BadAnswer n) (after_stored (drop_it 2 false)) → ⊥
failed_discard_is_no_bad_answer h = h.1

call_is_no_bad_answer : Licensed 0 (BadAnswer n) (past_in (call 5 ∷ [])) → ⊥
call_is_no_bad_answer h = h.1

-- only a refusal is licensed
done : IsLicensed rules 0 1 Sync Done (after_stored (got 2 Failed)) → ⊥
done h = h

synced : IsLicensed rules 0 1 Sync Synced (after_stored (put 2 5 false)) → ⊥
synced h = h

plain_error : (error : PlainError) → IsLicensed rules 0 1 Sync (Plain error) (after_stored (got 2 Failed)) → ⊥
plain_error error h = h
