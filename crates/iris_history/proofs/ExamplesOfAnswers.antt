-- Which answers are other than what was stored last.
use Rattle.std.proofs.Common.{ℕ, List, [], ◌∷◌, Bool, true, refl}
use Rattle.iris_name.specs.declared.note.Answer.{Answer}
use Rattle.iris_name.specs.declared.note.Answer.TheVariants.{Absent, Given, Failed}
use Rattle.iris_name.specs.declared.note.Note.{Note}
use Rattle.iris_name.specs.declared.note.Note.TheVariants.{Put, Dropped}
use Rattle.iris_history.specs.Answers.{IsOther, IsFailure, last_of}
use Rattle.iris_history.proofs.ExampleTable.{n, block, bytes, call, put, drop_it, got, past_in, other_bytes}

-- the answer to a get of block 0 after these notes is other
abbrev Other : List Note → Answer → Type 0
Other notes answer = IsOther (last_of n (past_in notes)) answer

-- where nothing was put, absent is right, and any bytes are other
never_put : Other (call 5 ∷ []) Absent → ⊥
never_put h = h

never_put_given : (any : List ℕ) → Other (call 5 ∷ []) (Given any)
never_put_given any = tt

-- after a put its bytes are right, and other bytes and absent are other; whether it was answered ok or not
put_given : (ok : Bool) → Other (call 5 ∷ put 1 5 ok ∷ []) (Given (bytes 5)) → ⊥
put_given ok h = h refl

put_other : (ok : Bool) → Other (call 5 ∷ put 1 5 ok ∷ []) (Given (bytes 6))
put_other ok = other_bytes

put_longer : (ok : Bool) → Other (call 5 ∷ put 1 5 ok ∷ []) (Given (6 ∷ bytes 5))
put_longer ok h = cc

put_absent : (ok : Bool) → Other (call 5 ∷ put 1 5 ok ∷ []) Absent
put_absent ok = tt

-- after a discard absent is right, and any bytes are other, those of the put before it too
gone : (ok : Bool) → Other (call 5 ∷ put 1 5 true ∷ call 0 ∷ drop_it 3 ok ∷ []) Absent → ⊥
gone ok h = h

gone_given : (ok : Bool) → Other (call 5 ∷ put 1 5 true ∷ call 0 ∷ drop_it 3 ok ∷ []) (Given (bytes 5))
gone_given ok = tt

-- a put after the discard is the last
put_again : Other (call 5 ∷ put 1 5 true ∷ drop_it 2 true ∷ put 3 6 true ∷ []) (Given (bytes 6)) → ⊥
put_again h = h refl

put_again_other : Other (call 5 ∷ put 1 6 true ∷ put 2 5 true ∷ []) (Given (bytes 6))
put_again_other = other_bytes

-- neither a get, nor a transfer of another name, stores anything
got_between : Other (put 0 5 true ∷ got 1 (Given (bytes 6)) ∷ got 2 Absent ∷ []) (Given (bytes 5)) → ⊥
got_between h = h refl

put_of_another : Other (put 0 5 true ∷ Put 1 1 (block 1) (bytes 6) true ∷ []) (Given (bytes 5)) → ⊥
put_of_another h = h refl

gone_of_another : Other (put 0 5 true ∷ Dropped 1 1 (block 1) true ∷ []) (Given (bytes 5)) → ⊥
gone_of_another h = h refl

-- a failure is never other, and nothing else is a failure
failure : (Other (call 5 ∷ []) Failed → ⊥) × (Other (put 0 5 true ∷ []) Failed → ⊥) × (Other (drop_it 0 true ∷ []) Failed → ⊥)
failure = (λ h. h, λ h. h, λ h. h)

failures : IsFailure Failed × (IsFailure Absent → ⊥) × ((any : List ℕ) → IsFailure (Given any) → ⊥)
failures = (tt, λ h. h, λ any h. h)
