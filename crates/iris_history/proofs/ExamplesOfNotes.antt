-- Which notes are lawful: gets, puts, discards and calls, one that is beside one that isn't.
use Rattle.std.proofs.Common.{◌≤◌, ◌⊎◌, inl, inr, List, [], ◌∷◌, ◌++◌, true, false, refl, sym, arith}
use Rattle.iris_name.specs.declared.note.Answer.TheVariants.{Absent, Given, Failed}
use Rattle.iris_name.specs.declared.note.Note.{Note}
use Rattle.iris_name.specs.declared.note.Note.TheVariants.{Got, Put}
use Rattle.iris_name.specs.History.{begun}
use Rattle.iris_history.specs.Legal.{IsLawful}
use Rattle.iris_history.specs.Status.{IsClean, IsDirty, IsUnsure}
use Rattle.iris_history.proofs.ExampleTable.{toy, rules, n, entry, bytes, call, put, drop_it, got, past_in, differ, differ', apart, other_bytes}

-- the note is lawful after these, in one session
abbrev Lawful : List Note → Note → Type 0
Lawful notes note = let past = past_in notes in IsLawful toy rules 0 past (begun past (record { note = note; opened = 0 })) note

abbrev stored : List Note
stored = call 5 ∷ put 1 5 true ∷ []

-- a name that was put as it is now is clean, and neither dirty nor unsure
stored_clean : IsClean toy n (past_in stored)
stored_clean = record { live = refl; stored = (refl, (refl, λ l. (refl, λ l2. absurd (omega (arith, l2))))) }

not_doubtful : IsDirty toy n (past_in stored) ⊎ IsUnsure toy n (past_in stored) → ⊥
not_doubtful (inl (inl h)) = h.1 stored_clean
not_doubtful (inl (inr h)) = differ h.gone
not_doubtful (inr h) = h.doubtful

-- a get is of a clean name: not of one that wasn't put, or whose put failed, or was put only after the get began
get_of_a_clean_name : Lawful stored (got 2 (Given (bytes 5)))
get_of_a_clean_name = (stored_clean, (omega arith, ((λ e. omega arith), ((λ e. absurd (differ' e)), tt))))

get_never_put : Lawful (call 5 ∷ []) (got 1 Absent) → ⊥
get_never_put h = h.0.stored

get_of_a_failed_put : Lawful (call 5 ∷ put 1 5 false ∷ []) (got 2 Absent) → ⊥
get_of_a_failed_put h = differ' h.0.stored.0

get_after_a_discard : Lawful (stored ++ drop_it 2 true ∷ []) (got 3 Absent) → ⊥
get_after_a_discard h = h.0.stored

get_of_what_is_gone : Lawful (stored ++ call 0 ∷ []) (got 3 (Given (bytes 5))) → ⊥
get_of_what_is_gone h = differ' h.0.live

get_of_what_changed : Lawful (stored ++ call 6 ∷ []) (got 3 (Given (bytes 5))) → ⊥
get_of_what_changed h = apart 6 5 refl refl (sym (h.0.stored.1.1 (omega arith)).0)

get_begun_before : Lawful stored (got 1 (Given (bytes 5))) → ⊥
get_begun_before h = h.0.stored

get_out_of_turn : Lawful (stored ++ got 2 Failed ∷ []) (got 2 (Given (bytes 5))) → ⊥
get_out_of_turn h = let e : 3 ≤ 2 = h.1.1.0 refl in absurd (omega (arith, e))

-- a put is of a dirty name, and carries its record of where it began
first_put : Lawful (call 5 ∷ call 6 ∷ []) (put 1 5 false)
first_put = (refl, inl (inl (refl, λ c. c.stored)), (omega arith, ((λ e. absurd (differ' e)), ((λ e. absurd (differ' e)), tt))))

put_of_other_bytes : Lawful (call 5 ∷ call 6 ∷ []) (put 1 6 true) → ⊥
put_of_other_bytes h = other_bytes h.0

put_of_what_is_gone : Lawful (call 5 ∷ call 0 ∷ []) (put 2 5 true) → ⊥
put_of_what_is_gone h = h.0

put_of_a_clean_name : Lawful stored (put 2 5 true) → ⊥
put_of_a_clean_name h = not_doubtful h.1

put_out_of_turn : Lawful (call 5 ∷ put 1 5 false ∷ []) (put 1 5 true) → ⊥
put_out_of_turn h = let e : 2 ≤ 1 = h.2.1.0 refl in absurd (omega (arith, e))

-- or it is of an unsure block, though that is clean; a node is never unsure
put_of_an_unsure_block : Lawful (stored ++ got 2 (Given (bytes 6)) ∷ []) (put 3 5 true)
put_of_an_unsure_block = (refl, inr (record { block = refl; live = refl; doubtful = inr other_bytes }), (omega arith, ((λ e. omega arith), ((λ e. omega arith), ((λ e. absurd (differ' e)), tt)))))

put_of_a_doubtful_node : Lawful (call 5 ∷ Put 1 1 (entry 0) (bytes 5) true ∷ Got 1 2 (entry 0) Failed ∷ []) (Put 1 3 (entry 0) (bytes 5) true) → ⊥
put_of_a_doubtful_node h = elim h.1 [
  | inl d ↦ elim d [
    | inl live ↦ live.1 (record { live = refl; stored = (refl, (refl, λ l. (refl, λ l2. (refl, λ l3. absurd (omega (arith, l3)))))) })
    | inr doomed ↦ differ doomed.gone
  ]
  | inr unsure ↦ differ' unsure.block
]

-- a discard is of a doomed name, and of no clean one, no other live one, none that never lived, none that was discarded since
discard_of_what_is_gone : Lawful (stored ++ call 0 ∷ []) (drop_it 3 true)
discard_of_what_is_gone = (
  record {
    gone = refl;
    once = inr (inl refl);
    kept = λ h. elim h [ inl g ↦ g.0 | inr g ↦ elim g [ inl f ↦ f.0 | inr f ↦ elim f [ inl e ↦ e.0 | inr e ↦ e ] ] ];
  },
  (omega arith, ((λ e. absurd (differ' e)), ((λ e. omega arith), ((λ e. absurd (differ' e)), tt)))),
)

discard_of_a_clean_name : Lawful stored (drop_it 2 true) → ⊥
discard_of_a_clean_name h = differ h.0.gone

discard_of_a_changed_name : Lawful (stored ++ call 6 ∷ []) (drop_it 3 true) → ⊥
discard_of_a_changed_name h = differ h.0.gone

discard_of_what_never_lived : Lawful (call 0 ∷ []) (drop_it 1 true) → ⊥
discard_of_what_never_lived h = elim h.0.once [ inl g ↦ differ' g | inr g ↦ differ' g ]

discard_begun_before : Lawful (stored ++ call 0 ∷ []) (drop_it 2 true) → ⊥
discard_begun_before h = differ h.0.gone

discarded_twice : Lawful (call 5 ∷ call 0 ∷ drop_it 2 true ∷ []) (drop_it 3 true) → ⊥
discarded_twice h = h.0.kept (inl ((refl, refl), (refl, λ le. (refl, λ le2. absurd (omega (arith, le2))))))

discard_out_of_turn : Lawful (call 5 ∷ call 0 ∷ drop_it 2 false ∷ []) (drop_it 2 true) → ⊥
discard_out_of_turn h = let e : 3 ≤ 2 = h.1.1.0 refl in absurd (omega (arith, e))
