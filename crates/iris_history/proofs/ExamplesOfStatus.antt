-- When a name is clean, doomed, dirty or unsure, in histories worked out by hand.
use Rattle.std.proofs.Common.{inl, inr, [], ◌∷◌, true, false, refl, arith}
use Rattle.iris_name.specs.declared.note.Answer.TheVariants.{Absent, Given, Failed}
use Rattle.iris_name.specs.declared.note.Note.TheVariants.{Got, Put, Dropped}
use Rattle.iris_name.specs.History.{past_of}
use Rattle.iris_history.specs.Status.{IsClean, IsDirty, IsDoomed, IsUnsure}
use Rattle.iris_history.proofs.ExampleTable.{toy, n, block, entry, bytes, call, put, drop_it, got, past_in, differ, differ', apart, other_bytes}

-- never put, live once: doomed
doomed_never_put : IsDoomed toy n (past_of ((call 5 ∷ call 0 ∷ []) ∷ []))
doomed_never_put = record { gone = refl; once = inr (inl refl); kept = λ h. elim h [ inl g ↦ g.0 | inr g ↦ elim g [ inl f ↦ f.0 | inr f ↦ f ] ] }

-- never live: not doomed
never_lived : IsDoomed toy n (past_of ((call 0 ∷ []) ∷ [])) → ⊥
never_lived h = elim h.once [ inl g ↦ differ' g | inr g ↦ differ' g ]

-- a discard that began after it was last live, and was answered ok: not doomed
discarded : IsDoomed toy n (past_of ((call 5 ∷ call 0 ∷ drop_it 2 true ∷ []) ∷ [])) → ⊥
discarded h = h.kept (inl ((refl, refl), (refl, λ le. (refl, λ le2. absurd (omega (arith, le2))))))

-- one that failed: doomed
discard_failed : IsDoomed toy n (past_of ((call 5 ∷ call 0 ∷ drop_it 2 false ∷ []) ∷ []))
discard_failed = record { gone = refl; once = inr (inr (inl refl)); kept = λ h. elim h [ inl g ↦ differ' g.0.1 | inr g ↦ elim g [ inl f ↦ f.0 | inr f ↦ elim f [ inl e ↦ e.0 | inr e ↦ e ] ] ] }

-- one that began while it was live: still doomed
discard_begun_before : IsDoomed toy n (past_of ((call 5 ∷ call 0 ∷ drop_it 1 true ∷ []) ∷ []))
discard_begun_before = record { gone = refl; once = inr (inr (inl refl)); kept = λ h. elim h [ inl g ↦ differ ((g.1.1 (omega arith)).1 (omega arith)).0 | inr g ↦ elim g [ inl f ↦ f.0 | inr f ↦ elim f [ inl e ↦ e.0 | inr e ↦ e ] ] ] }

-- one in a second session that says since 0 began there, after it was last live: not doomed
discarded_in_a_later_session : IsDoomed toy n (past_of ((call 5 ∷ call 0 ∷ []) ∷ (drop_it 0 true ∷ []) ∷ [])) → ⊥
discarded_in_a_later_session h = h.kept (inl ((refl, refl), (refl, λ le. (refl, λ le2. absurd (omega (arith, le2))))))

-- live again after it: dirty, and not doomed
lives_again : IsDirty toy n (past_of ((call 5 ∷ call 0 ∷ drop_it 2 true ∷ call 5 ∷ []) ∷ []))
lives_again = inl (refl, λ c. c.stored)

-- a put that began before a change: not clean, though it changed back
changed_and_back : IsClean toy n (past_of ((call 5 ∷ call 6 ∷ call 5 ∷ put 1 5 true ∷ []) ∷ [])) → ⊥
changed_and_back h = apart 6 5 refl refl ((h.stored.1.1 (omega arith)).1 (omega arith)).0

-- one that began after: clean, also in a later session
put_after_changes : IsClean toy n (past_of ((call 5 ∷ call 6 ∷ call 5 ∷ put 3 5 true ∷ []) ∷ [] ∷ (got 0 (Given (5 ∷ [])) ∷ []) ∷ []))
put_after_changes = record { live = refl; stored = (refl, (refl, λ l. (refl, λ l2. (refl, λ l3. absurd (omega (arith, l3)))))) }

-- the last transfer gave what was put: not unsure; other bytes, absent or a failure: unsure; a put after it: not
got_what_was_put : IsUnsure toy n (past_of ((call 5 ∷ put 1 5 true ∷ got 2 (Given (5 ∷ [])) ∷ []) ∷ [])) → ⊥
got_what_was_put h = elim h.doubtful [ inl f ↦ f | inr o ↦ o refl ]

got_absent : IsUnsure toy n (past_of ((call 5 ∷ put 1 5 false ∷ got 2 Absent ∷ []) ∷ []))
got_absent = record { block = refl; live = refl; doubtful = inr tt }

get_failed : IsUnsure toy n (past_of ((call 5 ∷ put 1 5 true ∷ got 2 Failed ∷ call 6 ∷ []) ∷ []))
get_failed = record { block = refl; live = refl; doubtful = inl tt }

put_after_failed_get : IsUnsure toy n (past_of ((call 5 ∷ put 1 5 true ∷ got 2 Failed ∷ put 3 5 false ∷ []) ∷ [])) → ⊥
put_after_failed_get h = h.doubtful

-- after a discard absent is right, and any bytes are other
absent_after_discard : IsUnsure toy n (past_of ((call 5 ∷ call 0 ∷ drop_it 2 true ∷ call 5 ∷ got 4 Absent ∷ []) ∷ [])) → ⊥
absent_after_discard h = elim h.doubtful [ inl f ↦ f | inr o ↦ o ]

-- what says that it began later than it stands begins where it stands
begins_where_it_stands : IsClean toy n (past_of ((call 5 ∷ put 9 5 true ∷ []) ∷ []))
begins_where_it_stands = record { live = refl; stored = (refl, (refl, λ l. (refl, λ l2. absurd (omega (arith, l2))))) }

-- a put that wasn't answered ok, or a discard after it: not clean
put_failed : IsClean toy n (past_in (call 5 ∷ put 1 5 false ∷ [])) → ⊥
put_failed h = differ' h.stored.0

discard_after_put : IsClean toy n (past_in (call 5 ∷ put 1 5 true ∷ drop_it 2 false ∷ [])) → ⊥
discard_after_put h = h.stored

-- the later of two puts counts, and no put of another name
later_put_failed : IsClean toy n (past_in (call 5 ∷ put 1 5 true ∷ put 2 5 false ∷ [])) → ⊥
later_put_failed h = differ' h.stored.0

put_of_another : IsClean toy n (past_in (call 5 ∷ Put 1 1 (block 1) (bytes 5) true ∷ [])) → ⊥
put_of_another h = h.stored

-- not clean, and live: dirty; gone after it was clean: dirty, and doomed; clean: not dirty
dirty_after_failed_put : IsDirty toy n (past_in (call 5 ∷ put 1 5 false ∷ []))
dirty_after_failed_put = inl (refl, put_failed)

dirty_when_gone : IsDirty toy n (past_in (call 5 ∷ put 1 5 true ∷ call 0 ∷ []))
dirty_when_gone = inr (record {
  gone = refl;
  once = inr (inl refl);
  kept = λ h. elim h [ inl g ↦ g.0 | inr g ↦ elim g [ inl f ↦ f.0 | inr f ↦ elim f [ inl e ↦ e.0 | inr e ↦ e ] ] ];
})

not_dirty : IsDirty toy n (past_in (call 5 ∷ put 1 5 true ∷ [])) → ⊥
not_dirty (inl h) = h.1 (record { live = refl; stored = (refl, (refl, λ l. (refl, λ l2. absurd (omega (arith, l2))))) })
not_dirty (inr h) = differ h.gone

-- a discard of another name, and one before it lived again and went, leave it doomed
discard_of_another : IsDoomed toy n (past_in (call 5 ∷ call 0 ∷ Dropped 1 2 (block 1) true ∷ []))
discard_of_another = record { gone = refl; once = inr (inr (inl refl)); kept = λ h. elim h [ inl g ↦ differ' g.0.0 | inr g ↦ elim g [ inl f ↦ f.0 | inr f ↦ elim f [ inl e ↦ e.0 | inr e ↦ e ] ] ] }

gone_again : IsDoomed toy n (past_in (call 5 ∷ call 0 ∷ drop_it 2 true ∷ call 5 ∷ call 0 ∷ []))
gone_again = record {
  gone = refl;
  once = inr (inl refl);
  kept = λ h. elim h [
    | inl g ↦ g.0
    | inr g ↦ elim g [
      | inl f ↦ f.0
      | inr f ↦ elim f [
        | inl e ↦ differ (e.1.1 (omega arith)).0
        | inr e ↦ elim e [ inl d ↦ d.0 | inr d ↦ elim d [ inl b ↦ b.0 | inr b ↦ b ] ]
      ]
    ]
  ];
}

-- other bytes: unsure; also where nothing was put, or after a discard; absent there: not
got_other_bytes : IsUnsure toy n (past_in (call 5 ∷ put 1 5 true ∷ got 2 (Given (bytes 6)) ∷ []))
got_other_bytes = record { block = refl; live = refl; doubtful = inr other_bytes }

got_bytes_never_put : IsUnsure toy n (past_in (call 5 ∷ got 1 (Given (bytes 5)) ∷ []))
got_bytes_never_put = record { block = refl; live = refl; doubtful = inr tt }

got_absent_never_put : IsUnsure toy n (past_in (call 5 ∷ got 1 Absent ∷ [])) → ⊥
got_absent_never_put h = elim h.doubtful [ inl f ↦ f | inr o ↦ o ]

got_bytes_after_discard : IsUnsure toy n (past_in (call 5 ∷ drop_it 1 true ∷ got 2 (Given (bytes 5)) ∷ []))
got_bytes_after_discard = record { block = refl; live = refl; doubtful = inr tt }

-- a later get that gives what was put, or a discard: not unsure; a transfer of another name leaves it so
got_again : IsUnsure toy n (past_in (call 5 ∷ put 1 5 true ∷ got 2 Failed ∷ got 3 (Given (bytes 5)) ∷ [])) → ⊥
got_again h = elim h.doubtful [ inl f ↦ f | inr o ↦ o refl ]

discard_after_failed_get : IsUnsure toy n (past_in (call 5 ∷ put 1 5 true ∷ got 2 Failed ∷ drop_it 3 false ∷ [])) → ⊥
discard_after_failed_get h = h.doubtful

transfers_of_another : IsUnsure toy n (past_in (call 5 ∷ put 1 5 true ∷ got 2 Failed ∷ Got 1 3 (block 1) Absent ∷ Put 1 4 (block 1) (bytes 5) true ∷ Dropped 1 5 (block 1) true ∷ []))
transfers_of_another = record { block = refl; live = refl; doubtful = inl tt }

-- gone, or a node: not unsure
not_unsure_when_gone : IsUnsure toy n (past_in (call 5 ∷ put 1 5 true ∷ got 2 Failed ∷ call 0 ∷ [])) → ⊥
not_unsure_when_gone h = differ' h.live

node_is_never_unsure : IsUnsure toy (entry 0) (past_in (call 5 ∷ Put 1 1 (entry 0) (bytes 5) true ∷ Got 1 2 (entry 0) Failed ∷ [])) → ⊥
node_is_never_unsure h = differ' h.block
