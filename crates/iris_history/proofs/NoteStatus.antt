-- How one note more changes whether a name is clean, doomed or unsure.
use Rattle.std.proofs.Common.{◌≡◌, ◌≢◌, ◌⊎◌, inl, inr, ℕ, ◌∷◌, Bool, true, false, cond, refl, sym, ap, subst, arith, IsSome, IsNone}
use Rattle.std.specs.Prelude.{MatchBool}
use Rattle.iris_name.specs.declared.name.Name.{Name}
use Rattle.iris_name.specs.declared.note.Note.{Note}
use Rattle.iris_name.specs.declared.note.Note.TheVariants.{Call, Got, Put, Dropped}
use Rattle.iris_name.specs.History.{Past, Stamped, began, AllSince}
use Rattle.iris_name.specs.Names.{same_name}
use Rattle.iris_name.specs.NameLaws.{same_name-refl}
use Rattle.iris_history.specs.Answers.{Stored, Gone, last_of, IsOther, IsFailure}
use Rattle.iris_history.specs.Kept.{Kept, shown_in}
use Rattle.iris_history.specs.Legal.{is_transfer_of}
use Rattle.iris_history.specs.Status.{IsStored, IsClean, IsDiscardOf, WasDiscarded, IsDoomed, IsDoubtful}
use Rattle.iris_history.proofs.Growth.{Leaves, clean_more, clean_less}
use Rattle.iris_history.proofs.Pasts.{last_began}
use Rattle.iris_history.specs.StatusLaws.{called, got, putted, dropped_note, OtherNotesKeepStatus, IdleCallsKeepStatus, ChangesMakeUnclean, RemovalsDoom, GetsBringDoubt, PutsMakeClean, PutsOfGoneKeepStatus, DiscardsMakeUnclean, DiscardsEndDoom}
use Rattle.iris_history.proofs.Steady.{leaves, true_false, steady_more, steady_less, stored_broken, no_both, some_of, IsGone, IsLiveAt, discarded_less, discarded_more, discarded_gone, once, once_less}

abbrev pub NoDiscard : Name → Note → Type 0
NoDiscard n note = IsDiscardOf n note → ⊥

no_discard : (n : Name) (note : Note) → is_transfer_of n note ≡ false → NoDiscard n note
no_discard n (Call who request reply) h d = d
no_discard n (Got who since name answer) h d = d
no_discard n (Put who since name bytes ok) h d = d
no_discard n (Dropped who since name ok) h d = true_false (same_name n name) d.0 h

unmatched : (b : Bool) (A B : Type 0) → b ≡ false → MatchBool b A B ≡ B
unmatched true A B h = absurd (cc)
unmatched false A B h = refl

-- doubts stay under what is no transfer of the name
pub doubt_stays : (n : Name) (opened : ℕ) (note : Note) (past : Past) → is_transfer_of n note ≡ false → IsDoubtful n (record { note = note; opened = opened } ∷ past) ≡ IsDoubtful n past
doubt_stays n opened (Call who request reply) past h = refl
doubt_stays n opened (Got who since name answer) past h = unmatched (same_name n name) _ _ h
doubt_stays n opened (Put who since name bytes ok) past h = unmatched (same_name n name) _ _ h
doubt_stays n opened (Dropped who since name ok) past h = unmatched (same_name n name) _ _ h

module _ (k : Kept) (n : Name) where
  -- a doomed name that stays gone, after a note that discards nothing
  pub doomed_more : (x : Stamped) (past : Past) → NoDiscard n x.note → shown_in k (x ∷ past) n ≡ shown_in k past n → IsDoomed k n past → IsDoomed k n (x ∷ past)
  doomed_more x past nd e d = record {
    gone = subst IsNone (sym e) d.gone;
    once = inr d.once;
    kept = λ h. kept h;
  } where
    kept : WasDiscarded k n (x ∷ past) (x ∷ past) → ⊥
    kept (inl h) = nd h.0
    kept (inr h) = d.kept (discarded_less k n x past past (omega arith) h)

  pub doomed_less : (x : Stamped) (past : Past) → shown_in k (x ∷ past) n ≡ shown_in k past n → IsDoomed k n (x ∷ past) → IsDoomed k n past
  doomed_less x past e d = record {
    gone = subst IsNone e d.gone;
    once = once_less k n x past d.gone d.once;
    kept = λ h. d.kept (inr (discarded_more k n x past past d.gone h));
  }

  -- a name that was live and is gone after a note that discards nothing
  pub doomed_new : (x : Stamped) (past : Past) → NoDiscard n x.note → IsLiveAt k n past → IsGone k n (x ∷ past) → IsDoomed k n (x ∷ past)
  doomed_new x past nd s g = record {
    gone = g;
    once = inr (once k n past s);
    kept = λ h. kept h;
  } where
    kept : WasDiscarded k n (x ∷ past) (x ∷ past) → ⊥
    kept (inl h) = nd h.0
    kept (inr h) = no_both k n (shown_in k past n) s (discarded_gone k n x past past (omega arith) h)

  pub clean_lost : (x : Stamped) (past : Past) → last_of n (x ∷ past) ≡ last_of n past → shown_in k (x ∷ past) n ≢ shown_in k past n → IsClean k n (x ∷ past) → ⊥
  clean_lost x past same ne c = stored_broken k n x past (last_of n past) (last_began n past) ne (subst (IsStored k n (x ∷ past)) same c.stored)

pub passes_by : (k : Kept) → OtherNotesKeepStatus k
passes_by k n past x t e = record {
  clean = (clean_more k n past x leave, clean_less k n past x leave);
  doomed = (doomed_more k n x past (no_discard n x.note t) e, doomed_less k n x past e);
  unsure = (
    λ u. record { block = u.block; live = subst IsSome (sym e) u.live; doubtful = subst (λ T. T) (sym (doubt_stays n x.opened x.note past t)) u.doubtful },
    λ u. record { block = u.block; live = subst IsSome e u.live; doubtful = subst (λ T. T) (doubt_stays n x.opened x.note past t) u.doubtful },
  );
} where
  leave : Leaves k n past x
  leave = record { same = e; last = leaves n x.note (began past x) (last_of n past) t }

pub call_leaves : (k : Kept) → IdleCallsKeepStatus k
call_leaves k n past opened who request reply e = passes_by k n past (called opened who request reply) refl (ap (λ t. k.shown t n) e)

pub call_changes : (k : Kept) → ChangesMakeUnclean k
call_changes k n past opened who request reply ne s = record {
  clean = clean_lost k n (called opened who request reply) past refl ne;
  doomed = λ d. no_both k n _ s d.gone;
  unsure = (λ u. (u.block, u.doubtful), λ h. record { block = h.0; live = s; doubtful = h.1 });
}

pub call_takes : (k : Kept) → RemovalsDoom k
call_takes k n past opened who request reply ne g = record {
  doomed = doomed_new k n (called opened who request reply) past (λ h. h) (some_of k n _ _ g ne) g;
  clean = λ c. no_both k n _ c.live g;
  unsure = λ u. no_both k n _ u.live g;
}

pub got_law : (k : Kept) → GetsBringDoubt k
got_law k n past opened who since answer = record {
  clean = (clean_more k n past x leave, clean_less k n past x leave);
  doomed = (doomed_more k n x past (λ d. d) refl, doomed_less k n x past refl);
  unsure = (λ u. (u.block, u.live, subst (λ T. T) doubt u.doubtful), λ h. record { block = h.0; live = h.1; doubtful = subst (λ T. T) (sym doubt) h.2 });
} where
  x : Stamped
  x = got opened who since n answer

  leave : Leaves k n past x
  leave = record { same = refl; last = refl }

  doubt : IsDoubtful n (x ∷ past) ≡ (IsFailure answer ⊎ IsOther (last_of n past) answer)
  doubt = ap (λ b. MatchBool b (IsFailure answer ⊎ IsOther (last_of n past) answer) (IsDoubtful n past)) (same_name-refl n)

-- after a put or a discard of a name nothing is in doubt
no_doubt : (b : Bool) (T : Type 0) → b ≡ true → MatchBool b ⊥ T → ⊥
no_doubt true T e h = h
no_doubt false T e h = absurd (cc)

pub put_law : (k : Kept) → PutsMakeClean k
put_law k n past opened who since bytes ok s = record {
  clean = (
    λ c. (let st = subst (IsStored k n (x ∷ past)) last c.stored in (st.0, steady_less k n (began past x) x past (omega arith) refl st.1)),
    λ h. record { live = s; stored = subst (IsStored k n (x ∷ past)) (sym last) (h.0, steady_more k n (began past x) x past refl h.1) },
  );
  doomed = λ d. no_both k n (shown_in k past n) s d.gone;
  unsure = λ u. no_doubt (same_name n n) _ (same_name-refl n) u.doubtful;
} where
  x : Stamped
  x = putted opened who since n bytes ok

  last : last_of n (x ∷ past) ≡ Stored (began past x) bytes ok
  last = ap (λ b. cond b (Stored (began past x) bytes ok) (last_of n past)) (same_name-refl n)

pub put_gone : (k : Kept) → PutsOfGoneKeepStatus k
put_gone k n past opened who since bytes ok g = record {
  clean = (λ c. absurd (no_both k n _ c.live g), λ c. absurd (no_both k n (shown_in k past n) c.live g));
  doomed = (doomed_more k n (putted opened who since n bytes ok) past (λ d. d) refl, doomed_less k n (putted opened who since n bytes ok) past refl);
  unsure = (λ u. absurd (no_both k n _ u.live g), λ u. absurd (no_both k n (shown_in k past n) u.live g));
}

pub drop_live : (k : Kept) → DiscardsMakeUnclean k
drop_live k n past opened who since ok s = record {
  clean = λ c. subst (IsStored k n (x ∷ past)) last c.stored;
  doomed = λ d. no_both k n (shown_in k past n) s d.gone;
  unsure = λ u. no_doubt (same_name n n) _ (same_name-refl n) u.doubtful;
} where
  x : Stamped
  x = dropped_note opened who since n ok

  last : last_of n (x ∷ past) ≡ Gone (began past x) ok
  last = ap (λ b. cond b (Gone (began past x) ok) (last_of n past)) (same_name-refl n)

pub drop_gone : (k : Kept) → DiscardsEndDoom k
drop_gone k n past opened who since ok g = (λ d. (doomed_less k n x past refl d, λ h. d.kept (inl ((same_name-refl n, h.0), (g, λ le. h.1)))), λ h. back h.0 h.1) where
  x : Stamped
  x = dropped_note opened who since n ok

  back : IsDoomed k n past → ((ok ≡ true) × AllSince (λ p. IsNone (shown_in k p n)) (began past x) past → ⊥) → IsDoomed k n (x ∷ past)
  back d nay = record { gone = g; once = inr d.once; kept = λ h. kept h } where
    kept : WasDiscarded k n (x ∷ past) (x ∷ past) → ⊥
    kept (inl h) = nay ((h.0).1, (h.1).1 (omega arith))
    kept (inr h) = d.kept (discarded_less k n x past past (omega arith) h)
