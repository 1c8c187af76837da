-- How the notes of a write keep what the session keeps.
use Rattle.std.proofs.Common.{◌≡◌, ◌≢◌, ◌⊎◌, inl, inr, ℕ, zero, suc, ◌+◌, ◌≤◌, ◌<◌, List, ◌∷◌, length, drop, set, get_or, Bool, true, false, cond, Option, Some, None, IsSome, refl, sym, ◌∙◌, ap, subst, arith}
use Rattle.std.proofs.lemmas.List.{get_or-set_same, get_or-set_other}
use Rattle.std.proofs.lemmas.Bool.Decides.{eqb_tells}
use Rattle.iris_name.specs.declared.note.Note.{Note}
use Rattle.iris_name.specs.declared.note.Note.TheVariants.{Call, Put}
use Rattle.iris_name.specs.declared.request.Request.TheVariants.{Write}
use Rattle.iris_name.specs.declared.request.Reply.TheVariants.{Done}
use Rattle.iris_name.specs.History.{Past, Stamped, began, begun}
use Rattle.iris_name.specs.Hmac.{record_of}
use Rattle.iris_name.specs.Names.{same_name}
use Rattle.iris_history.specs.Answers.{Stored, last_of}
use Rattle.iris_history.specs.Kept.{Carries, version_of}
use Rattle.iris_history.specs.Legal.{IsLawful}
use Rattle.iris_history.specs.Status.{IsStored}
use Rattle.iris_history.specs.Values.{IsRequest}
use Rattle.iris_history.proofs.Growth.{Leaves, clean_more, clean_less, stale, judged_more}
use Rattle.iris_history.proofs.Pasts.{begun_here, last_began, comes_last}
use Rattle.iris.specs.Agrees.{RegistersAgree}
use Rattle.iris.specs.Registers.{Registers, register_written, register_at, registers, register_rules, block_name, shown_register, LegalRegisters, BadRegisters, Clean}
use Rattle.iris.proofs.Tables.{table, version_le, live_shown, version_shown, shown_same, same_self, same_other}

-- a note of the only session
abbrev pub noted : Note → Stamped
noted note = record { note = note; opened = 0 }

-- what stands after a write's call, and after its put
abbrev pub called : ℕ → List ℕ → ℕ → List ℕ → Past → Past
called who path offset b past = noted (Call who (Write path offset b) Done) ∷ past

abbrev pub put : List ℕ → ℕ → List ℕ → ℕ → List ℕ → ℕ → ℕ → Bool → Past → Past
put key who path offset b counter since ok past =
    noted (Put who since (block_name (register_at offset)) (record_of key 2 (register_at offset) (counter + 1) b) ok) ∷ called who path offset b past

-- the table after a write
version_at : (t : Registers) (p q : ℕ) (b : List ℕ) → ((q ≡ p) × ((register_written t p b).version q ≡ t.counter + 1) × ((register_written t p b).block q ≡ b)) ⊎ ((q ≢ p) × ((register_written t p b).version q ≡ t.version q) × ((register_written t p b).block q ≡ t.block q))
version_at t p q b = elim (eqb_tells q p) [ inl h ↦ inl (h.1, ap (λ v. cond v (t.counter + 1) (t.version q)) h.0, ap (λ v. cond v b (t.block q)) h.0) | inr h ↦ inr (h.1, ap (λ v. cond v (t.counter + 1) (t.version q)) h.0, ap (λ v. cond v b (t.block q)) h.0) ]

-- a place that isn't written is left by the call
leaves_call : (key : List ℕ) (who : ℕ) (path : List ℕ) (offset : ℕ) (b : List ℕ) (past : Past) (q : ℕ)
    → ((register_written (table key past) (register_at offset) b).version q ≡ (table key past).version q) → ((register_written (table key past) (register_at offset) b).block q ≡ (table key past).block q)
    → Leaves (registers key) (block_name q) past (noted (Call who (Write path offset b) Done))
leaves_call key who path offset b past q e f = record { same = shown_same (register_written (table key past) (register_at offset) b) (table key past) q e f; last = refl }

not_clean : (key : List ℕ) (who : ℕ) (path : List ℕ) (offset : ℕ) (b : List ℕ) (past : Past) → Clean key (called who path offset b past) (register_at offset) → ⊥
not_clean key who path offset b past h =
    let t = table key past in
    let p = register_at offset in
    stale (registers key) (block_name p) past (noted (Call who (Write path offset b) Done)) (last_of (block_name p) past) (last_began (block_name p) past)
    (λ e. let v : t.version p ≡ (register_written t p b).version p = sym (version_shown key t p) ∙ (ap (version_of (registers key)) e ∙ version_shown key (register_written t p b) p) in
    elim (version_at t p p b) [ inl i ↦ (let le : t.version p ≤ t.counter = version_le key past p in absurd (omega (arith, i.1, v))) | inr i ↦ absurd (i.0 refl) ])
    h.stored

-- the call of a write is lawful
pub judged_call : (key : List ℕ) (who : ℕ) (path : List ℕ) (offset : ℕ) (b : List ℕ) (past : Past)
    → IsRequest (Write path offset b) → BadRegisters key past ⊎ LegalRegisters key past → BadRegisters key (called who path offset b past) ⊎ LegalRegisters key (called who path offset b past)
judged_call key who path offset b past values j =
    judged_more (registers key) (register_rules key) past (noted (Call who (Write path offset b) Done)) (inl tt, values, tt) j

-- the put after it is lawful
judged_write : (key : List ℕ) (who : ℕ) (path : List ℕ) (offset : ℕ) (b : List ℕ) (past : Past) (since : ℕ) (ok : Bool)
    → since ≡ length past + 1 → IsRequest (Write path offset b) → BadRegisters key past ⊎ LegalRegisters key past
    → BadRegisters key (put key who path offset b (table key past).counter since ok past) ⊎ LegalRegisters key (put key who path offset b (table key past).counter since ok past)
judged_write key who path offset b past since ok s values j =
    let t = table key past in
    let p = register_at offset in
    let one = called who path offset b past in
    let note = Put who since (block_name p) (record_of key 2 p (t.counter + 1) b) ok in
    let whole : begun one (noted note) ≡ one = begun_here one (noted note) (omega (arith, s)) in
    let at_p : ((register_written t p b).version p ≡ t.counter + 1) × ((register_written t p b).block p ≡ b) = elim (version_at t p p b) [ inl i ↦ (i.1, i.2) | inr i ↦ absurd (i.0 refl) ] in
    let alive : (register_written t p b).version p ≢ 0 = λ z. absurd (omega (arith, z, at_p.0)) in
    let stands : shown_register (register_written t p b) (block_name p) ≡ Some ((register_written t p b).version p, (register_written t p b).block p) = live_shown (register_written t p b) p alive in
    let carried : record_of key 2 p (t.counter + 1) b ≡ record_of key 2 p ((register_written t p b).version p) ((register_written t p b).block p) = sym (ap (λ v. record_of key 2 p v ((register_written t p b).block p)) at_p.0 ∙ ap (record_of key 2 p (t.counter + 1)) at_p.1) in
    judged_more (registers key) (register_rules key) one (noted note)
    (subst (λ at. IsLawful (registers key) (register_rules key) 0 one at note) (sym whole) (
      subst (λ o. Carries (registers key) (block_name p) o (record_of key 2 p (t.counter + 1) b)) (sym stands) carried,
      inl (inl (subst IsSome (sym stands) refl, not_clean key who path offset b past)),
      (omega (arith, s), comes_last (block_name p) (0 + since) one (omega (arith, s))),
    ))
    (judged_call key who path offset b past values j)

-- what the code keeps after a write agrees
pub wrote : (key : List ℕ) (counter notes : ℕ) (versions : List ℕ) (kept : List (Option (List ℕ))) (past : Past)
    (who : ℕ) (path : List ℕ) (offset : ℕ) (b : List ℕ) (since : ℕ) (ok : Bool)
    → RegistersAgree key counter notes versions kept past
    → register_at offset < length versions → register_at offset < length kept → length b ≡ 4096 → since ≡ notes + 1 → IsRequest (Write path offset b)
    → RegistersAgree key (counter + 1) (notes + 2) (set versions (register_at offset) (counter + 1)) (set kept (register_at offset) (cond ok None (Some b))) (put key who path offset b counter since ok past)
wrote key counter notes versions kept past who path offset b since ok a in_versions in_kept len s values =
    let t = table key past in
    let p = register_at offset in
    let one = called who path offset b past in
    let note = Put who since (block_name p) (record_of key 2 p (counter + 1) b) ok in
    record {
      count = ap (λ n. n + 1) a.count;
      notes = omega (arith, a.notes);
      version = λ q lt. elim (version_at t p q b) [
        | inl i ↦ ap (λ z. get_or (set versions p (counter + 1)) z 0) i.0 ∙ (get_or-set_same versions p (counter + 1) 0 in_versions ∙ (ap (λ n. n + 1) a.count ∙ sym i.1))
        | inr i ↦ get_or-set_other versions p q (counter + 1) 0 i.0 ∙ (a.version q lt ∙ sym i.1)
      ];
      whole = λ m q. whole m q;
      held = λ q c e. elim (version_at t p q b) [
        | inl i ↦ held_here q c ok i.0 (sym (get_or-set_same kept p (cond ok None (Some b)) None in_kept) ∙ (ap (λ z. get_or (set kept p (cond ok None (Some b))) z None) (sym i.0) ∙ e)) i.2
        | inr i ↦ (let old = a.held q c (sym (get_or-set_other kept p q (cond ok None (Some b)) None i.0) ∙ e) in
            (old.0 ∙ sym i.2, λ h. old.1 (clean_less (registers key) (block_name q) past _ (leaves_call key who path offset b past q i.1 i.2) (clean_less (registers key) (block_name q) one (noted note) (leaves_put q i.0) h))))
      ];
      clean = λ q lt live none. elim (version_at t p q b) [
        | inl i ↦ clean_here q ok i.0 (sym (get_or-set_same kept p (cond ok None (Some b)) None in_kept) ∙ (ap (λ z. get_or (set kept p (cond ok None (Some b))) z None) (sym i.0) ∙ none)) live
        | inr i ↦ clean_more (registers key) (block_name q) one (noted note) (leaves_put q i.0) (clean_more (registers key) (block_name q) past _ (leaves_call key who path offset b past q i.1 i.2)
            (a.clean q lt (λ z. live (i.1 ∙ z)) (sym (get_or-set_other kept p q (cond ok None (Some b)) None i.0) ∙ none)))
      ];
      judged = subst (λ n. BadRegisters key (put key who path offset b n since ok past) ⊎ LegalRegisters key (put key who path offset b n since ok past)) (sym a.count) (judged_write key who path offset b past since ok (omega (arith, a.notes)) values a.judged);
    }
  where
    here : (q : ℕ) → length ((register_written (table key past) (register_at offset) b).block q) ≡ 4096
    here q = elim (version_at (table key past) (register_at offset) q b) [ inl i ↦ ap length i.2 ∙ len | inr i ↦ ap length i.2 ∙ a.whole 0 q ]

    whole : (m q : ℕ) → length ((table key (drop m (put key who path offset b counter since ok past))).block q) ≡ 4096
    whole zero q = here q
    whole (suc zero) q = here q
    whole (suc (suc m)) q = a.whole m q

    leaves_put : (q : ℕ) → q ≢ register_at offset → Leaves (registers key) (block_name q) (called who path offset b past) (noted (Put who since (block_name (register_at offset)) (record_of key 2 (register_at offset) (counter + 1) b) ok))
    leaves_put q ne = record { same = refl; last = ap (λ v. cond v (Stored (began (called who path offset b past) (noted (Put who since (block_name (register_at offset)) (record_of key 2 (register_at offset) (counter + 1) b) ok))) (record_of key 2 (register_at offset) (counter + 1) b) ok) (last_of (block_name q) past)) (same_other (register_at offset) q ne) }

    last_here : (q : ℕ) (ok : Bool) → q ≡ register_at offset → last_of (block_name q) (put key who path offset b counter since ok past) ≡ Stored (began (called who path offset b past) (noted (Put who since (block_name (register_at offset)) (record_of key 2 (register_at offset) (counter + 1) b) ok))) (record_of key 2 (register_at offset) (counter + 1) b) ok
    last_here q ok i = ap (λ v. cond v (Stored (began (called who path offset b past) (noted (Put who since (block_name (register_at offset)) (record_of key 2 (register_at offset) (counter + 1) b) ok))) (record_of key 2 (register_at offset) (counter + 1) b) ok) (last_of (block_name q) past)) (ap (λ z. same_name (block_name z) (block_name (register_at offset))) i ∙ same_self (register_at offset))

    held_here : (q : ℕ) (c : List ℕ) (ok : Bool) → q ≡ register_at offset → cond ok None (Some b) ≡ Some c → (register_written (table key past) (register_at offset) b).block q ≡ b → (c ≡ (register_written (table key past) (register_at offset) b).block q) × (Clean key (put key who path offset b counter since ok past) q → ⊥)
    held_here q c true i e f = absurd (cc)
    held_here q c false i e f = (cc, λ h. let st = subst (IsStored (registers key) (block_name q) (put key who path offset b counter since false past)) (last_here q false i) h.stored in let no : false ≡ true = st.0 in absurd (cc))

    clean_here : (q : ℕ) (ok : Bool) → q ≡ register_at offset → cond ok None (Some b) ≡ None → (register_written (table key past) (register_at offset) b).version q ≢ 0 → Clean key (put key who path offset b counter since ok past) q
    clean_here q true i e live = record {
      live = subst IsSome (sym (live_shown (register_written (table key past) (register_at offset) b) q live)) refl;
      stored = subst (IsStored (registers key) (block_name q) (put key who path offset b counter since true past)) (sym (last_here q true i)) (refl, (refl, λ le. (refl, λ early. absurd (omega (arith, s, a.notes)))));
    }
    clean_here q false i e live = absurd (cc)
