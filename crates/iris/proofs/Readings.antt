-- How the notes of a read keep what the session keeps.
use Rattle.std.proofs.Common.{◌≡◌, ◌≢◌, ◌⊎◌, inl, inr, ℕ, zero, suc, ◌+◌, ◌<◌, List, ◌∷◌, length, take, drop, get_or, Bool, true, false, cond, Option, Some, None, refl, sym, ◌∙◌, ap, subst, arith}
use Rattle.std.proofs.lemmas.List.{length-append, take_at, drop_at}
use Rattle.sha2.proofs.Facts256.{length-sha256}
use Rattle.iris_name.specs.declared.note.Answer.{Answer}
use Rattle.iris_name.specs.declared.note.Answer.TheVariants.{Absent, Given, Failed}
use Rattle.iris_name.specs.declared.note.Note.TheVariants.{Call, Got}
use Rattle.iris_name.specs.declared.request.Cause.{Cause}
use Rattle.iris_name.specs.declared.request.Cause.TheVariants.{StoreFailed, BadAnswer}
use Rattle.iris_name.specs.declared.request.Request.TheVariants.{Read}
use Rattle.iris_name.specs.declared.request.Reply.{Reply}
use Rattle.iris_name.specs.declared.request.Reply.TheVariants.{Bytes, Refused}
use Rattle.iris_name.specs.History.{Past, Stamped, begun}
use Rattle.iris_name.specs.Hmac.{record_of, tag, hmac, Passes}
use Rattle.iris_history.specs.Answers.{Stored, last_of, IsOther}
use Rattle.iris_history.specs.Kept.{Carries, takes_step, version_of}
use Rattle.iris_history.specs.Legal.{IsLawful, Licenses}
use Rattle.iris_history.specs.Values.{IsRequest, IsReply, AreBytes}
use Rattle.iris_history.proofs.Growth.{Leaves, clean_more, clean_less, judged_more}
use Rattle.iris_history.proofs.Pasts.{begun_here, comes_last}
use Rattle.iris_history.proofs.Records.{got_passing, clean_put}
use Rattle.iris.specs.Agrees.{RegistersAgree}
use Rattle.iris.specs.Answers.{IsRightReply}
use Rattle.iris.specs.Registers.{Registers, register_at, registers, register_rules, block_name, shown_register, LegalRegisters, BadRegisters, Clean}
use Rattle.iris_rows.specs.Rows.{zeros}
use Rattle.iris.proofs.Tables.{table, older, unwritten, live_shown, version_shown, shown_same, same_self, is_live}
use Rattle.iris.proofs.Steps.{noted}

-- a note that changes no table and is no put keeps all that the code keeps
pub quiet : (key : List ℕ) (counter notes : ℕ) (versions : List ℕ) (kept : List (Option (List ℕ))) (past : Past) (x : Stamped)
    → table key (x ∷ past) ≡ table key past → ((q : ℕ) → last_of (block_name q) (x ∷ past) ≡ last_of (block_name q) past)
    → RegistersAgree key counter notes versions kept past → BadRegisters key (x ∷ past) ⊎ LegalRegisters key (x ∷ past)
    → RegistersAgree key counter (notes + 1) versions kept (x ∷ past)
quiet key counter notes versions kept past x e l a j = record {
  count = a.count ∙ ap (λ t. t.counter) (sym e);
  notes = omega (arith, a.notes);
  version = λ p lt. a.version p lt ∙ ap (λ t. t.version p) (sym e);
  whole = whole;
  held = λ p b h. let old = a.held p b h in (old.0 ∙ ap (λ t. t.block p) (sym e), λ c. old.1 (clean_less (registers key) (block_name p) past x (leaves p) c));
  clean = λ p lt live none. clean_more (registers key) (block_name p) past x (leaves p) (a.clean p lt (λ z. live (ap (λ t. t.version p) e ∙ z)) none);
  judged = j;
}
  where
    whole : (m p : ℕ) → length ((table key (drop m (x ∷ past))).block p) ≡ 4096
    whole zero p = ap (λ t. length (t.block p)) e ∙ a.whole 0 p
    whole (suc m) p = a.whole m p

    leaves : (p : ℕ) → Leaves (registers key) (block_name p) past x
    leaves p = record { same = ap (λ t. shown_register t (block_name p)) e; last = l p }

length_tag : (key : List ℕ) (file place version : ℕ) (block : List ℕ) → length (tag key file place version block) ≡ 32
unfolding tag hmac
length_tag key file place version block = length-sha256 _

-- a true record passes
pub true_passes : (key : List ℕ) (file place version : ℕ) (block : List ℕ) → length block ≡ 4096 → Passes key file place version (record_of key file place version block)
true_passes key file place version block len =
    let t = tag key file place version block in (
      length-append block t ∙ omega (arith, len, length_tag key file place version block),
      drop_at block t 4096 len ∙ ap (tag key file place version) (sym (take_at block t 4096 len)),
    )

abbrev pub got : ℕ → ℕ → ℕ → Answer → Past → Past
got who since p answer past = noted (Got who since (block_name p) answer) ∷ past

-- a get of a clean name is lawful
pub got_lawful : (key : List ℕ) (who since p : ℕ) (answer : Answer) (past : Past) → since ≡ length past → Clean key past p
    → IsLawful (registers key) (register_rules key) 0 past (begun past (noted (Got who since (block_name p) answer))) (Got who since (block_name p) answer)
got_lawful key who since p answer past s c =
    let note = Got who since (block_name p) answer in
    subst (λ at. IsLawful (registers key) (register_rules key) 0 past at note) (sym (begun_here past (noted note) (omega (arith, s))))
    (c, (omega (arith, s), comes_last (block_name p) (0 + since) past (omega (arith, s))))

-- what passes is the block, or it is forged
got_front : (key : List ℕ) (counter notes : ℕ) (versions : List ℕ) (kept : List (Option (List ℕ))) (who since p : ℕ) (bytes : List ℕ) (past : Past)
    → RegistersAgree key counter notes versions kept past → since ≡ length past → Clean key past p
    → Passes key 2 p ((table key past).version p) bytes
    → BadRegisters key (got who since p (Given bytes) past) ⊎ (LegalRegisters key (got who since p (Given bytes) past) × (take 4096 bytes ≡ (table key past).block p))
got_front key counter notes versions kept who since p bytes past a s c pass =
    let t = table key past in
    let live : t.version p ≢ 0 = is_live t p c.live in
    let here : begun past (noted (Got who since (block_name p) (Given bytes))) ≡ past = begun_here past (noted (Got who since (block_name p) (Given bytes))) (omega (arith, s)) in
    elim a.judged [
      | inl bad ↦ inl (inr bad)
      | inr legal ↦ elim (got_passing (registers key) (register_rules key) (record { 0 = 2 }) p (t.version p, t.block p) who since bytes past (noted (Got who since (block_name p) (Given bytes))) refl (got_lawful key who since p (Given bytes) past s c, legal)
          (ap (λ q. shown_register (table key q) (block_name p)) here ∙ live_shown t p live) (λ m e. then_same m live e) pass) [
            | inl bad ↦ inl bad
            | inr same ↦ inr ((got_lawful key who since p (Given bytes) past s c, legal), same ∙ take_at (t.block p) (tag key 2 p (t.version p) (t.block p)) 4096 (a.whole 0 p))
          ]
    ] where
      then_same : (m : ℕ) → (table key past).version p ≢ 0 → version_of (registers key) (shown_register (table key (drop m past)) (block_name p)) ≡ (table key past).version p → shown_register (table key (drop m past)) (block_name p) ≡ Some ((table key past).version p, (table key past).block p)
      then_same m live e =
          let v : (table key (drop m past)).version p ≡ (table key past).version p = sym (version_shown key (table key (drop m past)) p) ∙ e in
          shown_same (table key (drop m past)) (table key past) p v ((older key m past p).same v) ∙ live_shown (table key past) p live

-- an answer that gives no record that passes
abbrev pub Rejected : List ℕ → ℕ → ℕ → Answer → Type 0
Rejected key p v Absent = Unit {0}
Rejected key p v (Given given) = Passes key 2 p v given → ⊥
Rejected key p v Failed = ⊥

-- what doesn't pass isn't what was put
is_other : (key : List ℕ) (p : ℕ) (past : Past) → LegalRegisters key past → Clean key past p → length ((table key past).block p) ≡ 4096 → (answer : Answer) → Rejected key p ((table key past).version p) answer → IsOther (last_of (block_name p) past) answer
is_other key p past legal c len answer r =
    let t = table key past in
    let f = clean_put (registers key) (register_rules key) (block_name p) past legal c in
    let carried : f.1 ≡ record_of key 2 p (t.version p) (t.block p) = subst (λ o. Carries (registers key) (block_name p) o f.1) (live_shown t p (is_live t p c.live)) f.4 in
    subst (λ last. IsOther last answer) (sym f.3) (by_answer f.0 f.1 f.2 answer carried r)
  where
    by_answer : (start : ℕ) (bytes : List ℕ) (ok : Bool) (answer : Answer) → bytes ≡ record_of key 2 p ((table key past).version p) ((table key past).block p) → Rejected key p ((table key past).version p) answer → IsOther (Stored start bytes ok) answer
    by_answer start bytes ok Absent e r = tt
    by_answer start bytes ok (Given given) e r = λ same. r (subst (Passes key 2 p ((table key past).version p)) (sym (same ∙ e)) (true_passes key 2 p ((table key past).version p) ((table key past).block p) len))
    by_answer start bytes ok Failed e r = r

-- a read's call, after what it was told by
abbrev pub told : ℕ → List ℕ → ℕ → ℕ → Reply → Past → Past
told who path offset len reply past = noted (Call who (Read path offset len) reply) ∷ past

-- a read that is answered from what is kept
pub read_here : (key : List ℕ) (counter notes : ℕ) (versions : List ℕ) (kept : List (Option (List ℕ))) (past : Past) (who : ℕ) (path : List ℕ) (offset len : ℕ) (b : List ℕ)
    → RegistersAgree key counter notes versions kept past → IsRequest (Read path offset len) → AreBytes b → b ≡ (table key past).block (register_at offset)
    → RegistersAgree key counter (notes + 1) versions kept (told who path offset len (Bytes b) past)
read_here key counter notes versions kept past who path offset len b a asked bytes e =
    quiet key counter notes versions kept past (noted (Call who (Read path offset len) (Bytes b))) refl (λ q. refl) a
    (judged_more (registers key) (register_rules key) past (noted (Call who (Read path offset len) (Bytes b))) (inl e, asked, bytes) a.judged)

pub read_zeros : (key : List ℕ) (counter notes : ℕ) (versions : List ℕ) (kept : List (Option (List ℕ))) (past : Past) (who : ℕ) (path : List ℕ) (offset len : ℕ)
    → RegistersAgree key counter notes versions kept past → IsRequest (Read path offset len) → AreBytes zeros → register_at offset < 65536 → get_or versions (register_at offset) 0 ≡ 0
    → RegistersAgree key counter (notes + 1) versions kept (told who path offset len (Bytes zeros) past)
read_zeros key counter notes versions kept past who path offset len a asked bytes lt e =
    read_here key counter notes versions kept past who path offset len zeros a asked bytes (sym (unwritten key past (register_at offset) (sym (a.version (register_at offset) lt) ∙ e)))

-- a get, and the reply that its answer gives
pub read_got : (key : List ℕ) (counter notes : ℕ) (versions : List ℕ) (kept : List (Option (List ℕ))) (past : Past) (who : ℕ) (path : List ℕ) (offset len since : ℕ) (answer : Answer) (reply : Reply)
    → RegistersAgree key counter notes versions kept past → IsRequest (Read path offset len) → IsReply reply → register_at offset < 65536
    → get_or versions (register_at offset) 0 ≢ 0 → get_or kept (register_at offset) None ≡ None → since ≡ notes
    → IsRightReply key (register_at offset) (get_or versions (register_at offset) 0) answer reply
    → RegistersAgree key counter (notes + 2) versions kept (told who path offset len reply (got who since (register_at offset) answer past))
read_got key counter notes versions kept past who path offset len since answer reply a asked value lt live none s f =
    let p = register_at offset in
    let v = a.version p lt in
    let c = a.clean p lt (λ z. live (v ∙ z)) none in
    let since_is : since ≡ length past = s ∙ a.notes in
    let j = both c since_is answer reply value (subst (λ n. IsRightReply key p n answer reply) v f) in
    let one = quiet key counter notes versions kept past (noted (Got who since (block_name p) answer)) refl (λ q. refl) a
    (judged_more (registers key) (register_rules key) past (noted (Got who since (block_name p) answer)) (got_lawful key who since p answer past since_is c) a.judged) in
    let two = quiet key counter (notes + 1) versions kept (got who since p answer past) (noted (Call who (Read path offset len) reply)) (same_cond (takes_step reply) (table key past)) (λ q. refl) one j in
    let n : (notes + 1) + 1 ≡ notes + 2 = omega arith in
    subst (λ n. RegistersAgree key counter n versions kept (told who path offset len reply (got who since p answer past))) n two
  where
    same_cond : (b : Bool) (t : Registers) → cond b t t ≡ t
    same_cond true t = refl
    same_cond false t = refl

    live_now : (table key past).version (register_at offset) ≢ 0
    live_now e = live (a.version (register_at offset) lt ∙ e)

    -- a refusal that the get licenses
    refused : Clean key past (register_at offset) → since ≡ length past → (answer : Answer) (cause : Cause)
        → (LegalRegisters key past → Licenses (register_rules key) who (Read path offset len) cause past past (Got who since (block_name (register_at offset)) answer))
        → BadRegisters key (told who path offset len (Refused cause) (got who since (register_at offset) answer past)) ⊎ LegalRegisters key (told who path offset len (Refused cause) (got who since (register_at offset) answer past))
    refused c s answer cause license = elim a.judged [
      | inl bad ↦ inl (inr (inr bad))
      | inr legal ↦ inr (
        (inr (refl, subst (λ at. Licenses (register_rules key) who (Read path offset len) cause past at (Got who since (block_name (register_at offset)) answer)) (sym (begun_here past (noted (Got who since (block_name (register_at offset)) answer)) (omega (arith, s)))) (license legal)), asked, tt),
        (got_lawful key who since (register_at offset) answer past s c, legal),
      )
    ]

    both : Clean key past (register_at offset) → since ≡ length past → (answer : Answer) (reply : Reply) → IsReply reply → IsRightReply key (register_at offset) ((table key past).version (register_at offset)) answer reply
        → BadRegisters key (told who path offset len reply (got who since (register_at offset) answer past)) ⊎ LegalRegisters key (told who path offset len reply (got who since (register_at offset) answer past))
    both c s Absent reply value f = subst (λ r. BadRegisters key (told who path offset len r (got who since (register_at offset) Absent past)) ⊎ LegalRegisters key (told who path offset len r (got who since (register_at offset) Absent past))) (sym f)
        (refused c s Absent (BadAnswer (block_name (register_at offset))) (λ legal. (refl, same_self (register_at offset), is_other key (register_at offset) past legal c (a.whole 0 (register_at offset)) Absent tt, (refl, refl, live_now))))
    both c s Failed reply value f = subst (λ r. BadRegisters key (told who path offset len r (got who since (register_at offset) Failed past)) ⊎ LegalRegisters key (told who path offset len r (got who since (register_at offset) Failed past))) (sym f)
        (refused c s Failed (StoreFailed (block_name (register_at offset))) (λ legal. (refl, same_self (register_at offset), tt, (refl, refl, live_now))))
    both c s (Given given) reply value (inr f) = subst (λ r. BadRegisters key (told who path offset len r (got who since (register_at offset) (Given given) past)) ⊎ LegalRegisters key (told who path offset len r (got who since (register_at offset) (Given given) past))) (sym f.1)
        (refused c s (Given given) (BadAnswer (block_name (register_at offset))) (λ legal. (refl, same_self (register_at offset), is_other key (register_at offset) past legal c (a.whole 0 (register_at offset)) (Given given) f.0, (refl, refl, live_now))))
    both c s (Given given) reply value (inl f) = subst (λ r. BadRegisters key (told who path offset len r (got who since (register_at offset) (Given given) past)) ⊎ LegalRegisters key (told who path offset len r (got who since (register_at offset) (Given given) past))) (sym f.1)
        (elim (got_front key counter notes versions kept who since (register_at offset) given past a s c f.0) [ inl bad ↦ inl (inr bad) | inr ok ↦ inr ((inl ok.1, asked, subst IsReply f.1 value), ok.0) ])
