-- Which calls are lawful: the right reply or a licensed refusal, of texts in UTF-8 and bytes below 256.
use Rattle.std.proofs.Common.{◌<◌, inl, inr, ℕ, List, [], ◌∷◌, true, refl, IsUtf8, arith}
use Rattle.iris_name.specs.declared.note.Answer.TheVariants.{Failed}
use Rattle.iris_name.specs.declared.note.Note.{Note}
use Rattle.iris_name.specs.declared.note.Note.TheVariants.{Call}
use Rattle.iris_name.specs.declared.request.Cause.TheVariants.{StoreFailed}
use Rattle.iris_name.specs.declared.request.Request.{Request}
use Rattle.iris_name.specs.declared.request.Request.TheVariants.{Mkdir, Create, Write, Read, Resize, Stat, List as ListNames, Rename, Remove, Sync}
use Rattle.iris_name.specs.declared.request.Reply.{Reply}
use Rattle.iris_name.specs.declared.request.Reply.TheVariants.{Done, Bytes, Names, Synced, Refused}
use Rattle.iris_history.specs.Legal.{Rules, IsLawful}
use Rattle.iris_history.specs.Values.{AreBytes}
use Rattle.iris_history.proofs.ExampleTable.{toy, rules, n, call, put, got, past_in}

abbrev Lawful : Rules → List Note → Request → Reply → Type 0
Lawful r notes request reply = let past = past_in notes in IsLawful toy r 0 past past (Call 1 request reply)

-- the right reply, and another
right_reply : Lawful rules [] Sync Done
right_reply = (inl refl, tt, tt)

wrong_reply : Lawful rules [] Sync Synced → ⊥
wrong_reply h = elim h.0 [ inl e ↦ cc | inr l ↦ l ]

-- a refusal with its licence, and one without
licensed : Lawful rules (call 5 ∷ put 1 5 true ∷ got 2 Failed ∷ []) Sync (Refused (StoreFailed n))
licensed = (inr (refl, (refl, refl, tt, refl)), tt, tt)

unlicensed : Lawful rules (call 5 ∷ []) Sync (Refused (StoreFailed n)) → ⊥
unlicensed h = elim h.0 [ inl e ↦ cc | inr l ↦ l.1 ]

-- rules by which each reply is right
abbrev any : Rules
any = record { replies = λ past request reply. Unit {0}; reaches = λ past request name. ⊥; waits = λ past request. ⊥ }

no_byte : AreBytes (256 ∷ []) → ⊥
no_byte b = let e : 256 < 256 = b 0 0 (omega arith) in absurd (omega (arith, e))

-- a request with bytes that are no text, or with a number that is no byte, is no call
abbrev Asks : Request → Type 0
Asks request = Lawful any [] request Done

abbrev IsNoText : List ℕ → Type 0
IsNoText t = IsUtf8 t → ⊥

no_request : (t : List ℕ) → IsNoText t → (Asks (Mkdir t) → ⊥) × (Asks (Create t) → ⊥) × (Asks (Read t 0 1) → ⊥) × (Asks (Resize t 1) → ⊥)
    × (Asks (Stat t) → ⊥) × (Asks (Remove t) → ⊥)
no_request t wrong = (λ h. wrong h.1, λ h. wrong h.1, λ h. wrong h.1, λ h. wrong h.1, λ h. wrong h.1, λ h. wrong h.1)

no_request_of_two : (t : List ℕ) → IsNoText t → (Asks (Write t 0 (1 ∷ [])) → ⊥) × (Asks (Write [] 0 (256 ∷ [])) → ⊥) × (Asks (ListNames t []) → ⊥)
    × (Asks (ListNames [] t) → ⊥) × (Asks (Rename t []) → ⊥) × (Asks (Rename [] t) → ⊥)
no_request_of_two t wrong = (λ h. wrong h.1.0, λ h. no_byte h.1.1, λ h. wrong h.1.0, λ h. wrong h.1.1, λ h. wrong h.1.0, λ h. wrong h.1.1)

-- and so with a reply
no_reply : (t : List ℕ) → IsNoText t → (Lawful any [] Sync (Bytes (256 ∷ [])) → ⊥) × (Lawful any [] Sync (Names (t ∷ [])) → ⊥)
no_reply t wrong = (λ h. no_byte h.2, λ h. wrong (h.2 0 [] (omega arith)))
