-- A refusal in a legal session comes of a get that failed, or that gave something other than was stored last.
use Rattle.std.proofs.Common.{◌≡◌, ◌⊎◌, inl, inr, ℕ, List, [], ◌∷◌, Bool, true, false, ◌||◌, refl, sym, subst}
use Rattle.iris_name.specs.declared.note.Note.{Note}
use Rattle.iris_name.specs.declared.note.Note.TheVariants.{Call, Got, Put, Dropped}
use Rattle.iris_name.specs.declared.request.Cause.{Cause}
use Rattle.iris_name.specs.declared.request.Cause.TheVariants.{StoreFailed, BadAnswer}
use Rattle.iris_name.specs.declared.request.Request.{Request}
use Rattle.iris_name.specs.declared.request.Request.TheVariants.{Mkdir, Create, Write, Read, Resize, Stat, List as ListNames, Rename, Remove, Sync, Root, Reclaim, Probe}
use Rattle.iris_name.specs.declared.request.Reply.TheVariants.{Done, Bytes, Names, Stat as Stated, Digest, Synced, Reclaimed, Probed, Plain, Refused}
use Rattle.iris_name.specs.History.{Past, past_of, noted, begun}
use Rattle.iris_history.specs.Answers.{last_of, IsOther, IsFailure}
use Rattle.iris_history.specs.Legal.{IsLawful, IsLicensed, Licenses}
use Rattle.iris_history.proofs.Names.{named}
use Rattle.iris.specs.Notes.{replies_of, AnyGetFailed, is_refused, any_refused}
use Rattle.iris.specs.Registers.{LegalRegisters, registers, register_rules, Replies, Registers}
use Rattle.iris.specs.Top.{AnyOther, IsOtherGet}
use Rattle.iris.proofs.Tables.{table}

-- the note of a refused call
abbrev IsRefusal : Note → Type 0
IsRefusal (Call who request reply) = is_refused reply ≡ true
IsRefusal (Got who since name answer) = ⊥
IsRefusal (Put who since name bytes ok) = ⊥
IsRefusal (Dropped who since name ok) = ⊥

-- the note of a get that failed
abbrev IsFailedGet : Note → Type 0
IsFailedGet (Got who since name answer) = IsFailure answer
IsFailedGet (Call who request reply) = ⊥
IsFailedGet (Put who since name bytes ok) = ⊥
IsFailedGet (Dropped who since name ok) = ⊥

-- some note has P
abbrev AnyNote : (Note → Type 0) → Past → Type 0
AnyNote P [] = ⊥
AnyNote P (x ∷ past) = P x.note ⊎ AnyNote P past

-- registers reply no refusal by themselves
no_refusal : (t : Registers) (request : Request) (cause : Cause) → Replies t request (Refused cause) → ⊥
no_refusal t (Write path offset bytes) cause h = h
no_refusal t (Read path offset len) cause h = h
no_refusal t (Mkdir path) cause h = h
no_refusal t (Create path) cause h = h
no_refusal t (Resize path len) cause h = h
no_refusal t (Stat path) cause h = h
no_refusal t (ListNames path from) cause h = h
no_refusal t (Rename from to) cause h = h
no_refusal t (Remove path) cause h = h
no_refusal t Sync cause h = h
no_refusal t Root cause h = h
no_refusal t Reclaim cause h = h
no_refusal t (Probe at) cause h = h

-- what licenses a refusal failed, or gave something else
licence : (key : List ℕ) (who : ℕ) (request : Request) (cause : Cause) (past at : Past) (note : Note) → Licenses (register_rules key) who request cause past at note → IsFailedGet note ⊎ IsOtherGet note past
licence key who request (StoreFailed n) past at (Got caller since name answer) l = inl l.2
licence key who request (BadAnswer n) past at (Got caller since name answer) l = inr (subst (λ m. IsOther (last_of m past) answer) (sym (named n name l.1)) l.2)
licence key who request (StoreFailed n) past at (Put caller since name bytes ok) l = absurd l.3
licence key who request (StoreFailed n) past at (Dropped caller since name ok) l = absurd l.3
licence key who request (StoreFailed n) past at (Call caller asked told) l = absurd l
licence key who request (BadAnswer n) past at (Put caller since name bytes ok) l = absurd l
licence key who request (BadAnswer n) past at (Dropped caller since name ok) l = absurd l
licence key who request (BadAnswer n) past at (Call caller asked told) l = absurd l

licensed : (key : List ℕ) (opened who : ℕ) (request : Request) (cause : Cause) (past : Past) → IsLicensed (register_rules key) opened who request (Refused cause) past → AnyNote IsFailedGet past ⊎ AnyOther past
licensed key opened who request cause [] l = absurd l
licensed key opened who request cause (x ∷ past) l = elim (licence key who request cause past (begun past x) x.note l.1) [ inl f ↦ inl (inl f) | inr o ↦ inr (inl o) ]

refusal : (key : List ℕ) (opened : ℕ) (past at : Past) (note : Note) → IsLawful (registers key) (register_rules key) opened past at note → IsRefusal note → AnyNote IsFailedGet past ⊎ AnyOther past
refusal key opened past at (Call who request (Refused cause)) l r = elim l.0 [
  | inl replies ↦ absurd (no_refusal (table key past) request cause replies)
  | inr licence ↦ licensed key opened who request cause past licence
]
refusal key opened past at (Call who request Done) l r = absurd (cc)
refusal key opened past at (Call who request (Bytes bytes)) l r = absurd (cc)
refusal key opened past at (Call who request (Names names)) l r = absurd (cc)
refusal key opened past at (Call who request (Stated dir len)) l r = absurd (cc)
refusal key opened past at (Call who request (Digest hash)) l r = absurd (cc)
refusal key opened past at (Call who request Synced) l r = absurd (cc)
refusal key opened past at (Call who request (Reclaimed rest)) l r = absurd (cc)
refusal key opened past at (Call who request (Probed file place version)) l r = absurd (cc)
refusal key opened past at (Call who request (Plain error)) l r = absurd (cc)
refusal key opened past at (Got who since name answer) l r = absurd r
refusal key opened past at (Put who since name bytes ok) l r = absurd r
refusal key opened past at (Dropped who since name ok) l r = absurd r

met : (key : List ℕ) (past : Past) → LegalRegisters key past → AnyNote IsRefusal past → AnyNote IsFailedGet past ⊎ AnyOther past
met key [] legal h = absurd h
met key (x ∷ past) legal (inl r) = elim (refusal key x.opened past (begun past x) x.note legal.0 r) [ inl f ↦ inl (inr f) | inr o ↦ inr (inr o) ]
met key (x ∷ past) legal (inr r) = elim (met key past legal.1 r) [ inl f ↦ inl (inr f) | inr o ↦ inr (inr o) ]

or_true : (a b : Bool) → (a || b) ≡ true → (a ≡ true) ⊎ (b ≡ true)
or_true true b h = inl refl
or_true false b h = inr h

-- the notes of a session in its past: what is already there stays
stays_any : (P : Note → Type 0) (opened : ℕ) (past : Past) (notes : List Note) → AnyNote P past → AnyNote P (noted opened past notes)
stays_any P opened past [] h = h
stays_any P opened past (note ∷ notes) h = stays_any P opened (record { note = note; opened = opened } ∷ past) notes (inr h)

refused_noted : (opened : ℕ) (past : Past) (notes : List Note) → any_refused (replies_of notes) ≡ true → AnyNote IsRefusal (noted opened past notes)
refused_noted opened past [] h = absurd (cc)
refused_noted opened past (Call who request reply ∷ notes) h = elim (or_true (is_refused reply) (any_refused (replies_of notes)) h) [
  | inl one ↦ stays_any IsRefusal opened (record { note = Call who request reply; opened = opened } ∷ past) notes (inl one)
  | inr more ↦ refused_noted opened (record { note = Call who request reply; opened = opened } ∷ past) notes more
]
refused_noted opened past (Got who since name answer ∷ notes) h = refused_noted opened (record { note = Got who since name answer; opened = opened } ∷ past) notes h
refused_noted opened past (Put who since name bytes ok ∷ notes) h = refused_noted opened (record { note = Put who since name bytes ok; opened = opened } ∷ past) notes h
refused_noted opened past (Dropped who since name ok ∷ notes) h = refused_noted opened (record { note = Dropped who since name ok; opened = opened } ∷ past) notes h

failed_noted : (opened : ℕ) (past : Past) (notes : List Note) → AnyNote IsFailedGet (noted opened past notes) → AnyNote IsFailedGet past ⊎ AnyGetFailed notes
failed_noted opened past [] h = inl h
failed_noted opened past (Call who request reply ∷ notes) h = elim (failed_noted opened (record { note = Call who request reply; opened = opened } ∷ past) notes h) [ inl a ↦ elim a [ inl z ↦ absurd z | inr b ↦ inl b ] | inr c ↦ inr c ]
failed_noted opened past (Got who since name answer ∷ notes) h = elim (failed_noted opened (record { note = Got who since name answer; opened = opened } ∷ past) notes h) [ inl a ↦ elim a [ inl z ↦ inr (inl z) | inr b ↦ inl b ] | inr c ↦ inr (inr c) ]
failed_noted opened past (Put who since name bytes ok ∷ notes) h = elim (failed_noted opened (record { note = Put who since name bytes ok; opened = opened } ∷ past) notes h) [ inl a ↦ elim a [ inl z ↦ absurd z | inr b ↦ inl b ] | inr c ↦ inr c ]
failed_noted opened past (Dropped who since name ok ∷ notes) h = elim (failed_noted opened (record { note = Dropped who since name ok; opened = opened } ∷ past) notes h) [ inl a ↦ elim a [ inl z ↦ absurd z | inr b ↦ inl b ] | inr c ↦ inr c ]

-- where a legal session has a refusal, one of its gets failed or gave something else
pub refused_met : (key : List ℕ) (notes : List Note) → LegalRegisters key (past_of (notes ∷ [])) → any_refused (replies_of notes) ≡ true → AnyGetFailed notes ⊎ AnyOther (past_of (notes ∷ []))
refused_met key notes legal h = elim (met key (past_of (notes ∷ [])) legal (refused_noted 0 [] notes h)) [
  | inl f ↦ elim (failed_noted 0 [] notes f) [ inl z ↦ absurd z | inr g ↦ inl g ]
  | inr o ↦ inr o
]
