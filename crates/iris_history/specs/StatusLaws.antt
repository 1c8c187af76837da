-- How one note more changes whether a name is clean, doomed or unsure.
use Rattle.std.specs.Prelude.{ℕ, ◌≡◌, ◌≢◌, ◌⊎◌, ◌↔◌, List, ◌∷◌, Bool, true, false, IsSome, IsNone}
use Rattle.iris_name.specs.declared.name.Name.{Name}
use Rattle.iris_name.specs.declared.note.Answer.{Answer}
use Rattle.iris_name.specs.declared.note.Note.TheVariants.{Call, Got, Put, Dropped}
use Rattle.iris_name.specs.declared.request.Request.{Request}
use Rattle.iris_name.specs.declared.request.Reply.{Reply}
use Rattle.iris_name.specs.History.{Past, Stamped, began, AllSince}
use Rattle.iris_history.specs.Answers.{last_of, IsOther, IsFailure}
use Rattle.iris_history.specs.Kept.{Kept, is_block, shown_in, table_of}
use Rattle.iris_history.specs.Legal.{is_transfer_of}
use Rattle.iris_history.specs.Status.{IsSteady, IsClean, IsDoomed, IsUnsure, IsDoubtful}

-- a note leaves all that is said of a name
pub record KeepsStatus (k : Kept) (n : Name) (past : Past) (x : Stamped) : Type 0 where
  pub clean : IsClean k n past ↔ IsClean k n (x ∷ past)
  pub doomed : IsDoomed k n past ↔ IsDoomed k n (x ∷ past)
  pub unsure : IsUnsure k n past ↔ IsUnsure k n (x ∷ past)

abbrev pub called : ℕ → ℕ → Request → Reply → Stamped
called opened who request reply = record { note = Call who request reply; opened = opened }

abbrev pub got : ℕ → ℕ → ℕ → Name → Answer → Stamped
got opened who since n answer = record { note = Got who since n answer; opened = opened }

abbrev pub putted : ℕ → ℕ → ℕ → Name → List ℕ → Bool → Stamped
putted opened who since n bytes ok = record { note = Put who since n bytes ok; opened = opened }

abbrev pub dropped_note : ℕ → ℕ → ℕ → Name → Bool → Stamped
dropped_note opened who since n ok = record { note = Dropped who since n ok; opened = opened }

-- a note that is no transfer of the name, and leaves what it stands for: a call for most names, a transfer for all others
abbrev pub OtherNotesKeepStatus : Kept → Type 0
OtherNotesKeepStatus k = (n : Name) (past : Past) (x : Stamped) → is_transfer_of n x.note ≡ false → shown_in k (x ∷ past) n ≡ shown_in k past n → KeepsStatus k n past x

-- a call that leaves the table
abbrev pub IdleCallsKeepStatus : Kept → Type 0
IdleCallsKeepStatus k = (n : Name) (past : Past) (opened who : ℕ) (request : Request) (reply : Reply) → let x = called opened who request reply in
    table_of k (x ∷ past) ≡ table_of k past → KeepsStatus k n past x

-- a call that changes what the name stands for, or makes it live
pub record ChangedLive (k : Kept) (n : Name) (past : Past) (x : Stamped) : Type 0 where
  pub clean : IsClean k n (x ∷ past) → ⊥
  pub doomed : IsDoomed k n (x ∷ past) → ⊥
  pub unsure : IsUnsure k n (x ∷ past) ↔ ((is_block n ≡ true) × IsDoubtful n past)

abbrev pub ChangesMakeUnclean : Kept → Type 0
ChangesMakeUnclean k = (n : Name) (past : Past) (opened who : ℕ) (request : Request) (reply : Reply) → let x = called opened who request reply in
    shown_in k (x ∷ past) n ≢ shown_in k past n → IsSome (shown_in k (x ∷ past) n) → ChangedLive k n past x

-- a call that takes the name away
pub record Went (k : Kept) (n : Name) (past : Past) (x : Stamped) : Type 0 where
  pub doomed : IsDoomed k n (x ∷ past)
  pub clean : IsClean k n (x ∷ past) → ⊥
  pub unsure : IsUnsure k n (x ∷ past) → ⊥

abbrev pub RemovalsDoom : Kept → Type 0
RemovalsDoom k = (n : Name) (past : Past) (opened who : ℕ) (request : Request) (reply : Reply) → let x = called opened who request reply in
    shown_in k (x ∷ past) n ≢ shown_in k past n → IsNone (shown_in k (x ∷ past) n) → Went k n past x

-- a get of the name
pub record Fetched (k : Kept) (n : Name) (past : Past) (x : Stamped) (answer : Answer) : Type 0 where
  pub clean : IsClean k n past ↔ IsClean k n (x ∷ past)
  pub doomed : IsDoomed k n past ↔ IsDoomed k n (x ∷ past)
  pub unsure : IsUnsure k n (x ∷ past) ↔ ((is_block n ≡ true) × IsSome (shown_in k past n) × (IsFailure answer ⊎ IsOther (last_of n past) answer))

abbrev pub GetsBringDoubt : Kept → Type 0
GetsBringDoubt k = (n : Name) (past : Past) (opened who since : ℕ) (answer : Answer) → Fetched k n past (got opened who since n answer) answer

-- a put of a live name
pub record StoredLive (k : Kept) (n : Name) (past : Past) (x : Stamped) (ok : Bool) : Type 0 where
  pub clean : IsClean k n (x ∷ past) ↔ ((ok ≡ true) × IsSteady k n (began past x) past)
  pub doomed : IsDoomed k n (x ∷ past) → ⊥
  pub unsure : IsUnsure k n (x ∷ past) → ⊥

abbrev pub PutsMakeClean : Kept → Type 0
PutsMakeClean k = (n : Name) (past : Past) (opened who since : ℕ) (bytes : List ℕ) (ok : Bool) → IsSome (shown_in k past n) →
    StoredLive k n past (putted opened who since n bytes ok) ok

-- a put of a name that isn't live
abbrev pub PutsOfGoneKeepStatus : Kept → Type 0
PutsOfGoneKeepStatus k = (n : Name) (past : Past) (opened who since : ℕ) (bytes : List ℕ) (ok : Bool) → IsNone (shown_in k past n) →
    KeepsStatus k n past (putted opened who since n bytes ok)

-- a discard of a live name
pub record DroppedLive (k : Kept) (n : Name) (past : Past) (x : Stamped) : Type 0 where
  pub clean : IsClean k n (x ∷ past) → ⊥
  pub doomed : IsDoomed k n (x ∷ past) → ⊥
  pub unsure : IsUnsure k n (x ∷ past) → ⊥

abbrev pub DiscardsMakeUnclean : Kept → Type 0
DiscardsMakeUnclean k = (n : Name) (past : Past) (opened who since : ℕ) (ok : Bool) → IsSome (shown_in k past n) → DroppedLive k n past (dropped_note opened who since n ok)

-- a discard of a name that isn't live
abbrev pub DiscardsEndDoom : Kept → Type 0
DiscardsEndDoom k = (n : Name) (past : Past) (opened who since : ℕ) (ok : Bool) → IsNone (shown_in k past n) → let x = dropped_note opened who since n ok in
    IsDoomed k n (x ∷ past) ↔ (IsDoomed k n past × ((ok ≡ true) × AllSince (λ p. IsNone (shown_in k p n)) (began past x) past → ⊥))
